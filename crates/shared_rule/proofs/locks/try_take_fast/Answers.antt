use Rattle.std.proofs.Common.{sym, ap, ◌∙◌, inl, subst}
use Rattle.shared_rule.specs.Todos.{Todo, first_todo}
use Rattle.lock_world.specs.Account.{Account, ListAccount}
use Rattle.shared_rule.specs.History.{first_account}
use Rattle.shared_rule.specs.Marks.{LoadedFast}
use Rattle.shared_rule.specs.Plays.{side_of, Side, HasSession}
use Rattle.shared_rule.proofs.Lemmas.Taken.{session-noted, account-noted, todo-noted}
use Rattle.shared_rule.proofs.locks.try_take_fast.Goals as goal

pub take_own_fast-requires-clause-session : goal.take_own_fast-requires-clause-session
take_own_fast-requires-clause-session g c =
    subst (λ (side : Side g.row.T.Denot). HasSession side.0) (sym c.load_fast-shown.ensures.side)
    (session-noted (side_of c.args.seat.now).0 (LoadedFast c.load_fast-shown.result) c.requires.session)

pub take_own_fast-requires-clause-no_other_try : goal.take_own_fast-requires-clause-no_other_try
take_own_fast-requires-clause-no_other_try g c =
    inl (ap (λ (todo : Todo). todo.tries)
    (ap (λ (side : Side g.row.T.Denot). first_todo side.0.sessions) c.load_fast-shown.ensures.side
    ∙ todo-noted (side_of c.args.seat.now).0 (LoadedFast c.load_fast-shown.result) c.requires.session ∙ c.requires.todo))

pub take_own_fast-requires-clause-no_other_list : goal.take_own_fast-requires-clause-no_other_list
take_own_fast-requires-clause-no_other_list g c =
    inl (ap (λ (a : Account). a.lists.stands)
    (ap (λ (side : Side g.row.T.Denot). first_account g.T.PartTable.content side.0.sessions) c.load_fast-shown.ensures.side
    ∙ account-noted g.T.PartTable.content (side_of c.args.seat.now).0 (LoadedFast c.load_fast-shown.result) c.requires.session)
    ∙ ap (λ (l : ListAccount). l.stands) c.requires.idle)
