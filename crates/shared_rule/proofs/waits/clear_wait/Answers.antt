use Rattle.std.proofs.Common.{List, subst}
use Rattle.lock_world.specs.declared.events.Word.TheVariants.{Wait}
use Rattle.shared_rule.specs.declared.history.History.{History}
use Rattle.shared_rule.specs.History.{first_account, first_number}
use Rattle.shared_rule.proofs.Lemmas.Events.Words.{stores_at_own}
use Rattle.lock_table.specs.OwnWait.{OwnWait}
use Rattle.shared_rule.specs.Lawful.{MayClearBy}
use Rattle.shared_rule.proofs.Lemmas.Events.Waits.{clearing-lawful}
use Rattle.shared_rule.proofs.waits.clear_wait.Goals as goal

pub store_as-requires-clause-allowed : goal.store_as-requires-clause-allowed
store_as-requires-clause-allowed g c =
    let may = subst (λ (sessions : List (History g.row.T.Denot)).
    (wait : OwnWait)
    × MayClearBy (first_number sessions) (first_account g.T.PartTable.content sessions) wait) c.requires.session.sessions c.requires.lawful in
    stores_at_own _ c.requires.session c.args.number c.requires.own c.requires.among
    Wait (λ k there. (tt, there)) c.wait_word.result (c.wait_word.ensures.index c.args.words.now.key.sessions) 0 g.M.Marking.mark _ c.requires.mark
    (clearing-lawful g.T.PartTable.content c.args.words.now.key c.requires.session.history may.0 may.1)
