use Rattle.std.proofs.Common.{ap, ◌∙◌, inl}
use Rattle.lock_world.specs.Account.{Account, ListAccount}
use Rattle.shared_rule.specs.Plays.{account_at}
use Rattle.shared_rule.specs.Todos.{Todo, todo_attempted}
use Rattle.shared_rule.proofs.Lemmas.Auditing.{took-above}
use Rattle.shared_rule.proofs.audits.take_next.Goals as goal

pub returns-clause-above : goal.returns-clause-above
returns-clause-above g c =
    took-above c.args.part (account_at g.T.PartTable.content c.args.seat.now) (account_at g.T.PartTable.content c.take_part_alone.new.seat) _
    c.take_part_alone.ensures.led.account c.requires.none_in_hand

pub returns-clause-lists : goal.returns-clause-lists
returns-clause-lists g c = ap (λ (a : Account). a.lists) c.take_part_alone.ensures.led.account

pub returns-clause-todo : goal.returns-clause-todo
returns-clause-todo g c = c.take_part_alone.ensures.led.todo ∙ ap todo_attempted c.requires.todo

pub take_part_alone-requires-clause-no_other_try : goal.take_part_alone-requires-clause-no_other_try
take_part_alone-requires-clause-no_other_try g c = inl (ap (λ (todo : Todo). todo.tries) c.requires.todo)

pub take_part_alone-requires-clause-no_other_list : goal.take_part_alone-requires-clause-no_other_list
take_part_alone-requires-clause-no_other_list g c = inl (ap (λ (l : ListAccount). l.stands) c.requires.idle)
