use Rattle.std.proofs.Common.{◌≡◌, drop}
use Rattle.shared_rule.specs.Led.{LedTo}
use Rattle.shared_rule.specs.Plays.{side_of, account_at, number_at, todo_at}
use Rattle.shared_rule.specs.Wakeups.{all_taken_off, all_owed, MayTakeAllOff}
use Rattle.shared_rule.specs.Marks.{TookOff}
use Rattle.shared_rule.proofs.wakeups.take_all_off.Given as goal

abbrev pub invariant-loop-waiter : goal.invariant-loop-waiter
invariant-loop-waiter g l = record {
  led : LedTo g.T.PartTable.content l.fn.seat l.seat (account_at g.T.PartTable.content l.seat) (todo_at l.seat);
  lawful : MayTakeAllOff (number_at l.seat) (account_at g.T.PartTable.content l.seat) (drop l.waiter-index l.taken);
  ends : all_taken_off (account_at g.T.PartTable.content l.seat) (drop l.waiter-index l.taken)
      ≡ all_taken_off (account_at g.T.PartTable.content l.fn.seat) l.taken;
  owes : all_owed (todo_at l.seat) (drop l.waiter-index l.taken) ≡ all_owed (todo_at l.fn.seat) l.taken;
  shelves : (side_of l.seat).1 ≡ (side_of l.fn.seat).1;
}

abbrev pub ghosts-take_off : goal.ghosts-take_off
ghosts-take_off g a = record { mark = λ _. TookOff a.other }
