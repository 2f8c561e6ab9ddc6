use Rattle.std.proofs.Common.{◌≡◌, drop}
use Rattle.shared_rule.specs.Led.{LedTo}
use Rattle.shared_rule.specs.Plays.{side_of, account_at, todo_at}
use Rattle.shared_rule.specs.Wakeups.{all_told, all_called, MayTellAll}
use Rattle.shared_rule.specs.Marks.{Told, CalledSleeper}
use Rattle.shared_rule.proofs.wakeups.tell_all.Given as goal

abbrev pub invariant-loop-waiter : goal.invariant-loop-waiter
invariant-loop-waiter g l = record {
  led : LedTo g.T.PartTable.content l.fn.seat l.seat (account_at g.T.PartTable.content l.seat) (todo_at l.seat);
  lawful : MayTellAll (account_at g.T.PartTable.content l.seat) (drop l.waiter-index l.taken);
  ends : all_told (account_at g.T.PartTable.content l.seat) (drop l.waiter-index l.taken)
      ≡ all_told (account_at g.T.PartTable.content l.fn.seat) l.taken;
  calls : all_called (todo_at l.seat) (drop l.waiter-index l.taken) ≡ all_called (todo_at l.fn.seat) l.taken;
  shelves : (side_of l.seat).1 ≡ (side_of l.fn.seat).1;
}

abbrev pub ghosts-tell : goal.ghosts-tell
ghosts-tell g a = record { mark = λ _. Told a.other }

abbrev pub ghosts-call_sleeper : goal.ghosts-call_sleeper
ghosts-call_sleeper g a = record { mark = λ _. CalledSleeper a.other }
