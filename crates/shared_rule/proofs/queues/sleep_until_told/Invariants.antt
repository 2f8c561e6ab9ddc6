use Rattle.shared_rule.specs.Marks.{ParksAsleep}
use Rattle.std.proofs.Common.{◌≡◌}
use Rattle.shared_rule.specs.Led.{Led}
use Rattle.shared_rule.specs.Plays.{side_of, account_at}
use Rattle.shared_rule.proofs.queues.sleep_until_told.Given as goal

abbrev pub invariant-loop : goal.invariant-loop
invariant-loop g l = record {
  led : Led g.T.PartTable.content l.fn.seat l.seat (account_at g.T.PartTable.content l.fn.seat);
  shelves : (side_of l.seat).1 ≡ (side_of l.fn.seat).1;
}

abbrev pub ghosts-park_asleep : goal.ghosts-park_asleep
ghosts-park_asleep g a = record { mark = ParksAsleep }
