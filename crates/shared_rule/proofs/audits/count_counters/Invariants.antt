use Rattle.std.proofs.Common.{◌≡◌}
use Rattle.shared_rule.specs.Marks.{LoadedStrong}
use Rattle.shared_rule.specs.Audits.{CountersSeen}
use Rattle.shared_rule.specs.Plays.{side_of, IsSameSeat}
use Rattle.shared_rule.proofs.audits.count_counters.Given as goal

abbrev pub ghosts-look_over_strong : goal.ghosts-look_over_strong
ghosts-look_over_strong g a = record { mark = LoadedStrong a.index }

abbrev pub invariant-loop-index : goal.invariant-loop-index
invariant-loop-index g l = record {
  seat : IsSameSeat l.fn.seat l.seat;
  shelves : (side_of l.seat).1 ≡ (side_of l.fn.seat).1;
  seen : CountersSeen g.T.PartTable.content l.index (side_of l.fn.seat).0 (side_of l.seat).0 l.sum;
}
