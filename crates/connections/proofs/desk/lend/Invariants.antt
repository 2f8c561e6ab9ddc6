use Rattle.std.proofs.Common.{◌≡◌, ◌≤◌, ◌+◌, length}
use Rattle.std.specs.Prelude.{vec_len}
use Rattle.std.specs.Vec.{vec_capacity}
use Rattle.lock_manager.specs.Audits.{entries_owned, strong_owned}
use Rattle.lock_manager.specs.Crews.{AreOf}
use Rattle.connections.proofs.desk.lend.Given as goal

abbrev pub invariant-connections : goal.invariant-connections
invariant-connections g l = record {
  own : AreOf g.B.Board.seat g.M.ManagerName.manager l.lent.items;
  all : length l.lent.items + length l.connections.items ≡ length l.fn.connections.items;
  entries : entries_owned (λ its. its.owned.entries) l.lent.items
      + entries_owned (λ its. its.session.owned.entries) l.connections.items
      ≡ entries_owned (λ its. its.session.owned.entries) l.fn.connections.items;
  strong : strong_owned (λ its. its.owned.entries) l.lent.items
      + strong_owned (λ its. its.session.owned.entries) l.connections.items
      ≡ strong_owned (λ its. its.session.owned.entries) l.fn.connections.items;
  free : length l.fn.connections.items ≤ vec_capacity l.lent;
  room : vec_capacity l.connections ≡ vec_capacity l.fn.connections;
}

abbrev pub decreases-connections : goal.decreases-connections
decreases-connections g l = vec_len l.connections
