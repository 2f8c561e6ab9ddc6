use Rattle.std.proofs.Common.{◌≡◌, ◌≤◌, ◌+◌, length}
use Rattle.std.specs.Prelude.{vec_len}
use Rattle.std.specs.Vec.{vec_capacity}
use Rattle.lock_manager.specs.Crews.{AreOf}
use Rattle.connections.proofs.desk.take_back.Given as goal

abbrev pub invariant-lent : goal.invariant-lent
invariant-lent g l = record {
  own : AreOf g.B.Board.seat g.M.ManagerName.manager l.lent.items;
  all : length l.connections.items + length l.lent.items ≡ length l.fn.lent.items;
  room : length l.fn.lent.items ≤ vec_capacity l.connections;
}

abbrev pub decreases-lent : goal.decreases-lent
decreases-lent g l = vec_len l.lent
