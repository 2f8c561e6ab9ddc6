use Rattle.std.proofs.Common.{◌≡◌, ◌<◌, ◌≤◌, length}
use Rattle.lock_manager.specs.Pools.{IsLowestBelow}
use Rattle.connections.proofs.pool.lowest_place.Given as goal

abbrev pub invariant-loop-place : goal.invariant-loop-place
invariant-loop-place g l = record {
  end : l.place-end ≡ length l.free.items;
  within : l.lowest < l.place;
  reached : l.place ≤ length l.free.items;
  least : IsLowestBelow g.B.Board.seat l.free.items l.place l.lowest;
}
