use Rattle.std.proofs.Common.{◌≡◌, ℕ, [], Option, Some, None, sym, ap, ◌∙◌, inl, inr}
use Rattle.lock_table.specs.declared.moves.Move.{Move}
use Rattle.lock_world.specs.World.{World, recorded_in}
use Rattle.lock_world.specs.Happens.Partitions.{HappensPuttingPartition, after_putting_partition}
use Rattle.lock_table.proofs.Lemmas.OneMove.{one_moved}

-- A hand has not recorded a move and none.
pub not_recorded : (recorded : Option Move) (done : Move) → recorded ≡ None → recorded ≡ Some done → ⊥
not_recorded recorded done none some = cc

pub one_putting_partition : (w : World) (s p : ℕ) (done : Move) (u v : World) → HappensPuttingPartition w s p done u → HappensPuttingPartition w s p done v → u ≡ v
one_putting_partition w s p done u v (inl one) (inl two) =
    one.2 ∙ ap (after_putting_partition w s p done) (one_moved (w.contents.now p) s done [] [] one.0 two.0 one.1.may_move.moved two.1.may_move.moved).1 ∙ sym two.2
one_putting_partition w s p done u v (inr one) (inr two) = one.1 ∙ sym two.1
one_putting_partition w s p done u v (inl one) (inr two) = absurd (not_recorded (recorded_in (w.contents.hand p)) done one.1.may_move.unrecorded two.0.recorded)
one_putting_partition w s p done u v (inr one) (inl two) = absurd (not_recorded (recorded_in (w.contents.hand p)) done two.1.may_move.unrecorded one.0.recorded)
