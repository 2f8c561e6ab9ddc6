use Rattle.std.proofs.Common.{◌≡◌, ℕ, Bool, true, false, List, [], Some, sym, ap, ◌∙◌, subst, inl, inr, ◌⊎◌}
use Rattle.modes_core.specs.declared.modes.Mode.{Mode}
use Rattle.modes_core.specs.declared.tags.Tag.{Tag}
use Rattle.modes_core.specs.Tag.{partition_of}
use Rattle.lock_table.specs.declared.moves.Move.{Move}
use Rattle.lock_table.specs.declared.moves.Move.TheVariants.{Keep, Grant, Join, Release, Leave, Adopt}
use Rattle.lock_table.specs.Content.{Content}
use Rattle.lock_table.specs.Content as content
use Rattle.lock_table.specs.OwnWait.{OwnWait}
use Rattle.lock_world.specs.World.{World, recorded_in}
use Rattle.lock_world.specs.Happens.Waits.{after_setting_waiting, after_marking_first, MayClearSeen, MayClearInHand, after_clearing, MayLeave, after_leaving, HappensMarkingIn, HappensMarking, HappensClearing, HappensSetting}
use Rattle.lock_table.proofs.Lemmas.Options.{one_some}
use Rattle.lock_table.proofs.Lemmas.OneMove.{one_moved}
use Rattle.lock_world.proofs.Lemmas.Unique.Partitions.{not_recorded}

one_marking_in : (w : World) (s k p : ℕ) (done : Move) (u v : World) → HappensMarkingIn w s k p done u → HappensMarkingIn w s k p done v → u ≡ v
one_marking_in w s k p done u v (inl one) (inl two) =
    let same = one_moved (w.contents.now p) s done one.0 two.0 one.1 two.1 one.2.may_move.moved two.2.may_move.moved in
    one.3 ∙ ap (λ (granted : List content.Wait). after_marking_first w s k p done granted one.1) same.0 ∙ ap (after_marking_first w s k p done two.0) same.1 ∙ sym two.3
one_marking_in w s k p done u v (inr one) (inr two) = one.1 ∙ sym two.1
one_marking_in w s k p done u v (inl one) (inr two) = absurd (not_recorded (recorded_in (w.contents.hand p)) done one.2.may_move.unrecorded two.0.recorded)
one_marking_in w s k p done u v (inr one) (inl two) = absurd (not_recorded (recorded_in (w.contents.hand p)) done two.2.may_move.unrecorded one.0.recorded)

pub one_marking : (w : World) (s k : ℕ) (done : Move) (u v : World) → HappensMarking w s k done u → HappensMarking w s k done v → u ≡ v
one_marking w s k Keep u v one two = absurd one
one_marking w s k (Grant t m) u v one two = absurd one
one_marking w s k (Join t m) u v one two = absurd one
one_marking w s k (Release t m) u v one two = one_marking_in w s k (partition_of t) (Release t m) u v one two
one_marking w s k (Leave t) u v one two = one_marking_in w s k (partition_of t) (Leave t) u v one two
one_marking w s k (Adopt j i) u v one two = absurd one

-- The wait that is cleared is the one that the session has.
wait_cleared : (w : World) (s : ℕ) (wait : OwnWait) → MayClearSeen w s wait ⊎ MayClearInHand w s wait → w.sessions.awaited s ≡ Some wait
wait_cleared w s wait (inl may) = may.is_wait
wait_cleared w s wait (inr may) = may.is_wait

one_leaving : (w : World) (s : ℕ) (wait other : OwnWait) (granted granted' : List content.Wait) (after after' : Content) → wait ≡ other → MayLeave w s wait granted after → MayLeave w s other granted' after'
    → after_leaving w s wait granted after ≡ after_leaving w s other granted' after'
one_leaving w s wait other granted granted' after after' same one two =
    let again : MayLeave w s wait granted' after' = subst (λ z. MayLeave w s z granted' after') (sym same) two in
    let moved = one_moved (w.contents.now (partition_of wait.tag)) s (Leave wait.tag) granted granted' after after' one.may_move.moved again.may_move.moved in
    ap (λ (g : List content.Wait). after_leaving w s wait g after) moved.0 ∙ ap (after_leaving w s wait granted') moved.1
    ∙ ap (λ (z : OwnWait). after_leaving w s z granted' after') same

-- A leave that stands recorded is not made again.
left_once : (w : World) (s : ℕ) (wait other : OwnWait) (granted : List content.Wait) (after : Content) → wait ≡ other → MayLeave w s wait granted after → recorded_in (w.contents.hand (partition_of other.tag)) ≡ Some (Leave other.tag) → ⊥
left_once w s wait other granted after same may recorded =
    not_recorded (recorded_in (w.contents.hand (partition_of wait.tag))) (Leave wait.tag) may.may_move.unrecorded
    (subst (λ (z : OwnWait). recorded_in (w.contents.hand (partition_of z.tag)) ≡ Some (Leave z.tag)) (sym same) recorded)

pub one_clearing : (w : World) (s : ℕ) (leaving : Bool) (u v : World) → HappensClearing w s leaving u → HappensClearing w s leaving v → u ≡ v
one_clearing w s false u v one two =
    let same = one_some (w.sessions.awaited s) one.0 two.0 (wait_cleared w s one.0 one.1) (wait_cleared w s two.0 two.1) in
    one.2 ∙ ap (after_clearing w s) same ∙ sym two.2
one_clearing w s true u v (inl one) (inl two) =
    let same = one_some (w.sessions.awaited s) one.0 two.0 one.3.is_wait two.3.is_wait in
    one.4 ∙ one_leaving w s one.0 two.0 one.1 two.1 one.2 two.2 same one.3 two.3 ∙ sym two.4
one_clearing w s true u v (inr one) (inr two) =
    let same = one_some (w.sessions.awaited s) one.0 two.0 one.1.is_wait two.1.is_wait in
    one.3 ∙ ap (after_clearing w s) same ∙ sym two.3
one_clearing w s true u v (inl one) (inr two) =
    absurd (left_once w s one.0 two.0 one.1 one.2 (one_some (w.sessions.awaited s) one.0 two.0 one.3.is_wait two.1.is_wait) one.3 two.2)
one_clearing w s true u v (inr one) (inl two) =
    absurd (left_once w s two.0 one.0 two.1 two.2 (one_some (w.sessions.awaited s) two.0 one.0 two.3.is_wait one.1.is_wait) two.3 one.2)

pub one_setting : (w : World) (s : ℕ) (t : Tag) (m : Mode) (u v : World) → HappensSetting w s t m u → HappensSetting w s t m v → u ≡ v
one_setting w s t m u v one two =
    let same : one.0 ≡ two.0 = (one_moved (w.contents.now (partition_of t)) s (Join t m) [] [] one.0 two.0 one.1.moved two.1.moved).1 in
    one.2 ∙ ap (after_setting_waiting w s t m) same ∙ sym two.2
