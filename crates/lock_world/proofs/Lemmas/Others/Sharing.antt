use Rattle.std.proofs.Common.{◌≢◌, ℕ, true, false, refl, ap}
use Rattle.lock_world.specs.World.{World}
use Rattle.lock_world.specs.Account.{slots_in_hand, IsLeftAlone}
use Rattle.lock_world.specs.Happens.Sharing.{HappensSharingPartition, HappensUnsharingPartition, HappensSharingFast, after_sharing_fast, HappensUnsharingFast, after_unsharing_fast}
use Rattle.lock_table.specs.Put.{set_at}
use Rattle.lock_table.proofs.Lemmas.Put.{set_at-else}
use Rattle.lock_world.proofs.Lemmas.Others.Slots.{remembered-taken_others}
use Rattle.lock_world.proofs.Lemmas.Others.Hands.{IsLeftAlone-same, IsLeftAlone-by, fast_account-by}

pub sharing_partition-others : (w : World) (s p : ℕ) (v : World) (k : ℕ) → k ≢ s → HappensSharingPartition w s p v → IsLeftAlone w v k
sharing_partition-others w s p v k other h =
    IsLeftAlone-same k w _ v h.2
    (IsLeftAlone-by w _ k refl refl refl refl refl (set_at-else w.sessions.shares_partition s (set_at (w.sessions.shares_partition s) p true) k other) refl refl refl refl)

pub unsharing_partition-others : (w : World) (s p : ℕ) (v : World) (k : ℕ) → k ≢ s → HappensUnsharingPartition w s p v → IsLeftAlone w v k
unsharing_partition-others w s p v k other h =
    IsLeftAlone-same k w _ v h.1
    (IsLeftAlone-by w _ k refl refl refl refl refl (set_at-else w.sessions.shares_partition s (set_at (w.sessions.shares_partition s) p false) k other) refl refl refl refl)

pub sharing_fast-others : (w : World) (s o : ℕ) (v : World) (k : ℕ) → k ≢ s → HappensSharingFast w s o v → IsLeftAlone w v k
sharing_fast-others w s o v k other h =
    IsLeftAlone-same k w _ v h.2
    (IsLeftAlone-by w (after_sharing_fast w s o) k refl refl refl refl refl refl (fast_account-by w (after_sharing_fast w s o) k refl (ap (λ has. slots_in_hand has w.words.database w.words.slot) (set_at-else w.sessions.shares_fast s (set_at (w.sessions.shares_fast s) o true) k other)) refl
    (remembered-taken_others w.sessions.remembered w.words.slot s o k other) refl refl) refl refl refl)

pub unsharing_fast-others : (w : World) (s o : ℕ) (v : World) (k : ℕ) → k ≢ s → HappensUnsharingFast w s o v → IsLeftAlone w v k
unsharing_fast-others w s o v k other h =
    IsLeftAlone-same k w _ v h.1
    (IsLeftAlone-by w (after_unsharing_fast w s o) k refl refl refl refl refl refl (fast_account-by w (after_unsharing_fast w s o) k refl (ap (λ has. slots_in_hand has w.words.database w.words.slot) (set_at-else w.sessions.shares_fast s (set_at (w.sessions.shares_fast s) o false) k other)) refl refl refl refl) refl refl refl)
