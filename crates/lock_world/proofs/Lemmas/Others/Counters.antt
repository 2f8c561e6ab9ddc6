use Rattle.std.proofs.Common.{◌≢◌, ℕ, false, refl, ap}
use Rattle.modes_core.specs.declared.modes.Mode.{Mode}
use Rattle.modes_core.specs.declared.tags.Tag.{Tag}
use Rattle.lock_table.specs.Put.{set_at}
use Rattle.lock_table.proofs.Lemmas.Put.{set_at-else}
use Rattle.lock_world.specs.Counted.{counting, uncounting, passing}
use Rattle.lock_world.specs.World.{World}
use Rattle.lock_world.specs.Account.{slots_in_hand, IsLeftAlone}
use Rattle.lock_world.specs.Happens.Counters.{after_counting, after_uncounting, after_passing}
use Rattle.lock_world.proofs.Lemmas.Others.Hands.{IsLeftAlone-by, fast_account-by}
use Rattle.lock_world.proofs.Lemmas.Others.Slots.{zero-put_others}

pub counting-others : (w : World) (s : ℕ) (t : Tag) (m : Mode) (k : ℕ) → k ≢ s → IsLeftAlone w (after_counting w s t m) k
counting-others w s t m k other =
    IsLeftAlone-by w (after_counting w s t m) k refl refl refl refl refl refl
    (fast_account-by w (after_counting w s t m) k refl refl refl refl refl (set_at-else w.sessions.counted s (counting (w.sessions.counted s) t m) k other)) refl refl refl

pub uncounting-others : (w : World) (s : ℕ) (t : Tag) (m : Mode) (k : ℕ) → k ≢ s → IsLeftAlone w (after_uncounting w s t m) k
uncounting-others w s t m k other =
    IsLeftAlone-by w (after_uncounting w s t m) k refl refl refl refl refl refl
    (fast_account-by w (after_uncounting w s t m) k refl refl refl refl refl (set_at-else w.sessions.counted s (uncounting (w.sessions.counted s) t m) k other)) refl refl refl

pub passing-others : (w : World) (s o : ℕ) (t : Tag) (m : Mode) (k : ℕ) → k ≢ s → IsLeftAlone w (after_passing w s o t m) k
passing-others w s o t m k other =
    IsLeftAlone-by w (after_passing w s o t m) k refl refl refl refl refl refl
    (fast_account-by w (after_passing w s o t m) k (ap (λ has. slots_in_hand has w.words.database w.words.slot) (set_at-else w.sessions.holds_fast s (set_at (w.sessions.holds_fast s) o false) k other)) refl refl refl
    (zero-put_others w.sessions.zero s o k other) (set_at-else w.sessions.counted s (passing (w.sessions.counted s) t m o) k other)) refl refl refl
