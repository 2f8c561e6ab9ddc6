use Rattle.std.proofs.Common.{◌≢◌, ℕ, true, false, [], Option, Some, None, refl, inl, inr}
use Rattle.lock_world.specs.World.{World}
use Rattle.lock_world.specs.Account.{IsLeftAlone, list_account}
use Rattle.lock_world.specs.Happens.Seats.{HappensSplitting, HappensJoining, after_closing}
use Rattle.lock_table.proofs.Lemmas.Put.{set_at-else}
use Rattle.lock_world.proofs.Lemmas.Others.Hands.{IsLeftAlone-same, IsLeftAlone-by, fast_account-by}

pub splitting-others : (w : World) (s : ℕ) (v : World) (k : ℕ) → k ≢ s → HappensSplitting w s v → IsLeftAlone w v k
splitting-others w s v k other (inl h) = IsLeftAlone-same k w _ v h.1 (IsLeftAlone-by w _ k refl refl refl refl refl refl refl refl (set_at-else w.numbers.live s true k other) refl)
splitting-others w s v k other (inr h) = IsLeftAlone-same k w _ v h.1 (IsLeftAlone-by w _ k refl refl refl refl refl refl refl refl refl (set_at-else w.numbers.kept_by s None k other))

pub joining-others : (w : World) (s : ℕ) (joiner : Option ℕ) (v : World) (k : ℕ) → k ≢ s → HappensJoining w s joiner v → IsLeftAlone w v k
joining-others w s (Some j) v k other h =
    IsLeftAlone-same k w _ v h.1 (IsLeftAlone-by w _ k refl refl refl refl refl refl refl refl refl (set_at-else w.numbers.kept_by s (Some j) k other))
joining-others w s None v k other h =
    IsLeftAlone-same k w _ v h.1
    (IsLeftAlone-by w (after_closing w s) k (λ i. record (list_account w k) { off = set_at-else w.sessions.off s (λ _. false) k other i })
    refl refl refl refl refl
    (fast_account-by w (after_closing w s) k refl refl refl (set_at-else w.sessions.remembered s (λ _. 0) k other)
    refl refl) (set_at-else w.sessions.trace s [] k other)
    (set_at-else w.numbers.live s false k other) refl)
