use Rattle.std.proofs.Common.{◌≡◌, ◌≢◌, ℕ, zero, suc, ◌+◌, ◌-◌, ◌<◌, ◌≤◌, Bool, true, false, arith, refl, sym, ap, ◌∙◌, inl, inr}
use Rattle.std.proofs.lemmas.Bool.{cases_eq, cases_Bool, both_ways}
use Rattle.modes_core.specs.declared.modes.Mode.{Mode}
use Rattle.modes_core.specs.declared.tags.Tag.{Tag}
use Rattle.modes_core.specs.Mode.{mode_eq}
use Rattle.modes_core.proofs.Lemmas.Conflicts.{mode_eq-same, mode_eq-refl}
use Rattle.lock_table.specs.Content.{Holds, set_hold}
use Rattle.lock_table.proofs.Lemmas.Holds.{set_hold-at, here, elsewhere, set_hold-here}
use Rattle.lock_table.proofs.Lemmas.Put.{put_here, put_else}
use Rattle.lock_records.specs.Tally.{one_more, one_less}
use Rattle.lock_records.specs.Counting.{sessions_below, granted_of}
use Rattle.modes_core.specs.Sessions.{most_sessions}

-- How many of the sessions below a number pass: no more than the number, as many where the tests agree, one
-- more where they agree but at one, and some where one passes.
pub below-le : (n : ℕ) (test : ℕ → Bool) → sessions_below n test ≤ n
unfolding sessions_below
below-le zero test = omega arith
below-le (suc n) test =
    elim (cases_Bool (test n)) [
      | inl pass ↦ rw pass (omega (arith, below-le n test))
      | inr fail ↦ rw fail (omega (arith, below-le n test))
    ]

pub below-same : (n : ℕ) (p q : ℕ → Bool) → ((s : ℕ) → s < n → p s ≡ q s) → sessions_below n p ≡ sessions_below n q
unfolding sessions_below
below-same zero p q same = refl
below-same (suc n) p q same = rw (same n (omega arith), below-same n p q (λ s h. same s (omega arith))) refl

pub below-more : (n : ℕ) (p q : ℕ → Bool) (k : ℕ) → k < n → p k ≡ false → q k ≡ true → ((s : ℕ) → s ≢ k → p s ≡ q s) → sessions_below n q ≡ sessions_below n p + 1
unfolding sessions_below
below-more zero p q k within was is same = absurd (omega arith)
below-more (suc n) p q k within was is same =
    elim (cases_eq n k) [
      | inl it ↦
          let front : p n ≡ false = ap p it ∙ was in
          let now : q n ≡ true = ap q it ∙ is in
          let rest : sessions_below n q ≡ sessions_below n p = below-same n q p (λ s h. sym (same s (λ e. omega arith))) in
          rw (front, now) (omega (arith, rest))
      | inr other ↦
          let rest : sessions_below n q ≡ sessions_below n p + 1 = below-more n p q k (omega arith) was is same in
          rw (same n other, rest) (omega arith)
    ]

pub below-some : (n : ℕ) (test : ℕ → Bool) (k : ℕ) → k < n → test k ≡ true → 0 < sessions_below n test
unfolding sessions_below
below-some zero test k within pass = absurd (omega arith)
below-some (suc n) test k within pass =
    elim (cases_eq n k) [
      | inl it ↦ let front : test n ≡ true = ap test it ∙ pass in rw front (omega arith)
      | inr other ↦ let rest = below-some n test k (omega arith) pass in omega arith
    ]

pub below-none : (n : ℕ) (test : ℕ → Bool) → ((s : ℕ) → s < n → test s ≡ false) → sessions_below n test ≡ 0
unfolding sessions_below
below-none zero test none = refl
below-none (suc n) test none = rw (none n (omega arith), below-none n test (λ s h. none s (omega arith))) refl

-- A changed hold leaves each hold of another session or mode.
hold-else : (holds : Holds) (s : ℕ) (t : Tag) (m : Mode) (b : Bool) (k : ℕ) (n : Mode) → ((k ≡ s) × (n ≡ m) → ⊥) → set_hold holds s t m b k t n ≡ holds k t n
hold-else holds s t m b k n not_it =
    elim (set_hold-at holds s t m b k t n) [
      | here it is ↦ absurd (not_it (it.session, it.mode))
      | elsewhere not_here is ↦ is
    ]

-- With one more hold, one more is granted of its mode; with one less, one less.
pub granted-more : (holds : Holds) (s : ℕ) (t : Tag) (m : Mode) → s < most_sessions → holds s t m ≡ false →
    (n : Mode) → granted_of (set_hold holds s t m true) t n ≡ one_more (granted_of holds t) m n
granted-more holds s t m small new n =
    elim (cases_Bool (mode_eq n m)) [
      | inl same ↦
          let e : n ≡ m = mode_eq-same n m same in
          ap (granted_of (set_hold holds s t m true) t) e
          ∙ below-more most_sessions (λ k. holds k t m) (λ k. set_hold holds s t m true k t m) s small new (set_hold-here holds s t m true)
          (λ k other. sym (hold-else holds s t m true k m (λ it. other it.0)))
          ∙ sym (put_here mode_eq (granted_of holds t) m (granted_of holds t m + 1) n same)
      | inr apart ↦
          below-same most_sessions (λ k. set_hold holds s t m true k t n) (λ k. holds k t n)
          (λ k h. hold-else holds s t m true k n (λ it. both_ways (mode_eq n m) apart (ap (λ x. mode_eq x m) it.1 ∙ mode_eq-refl m)))
          ∙ sym (put_else mode_eq (granted_of holds t) m (granted_of holds t m + 1) n apart)
    ]

pub granted-less : (holds : Holds) (s : ℕ) (t : Tag) (m : Mode) → s < most_sessions → holds s t m ≡ true →
    (n : Mode) → granted_of (set_hold holds s t m false) t n ≡ one_less (granted_of holds t) m n
granted-less holds s t m small was n =
    elim (cases_Bool (mode_eq n m)) [
      | inl same ↦
          let e : n ≡ m = mode_eq-same n m same in
          let more : granted_of holds t m ≡ granted_of (set_hold holds s t m false) t m + 1 =
          below-more most_sessions (λ k. set_hold holds s t m false k t m) (λ k. holds k t m) s small (set_hold-here holds s t m false) was
          (λ k other. hold-else holds s t m false k m (λ it. other it.0)) in
          ap (granted_of (set_hold holds s t m false) t) e
          ∙ (let less : granted_of (set_hold holds s t m false) t m ≡ granted_of holds t m - 1 = omega arith in less)
          ∙ sym (put_here mode_eq (granted_of holds t) m (granted_of holds t m - 1) n same)
      | inr apart ↦
          below-same most_sessions (λ k. set_hold holds s t m false k t n) (λ k. holds k t n)
          (λ k h. hold-else holds s t m false k n (λ it. both_ways (mode_eq n m) apart (ap (λ x. mode_eq x m) it.1 ∙ mode_eq-refl m)))
          ∙ sym (put_else mode_eq (granted_of holds t) m (granted_of holds t m - 1) n apart)
    ]

-- Somebody who holds the object in the mode is counted.
pub granted-some : (holds : Holds) (s : ℕ) (t : Tag) (m : Mode) → s < most_sessions → holds s t m ≡ true → 0 < granted_of holds t m
granted-some holds s t m small has = below-some most_sessions (λ k. holds k t m) s small has

pub granted-le : (holds : Holds) (t : Tag) (m : Mode) → granted_of holds t m ≤ most_sessions
granted-le holds t m = below-le most_sessions (λ k. holds k t m)

-- Holds that are equal on the object are as many.
pub granted-same : (old new : Holds) (t : Tag) (m : Mode) → ((s : ℕ) → new s t m ≡ old s t m) → granted_of new t m ≡ granted_of old t m
granted-same old new t m same = below-same most_sessions (λ s. new s t m) (λ s. old s t m) (λ s h. same s)
