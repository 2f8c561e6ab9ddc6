use Rattle.std.proofs.Common.{◌≡◌, ℕ, ◌+◌, ◌<◌, ◌≤◌, Bool, true, false, zero, suc, refl, sym, ap, ◌∙◌, inl, inr, arith}
use Rattle.std.specs.Prelude.{if◌then◌else◌}
use Rattle.std.proofs.lemmas.Bool.{cases_eq, cond-true, cond-false}
use Rattle.lock_table.specs.Put.{set_at}
use Rattle.lock_table.specs.Total.{total, how_many}
use Rattle.lock_table.proofs.Lemmas.Put.{set_at-here, set_at-else}

-- A sum is one of its values: below the limit what each number has may be replaced by an equal.
pub total-same : (limit : ℕ) (f g : ℕ → ℕ) → ((k : ℕ) → k < limit → f k ≡ g k) → total limit f ≡ total limit g
unfolding total
total-same zero f g same = refl
total-same (suc limit) f g same =
    let here : f limit ≡ g limit = same limit (omega arith) in
    let before : total limit f ≡ total limit g = total-same limit f g (λ k below. same k (omega arith)) in
    omega (arith, here, before)

-- Where nobody has anything the sum is 0.
pub total-nothing : (limit : ℕ) (f : ℕ → ℕ) → ((k : ℕ) → k < limit → f k ≡ 0) → total limit f ≡ 0
unfolding total
total-nothing zero f none = refl
total-nothing (suc limit) f none =
    let here : f limit ≡ 0 = none limit (omega arith) in
    let before : total limit f ≡ 0 = total-nothing limit f (λ k below. none k (omega arith)) in
    omega (arith, here, before)

-- One number has another value: the sum follows it.
pub total-change : (limit : ℕ) (f : ℕ → ℕ) (k a : ℕ) → k < limit → total limit (set_at f k a) + f k ≡ total limit f + a
unfolding total
total-change zero f k a below = absurd (omega arith)
total-change (suc limit) f k a below =
    elim (cases_eq k limit) [
      | inl same ↦
          let here : set_at f k a limit ≡ a = set_at-here f k a limit (sym same) in
          let old : f k ≡ f limit = ap f same in
          let before : total limit (set_at f k a) ≡ total limit f = total-same limit (set_at f k a) f (λ j j_below. set_at-else f k a j (λ e. let i : j ≡ k = e in omega (arith, same))) in
          omega (arith, here, old, before)
      | inr other ↦
          let here : set_at f k a limit ≡ f limit = set_at-else f k a limit (λ e. other (sym e)) in
          let before : total limit (set_at f k a) + f k ≡ total limit f + a = total-change limit f k a (omega (arith, other)) in
          omega (arith, here, before)
    ]

-- No sum is below one of its values.
pub total-least : (limit : ℕ) (f : ℕ → ℕ) (k : ℕ) → k < limit → f k ≤ total limit f
total-least limit f k below = let e = total-change limit f k 0 below in omega (arith, e)

-- How many pass where one changes.

change-test : (test : ℕ → Bool) (k : ℕ) (b : Bool) (j : ℕ) → ◌≡◌ {A = ℕ} (if set_at test k b j then 1 else 0) (set_at (λ i. if test i then 1 else 0) k (if b then 1 else 0) j)
change-test test k b j =
    elim (cases_eq j k) [
      | inl same ↦ ap (λ (c : Bool). if c then 1 else 0) (set_at-here test k b j same) ∙ sym (set_at-here (λ i. if test i then 1 else 0) k (if b then 1 else 0) j same)
      | inr other ↦ ap (λ (c : Bool). if c then 1 else 0) (set_at-else test k b j other) ∙ sym (set_at-else (λ i. if test i then 1 else 0) k (if b then 1 else 0) j other)
    ]

pub one_more : (limit : ℕ) (test : ℕ → Bool) (k : ℕ) → k < limit → test k ≡ false → how_many limit (set_at test k true) ≡ how_many limit test + 1
one_more limit test k below none =
    let same : how_many limit (set_at test k true) ≡ total limit (set_at (λ i. if test i then 1 else 0) k 1) = total-same limit _ _ (λ j _. change-test test k true j) in
    let old : ◌≡◌ {A = ℕ} (if test k then 1 else 0) 0 = cond-false (test k) 1 0 none in
    let change = total-change limit (λ i. if test i then 1 else 0) k 1 below in
    omega (arith, same, old, change)

pub one_less : (limit : ℕ) (test : ℕ → Bool) (k : ℕ) → k < limit → test k ≡ true → how_many limit (set_at test k false) + 1 ≡ how_many limit test
one_less limit test k below some =
    let same : how_many limit (set_at test k false) ≡ total limit (set_at (λ i. if test i then 1 else 0) k 0) = total-same limit _ _ (λ j _. change-test test k false j) in
    let old : ◌≡◌ {A = ℕ} (if test k then 1 else 0) 1 = cond-true (test k) 1 0 some in
    let change = total-change limit (λ i. if test i then 1 else 0) k 0 below in
    omega (arith, same, old, change)

pub none_pass : (limit : ℕ) (test : ℕ → Bool) → ((k : ℕ) → test k ≡ false) → how_many limit test ≡ 0
none_pass limit test none = total-nothing limit _ (λ k _. cond-false (test k) 1 0 (none k))

pub some_pass : (limit : ℕ) (test : ℕ → Bool) (k : ℕ) → k < limit → test k ≡ true → 0 < how_many limit test
some_pass limit test k below passes =
    let one : ◌≡◌ {A = ℕ} (if test k then 1 else 0) 1 = cond-true (test k) 1 0 passes in
    let least = total-least limit (λ i. if test i then 1 else 0) k below in
    omega (arith, one, least)

most-after : (limit before : ℕ) (b : Bool) → before ≤ limit → before + (if b then 1 else 0) ≤ suc limit
most-after limit before true most = omega arith
most-after limit before false most = omega arith

-- No more pass than there are.
pub how_many-most : (limit : ℕ) (test : ℕ → Bool) → how_many limit test ≤ limit
unfolding total
how_many-most zero test = omega arith
how_many-most (suc limit) test = most-after limit (total limit (λ k. if test k then 1 else 0)) (test limit) (how_many-most limit test)
