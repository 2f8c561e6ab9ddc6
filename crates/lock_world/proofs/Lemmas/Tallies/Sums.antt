use Rattle.std.proofs.Common.{◌≡◌, ap, ◌≢◌, ℕ, zero, suc, ◌+◌, ◌<◌, refl, sym, ◌∙◌, inl, inr, arith}
use Rattle.std.proofs.lemmas.Bool.{cases_eq}
use Rattle.lock_table.specs.Put.{set_at}
use Rattle.lock_table.proofs.Lemmas.Put.{set_at-here, set_at-else}
use Rattle.lock_table.specs.Total.{total}
use Rattle.lock_table.proofs.Lemmas.Totals.{total-nothing, total-change}

-- Sums over all numbers below a limit.

-- Where one number alone has something the sum is that.
pub total-one : (limit : ℕ) (f : ℕ → ℕ) (k : ℕ) → k < limit → ((j : ℕ) → j < limit → j ≢ k → f j ≡ 0) → total limit f ≡ f k
total-one limit f k below else =
    let change = total-change limit f k 0 below in
    let none : total limit (set_at f k 0) ≡ 0 = total-nothing limit (set_at f k 0) (λ j within.
    elim (cases_eq j k) [
      | inl same ↦ set_at-here f k 0 j same
      | inr other ↦ set_at-else f k 0 j other ∙ else j within other
    ]) in
    omega (arith, change, none)

pub total-add : (limit : ℕ) (f g : ℕ → ℕ) → total limit (λ k. f k + g k) ≡ total limit f + total limit g
unfolding total
total-add zero f g = refl
total-add (suc limit) f g = let before : total limit (λ k. f k + g k) ≡ total limit f + total limit g = total-add limit f g in omega (arith, before)

-- Sums over two limits come in either order.
pub total-swap : (limit bound : ℕ) (f : ℕ → ℕ → ℕ) → total limit (λ k. total bound (f k)) ≡ total bound (λ j. total limit (λ k. f k j))
unfolding total
total-swap zero bound f = sym (total-nothing bound (λ j. 0) (λ j within. refl))
total-swap (suc limit) bound f =
    let before : total limit (λ k. total bound (f k)) ≡ total bound (λ j. total limit (λ k. f k j)) = total-swap limit bound f in
    let split : total bound (λ j. total limit (λ k. f k j) + f limit j) ≡ total bound (λ j. total limit (λ k. f k j)) + total bound (f limit) =
    total-add bound (λ j. total limit (λ k. f k j)) (f limit) in
    omega (arith, before, split)

-- One more below the limit.
pub total-more : (limit : ℕ) (f : ℕ → ℕ) → total (limit + 1) f ≡ total limit f + f limit
unfolding total
total-more limit f = ap (λ n. total n f) more where
  more : limit + 1 ≡ suc limit
  more = omega arith
