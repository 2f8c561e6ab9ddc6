use Rattle.std.proofs.Common.{◌≡◌, ℕ, ◌<◌, ◌+◌, List, length, take, slice_index, sym, ◌∙◌, ap, subst, arith}
use Rattle.std.specs.List.{SwappedAt}
use Rattle.std.proofs.lemmas.List.{get_or-take}
use Rattle.script_orders.specs.Merges.{ComesLater}

-- what two lists with the same front have in a place of it
pub same_at : (n k : ℕ) (xs ys : List ℕ) → k < n → take n xs ≡ take n ys → slice_index xs k ≡ slice_index ys k
same_at n k xs ys below e =
    let first : slice_index (take n xs) k ≡ slice_index xs k = get_or-take n xs k 0 below in
    let second : slice_index (take n ys) k ≡ slice_index ys k = get_or-take n ys k 0 below in
    sym first ∙ (ap (λ zs. slice_index zs k) e ∙ second)

-- a swap with a later session that comes after it, and a turn of what comes after both
pub comes_later : (old swapped new : List ℕ) (place other : ℕ) → place < other → other < length old
    → slice_index old place < slice_index old other → SwappedAt old swapped place other
    → take (place + 1) new ≡ take (place + 1) swapped → ComesLater old new
comes_later old swapped new place other before within above s e = record {
  place = place;
  within = omega (arith, before, within);
  front = λ k h. same_at (place + 1) k new swapped (omega (arith, h)) e
      ∙ s.2 k 0 (λ same. omega (arith, h, same)) (λ same. omega (arith, h, before, same));
  later =
      let there : slice_index new place ≡ slice_index old other =
      same_at (place + 1) place new swapped (omega arith) e ∙ s.0 0 in
      subst (λ n. slice_index old place < n) (sym there) above;
}
