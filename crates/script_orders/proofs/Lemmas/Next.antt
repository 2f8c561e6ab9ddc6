use Rattle.std.proofs.Common.{◌≡◌, ◌≢◌, ℕ, zero, suc, ◌+◌, ◌-◌, ◌<◌, ◌≤◌, List, length, drop, reverse, min, slice_index, sym, ◌∙◌, ap, subst, ◌⊎◌, inl, inr, arith}
use Rattle.std.specs.List.{SwappedAt, sum_by}
use Rattle.std.specs.List.Sorted.{IsPermutation}
use Rattle.std.proofs.lemmas.Bool.{cases_lt}
use Rattle.std.proofs.lemmas.List.{get_or-reverse, get_or-drop, length-drop}
use Rattle.std.proofs.lemmas.List.Sums.{sum_by-drop_more}
use Rattle.std.proofs.lemmas.List.Sorted.{sum_by-IsPermutation, length_permutation}
use Rattle.std.proofs.Math.Nat.{eq-or-lt_of_le}
use Rattle.std.proofs.Math.ListN.{drop_of_length-le}
use Rattle.script_orders.specs.Merges.{LiesBetween, IsDescendingFrom}

-- two lists with the same front and the same sum have the same sum after it
pub same_rest : (f : ℕ → ℕ) (xs ys : List ℕ) (i : ℕ) → i ≤ length xs → i ≤ length ys
    → ((k : ℕ) → k < i → slice_index xs k ≡ slice_index ys k) → sum_by f xs ≡ sum_by f ys
    → sum_by f (drop i xs) ≡ sum_by f (drop i ys)
same_rest f xs ys zero a b same e = e
same_rest f xs ys (suc i) a b same e =
    let before : sum_by f (drop i xs) ≡ sum_by f (drop i ys) =
    same_rest f xs ys i (omega (arith, a)) (omega (arith, b)) (λ k h. same k (omega (arith, h))) e in
    let x : sum_by f (drop i xs) ≡ f (slice_index xs i) + sum_by f (drop (i + 1) xs) =
    sum_by-drop_more f xs i 0 (omega (arith, a)) in
    let y : sum_by f (drop i ys) ≡ f (slice_index ys i) + sum_by f (drop (i + 1) ys) =
    sum_by-drop_more f ys i 0 (omega (arith, b)) in
    let first : f (slice_index xs i) ≡ f (slice_index ys i) = ap f (same i (omega arith)) in
    let rest : sum_by f (drop (i + 1) xs) ≡ sum_by f (drop (i + 1) ys) = omega (arith, before, x, y, first) in
    let one : i + 1 ≡ suc i = omega arith in
    subst (λ n. sum_by f (drop n xs) ≡ sum_by f (drop n ys)) one rest

-- what is 0 at each place from one on sums up to 0 there
pub zero_rest : (f : ℕ → ℕ) (xs : List ℕ) (n i : ℕ) → length xs ≡ i + n
    → ((k : ℕ) → i ≤ k → k < length xs → f (slice_index xs k) ≡ 0) → sum_by f (drop i xs) ≡ 0
zero_rest f xs zero i e z = ap (sum_by f) (drop_of_length-le xs (omega (arith, e)))
zero_rest f xs (suc n) i e z =
    let x : sum_by f (drop i xs) ≡ f (slice_index xs i) + sum_by f (drop (i + 1) xs) =
    sum_by-drop_more f xs i 0 (omega (arith, e)) in
    let first : f (slice_index xs i) ≡ 0 = z i (omega arith) (omega (arith, e)) in
    let rest : sum_by f (drop (i + 1) xs) ≡ 0 =
    zero_rest f xs n (i + 1) (omega (arith, e)) (λ k h. z k (omega (arith, h))) in
    omega (arith, x, first, rest)

-- what is 0 at each place from one on is 0 there in each list with the same elements and the same front
pub zero_at : (f : ℕ → ℕ) (xs ys : List ℕ) (i : ℕ) → length xs ≡ length ys → i < length ys
    → ((k : ℕ) → k < i → slice_index xs k ≡ slice_index ys k) → sum_by f xs ≡ sum_by f ys
    → ((k : ℕ) → i ≤ k → k < length xs → f (slice_index xs k) ≡ 0) → f (slice_index ys i) ≡ 0
zero_at f xs ys i e within same sums z =
    let rest : sum_by f (drop i xs) ≡ sum_by f (drop i ys) =
    same_rest f xs ys i (omega (arith, e, within)) (omega (arith, within)) same sums in
    let none : sum_by f (drop i xs) ≡ 0 =
    zero_rest f xs (length xs - i) i (omega (arith, e, within)) z in
    let y : sum_by f (drop i ys) ≡ f (slice_index ys i) + sum_by f (drop (i + 1) ys) =
    sum_by-drop_more f ys i 0 within in
    omega (arith, rest, none, y)

-- a step from a merge to another: at one place the least of the later sessions after it comes, and after that
-- place the sessions descend before, and ascend then
pub record IsStep (old new : List ℕ) (p q : ℕ) : Type 0 where
  pub before : p < q
  pub within : q < length old
  pub above : slice_index old p < slice_index old q
  pub down : (k l : ℕ) → p < k → k ≤ l → l < length old → slice_index old l ≤ slice_index old k
  pub last : (k : ℕ) → q < k → k < length old → slice_index old k ≤ slice_index old p
  pub front : (k : ℕ) → k < p → slice_index new k ≡ slice_index old k
  pub there : slice_index new p ≡ slice_index old q
  pub up : (k l : ℕ) → p < k → k ≤ l → l < length new → slice_index new k ≤ slice_index new l

-- a merge that differs from the old one before the place of the step
differs_before : (old new m : List ℕ) (p q : ℕ) → IsStep old new p q → (b : LiesBetween old new m)
    → b.behind.place < p → ⊥
differs_before old new m p q s b less =
    elim (cases_lt b.before.place b.behind.place) [
      | inl h ↦
          omega (arith, s.front b.before.place (omega (arith, h, less)), b.behind.front b.before.place h, b.before.later)
      | inr h ↦
          elim (eq-or-lt_of_le h) [
            | inl e ↦
                let later : slice_index m b.behind.place < slice_index new b.behind.place =
                subst (λ j. slice_index m j < slice_index new j) (sym e) b.before.later in
                omega (arith, later, s.front b.behind.place less, b.behind.later)
            | inr g ↦
                omega (arith, b.before.front b.behind.place g, s.front b.behind.place less, b.behind.later)
          ]
    ]

-- a merge that differs from the old one after it
differs_behind : (old new m : List ℕ) (p q : ℕ) → IsStep old new p q → (b : LiesBetween old new m)
    → p < b.behind.place → ⊥
differs_behind old new m p q s b more =
    let i : ℕ = b.behind.place in
    let e : length old ≡ length m = sym (length_permutation old m b.same) in
    let f : ℕ → ℕ = λ x. x - slice_index old i in
    let none : slice_index m i - slice_index old i ≡ 0 =
    zero_at f old m i e (omega (arith, e, b.behind.within)) (λ k h. sym (b.behind.front k h))
    (sym (sum_by-IsPermutation f old m b.same))
    (λ k h g. omega (arith, s.down i k more h g)) in
    omega (arith, none, b.behind.later)

-- a merge that differs from the old one at it
differs_there : (old new m : List ℕ) (p q : ℕ) → IsStep old new p q → IsPermutation old new
    → (b : LiesBetween old new m) → p ≡ b.behind.place → ⊥
differs_there old new m p q s same b at =
    let front : (k : ℕ) → k < p → slice_index m k ≡ slice_index old k =
    subst (λ i. (k : ℕ) → k < i → slice_index m k ≡ slice_index old k) (sym at) b.behind.front in
    let later : slice_index old p < slice_index m p =
    subst (λ i. slice_index old i < slice_index m i) (sym at) b.behind.later in
    let e : length old ≡ length m = sym (length_permutation old m b.same) in
    let e_new : length old ≡ length new = sym (length_permutation old new same) in
    let j : ℕ = b.before.place in
    elim (cases_lt j p) [
      | inl h ↦ omega (arith, s.front j h, front j h, b.before.later)
      | inr h ↦
          elim (eq-or-lt_of_le h) [
            | inl g ↦
                let less : slice_index m p < slice_index new p =
                subst (λ i. slice_index m i < slice_index new i) (sym g) b.before.later in
                let f : ℕ → ℕ = λ x. min (x - slice_index old p) (slice_index old q - x) in
                let zeros : (k : ℕ) → p ≤ k → k < length old
                → min (slice_index old k - slice_index old p) (slice_index old q - slice_index old k) ≡ 0 =
                λ k a w. elim (cases_lt q k) [
                  | inl c ↦ omega (arith, s.last k c w)
                  | inr c ↦
                      elim (eq-or-lt_of_le a) [
                        | inl d ↦
                            let it : slice_index old k ≡ slice_index old p = ap (slice_index old) (sym d) in
                            omega (arith, it)
                        | inr d ↦ omega (arith, s.down k q d c s.within)
                      ]
                ] in
                let none : min (slice_index m p - slice_index old p) (slice_index old q - slice_index m p) ≡ 0 =
                zero_at f old m p e (omega (arith, e, s.before, s.within)) (λ k w. sym (front k w))
                (sym (sum_by-IsPermutation f old m b.same)) zeros in
                omega (arith, none, later, less, s.there)
            | inr g ↦
                let f : ℕ → ℕ = λ x. slice_index new j - x in
                let sums : sum_by f new ≡ sum_by f m =
                sum_by-IsPermutation f old new same ∙ sym (sum_by-IsPermutation f old m b.same) in
                let none : slice_index new j - slice_index m j ≡ 0 =
                zero_at f new m j (sym e_new ∙ e) b.before.within b.before.front sums
                (λ k a w. omega (arith, s.up j k g a w)) in
                omega (arith, none, b.before.later)
          ]
    ]

-- no merge of the same sessions lies between two of which the second is a step after the first
pub none_between : (old new m : List ℕ) (p q : ℕ) → IsStep old new p q → IsPermutation old new
    → LiesBetween old new m → ⊥
none_between old new m p q s same b =
    elim (cases_lt b.behind.place p) [
      | inl h ↦ differs_before old new m p q s b h
      | inr h ↦
          elim (eq-or-lt_of_le h) [
            | inl e ↦ differs_there old new m p q s same b e
            | inr g ↦ differs_behind old new m p q s b g
          ]
    ]

-- where each session comes no later than the one before it, so does each than all before it
descends : (xs : List ℕ) (n from k : ℕ) → IsDescendingFrom from xs → from ≤ k → k + n < length xs
    → slice_index xs (k + n) ≤ slice_index xs k
descends xs zero from k d a w =
    let same : slice_index xs k ≤ slice_index xs k = omega arith in
    let it : k ≡ k + zero = omega arith in
    subst (λ n. slice_index xs n ≤ slice_index xs k) it same
descends xs (suc n) from k d a w =
    let less : slice_index xs (k + n) ≤ slice_index xs k = descends xs n from k d a (omega (arith, w)) in
    let next : slice_index xs (k + n + 1) ≤ slice_index xs (k + n) =
    d (k + n) (omega (arith, a)) (omega (arith, w)) in
    let both : slice_index xs (k + n + 1) ≤ slice_index xs k = omega (arith, less, next) in
    let more : k + n + 1 ≡ k + suc n = omega arith in
    subst (λ i. slice_index xs i ≤ slice_index xs k) more both

-- what comes after a place that was swapped with the last later session after it
swapped_down : (old swapped : List ℕ) (p q : ℕ) → p < q → q < length old → slice_index old p < slice_index old q
    → ((k l : ℕ) → p < k → k ≤ l → l < length old → slice_index old l ≤ slice_index old k)
    → ((k : ℕ) → q < k → k < length old → slice_index old k ≤ slice_index old p) → SwappedAt old swapped p q
    → (k l : ℕ) → p < k → k ≤ l → l < length old → slice_index swapped l ≤ slice_index swapped k
swapped_down old swapped p q before within above down last s k l a b w =
    let at_q : slice_index swapped q ≡ slice_index old p = s.1 0 in
    let other : (i : ℕ) → p < i → i ≢ q → slice_index swapped i ≡ slice_index old i =
    λ i h n. s.2 i 0 (λ same. omega (arith, h, same)) n in
    let kept : (i : ℕ) → p < i → (i < q) ⊎ (q < i) → slice_index swapped i ≡ slice_index old i =
    λ i h c. elim c [
      | inl g ↦ other i h (λ same. omega (arith, g, same))
      | inr g ↦ other i h (λ same. omega (arith, g, same))
    ] in
    elim (cases_lt k q) [
      | inl h ↦
          elim (cases_lt l q) [
            | inl g ↦ omega (arith, kept k a (inl h), kept l (omega (arith, a, b)) (inl g), down k l a b w)
            | inr g ↦
                elim (eq-or-lt_of_le g) [
                  | inl e ↦
                      let it : slice_index swapped l ≡ slice_index old p = subst (λ i. slice_index swapped i ≡ slice_index old p) e at_q in
                      omega (arith, it, kept k a (inl h), above, down k q a (omega (arith, h)) within)
                  | inr c ↦ omega (arith, kept k a (inl h), kept l (omega (arith, a, b)) (inr c), down k l a b w)
                ]
          ]
      | inr h ↦
          elim (eq-or-lt_of_le h) [
            | inl e ↦
                let it : slice_index swapped k ≡ slice_index old p = subst (λ i. slice_index swapped i ≡ slice_index old p) e at_q in
                elim (eq-or-lt_of_le b) [
                  | inl d ↦
                      let same : slice_index swapped l ≡ slice_index swapped k = ap (slice_index swapped) (sym d) in
                      omega (arith, same)
                  | inr d ↦
                      let past : q < l = omega (arith, e, d) in
                      omega (arith, it, kept l (omega (arith, a, b)) (inr past), last l past w)
                ]
            | inr c ↦
                omega (arith, kept k a (inr c), kept l (omega (arith, a, b)) (inr (omega (arith, c, b))), down k l a b w)
          ]
    ]

-- the place that a place after the step's had before the turn
turned : (swapped new : List ℕ) (p k : ℕ) → length new ≡ length swapped
    → drop (p + 1) new ≡ reverse (drop (p + 1) swapped) → p < k → k < length swapped
    → slice_index new k ≡ slice_index swapped (length swapped + p - k)
turned swapped new p k e turn a w =
    let n : ℕ = length swapped in
    let t : ℕ = k - (p + 1) in
    let back : p + 1 + t ≡ k = omega (arith, a) in
    let len : length (drop (p + 1) swapped) ≡ n - (p + 1) = length-drop (p + 1) swapped in
    let one : slice_index (drop (p + 1) new) t ≡ slice_index new (p + 1 + t) = get_or-drop (p + 1) new t 0 in
    let two : slice_index (reverse (drop (p + 1) swapped)) t
    ≡ slice_index (drop (p + 1) swapped) (length (drop (p + 1) swapped) - 1 - t) =
    get_or-reverse (drop (p + 1) swapped) t 0 (omega (arith, len, a, w)) in
    let three : slice_index (drop (p + 1) swapped) (length (drop (p + 1) swapped) - 1 - t)
    ≡ slice_index swapped (p + 1 + (length (drop (p + 1) swapped) - 1 - t)) =
    get_or-drop (p + 1) swapped (length (drop (p + 1) swapped) - 1 - t) 0 in
    let where_ : p + 1 + (length (drop (p + 1) swapped) - 1 - t) ≡ n + p - k = omega (arith, len, a, w) in
    sym (ap (slice_index new) back) ∙ sym one ∙ ap (λ zs. slice_index zs t) turn ∙ two ∙ three
    ∙ ap (slice_index swapped) where_

-- the step of `next_merge`
pub is_step : (old swapped new : List ℕ) (p q : ℕ) → p < q → q < length old → slice_index old p < slice_index old q
    → IsDescendingFrom (p + 1) old → ((k : ℕ) → q < k → k < length old → slice_index old k ≤ slice_index old p)
    → SwappedAt old swapped p q → length swapped ≡ length old → length new ≡ length swapped
    → ((k : ℕ) → k < p + 1 → slice_index new k ≡ slice_index swapped k)
    → drop (p + 1) new ≡ reverse (drop (p + 1) swapped) → IsStep old new p q
is_step old swapped new p q before within above descending last s e e_new front turn =
    let down : (k l : ℕ) → p < k → k ≤ l → l < length old → slice_index old l ≤ slice_index old k =
    λ k l a b w.
    let there : k + (l - k) ≡ l = omega (arith, b) in
    subst (λ i. slice_index old i ≤ slice_index old k) there
    (descends old (l - k) (p + 1) k descending (omega (arith, a)) (omega (arith, b, w))) in
    record {
      before = before;
      within = within;
      above = above;
      down = down;
      last = last;
      front = λ k h. front k (omega (arith, h))
          ∙ s.2 k 0 (λ same. omega (arith, h, same)) (λ same. omega (arith, h, before, same));
      there = front p (omega arith) ∙ s.0 0;
      up = λ k l a b w.
          let from_k : slice_index new k ≡ slice_index swapped (length swapped + p - k) =
          turned swapped new p k e_new turn a (omega (arith, e_new, b, w)) in
          let from_l : slice_index new l ≡ slice_index swapped (length swapped + p - l) =
          turned swapped new p l e_new turn (omega (arith, a, b)) (omega (arith, e_new, w)) in
          let less : slice_index swapped (length swapped + p - k) ≤ slice_index swapped (length swapped + p - l) =
          swapped_down old swapped p q before within above down last s (length swapped + p - l)
          (length swapped + p - k) (omega (arith, a, b, w, e_new)) (omega (arith, a, b, w, e_new))
          (omega (arith, a, b, w, e_new, e)) in
          omega (arith, from_k, from_l, less);
    }
