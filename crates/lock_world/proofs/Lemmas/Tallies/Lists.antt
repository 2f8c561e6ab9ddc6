use Rattle.std.proofs.Common.{◌≡◌, ℕ, zero, suc, ◌+◌, ◌<◌, Bool, true, false, ◌&&◌, List, [], ◌∷◌, ◌++◌, map, length, refl, sym, ap, inl, inr, arith}
use Rattle.std.specs.Prelude.{filter, count_by, if◌then◌else◌}
use Rattle.std.proofs.lemmas.Bool.{cases_Bool, false_from_ne_true, both_ways, cond-true, cond-false}
use Rattle.std.proofs.lemmas.List.{length-append}
use Rattle.std.proofs.lemmas.List.Sums.{sum_by-append}
use Rattle.lock_table.proofs.Lemmas.HoldLists.{count_by-cons}
use Rattle.lock_table.specs.Total.{total}
use Rattle.lock_world.specs.Tallies.{joined}

-- Lists that have each element equally often are equally long.

-- Two tests that pass together.
pub same_truth : (a b : Bool) → (a ≡ true → b ≡ true) → (b ≡ true → a ≡ true) → a ≡ b
same_truth true b there back = sym (there refl)
same_truth false b there back = sym (false_from_ne_true b (λ is. both_ways false refl (back is)))

pub count_by-append : {X : Type 0} (test : X → Bool) (xs ys : List X) → count_by test (xs ++ ys) ≡ count_by test xs + count_by test ys
count_by-append test xs ys = sum_by-append (λ x. if test x then 1 else 0) xs ys

pub count_by-same : {X : Type 0} (f g : X → Bool) (xs : List X) → ((x : X) → f x ≡ g x) → count_by f xs ≡ count_by g xs
count_by-same f g [] same = refl
count_by-same f g (x ∷ xs) same =
    let rest = count_by-same f g xs same in
    let one = count_by-cons f x xs in
    let two = count_by-cons g x xs in
    let here : ◌≡◌ {A = ℕ} (if f x then 1 else 0) (if g x then 1 else 0) = ap (λ (b : Bool). if b then 1 else 0) (same x) in
    omega (arith, rest, one, two, here)

-- One element that passes, or doesn't.
pub count_by-one : {X : Type 0} (test : X → Bool) (x : X) → count_by test (x ∷ []) ≡ (if test x then 1 else 0)
count_by-one test x = let e = count_by-cons test x [] in omega (arith, e)

-- the list without the first element that passes
drop_one : {X : Type 0} → (X → Bool) → List X → List X
drop_one test [] = []
drop_one test (x ∷ xs) = if test x then xs else (x ∷ drop_one test xs)

drop_one-length : {X : Type 0} (test : X → Bool) (xs : List X) → 0 < count_by test xs → length (drop_one test xs) + 1 ≡ length xs
unfolding drop_one
drop_one-length test [] some = absurd (omega (arith, some))
drop_one-length test (x ∷ xs) some =
    elim (cases_Bool (test x)) [
      | inl passes ↦ let e : length (drop_one test (x ∷ xs)) ≡ length xs = ap length (cond-true (test x) xs (x ∷ drop_one test xs) passes) in omega (arith, e)
      | inr fails ↦
          let e : length (drop_one test (x ∷ xs)) ≡ length (x ∷ drop_one test xs) = ap length (cond-false (test x) xs (x ∷ drop_one test xs) fails) in
          let all = count_by-cons test x xs in
          let none : ◌≡◌ {A = ℕ} (if test x then 1 else 0) 0 = cond-false (test x) 1 0 fails in
          let rest = drop_one-length test xs (omega (arith, some, all, none)) in
          omega (arith, e, rest)
    ]

drop_one-count : {X : Type 0} (test other : X → Bool) (b : Bool) (xs : List X) → ((x : X) → test x ≡ true → other x ≡ b) → 0 < count_by test xs
    → count_by other (drop_one test xs) + (if b then 1 else 0) ≡ count_by other xs
unfolding drop_one
drop_one-count test other b [] its some = absurd (omega (arith, some))
drop_one-count test other b (x ∷ xs) its some =
    let whole = count_by-cons other x xs in
    elim (cases_Bool (test x)) [
      | inl passes ↦
          let e : count_by other (drop_one test (x ∷ xs)) ≡ count_by other xs = ap (count_by other) (cond-true (test x) xs (x ∷ drop_one test xs) passes) in
          let here : ◌≡◌ {A = ℕ} (if other x then 1 else 0) (if b then 1 else 0) = ap (λ (c : Bool). if c then 1 else 0) (its x passes) in
          omega (arith, e, here, whole)
      | inr fails ↦
          let e : count_by other (drop_one test (x ∷ xs)) ≡ count_by other (x ∷ drop_one test xs) = ap (count_by other) (cond-false (test x) xs (x ∷ drop_one test xs) fails) in
          let split = count_by-cons other x (drop_one test xs) in
          let all = count_by-cons test x xs in
          let none : ◌≡◌ {A = ℕ} (if test x then 1 else 0) 0 = cond-false (test x) 1 0 fails in
          let rest = drop_one-count test other b xs its (omega (arith, some, all, none)) in
          omega (arith, e, split, whole, rest)
    ]

-- Each element counted by its own test: lists with equal counts are equally long.
module _ {X : Type 0} (test : X → X → Bool) (itself : (x : X) → test x x ≡ true) (same : (x y : X) → test x y ≡ true → x ≡ y) where
  pub same-length : (xs ys : List X) → ((x : X) → count_by (test x) xs ≡ count_by (test x) ys) → length xs ≡ length ys
  same-length [] [] counts = refl
  same-length [] (y ∷ ys) counts =
      let none = counts y in
      let all = count_by-cons (test y) y ys in
      let one : ◌≡◌ {A = ℕ} (if test y y then 1 else 0) 1 = cond-true (test y y) 1 0 (itself y) in
      absurd (omega (arith, none, all, one))
  same-length (x ∷ xs) ys counts =
      let all = count_by-cons (test x) x xs in
      let one : ◌≡◌ {A = ℕ} (if test x x then 1 else 0) 1 = cond-true (test x x) 1 0 (itself x) in
      let equal = counts x in
      let some : 0 < count_by (test x) ys = omega (arith, all, one, equal) in
      let shorter = drop_one-length (test x) ys some in
      let rest = same-length xs (drop_one (test x) ys) (λ z.
      let whole = count_by-cons (test z) x xs in
      let both = counts z in
      let dropped = drop_one-count (test x) (test z) (test z x) ys (λ y is. ap (test z) (sym (same x y is))) some in
      omega (arith, whole, both, dropped)) in
      omega (arith, shorter, rest)

-- Lists joined, one behind another.

pub length-joined : {X : Type 0} (limit : ℕ) (lists : ℕ → List X) → length (joined limit lists) ≡ total limit (λ k. length (lists k))
unfolding joined total
length-joined zero lists = refl
length-joined (suc limit) lists =
    let both = length-append (joined limit lists) (lists limit) in
    let before = length-joined limit lists in
    omega (arith, both, before)

pub count_by-joined : {X : Type 0} (test : X → Bool) (limit : ℕ) (lists : ℕ → List X) → count_by test (joined limit lists) ≡ total limit (λ k. count_by test (lists k))
unfolding joined total
count_by-joined test zero lists = refl
count_by-joined test (suc limit) lists =
    let both = count_by-append test (joined limit lists) (lists limit) in
    let before = count_by-joined test limit lists in
    omega (arith, both, before)

-- What is counted of a list of those that pass, each turned into another.
pub count_by-map_filter : {X Y : Type 0} (turn : X → Y) (keep : X → Bool) (test : Y → Bool) (xs : List X)
    → count_by test (map turn (filter keep xs)) ≡ count_by (λ x. keep x && test (turn x)) xs
count_by-map_filter turn keep test [] = refl
count_by-map_filter turn keep test (x ∷ xs) =
    let rest = count_by-map_filter turn keep test xs in
    let whole = count_by-cons (λ z. keep z && test (turn z)) x xs in
    elim (cases_Bool (keep x)) [
      | inl kept ↦
          let e : count_by test (map turn (filter keep (x ∷ xs))) ≡ count_by test (turn x ∷ map turn (filter keep xs)) = rw kept refl in
          let split = count_by-cons test (turn x) (map turn (filter keep xs)) in
          let here : ◌≡◌ {A = ℕ} (if keep x && test (turn x) then 1 else 0) (if test (turn x) then 1 else 0) = rw kept refl in
          omega (arith, e, split, whole, here, rest)
      | inr gone ↦
          let e : count_by test (map turn (filter keep (x ∷ xs))) ≡ count_by test (map turn (filter keep xs)) = rw gone refl in
          let here : ◌≡◌ {A = ℕ} (if keep x && test (turn x) then 1 else 0) 0 = rw gone refl in
          omega (arith, e, whole, here, rest)
    ]

pub length-map_filter : {X Y : Type 0} (turn : X → Y) (keep : X → Bool) (xs : List X) → length (map turn (filter keep xs)) ≡ count_by keep xs
length-map_filter turn keep [] = refl
length-map_filter turn keep (x ∷ xs) =
    let rest = length-map_filter turn keep xs in
    let whole = count_by-cons keep x xs in
    elim (cases_Bool (keep x)) [
      | inl kept ↦
          let e : length (map turn (filter keep (x ∷ xs))) ≡ length (turn x ∷ map turn (filter keep xs)) = rw kept refl in
          let here : ◌≡◌ {A = ℕ} (if keep x then 1 else 0) 1 = cond-true (keep x) 1 0 kept in
          omega (arith, e, whole, here, rest)
      | inr gone ↦
          let e : length (map turn (filter keep (x ∷ xs))) ≡ length (map turn (filter keep xs)) = rw gone refl in
          let here : ◌≡◌ {A = ℕ} (if keep x then 1 else 0) 0 = cond-false (keep x) 1 0 gone in
          omega (arith, e, whole, here, rest)
    ]

pub joined-more : {X : Type 0} (limit : ℕ) (lists : ℕ → List X) → joined (limit + 1) lists ≡ joined limit lists ++ lists limit
unfolding joined
joined-more limit lists = ap (λ n. joined n lists) more where
  more : limit + 1 ≡ suc limit
  more = omega arith

pub joined-same : {X : Type 0} (limit : ℕ) (f g : ℕ → List X) → ((k : ℕ) → k < limit → f k ≡ g k) → joined limit f ≡ joined limit g
unfolding joined
joined-same zero f g same = refl
joined-same (suc limit) f g same =
    let before : joined limit f ≡ joined limit g = joined-same limit f g (λ k below. same k (omega arith)) in
    let here : f limit ≡ g limit = same limit (omega arith) in
    λ i. before i ++ here i
