use Rattle.std.proofs.Common.{◌≡◌, ℕ, zero, suc, ◌+◌, ◌<◌, ◌≤◌, Bool, true, false, cond, not, ◌||◌, eqb, List, [], ◌∷◌, ◌++◌, length, filter, take, map, count_by, arith, refl, sym, ap, ◌∙◌, inl, inr, length-append}
use Rattle.std.specs.Prelude.{if◌then◌else◌}
use Rattle.std.specs.List.Sorted.{IsPermutation}
use Rattle.std.proofs.lemmas.List.Sorted.{IsPermutation-refl, IsPermutation-cons, IsPermutation-trans, IsPermutation-append_comm}
use Rattle.std.proofs.lemmas.List.{take_all}
use Rattle.std.specs.List.{list_any, remove, IsDistinct, AllByRecursion}
use Rattle.std.proofs.lemmas.Bool.{cases_Bool, cases_eq, false≢true, false_from_ne_true, eqb-true, eq-eqb, cond-true, cond-false}
use Rattle.std.proofs.lemmas.List.Sums.{sum_by-cons, sum_by-append}
use Rattle.std.proofs.lemmas.List.{length-map}
use Rattle.std.proofs.lemmas.Map.Steps.{length-le_from_distinct_below}
use Rattle.lw_word.specs.declared.wait_lists.LwWaiter.{LwWaiter}
use Rattle.lw_word.specs.WaitList.{EachStandsOnce, is_of, stands_in, times_in, wants_to_share, without_sharers, taken_off, left_waiting}
use Rattle.lw_word.specs.declared.wait_lists.TheConstants.{MOST_TAKEN_OFF}

-- Lists in which each session stands once at most.

-- Counting by a test.

count-cons : {X : Type 0} (test : X → Bool) (x : X) (xs : List X) → count_by test (x ∷ xs) ≡ (if test x then 1 else 0) + count_by test xs
count-cons test x xs = sum_by-cons (λ y. if test y then 1 else 0) x xs

count-append : {X : Type 0} (test : X → Bool) (xs ys : List X) → count_by test (xs ++ ys) ≡ count_by test xs + count_by test ys
count-append test xs ys = sum_by-append (λ x. if test x then 1 else 0) xs ys

count-map : {X Y : Type 0} (test : Y → Bool) (f : X → Y) (xs : List X) → count_by test (map f xs) ≡ count_by (λ x. test (f x)) xs
count-map test f [] = refl
count-map test f (x ∷ xs) = rw (count-cons test (f x) (map f xs), count-cons (λ y. test (f y)) x xs, count-map test f xs) refl

-- a filter leaves nothing more often than it was there
count-filter : {X : Type 0} (test p : X → Bool) (xs : List X) → count_by test (filter p xs) ≤ count_by test xs
count-filter test p [] = omega arith
count-filter test p (x ∷ xs) =
    let less : count_by test (filter p xs) ≤ count_by test xs = count-filter test p xs in
    rw (count-cons test x xs) (
    elim (cases_Bool (p x)) [
      | inl pass ↦ rw (pass, count-cons test x (filter p xs)) (omega arith)
      | inr fail ↦ rw fail (omega arith)
    ]
    )

-- what passes is counted, and nothing else
count-some : {X : Type 0} (test : X → Bool) (xs : List X) → list_any test xs ≡ true → 0 < count_by test xs
count-some test [] any = absurd (false≢true any)
count-some test (x ∷ xs) any =
    elim (cases_Bool (test x)) [
      | inl pass ↦ let one : ◌≡◌ {A = ℕ} (cond (test x) 1 0) 1 = cond-true (test x) 1 0 pass in let sum = count-cons test x xs in omega arith
      | inr fail ↦ let more : 0 < count_by test xs = count-some test xs (ap (λ b. b || list_any test xs) (sym fail) ∙ any) in let sum = count-cons test x xs in omega arith
    ]

count-none : {X : Type 0} (test : X → Bool) (xs : List X) → list_any test xs ≡ false → count_by test xs ≡ 0
count-none test [] none = refl
count-none test (x ∷ xs) none =
    rw (count-cons test x xs) (
    elim (cases_Bool (test x)) [
      | inl pass ↦ absurd (false≢true (sym none ∙ ap (λ b. b || list_any test xs) pass))
      | inr fail ↦ rw (fail, count-none test xs (sym (ap (λ b. b || list_any test xs) fail) ∙ none)) refl
    ]
    )

-- There are at most as many in the list as there are sessions.

none_alike : (x : ℕ) (xs : List ℕ) → list_any (eqb x) xs ≡ false → AllByRecursion (λ y. eqb x y ≡ false) xs
none_alike x [] none = tt
none_alike x (y ∷ xs) none =
    elim (cases_Bool (eqb x y)) [
      | inl same ↦ absurd (false≢true (sym none ∙ ap (λ b. b || list_any (eqb x) xs) same))
      | inr other ↦ (other, none_alike x xs (sym (ap (λ b. b || list_any (eqb x) xs) other) ∙ none))
    ]

distinct : (xs : List ℕ) → ((x : ℕ) → count_by (eqb x) xs ≤ 1) → IsDistinct eqb xs
unfolding IsDistinct
distinct [] once = tt
distinct (x ∷ xs) once = (none_alike x xs none, distinct xs fewer) where
  none : list_any (eqb x) xs ≡ false
  none = false_from_ne_true (list_any (eqb x) xs) (λ any.
      let more : 0 < count_by (eqb x) xs = count-some (eqb x) xs any in
      let sum : count_by (eqb x) (x ∷ xs) ≡ (if eqb x x then 1 else 0) + count_by (eqb x) xs = count-cons (eqb x) x xs in
      let one : ◌≡◌ {A = ℕ} (if eqb x x then 1 else 0) 1 = rw (eq-eqb x x refl) refl in
      omega (arith, once x))

  fewer : (y : ℕ) → count_by (eqb y) xs ≤ 1
  fewer y =
      let sum : count_by (eqb y) (x ∷ xs) ≡ (if eqb y x then 1 else 0) + count_by (eqb y) xs = count-cons (eqb y) x xs in
      omega (arith, once y)

pub EachStandsOnce-fits : (room : ℕ) (waiters : List LwWaiter) → EachStandsOnce room waiters → length waiters ≤ room
EachStandsOnce-fits room waiters is =
    let fit : length (map (λ (one : LwWaiter). one.session) waiters) ≤ room =
    length-le_from_distinct_below (map (λ (one : LwWaiter). one.session) waiters) room (distinct (map (λ (one : LwWaiter). one.session) waiters) once) below in
    let same : length (map (λ (one : LwWaiter). one.session) waiters) ≡ length waiters = length-map waiters (λ (one : LwWaiter). one.session) in
    omega arith where
      times : (s : ℕ) → count_by (eqb s) (map (λ (one : LwWaiter). one.session) waiters) ≡ times_in s waiters
      times s = count-map (eqb s) (λ (one : LwWaiter). one.session) waiters

      once : (s : ℕ) → count_by (eqb s) (map (λ (one : LwWaiter). one.session) waiters) ≤ 1
      once s = omega (arith, times s, is.once s)

      below : (s : ℕ) → list_any (eqb s) (map (λ (one : LwWaiter). one.session) waiters) ≡ true → s < room
      below s any = is.below s (omega (arith, times s, count-some (eqb s) (map (λ (one : LwWaiter). one.session) waiters) any))

-- Each stands there once after a session joined that was not there, and after some were taken out.

pub EachStandsOnce-join :
    (room : ℕ) (waiters : List LwWaiter) (new : LwWaiter) → new.session < room → stands_in new.session waiters ≡ false → EachStandsOnce room waiters → EachStandsOnce room (waiters ++ new ∷ [])
EachStandsOnce-join room waiters new within absent is = record {
  once = λ s. elim (cases_eq s new.session) [
    | inl same ↦
        let none : times_in s waiters ≡ 0 = ap (λ t. times_in t waiters) same ∙ count-none (is_of new.session) waiters absent in
        let less = one_more s in
        omega (arith, sum s)
    | inr other ↦ let none = not_this s other in omega (arith, sum s, is.once s)
  ];
  below = λ s some. elim (cases_eq s new.session) [
    | inl same ↦ omega arith
    | inr other ↦ let none = not_this s other in is.below s (omega (arith, sum s))
  ];
} where
  sum : (s : ℕ) → times_in s (waiters ++ new ∷ []) ≡ times_in s waiters + times_in s (new ∷ [])
  sum s = count-append (is_of s) waiters (new ∷ [])

  one_more : (s : ℕ) → times_in s (new ∷ []) ≤ 1
  one_more s = elim (cases_Bool (eqb s new.session)) [
    | inl same ↦ let one : ◌≡◌ {A = ℕ} (cond (eqb s new.session) 1 0) 1 = cond-true (eqb s new.session) 1 0 same in omega (arith, count-cons (is_of s) new [])
    | inr other ↦ let none : ◌≡◌ {A = ℕ} (cond (eqb s new.session) 1 0) 0 = cond-false (eqb s new.session) 1 0 other in omega (arith, count-cons (is_of s) new [])
  ]

  not_this : (s : ℕ) → (s ≡ new.session → ⊥) → times_in s (new ∷ []) ≡ 0
  not_this s other = count-none (is_of s) (new ∷ []) (ap (λ b. b || false) (false_from_ne_true (eqb s new.session) (λ same. other (eqb-true s new.session same))))

-- so there is room for whoever joins
pub room_to_join : (room : ℕ) (waiters : List LwWaiter) (new : LwWaiter) → new.session < room → stands_in new.session waiters ≡ false → EachStandsOnce room waiters → length waiters < room
room_to_join room waiters new within absent is =
    let fit : length (waiters ++ new ∷ []) ≤ room = EachStandsOnce-fits room (waiters ++ new ∷ []) (EachStandsOnce-join room waiters new within absent is) in
    let one : length (waiters ++ new ∷ []) ≡ length waiters + 1 = length-append waiters (new ∷ []) in
    omega arith

pub EachStandsOnce-filter : (room : ℕ) (p : LwWaiter → Bool) (waiters : List LwWaiter) → EachStandsOnce room waiters → EachStandsOnce room (filter p waiters)
EachStandsOnce-filter room p waiters is = record {
  once = λ s. omega (arith, count-filter (is_of s) p waiters, is.once s);
  below = λ s some. is.below s (omega (arith, count-filter (is_of s) p waiters));
}

pub EachStandsOnce-rest : (room : ℕ) (waiters : List LwWaiter) → EachStandsOnce room waiters → EachStandsOnce room (remove waiters 0)
EachStandsOnce-rest room [] is = is
EachStandsOnce-rest room (first ∷ others) is = record {
  once = λ s. omega (arith, count-cons (is_of s) first others, is.once s);
  below = λ s some. is.below s (omega (arith, count-cons (is_of s) first others));
}

-- Without some who want to share nobody stands there more often than before.
fewer-without : (test : LwWaiter → Bool) (many : ℕ) (waiters : List LwWaiter) → count_by test (without_sharers many waiters) ≤ count_by test waiters
fewer-without test zero waiters = omega arith
fewer-without test (suc many) [] = omega arith
fewer-without test (suc many) (first ∷ others) =
    elim (cases_Bool (wants_to_share first)) [
      | inl shares ↦ rw (shares, count-cons test first others) (let less = fewer-without test many others in omega (arith, less))
      | inr alone ↦ rw (alone, count-cons test first others, count-cons test first (without_sharers (suc many) others)) (let less = fewer-without test (suc many) others in omega (arith, less))
    ]

pub EachStandsOnce-without : (room many : ℕ) (waiters : List LwWaiter) → EachStandsOnce room waiters → EachStandsOnce room (without_sharers many waiters)
EachStandsOnce-without room many waiters is = record {
  once = λ s. omega (arith, fewer-without (is_of s) many waiters, is.once s);
  below = λ s some. is.below s (omega (arith, fewer-without (is_of s) many waiters));
}

-- Some who want to share are taken off, and all others left.
split-sharers : (many : ℕ) (waiters : List LwWaiter) → IsPermutation waiters (take many (filter wants_to_share waiters) ++ without_sharers many waiters)
split-sharers zero waiters = IsPermutation-refl waiters
split-sharers (suc many) [] = IsPermutation-refl []
split-sharers (suc many) (first ∷ others) =
    elim (cases_Bool (wants_to_share first)) [
      | inl shares ↦ rw shares (IsPermutation-cons first others (take many (filter wants_to_share others) ++ without_sharers many others) (split-sharers many others))
      | inr alone ↦ rw alone (IsPermutation-trans (first ∷ others) (first ∷ (taken ++ left)) (taken ++ first ∷ left) (IsPermutation-cons first others (taken ++ left) (split-sharers (suc many) others)) (moved first taken left))
    ] where
      taken : List LwWaiter
      taken = take (suc many) (filter wants_to_share others)

      left : List LwWaiter
      left = without_sharers (suc many) others

      moved : (x : LwWaiter) (xs ys : List LwWaiter) → IsPermutation (x ∷ (xs ++ ys)) (xs ++ x ∷ ys)
      moved x xs ys = IsPermutation-trans (x ∷ (xs ++ ys)) (x ∷ (ys ++ xs)) (xs ++ x ∷ ys) (IsPermutation-cons x (xs ++ ys) (ys ++ xs) (IsPermutation-append_comm xs ys)) (IsPermutation-append_comm (x ∷ ys) xs)

-- A wakeup takes off some and leaves all others.
pub wakeup-split : (waiters : List LwWaiter) → IsPermutation waiters (taken_off waiters ++ left_waiting waiters)
wakeup-split [] = IsPermutation-refl []
wakeup-split (first ∷ others) =
    elim (cases_Bool (wants_to_share first)) [
      | inl shares ↦ let parts = split-sharers MOST_TAKEN_OFF (first ∷ others) in rw shares (rw shares at parts)
      | inr alone ↦ rw alone (IsPermutation-refl (first ∷ others))
    ]

-- A wakeup takes off nobody only where nobody waits.
pub wakeup-somebody : (waiters : List LwWaiter) → taken_off waiters ≡ [] → waiters ≡ []
wakeup-somebody [] none = refl
wakeup-somebody (first ∷ others) none =
    elim (cases_Bool (wants_to_share first)) [
      | inl shares ↦ let none' : ◌≡◌ {A = List LwWaiter} (first ∷ take 63 (filter wants_to_share others)) [] = rw shares at none in cc
      | inr alone ↦ let none' : ◌≡◌ {A = List LwWaiter} (first ∷ []) [] = rw alone at none in cc
    ]

-- Where as many of those who want to share are taken off as there are, all others are left, and nobody else.
none-left : (many : ℕ) (waiters : List LwWaiter) → length (filter wants_to_share waiters) ≤ many → without_sharers many waiters ≡ filter (λ (waiter : LwWaiter). not (wants_to_share waiter)) waiters
none-left zero [] few = refl
none-left (suc many) [] few = refl
none-left zero (first ∷ others) few =
    elim (cases_Bool (wants_to_share first)) [
      | inl shares ↦ let some : length (first ∷ filter wants_to_share others) ≤ 0 = rw shares at few in absurd (omega (arith, some))
      | inr alone ↦ let fewer : length (filter wants_to_share others) ≤ 0 = rw alone at few in rw alone (ap (λ left. first ∷ left) (none-left zero others fewer))
    ]
none-left (suc many) (first ∷ others) few =
    elim (cases_Bool (wants_to_share first)) [
      | inl shares ↦ let some : length (first ∷ filter wants_to_share others) ≤ suc many = rw shares at few in rw shares (none-left many others (omega (arith, some)))
      | inr alone ↦ let fewer : length (filter wants_to_share others) ≤ suc many = rw alone at few in rw alone (ap (λ left. first ∷ left) (none-left (suc many) others fewer))
    ]

pub wakeup-all_taken : (first : LwWaiter) (others : List LwWaiter) → wants_to_share first ≡ true → length (filter wants_to_share (first ∷ others)) ≤ MOST_TAKEN_OFF
    → taken_off (first ∷ others) ≡ filter wants_to_share (first ∷ others)
wakeup-all_taken first others shares few =
    let all : take MOST_TAKEN_OFF (filter wants_to_share (first ∷ others)) ≡ filter wants_to_share (first ∷ others) = take_all MOST_TAKEN_OFF (filter wants_to_share (first ∷ others)) few in
    cond-true (wants_to_share first) (take MOST_TAKEN_OFF (filter wants_to_share (first ∷ others))) (first ∷ []) shares ∙ all

pub wakeup-none_left : (first : LwWaiter) (others : List LwWaiter) → wants_to_share first ≡ true → length (filter wants_to_share (first ∷ others)) ≤ MOST_TAKEN_OFF
    → left_waiting (first ∷ others) ≡ filter (λ (waiter : LwWaiter). not (wants_to_share waiter)) (first ∷ others)
wakeup-none_left first others shares few =
    cond-true (wants_to_share first) (without_sharers MOST_TAKEN_OFF (first ∷ others)) others shares ∙ none-left MOST_TAKEN_OFF (first ∷ others) few
