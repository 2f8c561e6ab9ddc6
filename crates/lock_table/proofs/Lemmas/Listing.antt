use Rattle.std.proofs.Common.{◌≡◌, ℕ, ◌+◌, ◌-◌, ◌<◌, ◌≤◌, Bool, true, false, List, [], ◌∷◌, ◌++◌, length, take, drop, get_or, arith, refl, sym, ap, ◌∙◌, inl, inr}
use Rattle.std.specs.List.{list_any}
use Rattle.std.specs.Prelude.{map, count_by, if◌then◌else◌, IsSorted, IsPermutation}
use Rattle.std.proofs.Math.Bool.{and-true, and-false}
use Rattle.std.proofs.lemmas.Bool.{cases_Bool}
use Rattle.std.proofs.lemmas.List.Folds.{list_any_none}
use Rattle.std.proofs.lemmas.Slice.{take-put_mid}
use Rattle.std.proofs.lemmas.List.{take-append-le, take_all, length-append}
use Rattle.std.proofs.lemmas.List.Sorted.{sum_by-IsPermutation}
use Rattle.std.proofs.Math.Seq.{take-append_seam, drop-append_seam}
use borrow.Rule.Slice.PartMut.{put_mid, mid_of}
use Rattle.lock_table.specs.declared.request.Request.{Request}
use Rattle.lock_table.specs.declared.rows.TableRow.{TableRow}
use Rattle.lock_table.specs.Request.{is_request_of}
use Rattle.lock_table.specs.declared.part_waits.PartWait.{PartWait}
use Rattle.lock_table.specs.PartView.{content_in, row_of}
use Rattle.lock_table.specs.PartWaits.{EachOnce, times_in, request_of, awaited_row_of}
use Rattle.lock_table.specs.Listing.{row_eq, has_row, row_cmp, IsListing}
use Rattle.lock_table.proofs.Lemmas.HoldLists.{count_by-cons, count_by-none, count_by-append}
use Rattle.lock_table.proofs.Lemmas.WaitLists.{awaits-in}
use Rattle.lock_table.proofs.Lemmas.Lists.{any-counted}

pub count_by-map : {X Y : Type 0} (p : Y → Bool) (f : X → Y) (xs : List X) → count_by p (map f xs) ≡ count_by (λ x. p (f x)) xs
count_by-map p f [] = refl
count_by-map p f (x ∷ xs) = rw (count_by-cons p (f x) (map f xs), count_by-cons (λ y. p (f y)) x xs, count_by-map p f xs) refl

pub count_by-same : {X : Type 0} (p q : X → Bool) (xs : List X) → ((x : X) → p x ≡ q x) → count_by p xs ≡ count_by q xs
count_by-same p q xs same = λ i. count_by (λ x. same x i) xs

-- What is there at most once is counted once or not at all.
pub once_or_not : {X : Type 0} (p : X → Bool) (xs : List X) → count_by p xs ≤ 1 → count_by p xs ≡ (if list_any p xs then 1 else 0)
once_or_not p xs at_most =
    elim (cases_Bool (list_any p xs)) [
      | inl some ↦ let at_least : 0 < count_by p xs = any-counted p xs some in rw some (omega arith)
      | inr none ↦ rw none (count_by-none p xs none)
    ]

-- No element passes a test that each fails.
count_by-failing : {X : Type 0} (p : X → Bool) (xs : List X) → ((x : X) → p x ≡ false) → count_by p xs ≡ 0
count_by-failing p xs fails = count_by-none p xs (list_any_none p xs (λ k d within. fails (get_or xs k d)))

-- The rows of the holds and of the waits, in the listing's order, are the listing of what they stand for.
pub IsListing-lists :
    (hs : List Request) (ws : List PartWait) (rows : List TableRow) → EachOnce hs ws → IsSorted row_cmp rows →
    IsPermutation (map row_of hs ++ map awaited_row_of ws) rows → IsListing (content_in hs ws) rows
IsListing-lists hs ws rows once sorted moved = record { in_order = sorted; each_once = at_row } where
  of_holds : TableRow → ℕ
  of_holds row = count_by (λ hold. row_eq row (row_of hold)) hs

  of_waits : TableRow → ℕ
  of_waits row = count_by (λ wait. row_eq row (awaited_row_of wait)) ws

  counted : (row : TableRow) → count_by (row_eq row) rows ≡ of_holds row + of_waits row
  counted row =
      sum_by-IsPermutation (λ other. if row_eq row other then 1 else 0) (map row_of hs ++ map awaited_row_of ws) rows moved
      ∙ count_by-append (row_eq row) (map row_of hs) (map awaited_row_of ws)
      ∙ rw (count_by-map (row_eq row) row_of hs, count_by-map (row_eq row) awaited_row_of ws) refl

  at_granted : (row : TableRow) → row.granted ≡ true → of_holds row + of_waits row ≡ (if has_row (content_in hs ws) row then 1 else 0)
  at_granted row granted =
      let held : of_holds row ≡ count_by (λ hold. is_request_of hold row.session row.tag row.mode) hs =
      count_by-same (λ hold. row_eq row (row_of hold)) (λ hold. is_request_of hold row.session row.tag row.mode) hs (λ hold. rw (granted, and-true) refl) in
      let awaited : of_waits row ≡ 0 =
      count_by-failing (λ wait. row_eq row (awaited_row_of wait)) ws (λ wait. rw (granted, and-false, and-false, and-false) refl) in
      let total : times_in hs ws row.session row.tag row.mode ≤ 1 = once row.session row.tag row.mode in
      let at_most : count_by (λ hold. is_request_of hold row.session row.tag row.mode) hs ≤ 1 = omega arith in
      let sum : of_holds row + of_waits row ≡ count_by (λ hold. is_request_of hold row.session row.tag row.mode) hs = omega arith in
      sum ∙ once_or_not (λ hold. is_request_of hold row.session row.tag row.mode) hs at_most ∙ rw granted refl

  at_awaited : (row : TableRow) → row.granted ≡ false → of_holds row + of_waits row ≡ (if has_row (content_in hs ws) row then 1 else 0)
  at_awaited row waits =
      let held : of_holds row ≡ 0 =
      count_by-failing (λ hold. row_eq row (row_of hold)) hs (λ hold. rw (waits, and-false, and-false, and-false) refl) in
      let awaited : of_waits row ≡ count_by (λ wait. is_request_of (request_of wait) row.session row.tag row.mode) ws =
      count_by-same (λ wait. row_eq row (awaited_row_of wait)) (λ wait. is_request_of (request_of wait) row.session row.tag row.mode) ws (λ wait. rw (waits, and-true) refl) in
      let total : times_in hs ws row.session row.tag row.mode ≤ 1 = once row.session row.tag row.mode in
      let at_most : count_by (λ wait. is_request_of (request_of wait) row.session row.tag row.mode) ws ≤ 1 = omega arith in
      let sum : of_holds row + of_waits row ≡ count_by (λ wait. is_request_of (request_of wait) row.session row.tag row.mode) ws = omega arith in
      sum ∙ once_or_not (λ wait. is_request_of (request_of wait) row.session row.tag row.mode) ws at_most
      ∙ rw waits (ap (λ b. if b then 1 else 0) (sym (awaits-in ws row.session row.tag row.mode)))

  at_row : (row : TableRow) → count_by (row_eq row) rows ≡ (if has_row (content_in hs ws) row then 1 else 0)
  at_row row =
      counted row ∙
      elim (cases_Bool row.granted) [
        | inl granted ↦ at_granted row granted
        | inr awaited ↦ at_awaited row awaited
      ]

-- What a list holds after its end was sorted: `old` was there before, and `added` was sorted.
pub sorted_behind :
    {X : Type 0} (old added sorted all rest : List X) (b k n : ℕ) →
    b ≡ length old → all ≡ old ++ added → n ≡ length all → length sorted ≡ length added →
    take n (put_mid b k all sorted ++ rest) ≡ old ++ sorted
sorted_behind old added sorted all rest b k n b-is all-is n-is same_length =
    let total : length all ≡ length old + length added = rw all-is (length-append old added) in
    let whole : length (put_mid b k all sorted) ≡ length (take b all) + (length sorted + length (drop k (drop b all))) =
    length-append (take b all) (sorted ++ drop k (drop b all)) ∙ ap (λ m. length (take b all) + m) (length-append sorted (drop k (drop b all))) in
    let front : take b all ≡ old = rw (all-is, b-is) (take-append_seam old added) in
    let front_length : length (take b all) ≡ length old = ap length front in
    take-append-le n (put_mid b k all sorted) rest (omega arith) ∙
    take-put_mid b k all sorted n (omega arith) (omega arith) ∙
    ap (λ xs. xs ++ sorted) front

-- What stands behind the old part of a list.
pub behind_old :
    {X : Type 0} (old added all : List X) (b k : ℕ) → b ≡ length old → all ≡ old ++ added → k ≡ length all - b → mid_of b k all ≡ added
behind_old old added all b k b-is all-is k-is =
    let total : length all ≡ length old + length added = rw all-is (length-append old added) in
    let tail : drop b all ≡ added = rw (all-is, b-is) (drop-append_seam old added) in
    rw tail (take_all k added (omega arith))
