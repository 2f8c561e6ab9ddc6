use Rattle.std.proofs.Common.{◌≡◌, ◌≢◌, ℕ, ◌+◌, ◌*◌, ◌<◌, ◌≤◌, false, not, ◌||◌, ◌&&◌, ◌==◌, List, [], ◌∷◌, length, get_or, slice_index, sum, arith, refl, sym, ap, ◌∙◌, inl, inr, length-set}
use Rattle.std.specs.Prelude.{if◌then◌else◌}
use Rattle.std.proofs.Math.ListN.{set}
use Rattle.std.proofs.lemmas.Bool.{cases_eq, cases_lt, cases_Bool, eq-eqb, ne_eqb, eqb-true, cond-true, cond-false}
use Rattle.std.proofs.lemmas.List.{get_or-set_same, get_or-set_other, get_or_default, get_or-replicate, get_or_past}
use Rattle.std.proofs.lemmas.List.Sums.{sum_by-set, sum_by-le, get_or-le-sum_by}
use Rattle.modes_core.specs.declared.modes.Mode.{Mode}
use Rattle.modes_core.specs.declared.modes.Mode.TheVariants.{AccessShare, RowShare, RowExclusive, ShareUpdateExclusive, Share, ShareRowExclusive, Exclusive, AccessExclusive}
use Rattle.modes_core.specs.Mode.{number_of, mode_eq}
use Rattle.modes_core.specs.ModeSet.{set_has}
use Rattle.lock_table.specs.Put.{put}
use Rattle.lock_records.specs.Counting.{total_of}
use Rattle.lock_records.specs.Tally.{counts_in, most_tallied, IsTally}

-- A mode's number is 1 to 8.
pub number-within : (mode : Mode) → (0 < number_of mode) × (number_of mode < 9)
number-within AccessShare = (omega arith, omega arith)
number-within RowShare = (omega arith, omega arith)
number-within RowExclusive = (omega arith, omega arith)
number-within ShareUpdateExclusive = (omega arith, omega arith)
number-within Share = (omega arith, omega arith)
number-within ShareRowExclusive = (omega arith, omega arith)
number-within Exclusive = (omega arith, omega arith)
number-within AccessExclusive = (omega arith, omega arith)

-- A list of counts written at a mode has the counts changed there.
counts-set_at : (xs : List ℕ) (mode : Mode) (v : ℕ) → length xs ≡ 9 → (m : Mode) → counts_in (set xs (number_of mode) v) m ≡ put mode_eq (counts_in xs) mode v m
counts-set_at xs mode v nine m =
    elim (cases_eq (number_of m) (number_of mode)) [
      | inl same ↦
          ap (λ k. get_or (set xs (number_of mode) v) k 0) same
          ∙ get_or-set_same xs (number_of mode) v 0 (let within : number_of mode < 9 = (number-within mode).1 in omega arith)
          ∙ sym (cond-true (mode_eq m mode) v (counts_in xs m) (eq-eqb _ _ same))
      | inr other ↦ get_or-set_other xs (number_of mode) (number_of m) v 0 other ∙ sym (cond-false (mode_eq m mode) v (counts_in xs m) (ne_eqb _ _ other))
    ]

pub counts-set : (xs : List ℕ) (mode : Mode) (v : ℕ) → length xs ≡ 9 → counts_in (set xs (number_of mode) v) ≡ put mode_eq (counts_in xs) mode v
counts-set xs mode v nine = λ i m. counts-set_at xs mode v nine m i

-- A count written, with the total and the mask that go with it.
pub IsTally-set :
    (xs : List ℕ) (total mask : ℕ) (mode : Mode) (v total' mask' : ℕ) → IsTally xs total mask → v ≤ most_tallied → total' + counts_in xs mode ≡ total + v →
    ((m : Mode) → set_has mask' m ≡ (if mode_eq m mode then not (v == 0) else set_has mask m)) → IsTally (set xs (number_of mode) v) total' mask'
IsTally-set xs total mask mode v total' mask' is small sum_is mask_is =
    let in_range = number-within mode in
    let nine = is.nine in
    let within : number_of mode < length xs = omega arith in
    record {
      unused = let other : 0 ≢ number_of mode = λ e. omega arith in get_or-set_other xs (number_of mode) 0 v 0 other ∙ is.unused;
      nine = length-set xs (number_of mode) v ∙ is.nine;
      each = each within;
      summed = omega (arith, sum_by-set (λ x. x) xs (number_of mode) v 0 within, is.summed);
      modes = modes;
    } where
      each : number_of mode < length xs → (k : ℕ) → slice_index (set xs (number_of mode) v) k ≤ most_tallied
      each within k =
          elim (cases_eq k (number_of mode)) [
            | inl same ↦ rw (same, get_or-set_same xs (number_of mode) v 0 within) small
            | inr other ↦ rw (get_or-set_other xs (number_of mode) k v 0 other) (is.each k)
          ]

      modes : (m : Mode) → set_has mask' m ≡ not (counts_in (set xs (number_of mode) v) m == 0)
      modes m =
          mask_is m ∙ elim (cases_Bool (mode_eq m mode)) [
            | inl same ↦ rw (counts-set_at xs mode v is.nine m, same) refl
            | inr other ↦ rw (counts-set_at xs mode v is.nine m, other) (is.modes m)
          ]

-- Nine small numbers have a small sum, which is at least each of them.
pub sum-small : (xs : List ℕ) → length xs ≡ 9 → ((k : ℕ) → slice_index xs k ≤ most_tallied) → sum xs ≤ 9 * most_tallied
sum-small xs nine each =
    let all : sum xs ≤ length xs * most_tallied = sum_by-le (λ x. x) most_tallied xs (λ k d within. rw (get_or_default xs k d 0 within) (each k)) in
    omega arith

pub sum-least : (xs : List ℕ) (mode : Mode) → length xs ≡ 9 → counts_in xs mode ≤ sum xs
sum-least xs mode nine =
    let within : number_of mode < 9 = (number-within mode).1 in
    get_or-le-sum_by (λ x. x) xs (number_of mode) 0 (omega arith)

-- The mask with one more mode, and with one less.
pub mask-with : (old new : ℕ) (mode : Mode) (n : ℕ) → set_has new ≡ (λ other. mode_eq other mode || set_has old other) →
    (m : Mode) → set_has new m ≡ (if mode_eq m mode then not (n + 1 == 0) else set_has old m)
mask-with old new mode n is m =
    ap (λ f. f m) is ∙ elim (cases_Bool (mode_eq m mode)) [
      | inl same ↦ let more : (n + 1 == 0) ≡ false = ne_eqb (n + 1) 0 (λ e. omega arith) in rw (same, more) refl
      | inr other ↦ rw other refl
    ]

pub mask-without : (old new : ℕ) (mode : Mode) (n : ℕ) → n ≡ 0 → set_has new ≡ (λ other. not (mode_eq other mode) && set_has old other) →
    (m : Mode) → set_has new m ≡ (if mode_eq m mode then not (n == 0) else set_has old m)
mask-without old new mode n none is m =
    ap (λ f. f m) is ∙ elim (cases_Bool (mode_eq m mode)) [
      | inl same ↦ rw (same, none) refl
      | inr other ↦ rw other refl
    ]

-- A mask that has the mode, of which some are left, needs no change.
pub mask-same : (xs : List ℕ) (total mask : ℕ) (mode : Mode) (n : ℕ) → IsTally xs total mask → 0 < counts_in xs mode → n ≢ 0 →
    (m : Mode) → set_has mask m ≡ (if mode_eq m mode then not (n == 0) else set_has mask m)
mask-same xs total mask mode n is some left m =
    elim (cases_Bool (mode_eq m mode)) [
      | inl same ↦
          let e : number_of m ≡ number_of mode = eqb-true _ _ same in
          let there : counts_in xs m ≢ 0 = λ none. let at : counts_in xs mode ≡ 0 = ap (λ k. get_or xs k 0) (sym e) ∙ none in omega arith in
          let more : (n == 0) ≡ false = ne_eqb n 0 left in
          rw (same, more) (is.modes m ∙ ap not (ne_eqb (counts_in xs m) 0 there))
      | inr other ↦ rw other refl
    ]

-- A list of nothing.
abbrev nothing : List ℕ
nothing = 0 ∷ 0 ∷ 0 ∷ 0 ∷ 0 ∷ 0 ∷ 0 ∷ 0 ∷ 0 ∷ []

pub none-there : (k : ℕ) → get_or nothing k 0 ≡ 0
none-there k =
    elim (cases_lt k 9) [
      | inl within ↦ get_or-replicate 9 k 0 0 within
      | inr past ↦ get_or_past nothing k 0 past
    ]

pub IsTally-new : (mask : ℕ) → set_has mask ≡ (λ other. false) → IsTally nothing 0 mask
IsTally-new mask none = record {
  unused = refl;
  nine = refl;
  each = λ k. rw (none-there k) (omega arith);
  summed = refl;
  modes = λ mode. ap (λ f. f mode) none ∙ rw (none-there (number_of mode)) refl;
}

-- The sum of a list is that of the counts of the modes, where its first place is unused.
pub sum-modes : (xs : List ℕ) → length xs ≡ 9 → slice_index xs 0 ≡ 0 → sum xs ≡ total_of (counts_in xs)
sum-modes (a ∷ b ∷ c ∷ d ∷ e ∷ f ∷ g ∷ h ∷ i ∷ []) nine unused = omega arith
sum-modes [] nine unused = absurd (omega arith)
sum-modes (a ∷ []) nine unused = absurd (omega arith)
sum-modes (a ∷ b ∷ []) nine unused = absurd (omega arith)
sum-modes (a ∷ b ∷ c ∷ []) nine unused = absurd (omega arith)
sum-modes (a ∷ b ∷ c ∷ d ∷ []) nine unused = absurd (omega arith)
sum-modes (a ∷ b ∷ c ∷ d ∷ e ∷ []) nine unused = absurd (omega arith)
sum-modes (a ∷ b ∷ c ∷ d ∷ e ∷ f ∷ []) nine unused = absurd (omega arith)
sum-modes (a ∷ b ∷ c ∷ d ∷ e ∷ f ∷ g ∷ []) nine unused = absurd (omega arith)
sum-modes (a ∷ b ∷ c ∷ d ∷ e ∷ f ∷ g ∷ h ∷ []) nine unused = absurd (omega arith)
sum-modes (a ∷ b ∷ c ∷ d ∷ e ∷ f ∷ g ∷ h ∷ i ∷ j ∷ more) nine unused = absurd (omega arith)
