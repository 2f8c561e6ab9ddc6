-- The lowest number of a list of sessions, found one by one.
use Rattle.std.proofs.Common.{◌≡◌, ℕ, ◌+◌, ◌<◌, ◌≤◌, List, Some, length, unwrap_or, refl, sym, ap, ◌∙◌, inl, inr, arith}
use Rattle.std.specs.List.{slice_get, remove}
use Rattle.std.proofs.lemmas.List.Edits.{length-remove}
use Rattle.std.proofs.lemmas.Option.{slice_get_within}
use Rattle.std.proofs.lemmas.Bool.{cases_eq}
use Rattle.shared_rule.specs.Boards.{Seated}
use Rattle.lock_manager.specs.Sessions.{SessionView}
use Rattle.lock_manager.specs.Pools.{IsLowestBelow}

-- What two are equal to in their `Some` they are themselves.
same-of : {A : Type 0} {x y : A} → Some x ≡ Some y → x ≡ y
same-of {x = x} is = ap (λ o. unwrap_or o x) is

module _ {B : Type 0} (seat : B → Seated) where
  -- The first one is read in one way alone, at the same place.
  same-there :
      (free : List (SessionView B)) (i j : ℕ) (x y : SessionView B) → i ≡ j → slice_get free i ≡ Some x → slice_get free j ≡ Some y
      → (seat x.board).number ≡ (seat y.board).number
  same-there free i j x y same is_x is_y =
      ap (λ (s : SessionView B). (seat s.board).number) (same-of (sym is_x ∙ ap (slice_get free) same ∙ is_y))

  -- Of the first one alone it has the lowest number.
  pub lowest-first : (free : List (SessionView B)) → IsLowestBelow seat free 1 0
  lowest-first free lowest session other is below its =
      let here : 0 ≡ other = omega (arith, below) in
      let equal = same-there free 0 other lowest session here is its in
      omega (arith, equal)

  -- One more of them, whose number is no lower.
  pub lowest-stays :
      (free : List (SessionView B)) (n place : ℕ) (x y : SessionView B)
      → slice_get free place ≡ Some x → slice_get free n ≡ Some y → (seat x.board).number ≤ (seat y.board).number
      → IsLowestBelow seat free n place → IsLowestBelow seat free (n + 1) place
  lowest-stays free n place x y is_x is_y higher before lowest session other is less its =
      elim (cases_eq other n) [
        | inl same ↦
            let at = same-there free other n session y same its is_y in
            let first = same-there free place place lowest x refl is is_x in
            omega (arith, higher, at, first)
        | inr differs ↦ before lowest session other is (omega (arith, less, differs)) its
      ]

  -- One more of them, whose number is lower.
  pub lowest-moves :
      (free : List (SessionView B)) (n place : ℕ) (x y : SessionView B)
      → slice_get free place ≡ Some x → slice_get free n ≡ Some y → (seat y.board).number < (seat x.board).number
      → IsLowestBelow seat free n place → IsLowestBelow seat free (n + 1) n
  lowest-moves free n place x y is_x is_y lower before lowest session other is less its =
      let first = same-there free n n lowest y refl is is_y in
      elim (cases_eq other n) [
        | inl same ↦
            let at = same-there free other n session y same its is_y in
            omega (arith, at, first)
        | inr differs ↦
            let least = before x session other is_x (omega (arith, less, differs)) its in
            omega (arith, least, first, lower)
      ]

-- With one of them lent there is one fewer.
pub one-fewer :
    {A : Type 0} (free left : List A) (place : ℕ) (lent : A) → slice_get free place ≡ Some lent → left ≡ remove free place
    → length left + 1 ≡ length free
one-fewer free left place lent there is =
    let fewer = length-remove free place (slice_get_within free place lent there) in
    let same = ap length is in
    omega (arith, fewer, same)
