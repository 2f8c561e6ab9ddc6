use Rattle.std.proofs.Common.{◌≡◌, ◌-◌, Bool, true, false, not, ◌&&◌, ◌||◌, nat_le, arith, get_or, refl, sym, ap, ◌∙◌}
use Rattle.std.specs.List.{list_any}
use Rattle.std.proofs.lemmas.Bool.{false≢true, eqb-true}
use Rattle.std.proofs.lemmas.Bool.Decides.{nat_tests}
use Rattle.modes_core.specs.declared.modes.Mode.{Mode}
use Rattle.modes_core.specs.declared.modes.Mode.TheVariants.{AccessShare, RowShare, RowExclusive, ShareUpdateExclusive, Share, ShareRowExclusive, Exclusive, AccessExclusive}
use Rattle.modes_core.specs.declared.tags.Tag.{Tag}
use Rattle.modes_core.specs.declared.tags.Tag.TheVariants.{Relation, Object, Advisory}
use Rattle.modes_core.specs.Mode.{number_of, mode_eq}
use Rattle.modes_core.specs.ModeSet.{all_modes}
use Rattle.modes_core.specs.Conflict.{conflict}
use Rattle.modes_core.specs.Tag.{tag_eq}
use Rattle.modes_core.proofs.Lemmas.Masks.{none_passes}

not_false : (b : Bool) → not b ≡ false → b ≡ true
not_false true e = refl
not_false false e = absurd (false≢true (sym e))

-- whether two tests answer alike
abbrev pub alike : Bool → Bool → Bool
alike true b = b
alike false b = not b

alike-same : (a b : Bool) → alike a b ≡ true → a ≡ b
alike-same true true e = refl
alike-same true false e = sym e
alike-same false true e = e
alike-same false false e = refl

-- A test that no mode fails holds of each one. The premise computes, so its proof is `refl`.
pub each_mode : (p : Mode → Bool) → list_any (λ m. not (p m)) all_modes ≡ false → (m : Mode) → p m ≡ true
each_mode p none m = not_false (p m) (none_passes (λ n. not (p n)) none m)

-- A test that no pair of modes fails holds of each pair.
pub each_pair :
    (p : Mode → Mode → Bool) → list_any (λ m. list_any (λ n. not (p m n)) all_modes) all_modes ≡ false → (m n : Mode) → p m n ≡ true
each_pair p none m = each_mode (p m) (none_passes (λ k. list_any (λ n. not (p k n)) all_modes) none m)

-- Two tests of pairs of modes that agree on each pair.
pub agree : (p q : Mode → Mode → Bool) → list_any (λ m. list_any (λ n. not (alike (p m n) (q m n))) all_modes) all_modes ≡ false → (m n : Mode) → p m n ≡ q m n
agree p q none m n = alike-same (p m n) (q m n) (each_pair (λ m n. alike (p m n) (q m n)) none m n)

-- Conflict goes both ways.
pub conflict_comm : (m n : Mode) → conflict m n ≡ conflict n m
conflict_comm = agree conflict (λ m n. conflict n m) refl

-- A mode with a number of at most 3 conflicts only with modes numbered 5 and more.
pub weak-conflict : (m n : Mode) → nat_le (number_of m) 3 ≡ true → conflict m n ≡ true → nat_le 5 (number_of n) ≡ true
weak-conflict m n weak clash = part _ _ _ (each_pair (λ m n. not (nat_le (number_of m) 3) || (not (conflict m n) || nat_le 5 (number_of n))) refl m n) weak clash where
  part : (a b c : Bool) → (not a || (not b || c)) ≡ true → a ≡ true → b ≡ true → c ≡ true
  part true true c e p q = e
  part true false c e p q = absurd (false≢true q)
  part false b c e p q = absurd (false≢true p)

-- A mode is the same as itself, and modes that the test takes for the same are equal.
pub mode_eq-refl : (m : Mode) → mode_eq m m ≡ true
mode_eq-refl m = each_mode (λ m. mode_eq m m) refl m

numbered : (m : Mode) → get_or all_modes (number_of m - 1) AccessShare ≡ m
numbered AccessShare = refl
numbered RowShare = refl
numbered RowExclusive = refl
numbered ShareUpdateExclusive = refl
numbered Share = refl
numbered ShareRowExclusive = refl
numbered Exclusive = refl
numbered AccessExclusive = refl

pub number_of-same : (m n : Mode) → number_of m ≡ number_of n → m ≡ n
number_of-same m n e = sym (numbered m) ∙ ap (λ k. get_or all_modes (k - 1) AccessShare) e ∙ numbered n

pub mode_eq-same : (m n : Mode) → mode_eq m n ≡ true → m ≡ n
mode_eq-same m n e = number_of-same m n (eqb-true _ _ e)

-- The parts of a test that both hold.
pub both_true : (a b : Bool) → (a && b) ≡ true → (a ≡ true) × (b ≡ true)
both_true true b e = (refl, e)
both_true false b e = absurd (false≢true e)

-- The test of equal tags answers as equality does.
pub tag_eq-refl : (x : Tag) → tag_eq x x ≡ true
tag_eq-refl (Relation d r) = grind (arith, nat_tests)
tag_eq-refl (Object s d c o) = grind (arith, nat_tests)
tag_eq-refl (Advisory s d k l) = grind (arith, nat_tests)

pub tag_eq-same : (x y : Tag) → tag_eq x y ≡ true → x ≡ y
tag_eq-same (Relation d r) (Relation d' r') e =
    let both = both_true _ _ e in
    let first : d ≡ d' = eqb-true d d' both.0 in
    let second : r ≡ r' = eqb-true r r' both.1 in
    λ i. Relation (first i) (second i)
tag_eq-same (Object s d c o) (Object s' d' c' o') e =
    let a = both_true _ _ e in
    let b = both_true _ _ a.1 in
    let f = both_true _ _ b.1 in
    let first : s ≡ s' = eqb-true s s' a.0 in
    let second : d ≡ d' = eqb-true d d' b.0 in
    let third : c ≡ c' = eqb-true c c' f.0 in
    let fourth : o ≡ o' = eqb-true o o' f.1 in
    λ i. Object (first i) (second i) (third i) (fourth i)
tag_eq-same (Advisory s d k l) (Advisory s' d' k' l') e =
    let a = both_true _ _ e in
    let b = both_true _ _ a.1 in
    let f = both_true _ _ b.1 in
    let first : s ≡ s' = eqb-true s s' a.0 in
    let second : d ≡ d' = eqb-true d d' b.0 in
    let third : k ≡ k' = eqb-true k k' f.0 in
    let fourth : l ≡ l' = eqb-true l l' f.1 in
    λ i. Advisory (first i) (second i) (third i) (fourth i)
tag_eq-same (Relation d r) (Object s' d' c' o') e = absurd (false≢true e)
tag_eq-same (Object s d c o) (Relation d' r') e = absurd (false≢true e)
tag_eq-same (Relation d r) (Advisory s' d' k' l') e = absurd (false≢true e)
tag_eq-same (Advisory s d k l) (Relation d' r') e = absurd (false≢true e)
tag_eq-same (Object s d c o) (Advisory s' d' k' l') e = absurd (false≢true e)
tag_eq-same (Advisory s d k l) (Object s' d' c' o') e = absurd (false≢true e)
