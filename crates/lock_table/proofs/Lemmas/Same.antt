use Rattle.std.proofs.Common.{◌≡◌, ℕ, Bool, true, false, ◌&&◌, ◌==◌, refl, sym, ◌∙◌, inl, inr}
use Rattle.std.proofs.lemmas.Bool.{cases_Bool, eqb-true, eq-eqb, false≢true}
use Rattle.modes_core.specs.declared.modes.Mode.{Mode}
use Rattle.modes_core.specs.declared.tags.Tag.{Tag}
use Rattle.modes_core.specs.Mode.{mode_eq}
use Rattle.modes_core.specs.Tag.{tag_eq}
use Rattle.modes_core.proofs.Lemmas.Conflicts.{both_true, tag_eq-same, tag_eq-refl, mode_eq-same, mode_eq-refl}
use Rattle.lock_table.specs.Content.{Holds, set_hold}
use Rattle.lock_table.proofs.Lemmas.Holds.{set_hold-at, here, elsewhere}

-- Whether two triples of a session, an object and a mode are the same one.
abbrev pub same_triple : ℕ → Tag → Mode → ℕ → Tag → Mode → Bool
same_triple s o m s' o' m' = (s == s') && (tag_eq o o' && mode_eq m m')

pub record SameTriple (s : ℕ) (o : Tag) (m : Mode) (s' : ℕ) (o' : Tag) (m' : Mode) : Type 0 where
  pub session : s ≡ s'
  pub tag : o ≡ o'
  pub mode : m ≡ m'

pub SameTriple-from : (s : ℕ) (o : Tag) (m : Mode) (s' : ℕ) (o' : Tag) (m' : Mode) → same_triple s o m s' o' m' ≡ true → SameTriple s o m s' o' m'
SameTriple-from s o m s' o' m' e =
    let a = both_true _ _ e in
    let b = both_true _ _ a.1 in
    record { session = eqb-true s s' a.0; tag = tag_eq-same o o' b.0; mode = mode_eq-same m m' b.1 }

pub same_triple-refl : (s : ℕ) (o : Tag) (m : Mode) → same_triple s o m s o m ≡ true
same_triple-refl s o m = rw (eq-eqb s s refl, tag_eq-refl o, mode_eq-refl m) refl

pub same_triple-comm : (s : ℕ) (o : Tag) (m : Mode) (s' : ℕ) (o' : Tag) (m' : Mode) → same_triple s o m s' o' m' ≡ same_triple s' o' m' s o m
same_triple-comm s o m s' o' m' =
    elim (cases_Bool (same_triple s o m s' o' m')) [
      | inl alike ↦
          let same = SameTriple-from s o m s' o' m' alike in
          alike ∙ sym (rw (same.session, same.tag, same.mode) (same_triple-refl s' o' m'))
      | inr apart ↦
          elim (cases_Bool (same_triple s' o' m' s o m)) [
            | inl alike ↦
                let same = SameTriple-from s' o' m' s o m alike in
                absurd (false≢true (sym apart ∙ rw (same.session, same.tag, same.mode) (same_triple-refl s o m)))
            | inr apart_too ↦ apart ∙ sym apart_too
          ]
    ]

-- A table of holds changed at one triple: there it says what was put, elsewhere what it said.
pub set_hold-here : (holds : Holds) (s : ℕ) (o : Tag) (m : Mode) (b : Bool) → set_hold holds s o m b s o m ≡ b
set_hold-here holds s o m b =
    elim (set_hold-at holds s o m b s o m) [
      | here it is ↦ is
      | elsewhere not_it is ↦ absurd (not_it (record { session = refl; tag = refl; mode = refl }))
    ]

pub set_hold-else :
    (holds : Holds) (s : ℕ) (o : Tag) (m : Mode) (b : Bool) (s' : ℕ) (o' : Tag) (m' : Mode) → same_triple s' o' m' s o m ≡ false → set_hold holds s o m b s' o' m' ≡ holds s' o' m'
set_hold-else holds s o m b s' o' m' other =
    elim (set_hold-at holds s o m b s' o' m') [
      | here it is ↦ absurd (false≢true (sym other ∙ rw (it.session, it.tag, it.mode) (same_triple-refl s o m)))
      | elsewhere not_it is ↦ is
    ]
