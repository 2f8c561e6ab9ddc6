use Rattle.std.proofs.Common.{◌≡◌, ℕ, ◌+◌, ◌==◌, Bool, true, false, List, [], ◌∷◌, ◌++◌, refl, sym, ap, ◌∙◌}
use Rattle.std.specs.Prelude.{not, ◌&&◌, if◌then◌else◌}
use Rattle.std.proofs.lemmas.Bool.{or_parts, and_from, or_left}
use Rattle.std.proofs.Common.{eq-eqb}
use Rattle.modes_core.specs.declared.modes.Mode.{Mode}
use Rattle.modes_core.specs.declared.tags.Tag.{Tag}
use Rattle.modes_core.specs.Mode.{mode_eq}
use Rattle.modes_core.specs.Tag.{tag_eq}
use Rattle.modes_core.proofs.Lemmas.Conflicts.{tag_eq-refl, mode_eq-refl}
use Rattle.lock_world.specs.Counted.{Counted, is_of, is_counted, passing, uncounting}

-- What counting a strong lock behind others makes of the list.

-- the strong lock, counted and at this position
abbrev pub counted_at : Tag → Mode → ℕ → Counted
counted_at tag mode position = record { tag = tag; mode = mode; position = position }

pub counted_at-is : (tag : Tag) (mode : Mode) (position : ℕ) → is_of tag mode (counted_at tag mode position) ≡ true
counted_at-is tag mode position = and_from (tag_eq tag tag) (mode_eq mode mode) (tag_eq-refl tag) (mode_eq-refl mode)

-- The last one alone goes past the session that is next,
pub passing-last :
    (list : List Counted) (tag : Tag) (mode : Mode) (position : ℕ) → is_counted list tag mode ≡ false
    → passing (list ++ counted_at tag mode position ∷ []) tag mode position
    ≡ list ++ counted_at tag mode (position + 1) ∷ []
passing-last [] tag mode position none =
    ap (λ (c : Counted). c ∷ []) (at (is_of tag mode (counted_at tag mode position) && (position == position))
    (and_from (is_of tag mode (counted_at tag mode position)) (position == position) (counted_at-is tag mode position)
    (eq-eqb position position refl))) where
      at : (b : Bool) → b ≡ true → (if b then counted_at tag mode (position + 1) else counted_at tag mode position)
          ≡ counted_at tag mode (position + 1)
      at true is = refl
      at false is = absurd (Rattle.std.proofs.lemmas.Bool.false≢true is)
passing-last (x ∷ list) tag mode position none =
    let parts = or_parts (is_of tag mode x) (is_counted list tag mode) none in
    ap (λ (c : Counted). c ∷ passing (list ++ counted_at tag mode position ∷ []) tag mode position)
    (at (is_of tag mode x) parts.0)
    ∙ ap (λ (cs : List Counted). x ∷ cs) (passing-last list tag mode position parts.1) where
      at : (b : Bool) → b ≡ false
          → (if b && (x.position == position) then record x { position = position + 1 } else x) ≡ x
      at false is = refl
      at true is = absurd (Rattle.std.proofs.lemmas.Bool.false≢true (sym is))

-- and counting it no more leaves the others.
pub uncounting-last :
    (list : List Counted) (tag : Tag) (mode : Mode) (position : ℕ) → is_counted list tag mode ≡ false
    → uncounting (list ++ counted_at tag mode position ∷ []) tag mode ≡ list
uncounting-last [] tag mode position none = at (is_of tag mode (counted_at tag mode position))
    (counted_at-is tag mode position) where
      at : (b : Bool) → b ≡ true → (if not b then counted_at tag mode position ∷ [] else []) ≡ []
      at true is = refl
      at false is = absurd (Rattle.std.proofs.lemmas.Bool.false≢true is)
uncounting-last (x ∷ list) tag mode position none =
    let parts = or_parts (is_of tag mode x) (is_counted list tag mode) none in
    at (is_of tag mode x) parts.0 ∙ ap (λ (cs : List Counted). x ∷ cs)
    (uncounting-last list tag mode position parts.1) where
      rest : List Counted
      rest = uncounting (list ++ counted_at tag mode position ∷ []) tag mode

      at : (b : Bool) → b ≡ false → (if not b then x ∷ rest else rest) ≡ x ∷ rest
      at false is = refl
      at true is = absurd (Rattle.std.proofs.lemmas.Bool.false≢true (sym is))

-- The strong lock that is last in the list is counted.
pub is_counted-last : (list : List Counted) (tag : Tag) (mode : Mode) (position : ℕ)
    → is_counted (list ++ counted_at tag mode position ∷ []) tag mode ≡ true
is_counted-last [] tag mode position = or_left (is_of tag mode (counted_at tag mode position)) false
    (counted_at-is tag mode position)
is_counted-last (x ∷ list) tag mode position =
    Rattle.std.proofs.lemmas.Bool.or_right (is_of tag mode x)
    (is_counted (list ++ counted_at tag mode position ∷ []) tag mode) (is_counted-last list tag mode position)
