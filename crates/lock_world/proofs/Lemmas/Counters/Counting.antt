use Rattle.std.proofs.Common.{◌≡◌, ◌≢◌, ℕ, ◌+◌, ◌≤◌, Bool, true, false, cond, ◌&&◌, ◌||◌, nat_eq, List, [], ◌∷◌, refl, sym, ap, ◌∙◌, inl, inr, arith}
use Rattle.std.specs.Prelude.{nat_lt}
use Rattle.std.specs.List.{list_any, count_by}
use Rattle.std.proofs.lemmas.Bool.{cases_Bool, cases_eq, both_ways, and_parts, and_right, or_left, le-ltb, eq-eqb, ne_eqb, cond-true, cond-false}
use Rattle.std.proofs.lemmas.List.Folds.{list_any-append}
use Rattle.modes_core.specs.declared.modes.Mode.{Mode}
use Rattle.modes_core.specs.declared.tags.Tag.{Tag}
use Rattle.modes_core.specs.Mode.{mode_eq}
use Rattle.modes_core.specs.Tag.{tag_eq, index_of}
use Rattle.modes_core.proofs.Lemmas.Conflicts.{mode_eq-same, tag_eq-same}
use Rattle.lock_table.proofs.Lemmas.Lists.{counted-any}
use Rattle.lock_world.specs.Counted.{Counted, is_of, counting, count_at, is_counted, is_at, is_past, AtMostOnce}
use Rattle.lock_world.proofs.Lemmas.Counters.Lists.{count-push}

-- A strong lock is counted.

-- the new entry
abbrev entry : Tag → Mode → Counted
entry tag mode = record { tag = tag; mode = mode; position = 0 }

-- What is of a mode on an object has that tag and that mode.
pub is_of-same : (tag : Tag) (mode : Mode) (c : Counted) → is_of tag mode c ≡ true → (c.tag ≡ tag) × (c.mode ≡ mode)
is_of-same tag mode c is =
    let both = and_parts (tag_eq c.tag tag) (mode_eq c.mode mode) is in
    (tag_eq-same c.tag tag both.0, mode_eq-same c.mode mode both.1)

-- One more is counted, at the index of its object.
pub count_at-counting : (list : List Counted) (tag : Tag) (mode : Mode) (index : ℕ) → index_of tag ≡ index → count_at index (counting list tag mode) ≡ count_at index list + 1
count_at-counting list tag mode index same =
    count-push (λ (c : Counted). nat_eq (index_of c.tag) index) list (entry tag mode)
    ∙ ap (λ n. count_at index list + n) (cond-true {A = ℕ} (nat_eq (index_of tag) index) 1 0 (eq-eqb (index_of tag) index same))

-- At another index there are as many.
pub count_at-counting_else : (list : List Counted) (tag : Tag) (mode : Mode) (index : ℕ) → index_of tag ≢ index → count_at index (counting list tag mode) ≡ count_at index list
count_at-counting_else list tag mode index other =
    let sum = count-push (λ (c : Counted). nat_eq (index_of c.tag) index) list (entry tag mode) in
    let none : ◌≡◌ {A = ℕ} (cond (nat_eq (index_of tag) index) 1 0) 0 = cond-false (nat_eq (index_of tag) index) 1 0 (ne_eqb (index_of tag) index other) in
    omega (arith, sum, none)

pub is_past-counting : (list : List Counted) (tag : Tag) (mode : Mode) (object : Tag) (session : ℕ) → is_past (counting list tag mode) object session ≡ is_past list object session
is_past-counting list tag mode object session =
    let test = λ (c : Counted). tag_eq c.tag object && nat_lt session c.position in
    list_any-append test list (entry tag mode ∷ [])
    ∙ ap (λ b. list_any test list || (b || false)) (and_right (tag_eq tag object) (nat_lt session 0) (le-ltb session 0 (omega arith)))
    ∙ or_false (list_any test list) where
      or_false : (b : Bool) → (b || false) ≡ b
      or_false true = refl
      or_false false = refl

-- What was counted is where it was.
pub is_at-counting_stays :
    (list : List Counted) (tag : Tag) (mode : Mode) (position : ℕ) (object : Tag) (its : Mode) → is_at position list object its ≡ true → is_at position (counting list tag mode) object its ≡ true
is_at-counting_stays list tag mode position object its at =
    let test = λ (c : Counted). is_of object its c && nat_eq c.position position in
    list_any-append test list (entry tag mode ∷ []) ∙ or_left (list_any test list) (test (entry tag mode) || false) at

-- What was not counted is counted once.
pub AtMostOnce-counting : (list : List Counted) (tag : Tag) (mode : Mode) → is_counted list tag mode ≡ false → AtMostOnce list → AtMostOnce (counting list tag mode)
AtMostOnce-counting list tag mode new once object its =
    let sum = count-push (is_of object its) list (entry tag mode) in
    elim (cases_Bool (is_of object its (entry tag mode))) [
      | inr other ↦
          let none : ◌≡◌ {A = ℕ} (cond (is_of object its (entry tag mode)) 1 0) 0 = cond-false (is_of object its (entry tag mode)) 1 0 other in
          let old : count_by (is_of object its) list ≤ 1 = once object its in
          omega (arith, sum, none, old)
      | inl same ↦
          let one : ◌≡◌ {A = ℕ} (cond (is_of object its (entry tag mode)) 1 0) 1 = cond-true (is_of object its (entry tag mode)) 1 0 same in
          let old : count_by (is_of object its) list ≡ 0 = none_before (is_of-same object its (entry tag mode) same) in
          omega (arith, sum, one, old)
    ] where
      none_of : count_by (is_of tag mode) list ≡ 0
      none_of = elim (cases_eq (count_by (is_of tag mode) list) 0) [
        | inl none ↦ none
        | inr some ↦ absurd (both_ways (is_counted list tag mode) new (counted-any (is_of tag mode) list (omega (arith, some))))
      ]

      none_before : (tag ≡ object) × (mode ≡ its) → count_by (is_of object its) list ≡ 0
      none_before same = (λ i. count_by (is_of (sym same.0 i) (sym same.1 i)) list) ∙ none_of
