use Rattle.std.proofs.Common.{◌≡◌, ◌≢◌, ℕ, ◌+◌, ◌<◌, ◌≤◌, Bool, true, false, not, ◌&&◌, nat_eq, cond, List, sym, ap, ◌∙◌, refl, arith}
use Rattle.std.specs.Prelude.{filter, nat_lt}
use Rattle.std.specs.List.{count_by}
use Rattle.std.proofs.lemmas.Bool.{and_parts, false_from_ne_true, not_from_false, eq-eqb, ne_eqb}
use Rattle.std.proofs.lemmas.List.Filters.{sum_by-filter_both}
use Rattle.std.proofs.lemmas.Map.Views.{any-filter_same}
use Rattle.modes_core.specs.declared.modes.Mode.{Mode}
use Rattle.modes_core.specs.declared.tags.Tag.{Tag}
use Rattle.modes_core.specs.Tag.{tag_eq, index_of}
use Rattle.lock_table.proofs.Lemmas.Lists.{any-counted}
use Rattle.lock_world.specs.Counted.{Counted, is_of, uncounting, count_at, is_counted, is_at, is_past, AtMostOnce}
use Rattle.lock_world.proofs.Lemmas.Counters.Lists.{any-filter, count-filter}
use Rattle.lock_world.proofs.Lemmas.Counters.Counting.{is_of-same}

-- A strong lock is counted no more.

-- What is left and what was taken out are all.
parts : (p : Counted → Bool) (list : List Counted) (tag : Tag) (mode : Mode) → count_by p (uncounting list tag mode) + count_by p (filter (is_of tag mode) list) ≡ count_by p list
parts p list tag mode = sum_by-filter_both (λ (c : Counted). not (is_of tag mode c)) (is_of tag mode) (λ c. twice (is_of tag mode c)) (λ (c : Counted). cond (p c) 1 0) list where
  twice : (b : Bool) → b ≡ not (not b)
  twice true = refl
  twice false = refl

-- How many of the lock there were at an index.
taken_out : (list : List Counted) (tag : Tag) (mode : Mode) (index : ℕ) (b : Bool) → nat_eq (index_of tag) index ≡ b → count_at index (filter (is_of tag mode) list) ≡ cond b (count_by (is_of tag mode) list) 0
taken_out list tag mode index b is =
    count-filter (is_of tag mode) (λ (c : Counted). nat_eq (index_of c.tag) index) b list
    (λ c its. ap (λ t. nat_eq (index_of t) index) (is_of-same tag mode c its).0 ∙ is)

-- One less is counted, at the index of its object.
pub count_at-uncounting :
    (list : List Counted) (tag : Tag) (mode : Mode) (index : ℕ) → AtMostOnce list → is_counted list tag mode ≡ true → index_of tag ≡ index → count_at index (uncounting list tag mode) + 1 ≡ count_at index list
count_at-uncounting list tag mode index once counted same =
    let all = parts (λ (c : Counted). nat_eq (index_of c.tag) index) list tag mode in
    let out : count_at index (filter (is_of tag mode) list) ≡ count_by (is_of tag mode) list = taken_out list tag mode index true (eq-eqb (index_of tag) index same) in
    let some : 0 < count_by (is_of tag mode) list = any-counted (is_of tag mode) list counted in
    let most : count_by (is_of tag mode) list ≤ 1 = once tag mode in
    omega (arith, all, out, some, most)

-- At another index there are as many.
pub count_at-uncounting_else : (list : List Counted) (tag : Tag) (mode : Mode) (index : ℕ) → index_of tag ≢ index → count_at index (uncounting list tag mode) ≡ count_at index list
count_at-uncounting_else list tag mode index other =
    let all = parts (λ (c : Counted). nat_eq (index_of c.tag) index) list tag mode in
    let out : count_at index (filter (is_of tag mode) list) ≡ 0 = taken_out list tag mode index false (ne_eqb (index_of tag) index other) in
    omega (arith, all, out)

-- What is left is past nobody whom it was not past.
pub is_past-uncounting : (list : List Counted) (tag : Tag) (mode : Mode) (object : Tag) (session : ℕ) → is_past (uncounting list tag mode) object session ≡ true → is_past list object session ≡ true
is_past-uncounting list tag mode object session past =
    any-filter (λ (c : Counted). not (is_of tag mode c)) (λ (c : Counted). tag_eq c.tag object && nat_lt session c.position) list past

-- Another lock is where it was.
pub is_at-uncounting_else :
    (list : List Counted) (tag : Tag) (mode : Mode) (position : ℕ) (object : Tag) (its : Mode) → ((object ≡ tag) × (its ≡ mode) → ⊥)
    → is_at position (uncounting list tag mode) object its ≡ is_at position list object its
is_at-uncounting_else list tag mode position object its other =
    any-filter_same (λ (c : Counted). is_of object its c && nat_eq c.position position) (λ (c : Counted). not (is_of tag mode c)) true
    (λ c at. not_from_false (is_of tag mode c) (false_from_ne_true (is_of tag mode c) (λ is.
    let one = is_of-same object its c (and_parts (is_of object its c) (nat_eq c.position position) at).0 in
    let two = is_of-same tag mode c is in
    other (sym one.0 ∙ two.0, sym one.1 ∙ two.1)))) list

-- Each is still counted once at most.
pub AtMostOnce-uncounting : (list : List Counted) (tag : Tag) (mode : Mode) → AtMostOnce list → AtMostOnce (uncounting list tag mode)
AtMostOnce-uncounting list tag mode once object its =
    let all = parts (is_of object its) list tag mode in
    let old : count_by (is_of object its) list ≤ 1 = once object its in
    omega (arith, all, old)
