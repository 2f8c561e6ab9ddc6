use Rattle.std.proofs.Common.{◌≡◌, ℕ, ◌+◌, ◌-◌, ◌<◌, true, false, ◌&&◌, nat_eq, List, sym, ap, ◌∙◌, inl, inr, arith}
use Rattle.std.specs.Prelude.{nat_lt}
use Rattle.std.proofs.lemmas.Bool.{cases_eq, and_parts, eq-eqb, false_from_ne_true}
use Rattle.modes_core.specs.declared.modes.Mode.{Mode}
use Rattle.modes_core.specs.declared.tags.Tag.{Tag}
use Rattle.modes_core.specs.Tag.{tag_eq, index_of}
use Rattle.modes_core.proofs.Lemmas.Conflicts.{tag_eq-same}
use Rattle.lock_table.specs.Put.{set_at}
use Rattle.lock_table.proofs.Lemmas.Put.{set_at-here, set_at-else}
use Rattle.lock_table.proofs.Lemmas.Lists.{any_weaker, any-counted}
use Rattle.lock_table.specs.Total.{total}
use Rattle.lock_world.specs.Counted.{Counted, counting, uncounting, passing, count_at, is_counted, is_past, AtMostOnce, counter}
use Rattle.lock_table.proofs.Lemmas.Totals.{total-same, total-change, total-least}
use Rattle.lock_world.proofs.Lemmas.Counters.Counting.{count_at-counting, count_at-counting_else}
use Rattle.lock_world.proofs.Lemmas.Counters.Uncounting.{count_at-uncounting, count_at-uncounting_else}
use Rattle.lock_world.proofs.Lemmas.Counters.Passing.{count_at-passing}

-- What the counters show.

-- One session's list changes: the sum follows it.
pub counter-change :
    (limit : ℕ) (counted : ℕ → List Counted) (session : ℕ) (list : List Counted) (index : ℕ) → session < limit
    → counter limit (set_at counted session list) index + count_at index (counted session) ≡ counter limit counted index + count_at index list
counter-change limit counted session list index below =
    let same : counter limit (set_at counted session list) index ≡ total limit (set_at (λ k. count_at index (counted k)) session (count_at index list)) = total-same limit _ _ (λ k _. at k) in
    let change = total-change limit (λ k. count_at index (counted k)) session (count_at index list) below in
    omega (arith, same, change) where
      at : (k : ℕ) → count_at index (set_at counted session list k) ≡ set_at (λ j. count_at index (counted j)) session (count_at index list) k
      at k =
          elim (cases_eq k session) [
            | inl is ↦ ap (count_at index) (set_at-here counted session list k is) ∙ sym (set_at-here (λ j. count_at index (counted j)) session (count_at index list) k is)
            | inr other ↦ ap (count_at index) (set_at-else counted session list k other) ∙ sym (set_at-else (λ j. count_at index (counted j)) session (count_at index list) k other)
          ]

-- What a session counts is one more at the index of its object, and nowhere else.
pub counter-counting :
    (limit : ℕ) (counted : ℕ → List Counted) (session : ℕ) (tag : Tag) (mode : Mode) → session < limit
    → counter limit (set_at counted session (counting (counted session) tag mode)) ≡ set_at (counter limit counted) (index_of tag) (counter limit counted (index_of tag) + 1)
counter-counting limit counted session tag mode below = λ i index. at index i where
  at : (index : ℕ) → counter limit (set_at counted session (counting (counted session) tag mode)) index ≡ set_at (counter limit counted) (index_of tag) (counter limit counted (index_of tag) + 1) index
  at index =
      let change = counter-change limit counted session (counting (counted session) tag mode) index below in
      elim (cases_eq index (index_of tag)) [
        | inl same ↦
            let more = count_at-counting (counted session) tag mode index (sym same) in
            let here : set_at (counter limit counted) (index_of tag) (counter limit counted (index_of tag) + 1) index ≡ counter limit counted (index_of tag) + 1 = set_at-here (counter limit counted) (index_of tag) (counter limit counted (index_of tag) + 1) index same in
            let old : counter limit counted index ≡ counter limit counted (index_of tag) = ap (counter limit counted) same in
            omega (arith, change, more, here, old)
        | inr other ↦
            let as_many = count_at-counting_else (counted session) tag mode index (λ e. other (sym e)) in
            let else : set_at (counter limit counted) (index_of tag) (counter limit counted (index_of tag) + 1) index ≡ counter limit counted index = set_at-else (counter limit counted) (index_of tag) (counter limit counted (index_of tag) + 1) index other in
            omega (arith, change, as_many, else)
      ]

-- What it counts no more is one less there.
pub counter-uncounting :
    (limit : ℕ) (counted : ℕ → List Counted) (session : ℕ) (tag : Tag) (mode : Mode) → session < limit → AtMostOnce (counted session) → is_counted (counted session) tag mode ≡ true
    → counter limit (set_at counted session (uncounting (counted session) tag mode)) ≡ set_at (counter limit counted) (index_of tag) (counter limit counted (index_of tag) - 1)
counter-uncounting limit counted session tag mode below once is = λ i index. at index i where
  at : (index : ℕ) → counter limit (set_at counted session (uncounting (counted session) tag mode)) index ≡ set_at (counter limit counted) (index_of tag) (counter limit counted (index_of tag) - 1) index
  at index =
      let change = counter-change limit counted session (uncounting (counted session) tag mode) index below in
      elim (cases_eq index (index_of tag)) [
        | inl same ↦
            let less = count_at-uncounting (counted session) tag mode index once is (sym same) in
            let here : set_at (counter limit counted) (index_of tag) (counter limit counted (index_of tag) - 1) index ≡ counter limit counted (index_of tag) - 1 = set_at-here (counter limit counted) (index_of tag) (counter limit counted (index_of tag) - 1) index same in
            let old : counter limit counted index ≡ counter limit counted (index_of tag) = ap (counter limit counted) same in
            omega (arith, change, less, here, old)
        | inr other ↦
            let as_many = count_at-uncounting_else (counted session) tag mode index (λ e. other (sym e)) in
            let else : set_at (counter limit counted) (index_of tag) (counter limit counted (index_of tag) - 1) index ≡ counter limit counted index = set_at-else (counter limit counted) (index_of tag) (counter limit counted (index_of tag) - 1) index other in
            omega (arith, change, as_many, else)
      ]

-- Going past a session changes no counter.
pub counter-passing :
    (limit : ℕ) (counted : ℕ → List Counted) (session : ℕ) (tag : Tag) (mode : Mode) (other : ℕ) → session < limit
    → counter limit (set_at counted session (passing (counted session) tag mode other)) ≡ counter limit counted
counter-passing limit counted session tag mode other below = λ i index. at index i where
  at : (index : ℕ) → counter limit (set_at counted session (passing (counted session) tag mode other)) index ≡ counter limit counted index
  at index =
      let change = counter-change limit counted session (passing (counted session) tag mode other) index below in
      let as_many = count_at-passing (counted session) tag mode other index in
      omega (arith, change, as_many)

-- Where a counter is 0 nobody has counted anything at its index,
pub counter-none : (limit : ℕ) (counted : ℕ → List Counted) (index session : ℕ) → counter limit counted index ≡ 0 → session < limit → count_at index (counted session) ≡ 0
counter-none limit counted index session none below = let least = total-least limit (λ k. count_at index (counted k)) session below in omega (arith, none, least)

-- and so nothing that is counted for an object there is past anybody.
pub is_past-none : (list : List Counted) (tag : Tag) (session : ℕ) → count_at (index_of tag) list ≡ 0 → is_past list tag session ≡ false
is_past-none list tag session none =
    false_from_ne_true (is_past list tag session) (λ past.
    let some : 0 < count_at (index_of tag) list = any-counted (λ (c : Counted). nat_eq (index_of c.tag) (index_of tag)) list
    (any_weaker (λ (c : Counted). tag_eq c.tag tag && nat_lt session c.position) (λ (c : Counted). nat_eq (index_of c.tag) (index_of tag)) list at_index past) in
    omega (arith, none, some)) where
      at_index : (c : Counted) → (tag_eq c.tag tag && nat_lt session c.position) ≡ true → nat_eq (index_of c.tag) (index_of tag) ≡ true
      at_index c is = eq-eqb (index_of c.tag) (index_of tag) (ap index_of (tag_eq-same c.tag tag (and_parts (tag_eq c.tag tag) (nat_lt session c.position) is).0))
