use Rattle.std.proofs.Common.{◌≡◌, ◌≢◌, ℕ, zero, suc, ◌+◌, ◌<◌, ◌≤◌, ◌^◌, Bool, true, false, nat_le, List, ◌++◌}
use Rattle.std.proofs.Common.{refl, sym, ap, ◌∙◌, inl, inr, arith}
use Rattle.std.specs.Prelude.{◌==◌, ◌&&◌, ◌||◌, if◌then◌else◌}
use Rattle.std.proofs.lemmas.Bool.{cases_Bool, cases_eq, cond-true, cond-false, eq-eqb, ne_eqb, false_from_ne_true}
use Rattle.std.proofs.lemmas.Bool.{and_parts, and_from, eqb-true, leb-true, le-leb}
use Rattle.std.proofs.lemmas.List.Sums.{sum_by-append}
use Rattle.modes_core.specs.declared.modes.Mode.{Mode}
use Rattle.modes_core.specs.declared.modes.Mode.TheVariants.{AccessShare, RowShare, RowExclusive}
use Rattle.modes_core.specs.declared.tags.Tag.{Tag}
use Rattle.modes_core.specs.declared.tags.Tag.TheVariants.{Relation}
use Rattle.modes_core.specs.Mode.{number_of, mode_eq}
use Rattle.modes_core.specs.Tag.{tag_eq, is_eligible_for}
use Rattle.modes_core.proofs.Lemmas.Conflicts.{tag_eq-refl, tag_eq-same}
use Rattle.lw_word.specs.SlotWord.{relation_in, has_mode, shows}
use Rattle.lock_table.specs.declared.rows.SlotRow.{SlotRow}
use Rattle.lock_table.specs.Put.{set_at}
use Rattle.lock_table.proofs.Lemmas.Put.{set_at-here, set_at-else}
use Rattle.lock_table.specs.Total.{total, how_many}
use Rattle.lock_world.specs.SlotHolds.{slot_count, any_below, slot_holds, relation_of}
use Rattle.lock_world.specs.SlotHolds.{OneSlotEach, InUseHasDatabase}
use Rattle.lock_table.proofs.Lemmas.Totals.{total-same, total-nothing, total-change, total-least}
use Rattle.lock_world.proofs.Lemmas.Slots.Some.{any_below-at, any_below-found}
use Rattle.lock_world.proofs.Lemmas.Slots.Eligible.{eligible-is, shown-in_use, held-is_in, is_in-held}
use Rattle.lock_world.proofs.Lemmas.Slots.Remembered.{eligible-of}
use Rattle.lock_world.proofs.Lemmas.Slots.Used.{shows-used}
use Rattle.fast_path.specs.Rows.{database_in, mode_row, rows_of_slot, rows_below, rows_of_session, rows_of_all, times_shown}

-- How often slot rows show a hold.

-- ---- sums

-- Where only one number has anything the sum is what it has.
total-one : (limit : ℕ) (f : ℕ → ℕ) (k : ℕ) → k < limit → ((j : ℕ) → j ≢ k → f j ≡ 0) → total limit f ≡ f k
total-one limit f k below others =
    let none : total limit (set_at f k 0) ≡ 0 = total-nothing limit (set_at f k 0) (λ j _. elim (cases_eq j k) [
      | inl same ↦ set_at-here f k 0 j same
      | inr other ↦ set_at-else f k 0 j other ∙ others j other
    ]) in
    let change : total limit (set_at f k 0) + f k ≡ total limit f + 0 = total-change limit f k 0 below in
    omega (arith, none, change)

-- Where at most one number passes, one does if any does.
how_many-once :
    (limit : ℕ) (test : ℕ → Bool)
    → ((j k : ℕ) → j < limit → k < limit → test j ≡ true → test k ≡ true → j ≡ k)
    → how_many limit test ≡ (if any_below limit test then 1 else 0)
unfolding total any_below
how_many-once zero test once = refl
how_many-once (suc limit) test once = elim (cases_Bool (test limit)) [
  | inl passes ↦
      let none : how_many limit test ≡ 0 = total-nothing limit (λ k. if test k then 1 else 0) (λ k below.
      cond-false (test k) 1 0 (false_from_ne_true (test k) (λ too.
      let same : ◌≡◌ {A = ℕ} k limit = once k limit (omega arith) (omega arith) too passes in
      omega (arith, below, same)))) in
      rw passes (last (any_below limit test) (how_many limit test) none)
  | inr fails ↦
      let before = how_many-once limit test (λ j k first second. once j k (omega arith) (omega arith)) in
      rw fails (not_last (any_below limit test) (how_many limit test) before)
] where
  last : (any : Bool) (count : ℕ) → count ≡ 0 → count + 1 ≡ (if any || true then 1 else 0)
  last true count none = omega (arith, none)
  last false count none = omega (arith, none)

  not_last : (any : Bool) (count : ℕ) → count ≡ (if any then 1 else 0)
      → count + 0 ≡ (if any || false then 1 else 0)
  not_last true count is = omega (arith, is)
  not_last false count is = omega (arith, is)

-- ---- rows

module _ (session : ℕ) (tag : Tag) (mode : Mode) where
  -- how often the rows show the hold
  abbrev times : List SlotRow → ℕ
  times rows = times_shown rows session tag mode

  times-both : (xs ys : List SlotRow) → times (xs ++ ys) ≡ times xs + times ys
  times-both xs ys =
      sum_by-append (λ (row : SlotRow). if (row.session == session) && (tag_eq row.tag tag && mode_eq row.mode mode) then 1 else 0) xs ys

  times-below : (limit : ℕ) (rows : ℕ → List SlotRow) → times (rows_below limit rows) ≡ total limit (λ k. times (rows k))
  unfolding rows_below total
  times-below zero rows = refl
  times-below (suc limit) rows =
      times-both (rows_below limit rows) (rows limit) ∙ ap (λ n. n + times (rows limit)) (times-below limit rows)

  -- One row or none.
  times-row : (owner slot database word : ℕ) (its : Mode)
      → times (mode_row owner database slot word its)
      ≡ (if has_mode word its && ((owner == session) && (tag_eq (Relation database (relation_in word)) tag && mode_eq its mode)) then 1 else 0)
  times-row owner slot database word its = elim (cases_Bool (has_mode word its)) [
    | inl has ↦ rw has (one ((owner == session) && (tag_eq (Relation database (relation_in word)) tag && mode_eq its mode)))
    | inr none ↦ rw none refl
  ] where
    one : (b : Bool) → ◌≡◌ {A = ℕ} (0 + (if b then 1 else 0)) (if b then 1 else 0)
    one true = refl
    one false = refl

  -- Another session's rows don't show it.
  times-foreign_row : (owner slot database word : ℕ) (its : Mode) → owner ≢ session
      → times (mode_row owner database slot word its) ≡ 0
  times-foreign_row owner slot database word its other =
      times-row owner slot database word its
      ∙ (let foreign : (owner == session) ≡ false = ne_eqb owner session other in
      rw foreign (none (has_mode word its))) where
        none : (b : Bool) → ◌≡◌ {A = ℕ} (if b && false then 1 else 0) 0
        none true = refl
        none false = refl

  times-foreign : (owner database : ℕ) (word : ℕ → ℕ) → owner ≢ session → times (rows_of_session owner database word) ≡ 0
  times-foreign owner database word other =
      times-below slot_count (λ slot. rows_of_slot owner database slot (word slot))
      ∙ total-nothing slot_count (λ slot. times (rows_of_slot owner database slot (word slot))) (λ slot _. at slot) where
        at : (slot : ℕ) → times (rows_of_slot owner database slot (word slot)) ≡ 0
        at slot =
            let first = mode_row owner database slot (word slot) AccessShare in
            let second = mode_row owner database slot (word slot) RowShare in
            let third = mode_row owner database slot (word slot) RowExclusive in
            let all = times-both first (second ++ third) in
            let later = times-both second third in
            let a = times-foreign_row owner slot database (word slot) AccessShare other in
            let b = times-foreign_row owner slot database (word slot) RowShare other in
            let c = times-foreign_row owner slot database (word slot) RowExclusive other in
            omega (arith, all, later, a, b, c)

-- whether a slot with this word shows the hold, by the database
abbrev pub slot_shows : ℕ → Tag → Mode → ℕ → Bool
slot_shows database tag mode word =
    nat_le (number_of mode) 3 && (has_mode word mode && tag_eq (Relation database (relation_in word)) tag)

shows-slot :
    (database : ℕ) (tag : Tag) (mode : Mode) (word : ℕ) → is_eligible_for database tag mode ≡ true
    → shows word (relation_of tag) mode ≡ true → slot_shows database tag mode word ≡ true
shows-slot database tag mode word eligible shown =
    let its = eligible-is database tag mode eligible in
    let both = and_parts (has_mode word mode) (relation_in word == relation_of tag) shown in
    let relation : relation_in word ≡ relation_of tag = eqb-true (relation_in word) (relation_of tag) both.1 in
    let same_tag : Relation database (relation_in word) ≡ tag = ap (Relation database) relation ∙ sym its.0 in
    and_from (nat_le (number_of mode) 3) (has_mode word mode && tag_eq (Relation database (relation_in word)) tag)
    (le-leb (number_of mode) 3 its.2)
    (and_from (has_mode word mode) (tag_eq (Relation database (relation_in word)) tag) both.0
    (ap (λ t. tag_eq t tag) same_tag ∙ tag_eq-refl tag))

-- A slot's rows show it once, if the slot does.
times-slot :
    (session : ℕ) (tag : Tag) (mode : Mode) (database slot word : ℕ)
    → times_shown (rows_of_slot session database slot word) session tag mode
    ≡ (if slot_shows database tag mode word then 1 else 0)
times-slot session tag mode database slot word =
    let first = mode_row session database slot word AccessShare in
    let second = mode_row session database slot word RowShare in
    let third = mode_row session database slot word RowExclusive in
    let all = times-both session tag mode first (second ++ third) in
    let later = times-both session tag mode second third in
    let a = times-row session tag mode session slot database word AccessShare in
    let b = times-row session tag mode session slot database word RowShare in
    let c = times-row session tag mode session slot database word RowExclusive in
    let own : (session == session) ≡ true = eq-eqb session session refl in
    all ∙ ap (λ n. times_shown first session tag mode + n) later ∙ (λ i. a i + (b i + c i))
    ∙ rw own (by_mode mode (has_mode word) (tag_eq (Relation database (relation_in word)) tag)) where
      none_of : (a its : Bool) → ◌≡◌ {A = ℕ} (if a && (its && false) then 1 else 0) 0
      none_of true true = refl
      none_of true false = refl
      none_of false its = refl

      its_own : (a its : Bool) → ◌≡◌ {A = ℕ} (if a && (its && true) then 1 else 0) (if a && its then 1 else 0)
      its_own true true = refl
      its_own true false = refl
      its_own false its = refl

      by_mode : (m : Mode) (has : Mode → Bool) (its : Bool)
          → (if has AccessShare && (its && mode_eq AccessShare m) then 1 else 0)
          + ((if has RowShare && (its && mode_eq RowShare m) then 1 else 0)
          + (if has RowExclusive && (its && mode_eq RowExclusive m) then 1 else 0))
          ≡ (if nat_le (number_of m) 3 && (has m && its) then 1 else 0)
      by_mode AccessShare has its = omega (arith, its_own (has AccessShare) its, none_of (has RowShare) its, none_of (has RowExclusive) its)
      by_mode RowShare has its = omega (arith, none_of (has AccessShare) its, its_own (has RowShare) its, none_of (has RowExclusive) its)
      by_mode RowExclusive has its = omega (arith, none_of (has AccessShare) its, none_of (has RowShare) its, its_own (has RowExclusive) its)
      by_mode m has its = omega (arith, none_of (has AccessShare) its, none_of (has RowShare) its, none_of (has RowExclusive) its)

-- A session's rows show each hold once that its slots show, and no other.
times-session :
    (session database : ℕ) (word : ℕ → ℕ) (tag : Tag) (mode : Mode) → OneSlotEach word → InUseHasDatabase database word
    → times_shown (rows_of_session session database word) session tag mode
    ≡ (if slot_holds database word tag mode then 1 else 0)
times-session session database word tag mode one_each has_database =
    times-below session tag mode slot_count (λ slot. rows_of_slot session database slot (word slot))
    ∙ total-same slot_count (λ slot. times_shown (rows_of_slot session database slot (word slot)) session tag mode)
    (λ slot. if test slot then 1 else 0) (λ slot _. times-slot session tag mode database slot (word slot))
    ∙ how_many-once slot_count test once
    ∙ ap (λ (b : Bool). if b then 1 else 0) same where
      test : ℕ → Bool
      test slot = slot_shows database tag mode (word slot)

      -- the slot is in use for the object's relation, in the mode
      shown : (slot : ℕ) → test slot ≡ true
          → (number_of mode ≤ 3) × (has_mode (word slot) mode ≡ true) × (Relation database (relation_in (word slot)) ≡ tag)
      shown slot passes =
          let weak = and_parts (nat_le (number_of mode) 3) (has_mode (word slot) mode && tag_eq (Relation database (relation_in (word slot))) tag) passes in
          let both = and_parts (has_mode (word slot) mode) (tag_eq (Relation database (relation_in (word slot))) tag) weak.1 in
          (leb-true (number_of mode) 3 weak.0, both.0, tag_eq-same (Relation database (relation_in (word slot))) tag both.1)

      shows_it : (slot : ℕ) → test slot ≡ true → shows (word slot) (relation_of tag) mode ≡ true
      shows_it slot passes =
          let it = shown slot passes in
          and_from (has_mode (word slot) mode) (relation_in (word slot) == relation_of tag) it.1
          (eq-eqb (relation_in (word slot)) (relation_of tag) (ap relation_of it.2))

      once : (j k : ℕ) → j < slot_count → k < slot_count → test j ≡ true → test k ≡ true → j ≡ k
      once j k within too first second =
          one_each (relation_of tag) j k within too (shown-in_use (word j) (relation_of tag) mode (shows_it j first))
          (shown-in_use (word k) (relation_of tag) mode (shows_it k second))

      there : any_below slot_count test ≡ true → slot_holds database word tag mode ≡ true
      there any =
          let found = any_below-found slot_count test any in
          let it = shown found.0 found.2 in
          let some = has_database found.0 found.1 (shows-used (word found.0) (relation_of tag) mode (shows_it found.0 found.2)) in
          is_in-held database word tag mode found.0 (record {
            eligible = ap (λ t. is_eligible_for database t mode) (sym it.2)
                ∙ eligible-of database (relation_in (word found.0)) mode (ne_eqb database 0 some) it.0;
            within = found.1;
            shown = shows_it found.0 found.2;
          })

      back : slot_holds database word tag mode ≡ true → any_below slot_count test ≡ true
      back held =
          let found = held-is_in database word tag mode held in
          any_below-at slot_count test found.0 found.1.within
          (shows-slot database tag mode (word found.0) found.1.eligible found.1.shown)

      same : any_below slot_count test ≡ slot_holds database word tag mode
      same = alike (any_below slot_count test) (slot_holds database word tag mode) there back where
        alike : (a b : Bool) → (a ≡ true → b ≡ true) → (b ≡ true → a ≡ true) → a ≡ b
        alike true b to from = sym (to refl)
        alike false true to from = from refl
        alike false false to from = refl

-- So do the rows of all sessions of a hold of one of them.
pub times-all :
    (limit : ℕ) (database : ℕ → ℕ) (word : ℕ → ℕ → ℕ) (session : ℕ) (tag : Tag) (mode : Mode) → session < limit
    → database session < 2 ^ 32 → OneSlotEach (word session) → InUseHasDatabase (database session) (word session)
    → times_shown (rows_of_all limit database word) session tag mode
    ≡ (if slot_holds (database session) (word session) tag mode then 1 else 0)
times-all limit database word session tag mode exists fits one_each has_database =
    let its : database_in (database session) ≡ database session = omega (arith, fits) in
    times-below session tag mode limit (λ k. rows_of_session k (database_in (database k)) (word k))
    ∙ total-one limit (λ k. times_shown (rows_of_session k (database_in (database k)) (word k)) session tag mode) session exists
    (λ k other. times-foreign session tag mode k (database_in (database k)) (word k) other)
    ∙ ap (λ (d : ℕ). times_shown (rows_of_session session d (word session)) session tag mode) its
    ∙ times-session session (database session) (word session) tag mode one_each has_database

-- A hold that a slot shows has a row.
pub times-some :
    (limit : ℕ) (database : ℕ → ℕ) (word : ℕ → ℕ → ℕ) (session slot : ℕ) (tag : Tag) (mode : Mode) → session < limit
    → database session < 2 ^ 32 → slot < slot_count → is_eligible_for (database session) tag mode ≡ true
    → shows (word session slot) (relation_of tag) mode ≡ true
    → 1 ≤ times_shown (rows_of_all limit database word) session tag mode
times-some limit database word session slot tag mode exists fits within eligible shown =
    let its : database_in (database session) ≡ database session = omega (arith, fits) in
    let all = times-below session tag mode limit (λ k. rows_of_session k (database_in (database k)) (word k)) in
    let one = total-least limit (λ k. times_shown (rows_of_session k (database_in (database k)) (word k)) session tag mode) session exists in
    let own = ap (λ (d : ℕ). times_shown (rows_of_session session d (word session)) session tag mode) its in
    let slots = times-below session tag mode slot_count (λ i. rows_of_slot session (database session) i (word session i)) in
    let once = total-least slot_count (λ i. times_shown (rows_of_slot session (database session) i (word session i)) session tag mode) slot within in
    let row = times-slot session tag mode (database session) slot (word session slot)
    ∙ cond-true (slot_shows (database session) tag mode (word session slot)) 1 0
    (shows-slot (database session) tag mode (word session slot) eligible shown) in
    omega (arith, all, one, own, slots, once, row)
