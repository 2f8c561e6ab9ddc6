use Rattle.std.proofs.Common.{◌≡◌, ◌≢◌, ℕ, ◌<◌, ◌≤◌, ◌-◌, true, false, not, ◌&&◌, ◌||◌, List, [], length, get_or, nat_eq, Option, None, refl, sym, ap, ◌∙◌, subst, inl, inr, arith}
use Rattle.std.proofs.Math.ListN.{set, length-set}
use Rattle.std.specs.List.{list_any}
use Rattle.std.specs.Int.{bit_at}
use Rattle.std.proofs.lemmas.List.{get_or-set_same, get_or-set_other}
use Rattle.std.proofs.lemmas.Bool.{cases_Bool, cases_eq, both_ways, and_parts, and_from, le-leb, or_cases, or_left, or_right, eqb-true, eq-eqb, false_from_ne_true, not-true, not_from_false}
use Rattle.modes_core.specs.declared.modes.Mode.{Mode}
use Rattle.modes_core.specs.declared.modes.Mode.TheVariants.{AccessShare, RowShare, RowExclusive}
use Rattle.modes_core.specs.declared.tags.Tag.{Tag}
use Rattle.modes_core.specs.declared.tags.Tag.TheVariants.{Relation}
use Rattle.modes_core.specs.Mode.{number_of}
use Rattle.modes_core.specs.Tag.{is_eligible_for}
use Rattle.lw_word.specs.SlotWord.{mode_bits, relation_in, in_use, has_mode, shows}
use Rattle.lock_world.specs.World.{World}
use Rattle.lock_world.specs.SlotHolds.{may_use, is_slot_of, IsSlotToGrant, AreInGroups, NoSlotInUse}
use Rattle.lock_world.specs.SafeWorld.{SafeWorld, slots_of}
use Rattle.lock_world.proofs.Lemmas.Slots.Databases.{slot_holds-unused}
use Rattle.lock_world.proofs.Lemmas.Slots.Eligible.{is_in-held}
use Rattle.lock_table.specs.Put.{set_at}
use Rattle.lock_table.proofs.Lemmas.Put.{written-at}
use Rattle.lock_table.proofs.Lemmas.Lists.{any_found, found_within}
use Rattle.lock_model.specs.declared.machine.state.FastPath.{FastPath}
use Rattle.lock_model.specs.declared.machine.state.Machine.{Machine}
use Rattle.lock_model.specs.Shows.{Shows, ShowsFastPath}
use Rattle.lock_model.specs.SlotLooks.{slots_at, slots_hold, is_slot_to_grant}
use Rattle.lock_model.proofs.Lemmas.Shows.Changes.{get_or-set_at}
use Rattle.lock_model.proofs.Lemmas.Shows.Looks.{slots_from}

-- What the machine's looks at slots show of a safe World that it shows.

-- A slot in use shows some mode of its relation that may be in a slot.
in_use-shows : (word : ℕ) → in_use word ≡ true → (mode : Mode) × (number_of mode ≤ 3) × (shows word (relation_in word) mode ≡ true)
in_use-shows word used = at where
  of : (mode : Mode) → has_mode word mode ≡ true → shows word (relation_in word) mode ≡ true
  of mode has = and_from (has_mode word mode) (nat_eq (relation_in word) (relation_in word)) has (eq-eqb (relation_in word) (relation_in word) refl)

  some_bit : bit_at (mode_bits word) 0 ≢ 1 → bit_at (mode_bits word) 1 ≢ 1 → bit_at (mode_bits word) 2 ≢ 1 → mode_bits word ≡ 0
  some_bit a b c = omega (arith, a, b, c)

  not_set : (mode : Mode) → has_mode word mode ≡ false → bit_at (mode_bits word) (number_of mode - 1) ≢ 1
  not_set mode none is = both_ways (has_mode word mode) none (eq-eqb (bit_at (mode_bits word) (number_of mode - 1)) 1 is)

  at : (mode : Mode) × (number_of mode ≤ 3) × (shows word (relation_in word) mode ≡ true)
  at = elim (cases_Bool (has_mode word AccessShare)) [
    | inl one ↦ (AccessShare, omega arith, of AccessShare one)
    | inr no_one ↦ elim (cases_Bool (has_mode word RowShare)) [
      | inl two ↦ (RowShare, omega arith, of RowShare two)
      | inr no_two ↦ elim (cases_Bool (has_mode word RowExclusive)) [
        | inl three ↦ (RowExclusive, omega arith, of RowExclusive three)
        | inr no_three ↦
            absurd (both_ways (nat_eq (mode_bits word) 0) (not-true (nat_eq (mode_bits word) 0) used)
            (eq-eqb (mode_bits word) 0 (some_bit (not_set AccessShare no_one) (not_set RowShare no_two) (not_set RowExclusive no_three))))
      ]
    ]
  ]

-- The object is eligible for the database.
eligible_from : (database relation : ℕ) (mode : Mode) → database ≢ 0 → number_of mode ≤ 3 → is_eligible_for database (Relation database relation) mode ≡ true
eligible_from database relation mode some weak =
    and_from (nat_eq database database) _ (eq-eqb database database refl)
    (and_from (not (nat_eq database 0)) _ (not_from_false _ (false_from_ne_true (nat_eq database 0) (λ none. some (eqb-true database 0 none)))) (le-leb (number_of mode) 3 weak))

module _ (m : Machine) (w : World) (safe : SafeWorld w) (shows_w : Shows m w) where
  -- Where no slot is in use, none shows a hold.
  pub unused_from : (s : ℕ) → list_any in_use (slots_at m s) ≡ false → NoSlotInUse (w.words.slot s)
  unused_from s none place within =
      false_from_ne_true (in_use (w.words.slot s place)) (λ used.
      both_ways (list_any in_use (slots_at m s)) none (found_within in_use (slots_at m s) place 0 refl (ap in_use (shows_w.fast_path.slot s place) ∙ used)))

  pub no_slot_hold : (s : ℕ) → list_any in_use (slots_at m s) ≡ false → (t : Tag) (n : Mode) → slots_hold m s t n ≡ false
  no_slot_hold s none t n =
      slots_from m w safe shows_w s t n ∙ ap (λ holds. holds t n) (slot_holds-unused (w.words.database s) (w.words.slot s) (unused_from s none))

  -- Where one is in use, it is one of the session's places, and it shows a hold of its own.
  pub used_from : (s : ℕ) → s < 64 → list_any in_use (slots_at m s) ≡ true → (place : ℕ) × (place < 128) × (in_use (w.words.slot s place) ≡ true)
  used_from s below any =
      let found = any_found in_use (slots_at m s) any in
      (found.0, subst (λ n. found.0 < n) (shows_w.fast_path.each_slots s below) found.2, sym (ap in_use (shows_w.fast_path.slot s found.0)) ∙ ap in_use (found.3 0) ∙ found.4)

  pub some_slot_hold : (s : ℕ) → s < 64 → list_any in_use (slots_at m s) ≡ true → ((t : Tag) (n : Mode) → w.sessions.own s t n ≡ false) → ⊥
  some_slot_hold s below any none =
      let used = used_from s below any in
      let word = w.words.slot s used.0 in
      let mode = in_use-shows word used.2 in
      let tag : Tag = Relation (w.words.database s) (relation_in word) in
      let held : slots_of w.words.database w.words.slot s tag mode.0 ≡ true = is_in-held (w.words.database s) (w.words.slot s) tag mode.0 used.0 (record {
        eligible = eligible_from (w.words.database s) (relation_in word) mode.0 (safe.slots.has_database s used.0 used.1 used.2) mode.1;
        within = used.1;
        shown = mode.2;
      }) in
      both_ways (w.sessions.own s tag mode.0) (none tag mode.0) (safe.slots.are_own s tag mode.0 held)

-- The slot that a grant takes.

pub to_grant_from : (groups : ℕ) (slots : List ℕ) (slot : ℕ → ℕ) (relation place : ℕ) → length slots ≡ 128 → ((k : ℕ) → get_or slots k 0 ≡ slot k) → place < 128 → is_slot_to_grant groups slots relation place ≡ true
    → IsSlotToGrant groups slot relation place
to_grant_from groups slots slot relation place many same within takes = record {
  within = within;
  usable = its_group.0;
  its_or_unused = elim (or_cases _ _ its_group.1) [
    | inl its ↦ inl (ap (λ word. is_slot_of word relation) (sym (same place)) ∙ its)
    | inr unused ↦
        let both = and_parts _ _ unused in
        inr (
          ap in_use (sym (same place)) ∙ not-true _ both.0,
          λ other below usable.
              false_from_ne_true (is_slot_of (slot other) relation) (λ its.
              both_ways (list_any (λ word. is_slot_of word relation) slots) (not-true _ both.1)
              (found_within (λ word. is_slot_of word relation) slots other 0 refl (ap (λ word. is_slot_of word relation) (same other) ∙ its))),
        )
  ];
} where
  word : ℕ
  word = get_or slots place 0

  its_group : (may_use groups relation place ≡ true)
      × ((is_slot_of word relation || (not (in_use word) && not (list_any (λ other. is_slot_of other relation) slots))) ≡ true)
  its_group = and_parts (may_use groups relation place) (is_slot_of word relation || (not (in_use word) && not (list_any (λ other. is_slot_of other relation) slots))) takes

-- In no other group there is a slot for the relation.
pub from_to_grant : (groups : ℕ) (slots : List ℕ) (slot : ℕ → ℕ) (relation place : ℕ) → length slots ≡ 128 → ((k : ℕ) → get_or slots k 0 ≡ slot k) → AreInGroups groups slot
    → IsSlotToGrant groups slot relation place → is_slot_to_grant groups slots relation place ≡ true
from_to_grant groups slots slot relation place many same in_groups takes = and_from (may_use groups relation place) _ takes.usable
    (elim takes.its_or_unused [
      | inl its ↦ or_left _ _ (ap (λ word. is_slot_of word relation) (same place) ∙ its)
      | inr unused ↦
          or_right (is_slot_of (get_or slots place 0) relation) _
          (and_from _ _ (not_from_false _ (ap in_use (same place) ∙ unused.0))
          (not_from_false _ (false_from_ne_true (list_any (λ word. is_slot_of word relation) slots) (λ any.
          let found = any_found (λ word. is_slot_of word relation) slots any in
          let its : is_slot_of (slot found.0) relation ≡ true = ap (λ word. is_slot_of word relation) (sym (same found.0) ∙ found.3 0) ∙ found.4 in
          let within : found.0 < 128 = subst (λ n. found.0 < n) many found.2 in
          both_ways (is_slot_of (slot found.0) relation) (unused.1 found.0 within (usable found.0 within its)) its))))
    ]) where
      usable : (j : ℕ) → j < 128 → is_slot_of (slot j) relation ≡ true → may_use groups relation j ≡ true
      usable j within is =
          let both = and_parts (in_use (slot j)) (nat_eq (relation_in (slot j)) relation) is in
          ap (λ r. may_use groups r j) (sym (eqb-true (relation_in (slot j)) relation both.1)) ∙ in_groups j within both.0

-- A slot in use that a grant takes is in use for the relation.
pub to_grant-relation : (groups : ℕ) (slots : List ℕ) (relation place : ℕ) → is_slot_to_grant groups slots relation place ≡ true → in_use (get_or slots place 0) ≡ true → relation_in (get_or slots place 0) ≡ relation
to_grant-relation groups slots relation place takes used =
    elim (or_cases (is_slot_of word relation) (not (in_use word) && not (list_any (λ other. is_slot_of other relation) slots)) takes_it) [
      | inl its ↦ eqb-true (relation_in word) relation (and_parts (in_use word) (nat_eq (relation_in word) relation) its).1
      | inr unused ↦ absurd (both_ways (in_use word) (not-true (in_use word) (and_parts (not (in_use word)) (not (list_any (λ other. is_slot_of other relation) slots)) unused).0) used)
    ] where
      word : ℕ
      word = get_or slots place 0

      takes_it : (is_slot_of word relation || (not (in_use word) && not (list_any (λ other. is_slot_of other relation) slots))) ≡ true
      takes_it = (and_parts (may_use groups relation place) (is_slot_of word relation || (not (in_use word) && not (list_any (λ other. is_slot_of other relation) slots))) takes).1

-- A slot is written.
pub slot-set : (shown : FastPath) (databases : ℕ → ℕ) (slots : ℕ → ℕ → ℕ) (zeros : ℕ → Option ℕ) (s place a b : ℕ) → ShowsFastPath shown databases slots zeros → s < 64 → place < 128 → a ≡ b
    → ShowsFastPath (record shown { slots = set shown.slots s (set (get_or shown.slots s []) place a) }) databases (set_at slots s (set_at (slots s) place b)) zeros
slot-set shown databases slots zeros s place a b shows_it below within same = record {
  sixty_four_databases = shows_it.sixty_four_databases;
  sixty_four = length-set shown.slots s row ∙ shows_it.sixty_four;
  each_slots = λ k exists. elim (cases_eq k s) [
    | inl is ↦ ap (λ i. length (get_or (set shown.slots s row) i [])) is ∙ ap length (get_or-set_same shown.slots s row [] in_slots) ∙ length-set (get_or shown.slots s []) place a ∙ shows_it.each_slots s below
    | inr other ↦ ap length (get_or-set_other shown.slots s k row [] other) ∙ shows_it.each_slots k exists
  ];
  sixty_four_zeros = shows_it.sixty_four_zeros;
  database = shows_it.database;
  slot = λ k. written-at (λ own its. (j : ℕ) → get_or own j 0 ≡ its j) shown.slots s row [] slots (set_at (slots s) place b) in_slots written k (shows_it.slot k);
  zero = shows_it.zero;
} where
  row : List ℕ
  row = set (get_or shown.slots s []) place a

  in_slots : s < length shown.slots
  in_slots = subst (λ n. s < n) (sym shows_it.sixty_four) below

  in_row : place < length (get_or shown.slots s [])
  in_row = subst (λ n. place < n) (sym (shows_it.each_slots s below)) within

  written : (j : ℕ) → get_or row j 0 ≡ set_at (slots s) place b j
  written j = get_or-set_at (get_or shown.slots s []) place a 0 (slots s) in_row (shows_it.slot s) j ∙ ap (λ word. set_at (slots s) place word j) same

-- A database is stored.
pub database-set : (shown : FastPath) (databases : ℕ → ℕ) (slots : ℕ → ℕ → ℕ) (zeros : ℕ → Option ℕ) (s a : ℕ) → ShowsFastPath shown databases slots zeros → s < 64
    → ShowsFastPath (record shown { databases = set shown.databases s a }) (set_at databases s a) slots zeros
database-set shown databases slots zeros s a shows_it below = record {
  sixty_four_databases = length-set shown.databases s a ∙ shows_it.sixty_four_databases;
  sixty_four = shows_it.sixty_four;
  each_slots = shows_it.each_slots;
  sixty_four_zeros = shows_it.sixty_four_zeros;
  database = λ k. get_or-set_at shown.databases s a 0 databases (subst (λ n. s < n) (sym shows_it.sixty_four_databases) below) shows_it.database k;
  slot = shows_it.slot;
  zero = shows_it.zero;
}

-- What is read as 0 is written.
pub zero-set : (shown : FastPath) (databases : ℕ → ℕ) (slots : ℕ → ℕ → ℕ) (zeros : ℕ → Option ℕ) (s : ℕ) (a : Option ℕ) → ShowsFastPath shown databases slots zeros → s < 64
    → ShowsFastPath (record shown { zeros = set shown.zeros s a }) databases slots (set_at zeros s a)
zero-set shown databases slots zeros s a shows_it below = record {
  sixty_four_databases = shows_it.sixty_four_databases;
  sixty_four = shows_it.sixty_four;
  each_slots = shows_it.each_slots;
  sixty_four_zeros = length-set shown.zeros s a ∙ shows_it.sixty_four_zeros;
  database = shows_it.database;
  slot = shows_it.slot;
  zero = λ k. get_or-set_at shown.zeros s a None zeros (subst (λ n. s < n) (sym shows_it.sixty_four_zeros) below) shows_it.zero k;
}
