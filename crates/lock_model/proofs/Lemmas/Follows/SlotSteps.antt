use Rattle.std.proofs.Common.{◌≡◌, ◌⊎◌, ℕ, ◌^◌, ◌<◌, ◌≤◌, true, false, List, [], length, get_or, nat_lt, None, ◌*◌, refl, sym, ap, ◌∙◌, subst, inl, inr}
use Rattle.std.specs.List.{list_any}
use Rattle.std.proofs.Math.ListN.{set}
use Rattle.std.proofs.lemmas.Bool.{cases_Bool, cases_eq, both_ways, and_parts, and_from, ltb-true, lt-ltb, false_from_ne_true, not-true, not_from_false}
use Rattle.modes_core.specs.declared.modes.Mode.{Mode}
use Rattle.modes_core.specs.declared.tags.Tag.{Tag}
use Rattle.modes_core.specs.Mode.{number_of}
use Rattle.modes_core.specs.Tag.{index_of, is_eligible_for}
use Rattle.lock_world.proofs.Lemmas.Slots.Eligible.{eligible-is}
use Rattle.std.proofs.lemmas.List.{get_or_default}
use Rattle.lw_word.specs.SlotWord.{in_use, relation_in, shows, word_with, word_without}
use Rattle.lock_world.specs.declared.events.Step.TheVariants.{LoadWord, SetSlot, ClearSlot, StoreDatabase}
use Rattle.lock_world.specs.declared.events.Word.{Word}
use Rattle.lock_world.specs.declared.events.Word.TheVariants.{Partition, Fast, Database, Slot, Wait, Strong, Sleep}
use Rattle.lock_world.specs.SlotHolds.{group_size, relation_of, IsSlotToGrant, AreInGroups}
use Rattle.lock_world.specs.World.{World, WordExists, word_in}
use Rattle.lock_world.specs.Happens.{Lawful, Next}
use Rattle.lock_world.specs.Happens.Slots.{MayLoad, after_loading, MaySetSlot, after_setting_slot, MayClearSlot, after_clearing_slot, MayStoreDatabase, after_storing_database}
use Rattle.lock_world.specs.SafeWorld.{SafeWorld}
use Rattle.lock_model.specs.declared.machine.state.Machine.{Machine}
use Rattle.lock_model.specs.Shows.{Shows, ShowsWords, makes_steps}
use Rattle.lock_model.specs.SlotLooks.{slots_at, is_slot_to_grant, has_own_slots, may_set_slot, may_clear_slot, may_store_database}
use Rattle.lock_model.proofs.Lemmas.Follows.Skipped.{skipped}
use Rattle.lock_model.proofs.Lemmas.Follows.Seats.{number_of_some, some_of_number}
use Rattle.lock_model.proofs.Lemmas.Shows.Looks.{steps_from, steps_kept, steps_not, fits_from, from_fits}
use Rattle.lock_model.proofs.Lemmas.Shows.SlotLooks.{unused_from, used_from, to_grant_from, from_to_grant, to_grant-relation, slot-set, database-set}
use Rattle.lock_model.proofs.Lemmas.Shows.Kept.{fast_path_shown, table_shown}

-- Loads of words, and the steps on its own slots and its own database.

-- the machine, once the session's slot has this word
abbrev pub with_slot : Machine → ℕ → ℕ → ℕ → Machine
with_slot m s place word = record m { fast_path = record (m.fast_path) { slots = set m.fast_path.slots s (set (get_or m.fast_path.slots s []) place word) } }

-- What the tests say before a slot is written.

pub set_is_eligible : (m : Machine) (s place : ℕ) (t : Tag) (n : Mode) → may_set_slot m s place t n ≡ true → number_of n ≤ 3
set_is_eligible m s place t n may =
    let reads = (and_parts _ _ (and_parts _ _ (and_parts _ _ may).0).0).0 in
    (eligible-is (get_or m.fast_path.databases s 0) t n (and_parts _ _ reads).1).2

pub set_takes : (m : Machine) (s place : ℕ) (t : Tag) (n : Mode) → may_set_slot m s place t n ≡ true → in_use (get_or (slots_at m s) place 0) ≡ true → relation_in (get_or (slots_at m s) place 0) ≡ relation_of t
set_takes m s place t n may used = to_grant-relation m.numbers.groups (slots_at m s) (relation_of t) place (and_parts _ (is_slot_to_grant m.numbers.groups (slots_at m s) (relation_of t) place) may).1 used

pub set_within : (m : Machine) (s place : ℕ) (t : Tag) (n : Mode) → may_set_slot m s place t n ≡ true → place < 128
set_within m s place t n may =
    let reads = (and_parts _ _ (and_parts _ _ (and_parts _ _ may).0).0).0 in
    ltb-true place 128 (and_parts _ _ (and_parts _ _ reads).0).0

pub clear_is_eligible : (m : Machine) (s place : ℕ) (t : Tag) (n : Mode) → may_clear_slot m s place t n ≡ true → number_of n ≤ 3
clear_is_eligible m s place t n may = (eligible-is (get_or m.fast_path.databases s 0) t n (and_parts _ _ (and_parts _ _ may).0).1).2

pub clear_within : (m : Machine) (s place : ℕ) (t : Tag) (n : Mode) → may_clear_slot m s place t n ≡ true → place < 128
clear_within m s place t n may = ltb-true place 128 (and_parts _ _ (and_parts _ _ (and_parts _ _ may).0).0).0

-- What is read at a place of a session's slots.
pub slot_read : (rows : List (List ℕ)) (i s j place d : ℕ) → i ≡ s → j ≡ place → place < length (get_or rows s []) → get_or (get_or rows i []) j d ≡ get_or (get_or rows s []) place 0
slot_read rows i s j place d row column within =
    ap (λ k. get_or (get_or rows k []) j d) row ∙ ap (λ k. get_or (get_or rows s []) k d) column ∙ get_or_default (get_or rows s []) place d 0 within

module _ (m : Machine) (w : World) (safe : SafeWorld w) (shows_w : Shows m w) where
  -- Loading.

  -- No load changes what the machine shows.
  loaded_shown : (s n : ℕ) (word : Word) → Shows m (after_loading w s word n)
  loaded_shown s n word = table_shown shows_w (after_loading w s word n) shows_w.words shows_w.contents shows_w.waits

  may_load : (s n : ℕ) (word : Word) → (WordExists w.numbers.groups word ⊎ (WordExists w.numbers.groups word → ⊥)) → MayLoad w s word n ⊎ (MayLoad w s word n → ⊥)
  may_load s n word (inr no_word) = inr (λ may. no_word may.exists)
  may_load s n word (inl exists) =
      elim (cases_Bool (makes_steps m s)) [
        | inl steps ↦ elim (cases_eq n (word_in w.words word)) [
          | inl same ↦ inl (record { steps = steps_from m w safe shows_w s steps; exists = exists; is_shown = same })
          | inr other ↦ inr (λ may. other may.is_shown)
        ]
        | inr idle ↦ inr (λ may. steps_not m w safe shows_w s idle may.steps)
      ]

  slot_exists : (s place : ℕ) → WordExists w.numbers.groups (Slot s place) ⊎ (WordExists w.numbers.groups (Slot s place) → ⊥)
  slot_exists s place =
      elim (cases_Bool (nat_lt place (group_size * w.numbers.groups))) [
        | inl within ↦ inl (ltb-true place (group_size * w.numbers.groups) within)
        | inr past ↦ inr (λ within. both_ways (nat_lt place (group_size * w.numbers.groups)) past (lt-ltb place (group_size * w.numbers.groups) within))
      ]

  not_loaded : (s n : ℕ) (word : Word) → (Lawful w (record { session = s; step = LoadWord word n }) → ⊥) → (v : World) × Next w (record { session = s; step = LoadWord word n }) v × Shows m v
  not_loaded s n word never = skipped m w safe shows_w s (LoadWord word n) never

  pub word_loaded : (s n : ℕ) (word : Word) → (v : World) × Next w (record { session = s; step = LoadWord word n }) v × Shows m v
  word_loaded s n (Partition p) = not_loaded s n (Partition p) (λ lawful. lawful.1)
  word_loaded s n (Fast o) =
      elim (cases_eq o s) [
        | inl own ↦ elim (may_load s n (Fast o) (inl tt)) [
          | inl may ↦ (after_loading w s (Fast o) n, inl (own, may, refl), loaded_shown s n (Fast o))
          | inr may_not ↦ not_loaded s n (Fast o) (λ lawful. may_not lawful.1.1)
        ]
        | inr other ↦ not_loaded s n (Fast o) (λ lawful. other lawful.1.0)
      ]
  word_loaded s n (Database o) =
      elim (may_load s n (Database o) (inl tt)) [
        | inl may ↦ (after_loading w s (Database o) n, inl (may, refl), loaded_shown s n (Database o))
        | inr may_not ↦ not_loaded s n (Database o) (λ lawful. may_not lawful.1.0)
      ]
  word_loaded s n (Slot o place) =
      elim (may_load s n (Slot o place) (slot_exists o place)) [
        | inl may ↦ (after_loading w s (Slot o place) n, inl (may, refl), loaded_shown s n (Slot o place))
        | inr may_not ↦ not_loaded s n (Slot o place) (λ lawful. may_not lawful.1.0)
      ]
  word_loaded s n (Wait o) = not_loaded s n (Wait o) (λ lawful. lawful.1)
  word_loaded s n (Strong i) = not_loaded s n (Strong i) (λ lawful. lawful.1)
  word_loaded s n (Sleep o) = not_loaded s n (Sleep o) (λ lawful. lawful.1)

  -- Its own slots.

  -- What is stored there is no word that the machine keeps among the others.
  words_kept : (database : ℕ → ℕ) (slot : ℕ → ℕ → ℕ) → ShowsWords m.words (record (w.words) { database = database; slot = slot })
  words_kept database slot = record {
    sixty_four_fast = shows_w.words.sixty_four_fast;
    all_waits = shows_w.words.all_waits;
    partition = shows_w.words.partition;
    fast = shows_w.words.fast;
    wait = shows_w.words.wait;
  }

  holding_from : (s : ℕ) → has_own_slots m s ≡ true → (makes_steps m s ≡ true) × (w.sessions.holds_fast s s ≡ true)
  holding_from s own = let both = and_parts _ _ own in (both.0, sym (shows_w.locks.fast_holders.mark s s) ∙ both.1)

  eligible_same : (s : ℕ) (t : Tag) (n : Mode) → is_eligible_for (get_or m.fast_path.databases s 0) t n ≡ is_eligible_for (w.words.database s) t n
  eligible_same s t n = ap (λ database. is_eligible_for database t n) (shows_w.fast_path.database s)

  may_set : (s place : ℕ) (t : Tag) (n : Mode) → s < 64 → relation_of t < 2 ^ 32 → may_set_slot m s place t n ≡ true → MaySetSlot w s place t n
  may_set s place t n below fits may =
      let takes = and_parts _ _ may in
      let asks = and_parts _ _ takes.0 in
      let reads = and_parts _ _ asks.0 in
      let eligible = and_parts _ _ reads.0 in
      let there = and_parts _ _ eligible.0 in
      let own = holding_from s there.1 in
      let new = fits_from m w safe shows_w s t n asks.1 in
      record {
        steps = steps_from m w safe shows_w s own.0;
        holding = own.1;
        eligible = sym (eligible_same s t n) ∙ eligible.1;
        fits = fits;
        read_as_zero = sym (shows_w.fast_path.zero s) ∙ number_of_some (get_or m.fast_path.zeros s None) (index_of t) reads.1;
        no_wait = new.0;
        new = new.1;
        takes = subst (λ n. IsSlotToGrant n (w.words.slot s) (relation_of t) place) shows_w.numbers.groups
            (to_grant_from m.numbers.groups (slots_at m s) (w.words.slot s) (relation_of t) place (shows_w.fast_path.each_slots s below) (shows_w.fast_path.slot s) (ltb-true place 128 there.0) takes.1);
      }

  from_set : (s place : ℕ) (t : Tag) (n : Mode) → s < 64 → MaySetSlot w s place t n → may_set_slot m s place t n ≡ true
  from_set s place t n below may =
      and_from _ _
      (and_from _ _
      (and_from _ _
      (and_from _ _
      (and_from _ _ (lt-ltb place 128 may.takes.within) (and_from _ _ (steps_kept m w safe shows_w s may.steps) (shows_w.locks.fast_holders.mark s s ∙ may.holding)))
      (eligible_same s t n ∙ may.eligible))
      (some_of_number (get_or m.fast_path.zeros s None) (index_of t) (shows_w.fast_path.zero s ∙ may.read_as_zero)))
      (from_fits m w safe shows_w s t n may.no_wait may.new))
      (from_to_grant m.numbers.groups (slots_at m s) (w.words.slot s) (relation_of t) place (shows_w.fast_path.each_slots s below) (shows_w.fast_path.slot s)
      (subst (λ n. AreInGroups n (w.words.slot s)) (sym shows_w.numbers.groups) (safe.slots.in_groups s))
      (subst (λ n. IsSlotToGrant n (w.words.slot s) (relation_of t) place) (sym shows_w.numbers.groups) may.takes))

  pub slot_was_set : (s place : ℕ) (t : Tag) (n : Mode) → s < 64 → relation_of t < 2 ^ 32 → may_set_slot m s place t n ≡ true
      → (v : World) × Next w (record { session = s; step = SetSlot place t n }) v
      × Shows (with_slot m s place (word_with (get_or (slots_at m s) place 0) (relation_of t) n)) v
  slot_was_set s place t n below fits may =
      let its = may_set s place t n below fits may in (
        after_setting_slot w s place t n,
        inl (its, refl),
        fast_path_shown shows_w (after_setting_slot w s place t n)
            (words_kept _ _)
            shows_w.locks
            (slot-set m.fast_path w.words.database w.words.slot w.sessions.zero s place _ _ shows_w.fast_path below its.takes.within
            (ap (λ word. word_with word (relation_of t) n) (shows_w.fast_path.slot s place)))
            shows_w.counted,
      )

  pub slot_not_set : (s place : ℕ) (t : Tag) (n : Mode) → s < 64 → may_set_slot m s place t n ≡ false → (v : World) × Next w (record { session = s; step = SetSlot place t n }) v × Shows m v
  slot_not_set s place t n below may_not = skipped m w safe shows_w s (SetSlot place t n) (λ lawful. both_ways (may_set_slot m s place t n) may_not (from_set s place t n below lawful.1.0))

  may_clear : (s place : ℕ) (t : Tag) (n : Mode) → may_clear_slot m s place t n ≡ true → MayClearSlot w s place t n
  may_clear s place t n may =
      let shown = and_parts _ _ may in
      let eligible = and_parts _ _ shown.0 in
      let there = and_parts _ _ eligible.0 in
      let own = holding_from s there.1 in
      record {
        steps = steps_from m w safe shows_w s own.0;
        holding = own.1;
        held_in = record {
          eligible = sym (eligible_same s t n) ∙ eligible.1;
          within = ltb-true place 128 there.0;
          shown = sym (ap (λ word. shows word (relation_of t) n) (shows_w.fast_path.slot s place)) ∙ shown.1;
        };
      }

  from_clear : (s place : ℕ) (t : Tag) (n : Mode) → MayClearSlot w s place t n → may_clear_slot m s place t n ≡ true
  from_clear s place t n may =
      and_from _ _
      (and_from _ _
      (and_from _ _ (lt-ltb place 128 may.held_in.within) (and_from _ _ (steps_kept m w safe shows_w s may.steps) (shows_w.locks.fast_holders.mark s s ∙ may.holding)))
      (eligible_same s t n ∙ may.held_in.eligible))
      (ap (λ word. shows word (relation_of t) n) (shows_w.fast_path.slot s place) ∙ may.held_in.shown)

  pub slot_was_cleared : (s place : ℕ) (t : Tag) (n : Mode) → s < 64 → may_clear_slot m s place t n ≡ true
      → (v : World) × Next w (record { session = s; step = ClearSlot place t n }) v
      × Shows (with_slot m s place (word_without (get_or (slots_at m s) place 0) n)) v
  slot_was_cleared s place t n below may =
      let its = may_clear s place t n may in (
        after_clearing_slot w s place t n,
        inl (its, refl),
        fast_path_shown shows_w (after_clearing_slot w s place t n)
            (words_kept _ _)
            shows_w.locks
            (slot-set m.fast_path w.words.database w.words.slot w.sessions.zero s place _ _ shows_w.fast_path below its.held_in.within
            (ap (λ word. word_without word n) (shows_w.fast_path.slot s place)))
            shows_w.counted,
      )

  pub slot_not_cleared : (s place : ℕ) (t : Tag) (n : Mode) → may_clear_slot m s place t n ≡ false → (v : World) × Next w (record { session = s; step = ClearSlot place t n }) v × Shows m v
  slot_not_cleared s place t n may_not = skipped m w safe shows_w s (ClearSlot place t n) (λ lawful. both_ways (may_clear_slot m s place t n) may_not (from_clear s place t n lawful.1.0))

  -- Its own database.

  pub database_was_stored : (s d : ℕ) → s < 64 → may_store_database m s ≡ true
      → (v : World) × Next w (record { session = s; step = StoreDatabase d }) v
      × Shows (record m { fast_path = record (m.fast_path) { databases = set m.fast_path.databases s d } }) v
  database_was_stored s d below may =
      let unused = and_parts _ _ may in
      let its : MayStoreDatabase w s = record {
        steps = steps_from m w safe shows_w s unused.0;
        unused = unused_from m w safe shows_w s (not-true _ unused.1);
      } in (
        after_storing_database w s d,
        inl (its, refl),
        fast_path_shown shows_w (after_storing_database w s d)
            (words_kept _ _)
            shows_w.locks
            (database-set m.fast_path w.words.database w.words.slot w.sessions.zero s d shows_w.fast_path below)
            shows_w.counted,
      )

  pub database_not_stored : (s d : ℕ) → s < 64 → may_store_database m s ≡ false → (v : World) × Next w (record { session = s; step = StoreDatabase d }) v × Shows m v
  database_not_stored s d below may_not =
      skipped m w safe shows_w s (StoreDatabase d)
      (λ lawful. let its : MayStoreDatabase w s = lawful.1.0 in
      both_ways (may_store_database m s) may_not
      (and_from _ _ (steps_kept m w safe shows_w s its.steps)
      (not_from_false _ (false_from_ne_true (list_any in_use (slots_at m s)) (λ any.
      let used = used_from m w safe shows_w s below any in both_ways (in_use (w.words.slot s used.0)) (its.unused used.0 used.1) used.2)))))
