use Rattle.std.proofs.Common.{◌≡◌, ◌≢◌, ℕ, ◌+◌, ◌<◌, All, Bool, true, false, cond, ◌&&◌, ◌||◌, List, [], ◌++◌, length, get_or, nat_eq, Option, None, refl, sym, ap, ◌∙◌, subst, inl, inr, arith}
use Rattle.std.specs.Prelude.{◌==◌, count_by, replicate, map, filter}
use Rattle.std.specs.List.{flat_map}
use Rattle.std.specs.List.Sorted.{IsSortedByKey, IsPermutation}
use Rattle.std.specs.Ordering.{nat_cmp, on}
use Rattle.std.specs.Cmp.Lexicographic.{slice_cmp}
use Rattle.std.proofs.lemmas.Bool.{cases_lt, false≢true, and_from, eq-eqb}
use Rattle.std.proofs.lemmas.List.Elements.{All-append}
use Rattle.std.proofs.lemmas.List.Folds.{list_any_at}
use Rattle.std.proofs.lemmas.List.Sorted.{sum_by-IsPermutation, All-permutation}
use Rattle.std.proofs.lemmas.List.{get_or-replicate, length-replicate, get_or_past}
use Rattle.modes_core.specs.declared.modes.Mode.{Mode}
use Rattle.modes_core.specs.declared.tags.Tag.{Tag}
use Rattle.modes_core.specs.declared.tags.Tag.TheVariants.{Relation}
use Rattle.modes_core.specs.Mode.{mode_eq}
use Rattle.modes_core.specs.Tag.{tag_eq, numbers_of, partition_of, index_of, is_eligible_for}
use Rattle.modes_core.proofs.Lemmas.Conflicts.{mode_eq-refl, tag_eq-refl}
use Rattle.lock_world.specs.declared.events.Word.{Word}
use Rattle.lock_world.specs.declared.events.Word.TheVariants.{Partition, Fast, Database, Slot, Wait, Strong, Sleep}
use Rattle.lock_model.specs.declared.machine.hands.InHand.{InHand}
use Rattle.lock_model.specs.declared.machine.own_waits.Awaited.{Awaited}
use Rattle.lock_model.specs.declared.machine.plain.Hold.{Hold}
use Rattle.lock_model.specs.declared.machine.plain.QueuedWait.{QueuedWait}
use Rattle.lock_model.specs.declared.machine.plain.Plain.{Plain}
use Rattle.lock_model.specs.declared.machine.state.FastPath.{FastPath}
use Rattle.lock_model.specs.declared.machine.state.Machine.{Machine}
use Rattle.lock_table.specs.Content.{empty_content}
use Rattle.lw_word.specs.LockState.{LockState, opening_state}
use Rattle.lw_word.specs.LockState as lock_state
use Rattle.lock_table.specs.Parts.{AreAtHome, no_part, part_at, contents_in}
use Rattle.lock_table.specs.PartView.{PartView, content_of}
use Rattle.lw_word.specs.SlotWord.{relation_in}
use Rattle.lw_word.specs.SlotWord as slot_word
use Rattle.lock_table.specs.PartWaits.{EachOnce}
use Rattle.lock_table.proofs.Lemmas.HoldLists.{count_by-append}
use Rattle.lock_table.proofs.Lemmas.Lists.{any-counted}
use Rattle.lock_model.specs.PlainLists.{table_holds_of}
use Rattle.lock_model.specs.SlotRows.{fast_path_rows}
use Rattle.lock_model.specs.Plain.{IsPlainOf, StandsAt, StandsThere, table_holds, all_holds, word_of, holds_of, listed_waits, as_wait}
use Rattle.lock_world.specs.SlotHolds.{OneSlotEach, IsHeldIn}
use Rattle.lock_world.specs.World.{WordExists, word_in, World, opening}
use Rattle.lock_world.specs.SafeWorld.{SafeWorld, slots_of}
use Rattle.lock_world.proofs.Lemmas.FromSafeWorld.{shown-in_no_content}
use Rattle.lock_world.specs.Counted.{Counted, count_at}
use Rattle.lock_table.specs.Total.{total}
use Rattle.lock_model.proofs.Lemmas.CountedLists.{total-of_sessions}
use Rattle.lock_model.specs.Shows.{Shows, ShowsHandIfAny, AreInTable, ListsHolds, is_hold, counted_of, waiters_of}
use Rattle.lock_model.proofs.Lemmas.Shows.Places.{get_or-one_value}
use Rattle.lock_model.proofs.Lemmas.Shows.LwWords.{opening-word_shown, made_shown, number_shown}
use Rattle.lock_model.proofs.Lemmas.Shows.Locks.{no_marks}
use Rattle.lock_model.proofs.Lemmas.Shows.Looks.{content_from, slots_from}
use Rattle.lock_model.proofs.Lemmas.PlainLists.{ListsHolds-gathered, AreInTable-gathered}
use Rattle.lock_model.proofs.Lemmas.SlotRows.{fast_path-count, fast_path-all}

-- Nobody sleeps, and no wait list is in hand.
abbrev NobodySleeps : Machine → Type 0
NobodySleeps m =
    (m.lists.sleep ≡ replicate 64 0) × (m.lists.sleepers.items ≡ []) × (m.lists.has_list ≡ replicate 64 None) × (m.lists.stands ≡ replicate 64 None)
    × (m.lists.off ≡ replicate 64 (replicate 64 false))

-- The machine as it is made shows the opening World.
pub opening-shown : (m : Machine) (groups : ℕ) → m.numbers.groups ≡ groups → 0 < groups → m.numbers.issued ≡ 0 → m.numbers.live ≡ replicate 64 false → m.numbers.kept_by ≡ replicate 64 None → m.words.partitions ≡ replicate 16 opening_state
    → m.words.fast ≡ replicate 64 opening_state → m.words.waits ≡ replicate 1024 0 → m.locks.fast_holders ≡ replicate 64 (replicate 64 false)
    → m.locks.fast_sharers ≡ replicate 64 (replicate 64 false) → m.locks.partition_sharers ≡ replicate 16 (replicate 64 false) → m.fast_path.databases ≡ replicate 64 0 → m.fast_path.slots ≡ replicate 64 (replicate 128 0) → m.fast_path.zeros ≡ replicate 64 None → m.counted.items ≡ []
    → NobodySleeps m
    → m.contents.hands ≡ replicate 16 None → m.waits.awaited ≡ replicate 64 None → m.waits.seen ≡ replicate 64 false
    → length m.contents.parts.items ≡ 16 → ((p : ℕ) → (contents_in m.contents.parts.items p ≡ empty_content) × ((part_at m.contents.parts.items p).begun ≡ None)) → Shows m (opening 64 groups)
opening-shown m groups same_groups some issued live kept_by words fast_words wait_words holders sharers partition_sharers databases slots zeros counted no_sleep hands awaited seen sixteen empty = record {
  numbers = record {
    limit = refl;
    groups = same_groups;
    some_groups = subst (λ n. 0 < n) (sym same_groups) some;
    issued = issued;
    live = λ k. ap (λ list. get_or list k false) live ∙ get_or-one_value 64 false k;
    kept_by = λ k. ap (λ list. get_or list k None) kept_by ∙ get_or-one_value 64 None k;
  };
  words = record {
    sixty_four_fast = ap length fast_words ∙ length-replicate {A = LockState} 64 opening_state;
    all_waits = ap length wait_words ∙ length-replicate {A = ℕ} 1024 0;
    partition = λ p. made_shown _ opening_state (ap (λ list. get_or list p opening_state) words ∙ get_or-one_value 16 opening_state p) opening-word_shown;
    fast = λ k. made_shown _ opening_state (ap (λ list. get_or list k opening_state) fast_words ∙ get_or-one_value 64 opening_state k) opening-word_shown;
    wait = λ k. ap (λ list. get_or list k 0) wait_words ∙ get_or-one_value 1024 0 k;
  };
  fast_path = record {
    sixty_four_databases = ap length databases ∙ length-replicate {A = ℕ} 64 0;
    sixty_four = ap length slots ∙ length-replicate {A = List ℕ} 64 (replicate 16 0);
    each_slots = λ s below.
        ap (λ list. length (get_or list s [])) slots ∙ ap length (get_or-replicate 64 s (replicate 128 0) [] below) ∙ length-replicate {A = ℕ} 128 0;
    sixty_four_zeros = ap length zeros ∙ length-replicate {A = Option ℕ} 64 None;
    database = λ s. ap (λ list. get_or list s 0) databases ∙ get_or-one_value 64 0 s;
    slot = λ s place. ap (λ list. get_or (get_or list s []) place 0) slots ∙ no_slot s place;
    zero = λ s. ap (λ list. get_or list s None) zeros ∙ get_or-one_value 64 None s;
  };
  counted = record { each = λ s. ap (counted_of s) counted; within = subst (All (λ c. c.session < 64)) (sym counted) (λ k c within. absurd (omega (arith, within))) };
  lists = record {
    sixty_four = ap length no_sleep.0 ∙ length-replicate {A = ℕ} 64 0;
    sixty_four_have = ap length no_sleep.2 ∙ length-replicate {A = Option ℕ} 64 None;
    sixty_four_stand = ap length no_sleep.3 ∙ length-replicate {A = Option ℕ} 64 None;
    sixty_four_off = ap length no_sleep.4 ∙ length-replicate {A = List Bool} 64 (replicate 64 false);
    each_off = λ k below. ap (λ rows. length (get_or rows k [])) no_sleep.4 ∙ ap length (get_or-replicate 64 k (replicate 64 false) [] below) ∙ length-replicate {A = Bool} 64 false;
    sleep = λ k. ap (λ list. get_or list k 0) no_sleep.0 ∙ get_or-one_value 64 0 k;
    list = λ lock. ap (waiters_of lock) no_sleep.1;
    has_list = λ k. ap (λ list. get_or list k None) no_sleep.2 ∙ get_or-one_value 64 None k;
    stands = λ k. ap (λ list. get_or list k None) no_sleep.3 ∙ get_or-one_value 64 None k;
    off = λ k j. ap (λ rows. get_or (get_or rows k []) j false) no_sleep.4 ∙ none_off k j;
  };
  locks = record {
    fast_holders = no_marks 64 m.locks.fast_holders holders;
    fast_sharers = no_marks 64 m.locks.fast_sharers sharers;
    partition_sharers = no_marks 16 m.locks.partition_sharers partition_sharers;
  };
  contents = record {
    sixteen_hands = ap length hands ∙ length-replicate {A = Option InHand} 16 None;
    hand = λ p. subst (λ o. ShowsHandIfAny o None) (sym (ap (λ list. get_or list p None) hands ∙ get_or-one_value 16 None p)) tt;
    sixteen = sixteen;
    now = λ p within. (empty p).0;
    none_begun = λ p. (empty p).1;
  };
  waits = record {
    sixty_four = ap length awaited ∙ length-replicate {A = Option Awaited} 64 None;
    sixty_four_seen = ap length seen ∙ length-replicate {A = Bool} 64 false;
    awaited = λ k. ap (λ list. get_or list k None) awaited ∙ get_or-one_value 64 None k;
    seen = λ k. ap (λ list. get_or list k false) seen ∙ get_or-one_value 64 false k;
  };
} where
  none_off : (s k : ℕ) → ◌≡◌ {A = Bool} (get_or (get_or (replicate 64 (replicate 64 false)) s []) k false) false
  none_off s k =
      elim (cases_lt s 64) [
        | inl within ↦ ap (λ row. get_or row k false) (get_or-replicate 64 s (replicate 64 false) [] within) ∙ get_or-one_value 64 false k
        | inr past ↦ ap (λ row. get_or row k false) (get_or_past (replicate 64 (replicate 64 false)) s [] (let e = length-replicate {A = List Bool} 64 (replicate 64 false) in omega (arith, e)))
      ]

  no_slot : (s place : ℕ) → ◌≡◌ {A = ℕ} (get_or (get_or (replicate 64 (replicate 128 0)) s []) place 0) 0
  no_slot s place =
      elim (cases_lt s 64) [
        | inl within ↦ ap (λ row. get_or row place 0) (get_or-replicate 64 s (replicate 128 0) [] within) ∙ get_or-one_value 128 0 place
        | inr past ↦ ap (λ row. get_or row place 0) (get_or_past (replicate 64 (replicate 128 0)) s [] (let e = length-replicate {A = List ℕ} 64 (replicate 16 0) in omega (arith, e)))
      ]

-- In a safe World each hold and each wait that the machine keeps is in its object's partition.
pub parts_at_home : (m : Machine) (w : World) → SafeWorld w → Shows m w → AreAtHome m.contents.parts.items
parts_at_home m w safe shows = record { holds = held; waits = waiting } where
  held : (p s : ℕ) (t : Tag) (n : Mode) → (contents_in m.contents.parts.items p).holds s t n ≡ true → partition_of t ≡ p
  held p s t n has =
      elim (cases_lt p 16) [
        | inl within ↦ safe.but_slots.table.promise.one_place.no_hold_elsewhere p s t n (sym (ap (λ c. c.holds s t n) (shows.contents.now p within)) ∙ has)
        | inr past ↦
            let none : part_at m.contents.parts.items p ≡ no_part = get_or_past m.contents.parts.items p no_part (let sixteen = shows.contents.sixteen in omega (arith, sixteen)) in
            absurd (false≢true (sym (ap (λ part. (content_of part).holds s t n) none) ∙ has))
      ]

  waiting : (p : ℕ) (t : Tag) → partition_of t ≢ p → (contents_in m.contents.parts.items p).waits t ≡ []
  waiting p t elsewhere =
      elim (cases_lt p 16) [
        | inl within ↦ ap (λ c. c.waits t) (shows.contents.now p within) ∙ safe.but_slots.table.promise.one_place.no_wait_elsewhere p t elsewhere
        | inr past ↦
            let none : part_at m.contents.parts.items p ≡ no_part = get_or_past m.contents.parts.items p no_part (let sixteen = shows.contents.sixteen in omega (arith, sixteen)) in
            ap (λ part. (content_of part).waits t) none
      ]

-- What is gathered of slots and parts, and of parts that are at home.
abbrev pub GathersHolds : List PartView → FastPath → List Hold → Type 0
GathersHolds parts path list =
    IsPermutation (flat_map table_holds_of parts ++ fast_path_rows path.databases path.slots) list
    × ((p : ℕ) → p < length parts → EachOnce (part_at parts p).holds (part_at parts p).waits)

abbrev pub GathersWaits : List PartView → List QueuedWait → Type 0
GathersWaits parts list = AreAtHome parts → (t : Tag) → map as_wait (filter (λ queued. tag_eq queued.tag t) list) ≡ (contents_in parts (partition_of t)).waits t

-- A counter shows how many of all that is counted are at its index.
pub counter_shown : (m : Machine) (w : World) → SafeWorld w → Shows m w → (i : ℕ) → count_by (λ c. index_of c.tag == i) m.counted.items ≡ w.words.strong i
counter_shown m w safe shows i =
    sym (total-of_sessions 64 (λ (c : Counted). index_of c.tag == i) m.counted.items shows.counted.within)
    ∙ ap (λ n. total n (λ s. count_at i (counted_of s m.counted.items))) (sym shows.numbers.limit)
    ∙ (λ j. total w.numbers.limit (λ s. count_at i (shows.counted.each s j)))
    ∙ sym (safe.counters.shown i)

is_hold-itself : (hold : Hold) → is_hold hold.session hold.tag hold.mode hold ≡ true
is_hold-itself hold =
    and_from (nat_eq hold.session hold.session) (tag_eq hold.tag hold.tag && mode_eq hold.mode hold.mode) (eq-eqb hold.session hold.session refl)
    (and_from (tag_eq hold.tag hold.tag) (mode_eq hold.mode hold.mode) (tag_eq-refl hold.tag) (mode_eq-refl hold.mode))

-- What is in one of two lists at most is counted where it is in either.
either : (table slot : Bool) → (slot ≡ true → table ≡ false) → cond table 1 0 + cond slot 1 0 ≡ cond (slot || table) 1 0
either true true apart = absurd (false≢true (sym (apart refl)))
either true false apart = refl
either false true apart = refl
either false false apart = refl

-- What is gathered has each hold of the World once.
pub all-shown : (m : Machine) (w : World) → SafeWorld w → Shows m w → (list : List Hold) → GathersHolds m.contents.parts.items m.fast_path list → ListsHolds list (all_holds w)
all-shown m w safe shows list gathered s t n =
    sum_by-IsPermutation (λ hold. cond (is_hold s t n hold) 1 0) (tables ++ rows) list gathered.0
    ∙ count_by-append (is_hold s t n) tables rows
    ∙ (λ i. in_tables i + in_slots i)
    ∙ either (table_holds w s t n) (slots_of w.words.database w.words.slot s t n) (shown-in_no_content w safe (partition_of t) s t n) where
      tables : List Hold
      tables = flat_map table_holds_of m.contents.parts.items

      rows : List Hold
      rows = fast_path_rows m.fast_path.databases m.fast_path.slots

      in_tables : count_by (is_hold s t n) tables ≡ cond (table_holds w s t n) 1 0
      in_tables =
          ListsHolds-gathered m.contents.parts.items gathered.1 (parts_at_home m w safe shows) s t n
          ∙ ap (λ c. cond (c.holds s t n) 1 0) (content_from m w safe shows t)

      in_slots : count_by (is_hold s t n) rows ≡ cond (slots_of w.words.database w.words.slot s t n) 1 0
      in_slots =
          fast_path-count m.fast_path.databases m.fast_path.slots s shows.fast_path.sixty_four_databases
          (subst OneSlotEach (λ i place. sym (shows.fast_path.slot s place) i) (safe.slots.one_each s)) t n
          ∙ ap (λ b. cond b 1 0) (slots_from m w safe shows s t n)

-- Each hold of such a list, in the lock table, is there.
in_table-stand : (w : World) (list : List Hold) → AreInTable list → ListsHolds list (table_holds w) → All (λ hold. StandsThere w hold) list
in_table-stand w list in_table holds = λ k d within.
    let hold : Hold = get_or list k d in
    let among : 0 < count_by (is_hold hold.session hold.tag hold.mode) list =
    any-counted (is_hold hold.session hold.tag hold.mode) list (list_any_at (is_hold hold.session hold.tag hold.mode) list k d within (is_hold-itself hold)) in
    subst (StandsAt w hold.session hold.tag hold.mode) (sym (in_table k d within))
    (listed (table_holds w hold.session hold.tag hold.mode) (subst (λ n. 0 < n) (holds hold.session hold.tag hold.mode) among)) where
      listed : (b : Bool) → 0 < cond b 1 0 → b ≡ true
      listed true more = refl
      listed false more = absurd (omega (arith, more))

-- So does each hold of what is gathered.
pub all-stand : (m : Machine) (w : World) → SafeWorld w → Shows m w → (list : List Hold) → GathersHolds m.contents.parts.items m.fast_path list → All (λ hold. StandsThere w hold) list
all-stand m w safe shows list gathered =
    All-permutation (λ hold. StandsThere w hold) (tables ++ rows) list gathered.0
    (All-append (λ hold. StandsThere w hold) tables rows (in_table-stand w tables (AreInTable-gathered m.contents.parts.items) in_tables)
    (fast_path-all (λ hold. StandsThere w hold) m.fast_path.databases m.fast_path.slots in_slot)) where
      tables : List Hold
      tables = flat_map table_holds_of m.contents.parts.items

      rows : List Hold
      rows = fast_path_rows m.fast_path.databases m.fast_path.slots

      in_tables : ListsHolds tables (table_holds w)
      in_tables s t n =
          ListsHolds-gathered m.contents.parts.items gathered.1 (parts_at_home m w safe shows) s t n
          ∙ ap (λ c. cond (c.holds s t n) 1 0) (content_from m w safe shows t)

      word : ℕ → ℕ → ℕ
      word s place = get_or (get_or m.fast_path.slots s []) place 0

      in_slot : (s place : ℕ) (n : Mode) → place < 128
          → is_eligible_for (get_or m.fast_path.databases s 0) (Relation (get_or m.fast_path.databases s 0) (relation_in (word s place))) n ≡ true
          → slot_word.shows (word s place) (relation_in (word s place)) n ≡ true
          → IsHeldIn (w.words.database s) (w.words.slot s) (Relation (get_or m.fast_path.databases s 0) (relation_in (word s place))) n place
      in_slot s place n within eligible shown = record {
        eligible = ap (λ d. is_eligible_for d (Relation (get_or m.fast_path.databases s 0) (relation_in (word s place))) n) (sym (shows.fast_path.database s)) ∙ eligible;
        within = within;
        shown = ap (λ k. slot_word.shows k (relation_in (word s place)) n) (sym (shows.fast_path.slot s place)) ∙ shown;
      }

-- What the machine gives in the end is what the World has.
pub plain-shown : (m : Machine) (w : World) → SafeWorld w → Shows m w → (plain : Plain) (parts parts_2 : List PartView) → parts ≡ m.contents.parts.items → parts_2 ≡ m.contents.parts.items
    → GathersHolds parts m.fast_path (holds_of plain) → GathersWaits parts_2 (listed_waits plain)
    → IsSortedByKey (λ queued. queued.tag) (on numbers_of (slice_cmp nat_cmp)) (listed_waits plain)
    → plain.words ≡ m.words → plain.fast_path ≡ m.fast_path → plain.counted ≡ m.counted → plain.lists ≡ m.lists → plain.groups ≡ m.numbers.groups → IsPlainOf plain w
plain-shown m w safe shows plain parts parts_2 these those gathered gathered_waits by_tag same same_path same_counted same_lists same_groups = record {
  holds = all-shown m w safe shows (holds_of plain) holds;
  spots = all-stand m w safe shows (holds_of plain) holds;
  waits = λ t. waits at_home t ∙ ap (λ c. c.waits t) (content_from m w safe shows t);
  waits_by_tag = by_tag;
  groups = same_groups ∙ shows.numbers.groups;
  words = word_shown;
  lists = λ lock. ap (λ lists. waiters_of lock lists.sleepers.items) same_lists ∙ shows.lists.list lock;
} where
  at_home : AreAtHome m.contents.parts.items
  at_home = parts_at_home m w safe shows

  holds : GathersHolds m.contents.parts.items m.fast_path (holds_of plain)
  holds = subst (λ items. GathersHolds items m.fast_path (holds_of plain)) these gathered

  waits : GathersWaits m.contents.parts.items (listed_waits plain)
  waits = subst (λ items. GathersWaits items (listed_waits plain)) those gathered_waits

  word_shown : (word : Word) → WordExists w.numbers.groups word → word_of plain word ≡ word_in w.words word
  word_shown (Partition p) exists = ap (λ words. lock_state.word_of (get_or words.partitions p opening_state)) same ∙ number_shown _ _ (shows.words.partition p)
  word_shown (Fast k) exists = ap (λ words. lock_state.word_of (get_or words.fast k opening_state)) same ∙ number_shown _ _ (shows.words.fast k)
  word_shown (Database k) exists = ap (λ path. get_or path.databases k 0) same_path ∙ shows.fast_path.database k
  word_shown (Slot k i) exists = ap (λ path. get_or (get_or path.slots k []) i 0) same_path ∙ shows.fast_path.slot k i
  word_shown (Wait k) exists = ap (λ words. get_or words.waits k 0) same ∙ shows.words.wait k
  word_shown (Strong i) exists = ap (λ counted. count_by (λ c. index_of c.tag == i) counted.items) same_counted ∙ counter_shown m w safe shows i
  word_shown (Sleep k) exists = ap (λ lists. get_or lists.sleep k 0) same_lists ∙ shows.lists.sleep k
