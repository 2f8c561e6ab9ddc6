-- What a listing tells of the caller, and of holds that stand throughout it.
use Rattle.std.proofs.Common.{◌≡◌, ◌⊎◌, ℕ, zero, suc, ◌+◌, ◌<◌, ◌≤◌, ◌^◌, Bool, true, false, List, [], ◌∷◌, ◌++◌, length, Option, None}
use Rattle.std.proofs.Common.{refl, sym, ap, ◌∙◌, subst, inl, inr, arith, append_assoc}
use Rattle.std.specs.Prelude.{if◌then◌else◌, ◌==◌, ◌&&◌}
use Rattle.std.specs.List.{list_any}
use Rattle.std.proofs.lemmas.Bool.{cases_Bool, both_ways, false≢true, false_from_ne_true}
use Rattle.modes_core.specs.declared.modes.Mode.{Mode}
use Rattle.modes_core.specs.declared.tags.Tag.{Tag}
use Rattle.modes_core.specs.Mode.{mode_eq}
use Rattle.modes_core.specs.Tag.{partition_of}
use Rattle.lock_table.specs.Content.{Content}
use Rattle.lock_table.specs.Listing.{IsListing}
use Rattle.lock_table.specs.OwnWait.{OwnWait, is_for}
use Rattle.lock_table.specs.WholeContent.{whole_of}
use Rattle.lock_world.specs.declared.events.Word.TheVariants.{Database, Slot}
use Rattle.lock_world.specs.Account.{Account}
use Rattle.lock_world.specs.AccountFacts.{KnowsContent}
use Rattle.lock_world.specs.AccountSteps.{account_taking}
use Rattle.lock_world.specs.Happens.{last_of}
use Rattle.lock_world.specs.SlotHolds.{slot_holds, relation_of, OneSlotEach, InUseHasDatabase}
use Rattle.lock_world.specs.World.{TraceEntry, Loaded, Took, Episode}
use Rattle.lock_world.proofs.Lemmas.Slots.Eligible.{eligible-is}
use Rattle.lock_world.proofs.Lemmas.Slots.Remembered.{slot_holds-fewer}
use Rattle.lock_world.proofs.Lemmas.Unmissed.{seen-or-taken}
use Rattle.shared_rule.specs.Boards.{Stack, stack_taking}
use Rattle.fast_path.specs.Rows.{rows_of_all, loads_of_all, times_shown, ReadsSlots}
use Rattle.fast_path.proofs.Lemmas.LoadsAt.{LoadsAt, loads-at}
use Rattle.fast_path.proofs.Lemmas.Times.{times-all, times-some}
use Rattle.lock_manager.specs.declared.listing.Listing.{Listing}
use Rattle.lock_table.specs.WholeContent.{content_at}
use Rattle.lock_manager.specs.Listings.{listing_steps, IsOfCaller, AreOfCaller, times_in_table, times_listed}
use Rattle.lock_manager.specs.Listings.{LeftItsSlot, ListsOwn, MissesNone}
use Rattle.lock_table.proofs.Lemmas.PartitionRows.{waits-foreign}

-- A partition that was taken is the one taken last of those in hand, once those taken after it are put.
pub taken-last :
    (old taken now : Stack) (partition : ℕ) → taken ≡ stack_taking old partition → now ≡ taken → (others : List ℕ) × (now.parts ≡ partition ∷ others)
taken-last old taken now partition took same = (old.parts, ap (λ (s : Stack). s.parts) (same ∙ took))

-- ---- what the caller knows of the contents that it takes

-- What the caller knows is known after a partition was taken as before,
caller-taking :
    (number its : ℕ) (a taking : Account) (p : ℕ) (content : Content) (q : ℕ) (contents : List Content) → its ≡ number
    → taking ≡ account_taking a p content
    → AreOfCaller its taking.own taking.awaited taking.fast.database taking.fast.remembered q contents
    → AreOfCaller number a.own a.awaited a.fast.database a.fast.remembered q contents
caller-taking number its a taking p content q contents same took of_caller =
    subst (λ (x : Account). AreOfCaller number x.own x.awaited x.fast.database x.fast.remembered q contents) took
    (subst (λ (n : ℕ). AreOfCaller n taking.own taking.awaited taking.fast.database taking.fast.remembered q contents) same of_caller)

-- and with what it knows of that partition.
pub caller-first :
    (number its : ℕ) (a taking : Account) (p : ℕ) (content : Content) (contents : List Content) → its ≡ number
    → taking ≡ account_taking a p content → KnowsContent number a p content
    → AreOfCaller its taking.own taking.awaited taking.fast.database taking.fast.remembered (p + 1) contents
    → AreOfCaller number a.own a.awaited a.fast.database a.fast.remembered p (content ∷ contents)
caller-first number its a taking p content contents same took knows others = (
  record { stand = knows.own_stand; its_holds = knows.its_holds; no_wait = knows.no_wait },
  caller-taking number its a taking p content (p + 1) contents same took others,
)

caller-at :
    (number : ℕ) (own : Tag → Mode → Bool) (awaited : Option OwnWait) (database : ℕ) (remembered : ℕ → ℕ)
    (p k : ℕ) (contents : List Content) → k < length contents → AreOfCaller number own awaited database remembered p contents
    → IsOfCaller number own awaited database remembered (p + k) (content_at contents k)
caller-at number own awaited database remembered p k [] below of_caller = absurd (omega (arith, below))
caller-at number own awaited database remembered p zero (content ∷ contents) below of_caller =
    let same : p ≡ p + 0 = omega arith in
    subst (λ (q : ℕ). IsOfCaller number own awaited database remembered q content) same of_caller.0
caller-at number own awaited database remembered p (suc k) (content ∷ contents) below of_caller =
    let same : (p + 1) + k ≡ p + suc k = omega arith in
    subst (λ (q : ℕ). IsOfCaller number own awaited database remembered q (content_at contents k)) same
    (caller-at number own awaited database remembered (p + 1) k contents (omega (arith, below)) of_caller.1)

-- ---- rows of the caller

module _ (groups limit number : ℕ) (a b : Account) (database : ℕ → ℕ) (word : ℕ → ℕ → ℕ) (contents : List Content) (listing : Listing)
    (exists : number < limit) (fits : a.fast.database < 2 ^ 32) (no_wait : a.awaited ≡ None)
    (reads : ReadsSlots groups number a number (database number) (word number)) (remembers : b.fast.remembered ≡ word number)
    (only : b ≡ record a { fast = record (a.fast) { remembered = b.fast.remembered }; trace = b.trace })
    (of_caller : AreOfCaller number b.own b.awaited b.fast.database b.fast.remembered 0 contents)
    (sixteen : length contents ≡ 16) (fast : listing.fast.items ≡ rows_of_all limit database word)
    (table : IsListing (whole_of (content_at contents)) listing.table.items) where
  own_database : database number ≡ a.fast.database
  own_database = reads.own_database refl

  its_contents : AreOfCaller number a.own a.awaited a.fast.database (word number) 0 contents
  its_contents =
      subst (λ (words : ℕ → ℕ). AreOfCaller number a.own a.awaited a.fast.database words 0 contents) remembers
      (subst (λ (x : Account). AreOfCaller number x.own x.awaited x.fast.database b.fast.remembered 0 contents) only of_caller)

  known-at : (partition : ℕ) → partition < 16
      → IsOfCaller number a.own a.awaited a.fast.database (word number) partition (content_at contents partition)
  known-at partition below =
      let same : 0 + partition ≡ partition = omega arith in
      subst (λ (p : ℕ). IsOfCaller number a.own a.awaited a.fast.database (word number) p (content_at contents partition)) same
      (caller-at number a.own a.awaited a.fast.database (word number) 0 partition contents (omega (arith, below, sixteen)) its_contents)

  module _ (tag : Tag) (mode : Mode) where
    known : IsOfCaller number a.own a.awaited a.fast.database (word number) (partition_of tag) (content_at contents (partition_of tag))
    known = let below : partition_of tag < 16 = omega arith in known-at (partition_of tag) below

    one_each : OneSlotEach (word number)
    one_each = subst (λ (words : ℕ → ℕ). OneSlotEach words) reads.words reads.knows.one_each

    has_database : InUseHasDatabase (database number) (word number)
    has_database =
        subst (λ (words : ℕ → ℕ). InUseHasDatabase (database number) words) reads.words
        (subst (λ (d : ℕ). InUseHasDatabase d reads.slots.word) (reads.knows.own_database refl ∙ sym own_database) reads.knows.in_use)

    -- as many rows of slots, and of the table
    in_slots : times_shown listing.fast.items number tag mode ≡ (if slot_holds a.fast.database (word number) tag mode then 1 else 0)
    in_slots =
        ap (λ rows. times_shown rows number tag mode) fast
        ∙ times-all limit database word number tag mode exists (subst (λ (d : ℕ). d < 2 ^ 32) (sym own_database) fits) one_each has_database
        ∙ ap (λ (d : ℕ). if slot_holds d (word number) tag mode then 1 else 0) own_database

    in_table : times_in_table listing.table.items number tag mode true
        ≡ (if (content_at contents (partition_of tag)).holds number tag mode then 1 else 0)
    in_table = table.each_once (record { session = number; tag = tag; mode = mode; granted = true })

    -- What slots show is own, and so is what the table has.
    slots_own : slot_holds a.fast.database (word number) tag mode ≡ true → a.own tag mode ≡ true
    slots_own shown =
        reads.knows.own refl tag mode
        ((λ i. reads.holds i tag mode) ∙ (λ i. slot_holds (own_database i) (word number) tag mode) ∙ shown)

    table_own : (content_at contents (partition_of tag)).holds number tag mode ≡ true → a.own tag mode ≡ true
    table_own has = elim (known.its_holds tag mode has) [
      | inl own ↦ own
      | inr awaits ↦ absurd (false≢true (ap (λ w. is_for w tag mode) (sym no_wait) ∙ awaits))
    ]

    each : a.own tag mode ≡ true
        → (times_listed listing number tag mode ≡ 1)
        ⊎ ((times_listed listing number tag mode ≡ 2) × LeftItsSlot number a.fast.database (word number) contents tag mode)
    each own = elim (cases_Bool (slot_holds a.fast.database (word number) tag mode)) [
      | inr not_shown ↦
          let gone = slot_holds-fewer a.fast.database known.stand.slot (word number) tag mode known.stand.no_more not_shown in
          let has = known.stand.in_content tag mode refl own gone in
          let none : times_shown listing.fast.items number tag mode ≡ 0 = in_slots ∙ rw not_shown refl in
          let one : times_in_table listing.table.items number tag mode true ≡ 1 = in_table ∙ rw has refl in
          inl (omega (arith, none, one))
      | inl shown ↦
          let one : times_shown listing.fast.items number tag mode ≡ 1 = in_slots ∙ rw shown refl in
          elim (cases_Bool ((content_at contents (partition_of tag)).holds number tag mode)) [
            | inr not_there ↦
                let none : times_in_table listing.table.items number tag mode true ≡ 0 = in_table ∙ rw not_there refl in
                inl (omega (arith, none, one))
            | inl has ↦
                let too : times_in_table listing.table.items number tag mode true ≡ 1 = in_table ∙ rw has refl in
                inr (
                  omega (arith, one, too),
                  record { shown = shown; there = has },
                )
          ]
    ]

    no_other : a.own tag mode ≡ false → times_listed listing number tag mode ≡ 0
    no_other foreign =
        let no_slot : slot_holds a.fast.database (word number) tag mode ≡ false =
        false_from_ne_true (slot_holds a.fast.database (word number) tag mode)
        (λ shown. both_ways (a.own tag mode) foreign (slots_own shown)) in
        let no_hold : (content_at contents (partition_of tag)).holds number tag mode ≡ false =
        false_from_ne_true ((content_at contents (partition_of tag)).holds number tag mode)
        (λ has. both_ways (a.own tag mode) foreign (table_own has)) in
        let none : times_shown listing.fast.items number tag mode ≡ 0 = in_slots ∙ rw no_slot refl in
        let nor : times_in_table listing.table.items number tag mode true ≡ 0 = in_table ∙ rw no_hold refl in
        omega (arith, none, nor)

    none_awaited : times_in_table listing.table.items number tag mode false ≡ 0
    none_awaited =
        table.each_once (record { session = number; tag = tag; mode = mode; granted = false })
        ∙ (let none : list_any (λ w. (w.session == number) && mode_eq w.mode mode) ((content_at contents (partition_of tag)).waits tag) ≡ false =
        waits-foreign ((content_at contents (partition_of tag)).waits tag) number mode (known.no_wait tag no_wait) in rw none refl)

  pub lists-own : ListsOwn number a.own a.fast.database (word number) contents listing
  lists-own = record {
    stand = λ partition below. (known-at partition below).stand;
    each = each;
    no_other = no_other;
    none_awaited = none_awaited;
  }

-- ---- holds that stand throughout

-- A taking among the steps of the table's part.
record StepAt (p k : ℕ) (contents : List Content) : Type 0 where
  before : List TraceEntry
  after : List TraceEntry
  split : listing_steps p contents ≡ before ++ Took (p + k) (content_at contents k) ∷ after

step-at : (p k : ℕ) (contents : List Content) → k < length contents → StepAt p k contents
step-at p k [] below = absurd (omega (arith, below))
step-at p zero (content ∷ contents) below =
    let same : p ≡ p + 0 = omega arith in
    record {
      before = [];
      after = listing_steps (p + 1) contents ++ Episode p content content ∷ [];
      split = (λ i. Took (same i) content ∷ listing_steps (p + 1) contents ++ Episode p content content ∷ []);
    }
step-at p (suc k) (content ∷ contents) below =
    let later = step-at (p + 1) k contents (omega (arith, below)) in
    let same : (p + 1) + k ≡ p + suc k = omega arith in
    let put : List TraceEntry = Episode p content content ∷ [] in
    record {
      before = Took p content ∷ later.before;
      after = later.after ++ put;
      split = ap (λ steps. Took p content ∷ steps ++ put) later.split
          ∙ ap (λ steps. Took p content ∷ steps) (append_assoc later.before (Took ((p + 1) + k) (content_at contents k) ∷ later.after) put)
          ∙ ap (λ (q : ℕ). (Took p content ∷ later.before) ++ (Took q (content_at contents k) ∷ (later.after ++ put))) same;
    }

pub misses-none :
    (groups limit number : ℕ) (before after : List TraceEntry) (database : ℕ → ℕ) (word : ℕ → ℕ → ℕ) (contents : List Content) (listing : Listing)
    → length contents ≡ 16 → after ≡ (before ++ loads_of_all groups limit database word) ++ listing_steps 0 contents
    → listing.fast.items ≡ rows_of_all limit database word → IsListing (whole_of (content_at contents)) listing.table.items
    → MissesNone groups limit number before after listing
misses-none groups limit number before after database word contents listing sixteen trace fast table first events worlds safe run is is_after
    session slot tag mode exists within its words stands =
    elim (seen-or-taken session slot tag mode first events worlds number before loads.first loads.second
    (Loaded (Slot session slot) (word session slot) ∷ loads.later ++ takes.before)
    (loads.rest ++ steps) (loads.later ++ steps) takes.after (database session) (word session slot)
    (content_at contents (partition_of tag)) safe run stands is by_database by_slot by_taking) [
      | inl seen ↦
          let fits = words (database session) (relation_of tag) (eligible-is (database session) tag mode seen.0).0 in
          let some : 1 ≤ times_shown (rows_of_all limit database word) session tag mode =
          times-some limit database word session slot tag mode exists fits within seen.0 seen.1 in
          let rows : times_shown listing.fast.items session tag mode ≡ times_shown (rows_of_all limit database word) session tag mode =
          ap (λ entries. times_shown entries session tag mode) fast in
          omega (arith, some, rows)
      | inr has ↦
          let one : times_in_table listing.table.items session tag mode true ≡ 1 =
          table.each_once (record { session = session; tag = tag; mode = mode; granted = true }) ∙ rw has refl in
          omega (arith, one)
    ] where
      loads : LoadsAt groups limit database word session slot
      loads = loads-at groups limit database word session slot exists its

      takes : StepAt 0 (partition_of tag) contents
      takes = let below : partition_of tag < 16 = omega arith in step-at 0 (partition_of tag) contents (omega (arith, below, sixteen))

      steps : List TraceEntry
      steps = listing_steps 0 contents

      its_database : List TraceEntry
      its_database = Loaded (Database session) (database session) ∷ loads.rest

      its_slot : List TraceEntry
      its_slot = Loaded (Slot session slot) (word session slot) ∷ loads.later

      its_taking : List TraceEntry
      its_taking = Took (partition_of tag) (content_at contents (partition_of tag)) ∷ takes.after

      taken : steps ≡ takes.before ++ its_taking
      taken =
          let same : 0 + partition_of tag ≡ partition_of tag = omega arith in
          takes.split ∙ ap (λ (p : ℕ). takes.before ++ (Took p (content_at contents (partition_of tag)) ∷ takes.after)) same

      all : (last_of first worlds).sessions.trace number ≡ (before ++ loads_of_all groups limit database word) ++ steps
      all = is_after ∙ trace

      by_database : (last_of first worlds).sessions.trace number
          ≡ (before ++ loads.first) ++ Loaded (Database session) (database session) ∷ (loads.rest ++ steps)
      by_database =
          all ∙ ap (λ entries. (before ++ entries) ++ steps) loads.by_database
          ∙ ap (λ entries. entries ++ steps) (sym (append_assoc before loads.first its_database))
          ∙ append_assoc (before ++ loads.first) its_database steps

      slots_then : before ++ loads_of_all groups limit database word ≡ ((before ++ loads.first) ++ loads.second) ++ its_slot
      slots_then =
          ap (λ entries. before ++ entries) loads.by_slot
          ∙ sym (append_assoc before (loads.first ++ loads.second) its_slot)
          ∙ ap (λ entries. entries ++ its_slot) (sym (append_assoc before loads.first loads.second))

      by_slot : (last_of first worlds).sessions.trace number
          ≡ ((before ++ loads.first) ++ loads.second) ++ Loaded (Slot session slot) (word session slot) ∷ (loads.later ++ steps)
      by_slot =
          all ∙ ap (λ entries. entries ++ steps) slots_then
          ∙ append_assoc ((before ++ loads.first) ++ loads.second) its_slot steps

      by_taking : (last_of first worlds).sessions.trace number
          ≡ (((before ++ loads.first) ++ loads.second) ++ (its_slot ++ takes.before)) ++ its_taking
      by_taking =
          all ∙ ap (λ entries. entries ++ steps) slots_then
          ∙ ap (λ entries. (((before ++ loads.first) ++ loads.second) ++ its_slot) ++ entries) taken
          ∙ sym (append_assoc (((before ++ loads.first) ++ loads.second) ++ its_slot) takes.before its_taking)
          ∙ ap (λ entries. entries ++ its_taking) (append_assoc ((before ++ loads.first) ++ loads.second) its_slot takes.before)
