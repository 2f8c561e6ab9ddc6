use Rattle.std.proofs.Common.{◌≡◌, ℕ, true, false, ◌&&◌, ◌==◌, Option, Some, None, is_some, refl}
use Rattle.std.proofs.Common.{ap, ◌∙◌, inl, inr, arith}
use Rattle.std.specs.Prelude.{if◌then◌else◌}
use Rattle.std.proofs.lemmas.Bool.{false_from_ne_true, both_ways}
use Rattle.modes_core.specs.declared.modes.Mode.{Mode}
use Rattle.modes_core.specs.declared.modes.Mode.TheVariants.{AccessShare, RowExclusive}
use Rattle.modes_core.specs.declared.tags.Tag.{Tag}
use Rattle.modes_core.specs.declared.tags.Tag.TheVariants.{Relation}
use Rattle.modes_core.specs.Tag.{index_of, is_eligible_for}
use Rattle.lw_word.specs.SlotWord.{in_use, relation_in, word_with}
use Rattle.lw_word.proofs.Lemmas.Slots.{shows-word_with}
use Rattle.lock_table.proofs.Lemmas.Put.{set_at-here}
use Rattle.lock_table.specs.Put.{set_at}
use Rattle.lock_world.specs.SlotHolds.{slot_holds, NoSlotInUse, IsSlotToGrant}
use Rattle.lock_world.specs.World.{TraceEntry}
use Rattle.lock_world.specs.Account.{Account, SlotsInHand}
use Rattle.lock_world.specs.AccountSteps.{account_tracing, account_taking_fast, account_storing, account_reading}
use Rattle.lock_world.specs.AccountSteps.{account_setting, own_with}
use Rattle.lock_world.specs.AccountFacts.{KnowsSlots}
use Rattle.lock_world.specs.AccountLaw.{MaySetSlotBy}
use Rattle.lock_world.proofs.Lemmas.Slots.Eligible.{shown-in_use}
use Rattle.lock_world.proofs.Lemmas.Slots.Remembered.{no_hold-no_slot}
use Rattle.shared_rule.specs.History.{blank_account, slots_here}

-- A session that has nothing may set two modes of a relation in its first slot, where each has one group of
-- slots.

-- a relation of its database
abbrev pub table : Tag
table = Relation 5 16384

-- The slots of a session that has no hold are not in use.
pub none-in_use : (n : ℕ) (a : Account) (slots : SlotsInHand) → KnowsSlots 1 n a n slots → a.own ≡ (λ _ _. false)
    → NoSlotInUse slots.word
none-in_use n a slots knows blank = no_hold-no_slot knows.database slots.word knows.in_use (λ tag mode.
    false_from_ne_true (slot_holds knows.database slots.word tag mode) (λ held.
    let shown : slots.holds tag mode ≡ true = ap (λ holds. holds tag mode) knows.holds ∙ held in
    both_ways (a.own tag mode) (ap (λ own. own tag mode) blank) (knows.own refl tag mode shown)))

-- The first of them is free for the relation.
pub first-free : (slot : ℕ → ℕ) → NoSlotInUse slot → IsSlotToGrant 1 slot 16384 0
first-free slot unused = record {
  within = omega arith;
  usable = refl;
  its_or_unused = inr (
    unused 0 (omega arith),
    λ other within usable. ap (λ used. used && relation_in (slot other) == 16384) (unused other within),
  );
}

-- Once a mode is set there it is the relation's.
pub first-its : (slot : ℕ → ℕ) → in_use (slot 0) ≡ false
    → IsSlotToGrant 1 (set_at slot 0 (word_with (slot 0) 16384 AccessShare)) 16384 0
first-its slot unused = record {
  within = omega arith;
  usable = refl;
  its_or_unused = inl (shown-in_use (word_with (slot 0) 16384 AccessShare) 16384 AccessShare
      (shows-word_with (slot 0) 16384 AccessShare (omega arith) (omega arith)
      (λ used. absurd (both_ways (in_use (slot 0)) unused used)) 16384 AccessShare));
}

-- Its account once it has stored its database, taken the lock of its slots, and read the counter.
abbrev pub ready_account : ℕ → ℕ → ℕ → SlotsInHand → Account
ready_account n index shown slots = account_reading n (account_taking_fast n (account_storing blank_account 5) n
    slots) index shown

-- What it has then, and has still after loads.
pub record IsReady (n : ℕ) (a : Account) (slots : SlotsInHand) : Type 0 where
  pub in_hand : a.fast.slots n ≡ Some slots
  pub database : a.fast.database ≡ 5
  pub zero : a.fast.zero ≡ Some (index_of table)
  pub awaited : a.awaited ≡ None

may_set : (n : ℕ) (a : Account) (slots : SlotsInHand) (mode : Mode) → IsReady n a slots
    → is_eligible_for 5 table mode ≡ true → a.own table mode ≡ false
    → IsSlotToGrant 1 slots.word 16384 0 → MaySetSlotBy 1 n a slots 0 table mode
may_set n a slots mode is eligible new takes = record {
  in_hand = is.in_hand;
  eligible = ap (λ d. is_eligible_for d table mode) is.database ∙ eligible;
  below = omega arith;
  read_as_zero = is.zero;
  no_wait = is.awaited;
  new = new;
  takes = takes;
}

-- the slots with the first mode set
abbrev pub after_first : SlotsInHand → SlotsInHand
after_first slots = record {
  word = set_at slots.word 0 (word_with (slots.word 0) 16384 AccessShare);
  holds =
      own_with slots.holds table AccessShare true;
}

module _ (n index shown : ℕ) (slots : SlotsInHand) (is : index ≡ index_of table) (none : shown ≡ 0) where
  here : set_at (λ (k : ℕ). None) n (Some slots) n ≡ Some slots
  here = set_at-here (λ (k : ℕ). None) n (Some slots) n refl

  pub ready : IsReady n (ready_account n index shown slots) slots
  ready = record {
    in_hand = here;
    database = refl;
    zero = ap (λ k. if (k == 0) && is_some (set_at (λ (k : ℕ). None) n (Some slots) n) then Some index else None) none
        ∙ ap (λ (o : Option SlotsInHand). if is_some o then Some index else None) here
        ∙ ap Some is;
    awaited = refl;
  }

  -- The first mode may be set where no slot is in use,
  pub first-set : (entry : TraceEntry) → NoSlotInUse slots.word
      → MaySetSlotBy 1 n (account_tracing (ready_account n index shown slots) entry) slots 0 table AccessShare
  first-set entry unused =
      may_set n (account_tracing (ready_account n index shown slots) entry) slots AccessShare
      (record { in_hand = ready.in_hand; database = ready.database; zero = ready.zero; awaited = ready.awaited }) refl
      refl (first-free slots.word unused)

  -- and then the second.
  abbrev pub set_account : TraceEntry → Account
  set_account entry = account_setting n (account_tracing (ready_account n index shown slots) entry)
      (slots_here (set_at (λ (k : ℕ). None) n (Some slots) n)) 0 table AccessShare

  pub second-set : (entry later : TraceEntry) → NoSlotInUse slots.word
      → MaySetSlotBy 1 n (account_tracing (set_account entry) later) (after_first slots) 0 table RowExclusive
  second-set entry later unused =
      may_set n (account_tracing (set_account entry) later) (after_first slots) RowExclusive
      (record {
        in_hand = set_at-here (set_at (λ (k : ℕ). None) n (Some slots)) n
            (Some (record {
              word = set_at (slots_here (set_at (λ (k : ℕ). None) n (Some slots) n)).word 0
                  (word_with ((slots_here (set_at (λ (k : ℕ). None) n (Some slots) n)).word 0) 16384 AccessShare);
              holds = own_with (slots_here (set_at (λ (k : ℕ). None) n (Some slots) n)).holds table AccessShare true;
            })) n refl
            ∙ ap (λ (o : Option SlotsInHand). Some (record {
              word = set_at (slots_here o).word 0 (word_with ((slots_here o).word 0) 16384 AccessShare);
              holds = own_with (slots_here o).holds table AccessShare true;
            })) here;
        database = ready.database;
        zero = ready.zero;
        awaited = ready.awaited;
      })
      refl refl (first-its slots.word (unused 0 (omega arith)))
