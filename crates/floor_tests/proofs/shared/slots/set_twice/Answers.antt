use Rattle.std.proofs.Common.{◌≡◌, ℕ, false, sym, ap, ◌∙◌, subst}
use Rattle.modes_core.specs.declared.modes.Mode.TheVariants.{AccessShare, RowExclusive}
use Rattle.lock_world.specs.declared.events.Word.TheVariants.{Slot}
use Rattle.lock_world.specs.SlotHolds.{NoSlotInUse}
use Rattle.lock_world.specs.World.{Loaded}
use Rattle.lock_world.specs.Account.{Account, SlotsInHand}
use Rattle.lock_world.specs.AccountSteps.{account_tracing, account_taking_fast, account_storing, account_reading}
use Rattle.lock_world.specs.AccountSteps.{account_setting}
use Rattle.lock_world.specs.AccountLaw.{MaySetSlotBy}
use Rattle.shared_rule.specs.History.{blank_account, slots_here}
use Rattle.shared_rule.specs.Boards.{Seated}
use Rattle.shared_rule.specs.Slots.{TakesFast}
use Rattle.shared_rule.proofs.Lemmas.FirstSlot.{table, ready_account, none-in_use, ready, first-set, after_first, second-set}
use Rattle.floor_tests.proofs.shared.slots.set_twice.Goals as goal

-- The account once the counter is read, and the slots in hand, none of them in use.
record IsRead (own index shown : ℕ) (account : Account) : Type 0 where
  slots : SlotsInHand
  is : account ≡ ready_account own index shown slots
  unused : NoSlotInUse slots.word

read : (groups number own index shown : ℕ) (a b c d : Account) → groups ≡ 1 → number ≡ own → a ≡ blank_account
    → b ≡ account_storing a 5 → TakesFast groups number b own c → d ≡ account_reading number c index shown → IsRead own index shown d
read groups number own index shown a b c d one same blank stored taken is =
    let takes : TakesFast 1 own b own c = subst (λ n. TakesFast 1 n b own c) same
    (subst (λ k. TakesFast k number b own c) one taken) in
    let first : b ≡ account_storing blank_account 5 = stored ∙ ap (λ (k : Account). account_storing k 5) blank in
    record {
      slots = takes.slots;
      is = is ∙ ap (λ n. account_reading n c index shown) same
          ∙ ap (λ (k : Account). account_reading own k index shown) (takes.account
          ∙ ap (λ (k : Account). account_taking_fast own k own takes.slots) first);
      unused = none-in_use own b takes.slots takes.knows (ap (λ (k : Account). k.own) first);
    }

pub set_slot-requires-clause-lawful : goal.set_slot-requires-clause-lawful
set_slot-requires-clause-lawful g c =
    let view = g.B.Board.view in
    let seat = g.B.Board.seat in
    let own : ℕ = c.number-own.result in
    let at_take : (seat c.store_database.new.self).number ≡ own = ap (λ (s : Seated). s.number)
    c.store_database.ensures.seat ∙ sym c.number-own.ensures.value in
    let at_load : (seat c.load_slot-empty.new.self).number ≡ own =
    ap (λ (s : Seated). s.number) (c.load_slot-empty.ensures.seat ∙ c.load_strong-counted.ensures.seat
    ∙ c.take_fast.ensures.seat) ∙ at_take in
    let reading = c.load_strong-counted.ensures.view
    ∙ ap (λ (s : Seated). account_reading s.number (view c.take_fast.new.self) c.strong_index.result
    c.load_strong-counted.result) c.take_fast.ensures.seat in
    let one_at_take = ap (λ (s : Seated). s.groups) c.store_database.ensures.seat ∙ c.requires.groups in
    let was = read (seat c.store_database.new.self).groups (seat c.store_database.new.self).number own c.strong_index.result c.load_strong-counted.result
    (view c.args.board.now) (view c.store_database.new.self) (view c.take_fast.new.self)
    (view c.load_strong-counted.new.self)
    one_at_take at_take c.requires.blank c.store_database.ensures.view c.take_fast.ensures.taken reading in
    let one_at_load = ap (λ (s : Seated). s.groups) (c.load_slot-empty.ensures.seat ∙ c.load_strong-counted.ensures.seat
    ∙ c.take_fast.ensures.seat) ∙ one_at_take in
    let index = c.strong_index.ensures.value in
    let none = c.if-counted-ne0.false in
    let known = ap (λ (k : Account). k.fast.slots own) was.is
    ∙ (ready own c.strong_index.result c.load_strong-counted.result was.slots index none).in_hand in
    let full = c.load_slot-empty.ensures.view
    ∙ ap (λ (k : Account). account_tracing k (Loaded (Slot own 0) c.load_slot-empty.result)) was.is in (
      was.slots,
      subst (λ k. MaySetSlotBy k (seat c.load_slot-empty.new.self).number (view c.load_slot-empty.new.self) was.slots 0 table
          AccessShare) (sym one_at_load)
          (subst (λ n. MaySetSlotBy 1 n (view c.load_slot-empty.new.self) was.slots 0 table AccessShare) (sym at_load)
          (subst (λ (k : Account). MaySetSlotBy 1 own k was.slots 0 table AccessShare) (sym full)
          (first-set own c.strong_index.result c.load_strong-counted.result was.slots index none
          (Loaded (Slot own 0) c.load_slot-empty.result) was.unused))),
      c.load_slot-empty.ensures.of_slots was.slots known,
    )

pub set_slot-requires-2-clause-lawful : goal.set_slot-requires-2-clause-lawful
set_slot-requires-2-clause-lawful g c =
    let view = g.B.Board.view in
    let seat = g.B.Board.seat in
    let own : ℕ = c.number-own.result in
    let at_take : (seat c.store_database.new.self).number ≡ own = ap (λ (s : Seated). s.number)
    c.store_database.ensures.seat ∙ sym c.number-own.ensures.value in
    let at_set : (seat c.load_slot-empty.new.self).number ≡ own =
    ap (λ (s : Seated). s.number) (c.load_slot-empty.ensures.seat ∙ c.load_strong-counted.ensures.seat
    ∙ c.take_fast.ensures.seat) ∙ at_take in
    let at_load : (seat c.load_slot-shown.new.self).number ≡ own = ap (λ (s : Seated). s.number)
    (c.load_slot-shown.ensures.seat ∙ c.set_slot.ensures.seat) ∙ at_set in
    let reading = c.load_strong-counted.ensures.view
    ∙ ap (λ (s : Seated). account_reading s.number (view c.take_fast.new.self) c.strong_index.result
    c.load_strong-counted.result) c.take_fast.ensures.seat in
    let one_at_take = ap (λ (s : Seated). s.groups) c.store_database.ensures.seat ∙ c.requires.groups in
    let was = read (seat c.store_database.new.self).groups (seat c.store_database.new.self).number own c.strong_index.result c.load_strong-counted.result
    (view c.args.board.now) (view c.store_database.new.self) (view c.take_fast.new.self)
    (view c.load_strong-counted.new.self)
    one_at_take at_take c.requires.blank c.store_database.ensures.view c.take_fast.ensures.taken reading in
    let one_at_load = ap (λ (s : Seated). s.groups) (c.load_slot-shown.ensures.seat ∙ c.set_slot.ensures.seat
    ∙ c.load_slot-empty.ensures.seat ∙ c.load_strong-counted.ensures.seat ∙ c.take_fast.ensures.seat) ∙ one_at_take in
    let index = c.strong_index.ensures.value in
    let none = c.if-counted-ne0.false in
    let entry = Loaded (Slot own 0) c.load_slot-empty.result in
    let later = Loaded (Slot own 0) c.load_slot-shown.result in
    let before = c.load_slot-empty.ensures.view ∙ ap (λ (k : Account). account_tracing k entry) was.is in
    let set = c.set_slot.ensures.view
    ∙ ap (λ n. account_setting n (view c.load_slot-empty.new.self)
    (slots_here ((view c.load_slot-empty.new.self).fast.slots n)) 0 table AccessShare) at_set
    ∙ ap (λ (k : Account). account_setting own k (slots_here (k.fast.slots own)) 0 table AccessShare) before in
    let may = second-set own c.strong_index.result c.load_strong-counted.result was.slots index none entry later
    was.unused in
    let full = c.load_slot-shown.ensures.view ∙ ap (λ (k : Account). account_tracing k later) set in (
      after_first was.slots,
      subst (λ k. MaySetSlotBy k (seat c.load_slot-shown.new.self).number (view c.load_slot-shown.new.self)
          (after_first was.slots) 0 table RowExclusive) (sym one_at_load)
          (subst (λ n. MaySetSlotBy 1 n (view c.load_slot-shown.new.self) (after_first was.slots) 0 table RowExclusive)
          (sym at_load)
          (subst (λ (k : Account). MaySetSlotBy 1 own k (after_first was.slots) 0 table RowExclusive) (sym full) may)),
      c.load_slot-shown.ensures.of_slots (after_first was.slots) (ap (λ (k : Account). k.fast.slots own) set
          ∙ may.in_hand),
    )
