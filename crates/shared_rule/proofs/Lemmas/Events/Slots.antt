use Rattle.std.proofs.Common.{◌≡◌, ℕ, ◌*◌, ◌<◌, Some, refl, sym, ap, ◌∙◌, subst, inl, inr, arith}
use Rattle.std.proofs.lemmas.Bool.{cases_eq}
use Rattle.modes_core.specs.declared.modes.Mode.{Mode}
use Rattle.modes_core.specs.declared.tags.Tag.{Tag}
use Rattle.modes_core.specs.Tag.{partition_of}
use Rattle.lw_word.specs.SlotWord.{word_with, word_without}
use Rattle.lock_table.specs.declared.moves.Move.TheVariants.{Adopt}
use Rattle.lock_table.specs.Content.{Content, add_hold}
use Rattle.lock_table.specs.Put.{set_at}
use Rattle.lock_table.proofs.Lemmas.Put.{set_at-here, set_at-else}
use Rattle.lock_world.specs.declared.events.Word.TheVariants.{Database, Slot}
use Rattle.lock_world.specs.declared.events.Step.TheVariants as step
use Rattle.lock_world.specs.SlotHolds.{group_size, relation_of}
use Rattle.lock_world.specs.World.{World, Words, is_unmarked}
use Rattle.lock_world.specs.Happens.Slots.{after_setting_slot, after_clearing_slot, MayStoreDatabase}
use Rattle.lock_world.specs.Happens.Slots.{after_storing_database}
use Rattle.lock_world.specs.Happens.Transfers.{after_transferring}
use Rattle.lock_world.specs.Account.{Account, InHand, SlotsInHand, account}
use Rattle.lock_world.specs.AccountSteps.{account_setting, account_unsetting, account_transferring, account_storing}
use Rattle.lock_world.specs.AccountLaw.{MaySetSlotBy, MayClearSlotBy, MayTransferBy}
use Rattle.lock_world.proofs.Lemmas.Accounts.Lawful.{hand-known, slots-known, set_slot-lawful, clear_slot-lawful}
use Rattle.lock_world.proofs.Lemmas.Accounts.Lawful.{transfer-lawful}
use Rattle.lock_world.proofs.Lemmas.Accounts.Parts.{mine}
use Rattle.lock_world.proofs.Lemmas.Accounts.Slots.{slots_now, account-setting, account-unsetting, account-transferring}
use Rattle.lock_world.proofs.Lemmas.Accounts.Slots.{account-storing}
use Rattle.lock_world.proofs.Lemmas.SafeWorld.Seats.{holding_nothing-unused}
use Rattle.shared_rule.specs.Marks as mark
use Rattle.shared_rule.specs.declared.rule.TableSizes.{TableSizes}
use Rattle.shared_rule.specs.declared.history.History.{History}
use Rattle.shared_rule.specs.Shown.{set_word}
use Rattle.shared_rule.specs.Ruled.{NoneBeyondSlots}
use Rattle.shared_rule.specs.History.{told, in_hand, slots_here}
use Rattle.shared_rule.specs.Seats.{HoldsNothing}
use Rattle.shared_rule.proofs.Lemmas.Events.Words.{IsAlwaysLawful}
use Rattle.shared_rule.proofs.Lemmas.Events.Waits.{home-recorded}

-- Setting and clearing a mode in a slot of its own, moving one from a slot to the table, and storing its own
-- database.

-- A slot that is set is none beyond the others.
set-none_beyond : (groups : ℕ) (words : Words) (session slot n : ℕ) → slot < group_size * groups → NoneBeyondSlots groups words
    → NoneBeyondSlots groups (set_word words (Slot session slot) n)
set-none_beyond groups words session slot n within none k j later =
    elim (cases_eq k session) [
      | inl same ↦
          ap (λ row. row j) (set_at-here words.slot session (set_at (words.slot session) slot n) k same)
          ∙ set_at-else (words.slot session) slot n j (λ e. let eq : ◌≡◌ {A = ℕ} j slot =
          e in omega (arith, eq, within, later))
          ∙ none session j later
      | inr other ↦ ap (λ row. row j) (set_at-else words.slot session (set_at (words.slot session) slot n) k other)
          ∙ none k j later
    ]

-- The slots in hand are what the words show.
known-here : (w : World) (s owner : ℕ) (its : SlotsInHand) → (account w s).fast.slots owner ≡ Some its
    → its ≡ slots_now w owner
known-here w s owner its known = (slots-known (w.sessions.holds_fast s owner) (w.words.database owner)
    (w.words.slot owner) its known).1

module _ {T : Type 0} (content : T → Content) (sizes : TableSizes) (x : History T) where
  pub setting-lawful : (its : SlotsInHand) (slot : ℕ) (tag : Tag) (mode : Mode) (shown : ℕ)
      → slot < group_size * sizes.groups → MaySetSlotBy sizes.groups x.number (told content x.number x.marks) its slot tag mode → shown ≡ its.word slot
      → IsAlwaysLawful content sizes x (Slot x.number slot) (λ _. Unit {0})
      (λ _. word_with shown (relation_of tag) mode) (λ _. mark.SetSlot slot tag mode)
  setting-lawful its slot tag mode shown within may is w steps n below _ _ =
      let s : ℕ = x.number in
      let may' : MaySetSlotBy w.numbers.groups s (account w s) its slot tag mode =
      subst (λ k. MaySetSlotBy k s (account w s) its slot tag mode) (sym steps.are_groups)
      (subst (λ a. MaySetSlotBy sizes.groups s a its slot tag mode) steps.account may) in
      let lawful = set_slot-lawful w steps.safe s steps.makes its slot tag mode may' in
      let known : its ≡ slots_now w s = known-here w s s its may'.in_hand in
      let here : slots_here ((account w s).fast.slots s) ≡ slots_now w s = ap slots_here may'.in_hand ∙ known in
      let shows : shown ≡ w.words.slot s slot = is ∙ ap (λ (k : SlotsInHand). k.word slot) known in
      record {
        list = w.words.list;
        noted = record {
          step = step.SetSlot slot tag mode;
          tells = refl;
          after = after_setting_slot w s slot tag mode;
          happens = (lawful, refl);
          numbers = refl;
          account = (λ i. account_setting s (steps.account i) (slots_here ((steps.account i).fast.slots s)) slot tag
              mode)
              ∙ (ap (λ slots. account_setting s (account w s) slots slot tag mode) here
              ∙ sym (account-setting w s slot tag mode steps.safe lawful));
          words = ap (λ k. set_word w.words (Slot s slot) (word_with k (relation_of tag) mode)) (sym shows);
          none_beyond = set-none_beyond sizes.groups w.words s slot (word_with shown (relation_of tag) mode) within
              steps.none_beyond;
          few_counted = steps.few_counted s;
          keeps = record { in_order = tt; asks = λ d is was. tt; todo_ = λ d is. is; flagged_ = λ d was. was };
        };
        lists = λ lock nobody. (nobody, refl);
        home = λ p none. (none, refl);
      }

  pub clearing_slot-lawful : (its : SlotsInHand) (slot : ℕ) (tag : Tag) (mode : Mode) (shown : ℕ)
      → slot < group_size * sizes.groups → MayClearSlotBy x.number (told content x.number x.marks) its slot tag mode → shown ≡ its.word slot
      → IsAlwaysLawful content sizes x (Slot x.number slot) (λ _. Unit {0}) (λ _. word_without shown mode)
      (λ _. mark.ClearedSlot slot tag mode)
  clearing_slot-lawful its slot tag mode shown within may is w steps n below _ _ =
      let s : ℕ = x.number in
      let may' : MayClearSlotBy s (account w s) its slot tag mode =
      subst (λ a. MayClearSlotBy s a its slot tag mode) steps.account may in
      let lawful = clear_slot-lawful w steps.safe s steps.makes its slot tag mode may' in
      let known : its ≡ slots_now w s = known-here w s s its may'.in_hand in
      let here : slots_here ((account w s).fast.slots s) ≡ slots_now w s = ap slots_here may'.in_hand ∙ known in
      let shows : shown ≡ w.words.slot s slot = is ∙ ap (λ (k : SlotsInHand). k.word slot) known in
      record {
        list = w.words.list;
        noted = record {
          step = step.ClearSlot slot tag mode;
          tells = refl;
          after = after_clearing_slot w s slot tag mode;
          happens = (lawful, refl);
          numbers = refl;
          account = (λ i. account_unsetting s (steps.account i) (slots_here ((steps.account i).fast.slots s)) slot
              tag mode)
              ∙ (ap (λ slots. account_unsetting s (account w s) slots slot tag mode) here
              ∙ sym (account-unsetting w s slot tag mode steps.safe lawful));
          words = ap (λ k. set_word w.words (Slot s slot) (word_without k mode)) (sym shows);
          none_beyond = set-none_beyond sizes.groups w.words s slot (word_without shown mode) within steps.none_beyond;
          few_counted = steps.few_counted s;
          keeps = record { in_order = tt; asks = λ d is was. tt; todo_ = λ d is. is; flagged_ = λ d was. was };
        };
        lists = λ lock nobody. (nobody, refl);
        home = λ p none. (none, refl);
      }

  pub transferring-lawful : (owner slot : ℕ) (its : SlotsInHand) (held : InHand) (tag : Tag) (mode strong : Mode)
      (shown : ℕ) → slot < group_size * sizes.groups
      → MayTransferBy sizes.sessions (told content x.number x.marks) owner slot its held tag mode strong
      → shown ≡ its.word slot
      → IsAlwaysLawful content sizes x (Slot owner slot) (λ _. Unit {0}) (λ _. word_without shown mode)
      (λ _. mark.TransferredSlot owner slot tag mode)
  transferring-lawful owner slot its held tag mode strong shown within may is w steps n below _ _ =
      let s : ℕ = x.number in
      let p : ℕ = partition_of tag in
      let may' : MayTransferBy w.numbers.limit (account w s) owner slot its held tag mode strong =
      subst (λ k. MayTransferBy k (account w s) owner slot its held tag mode strong) (sym steps.is_limit)
      (subst (λ a. MayTransferBy sizes.sessions a owner slot its held tag mode strong) steps.account may) in
      let lawful = transfer-lawful w steps.safe s steps.makes owner slot its held tag mode strong may' in
      let own = hand-known (w.contents.hand p) (w.contents.now p) s held may'.in_hand in
      let known : its ≡ slots_now w owner = known-here w s owner its may'.its_slots in
      let here : slots_here ((account w s).fast.slots owner) ≡ slots_now w owner = ap slots_here may'.its_slots
      ∙ known in
      let hand : in_hand ((account w s).hand p) ≡ mine own.hand_of (w.contents.now p) = ap in_hand may'.in_hand
      ∙ own.as_known in
      let shows : shown ≡ w.words.slot owner slot = is ∙ ap (λ (k : SlotsInHand). k.word slot) known in
      record {
        list = w.words.list;
        noted = record {
          step = step.TransferSlot owner slot tag mode strong;
          tells = (strong, refl);
          after = after_transferring w owner slot tag mode;
          happens = (lawful, refl);
          numbers = refl;
          account = (λ i. account_transferring (steps.account i) owner slot
              (slots_here ((steps.account i).fast.slots owner)) (in_hand ((steps.account i).hand p)) tag mode)
              ∙ ((λ i. account_transferring (account w s) owner slot (here i) (hand i) tag mode)
              ∙ sym (account-transferring w s owner slot tag mode strong own.hand_of steps.safe lawful own.is_hand
              own.whose));
          words = ap (λ k. set_word w.words (Slot owner slot) (word_without k mode)) (sym shows);
          none_beyond = set-none_beyond sizes.groups w.words owner slot (word_without shown mode) within steps.none_beyond;
          few_counted = steps.few_counted s;
          keeps = record { in_order = tt; asks = λ d is was. tt; todo_ = λ d is. is; flagged_ = λ d was. was };
        };
        lists = λ lock nobody. (nobody, refl);
        home = home-recorded w.contents p s held own
            (set_at w.contents.now p (add_hold (w.contents.now p) owner tag mode)) (Adopt owner slot)
            (is_unmarked (w.contents.hand p))
            (set_at-else w.contents.now p (add_hold (w.contents.now p) owner tag mode));
      }

  pub storing-lawful : (database : ℕ) → HoldsNothing (told content x.number x.marks)
      → IsAlwaysLawful content sizes x (Database x.number) (λ _. Unit {0}) (λ _. database)
      (λ _. mark.StoredDatabase database)
  storing-lawful database nothing w steps n below _ _ =
      let s : ℕ = x.number in
      let may : MayStoreDatabase w s =
      record {
        steps = steps.makes;
        unused = holding_nothing-unused w s steps.safe (λ tag mode.
            ap (λ (a : Account). a.own tag mode) (sym steps.account) ∙ nothing tag mode);
      } in
      record {
        list = w.words.list;
        noted = record {
          step = step.StoreDatabase database;
          tells = refl;
          after = after_storing_database w s database;
          happens = (may, refl);
          numbers = refl;
          account = ap (λ a. account_storing a database) steps.account ∙ sym (account-storing w s database may);
          words = refl;
          none_beyond = steps.none_beyond;
          few_counted = steps.few_counted s;
          keeps = record { in_order = tt; asks = λ d is was. tt; todo_ = λ d is. is; flagged_ = λ d was. was };
        };
        lists = λ lock nobody. (nobody, refl);
        home = λ p none. (none, refl);
      }
