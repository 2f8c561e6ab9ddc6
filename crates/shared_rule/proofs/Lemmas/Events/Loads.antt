use Rattle.std.proofs.Common.{◌≡◌, ℕ, ◌*◌, ◌<◌, refl, sym, ap, ◌∙◌, subst}
use Rattle.lock_table.specs.Content.{Content}
use Rattle.lock_table.specs.Put.{set_at}
use Rattle.lock_table.proofs.Lemmas.Put.{set_at-same}
use Rattle.lock_world.specs.declared.events.Word.TheVariants.{Database, Fast, Slot, Strong}
use Rattle.lock_world.specs.declared.events.Step.TheVariants.{LoadWord, LoadStrong}
use Rattle.lock_world.specs.SlotHolds.{group_size}
use Rattle.lock_world.specs.World.{Words, Loaded}
use Rattle.lock_world.specs.Happens.Slots.{after_loading, after_reading_counter}
use Rattle.lock_world.specs.AccountSteps.{account_tracing, account_reading}
use Rattle.lock_world.proofs.Lemmas.Accounts.Slots.{account-loading, account-reading}
use Rattle.shared_rule.specs.Marks as mark
use Rattle.shared_rule.specs.declared.rule.TableSizes.{TableSizes}
use Rattle.shared_rule.specs.declared.history.History.{History}
use Rattle.shared_rule.specs.Shown.{set_word}
use Rattle.shared_rule.specs.Ruled.{NoneBeyondSlots}
use Rattle.shared_rule.proofs.Lemmas.Events.Words.{IsAlwaysLawful}

-- Loading a session's database, a slot of it, the lock of its own slots, and a strong lock counter.

-- A slot that is stored as it was stays so.
pub slot-same : (words : Words) (session slot n : ℕ) → n ≡ words.slot session slot
    → words ≡ set_word words (Slot session slot) n
slot-same words session slot n shown =
    let row : set_at (words.slot session) slot n ≡ words.slot session = set_at-same (words.slot session) slot n
    shown in
    let all : set_at words.slot session (set_at (words.slot session) slot n) ≡ words.slot =
    set_at-same words.slot session (set_at (words.slot session) slot n) row in
    ap (λ f. record words { slot = f }) (sym all)

module _ {T : Type 0} (content : T → Content) (sizes : TableSizes) (x : History T) where
  pub loading_database-lawful : (owner : ℕ) → IsAlwaysLawful content sizes x (Database owner) (λ _. Unit {0}) (λ n. n)
      (mark.LoadedDatabase owner)
  loading_database-lawful owner w steps n below shown _ = record {
    list = w.words.list;
    noted = record {
      step = LoadWord (Database owner) n;
      tells = refl;
      after = after_loading w x.number (Database owner) n;
      happens = (record { steps = steps.makes; exists = tt; is_shown = shown }, refl);
      numbers = refl;
      account = ap (λ a. account_tracing a (Loaded (Database owner) n)) steps.account
          ∙ sym (account-loading w x.number (Database owner) n);
      words = ap (λ f. record (w.words) { database = f }) (sym (set_at-same w.words.database owner n shown));
      none_beyond = steps.none_beyond;
      few_counted = steps.few_counted x.number;
      keeps = record { in_order = tt; asks = λ d is was. tt; todo_ = λ d is. is; flagged_ = λ d was. was };
    };
    home = λ p none. (none, refl);
    lists = λ lock nobody. (nobody, refl);
  }

  pub loading_slot-lawful : (owner slot : ℕ) → slot < group_size * sizes.groups → IsAlwaysLawful content sizes x (Slot owner slot)
      (λ _. Unit {0}) (λ n. n) (mark.LoadedSlot owner slot)
  loading_slot-lawful owner slot within w steps n below shown _ = record {
    list = w.words.list;
    noted = record {
      step = LoadWord (Slot owner slot) n;
      tells = refl;
      after = after_loading w x.number (Slot owner slot) n;
      happens = (record { steps = steps.makes; exists = subst (λ n. slot < group_size * n) (sym steps.are_groups) within; is_shown = shown }, refl);
      numbers = refl;
      account = ap (λ a. account_tracing a (Loaded (Slot owner slot) n)) steps.account
          ∙ sym (account-loading w x.number (Slot owner slot) n);
      words = slot-same w.words owner slot n shown;
      none_beyond = subst (NoneBeyondSlots sizes.groups) (slot-same w.words owner slot n shown) steps.none_beyond;
      few_counted = steps.few_counted x.number;
      keeps = record { in_order = tt; asks = λ d is was. tt; todo_ = λ d is. is; flagged_ = λ d was. was };
    };
    home = λ p none. (none, refl);
    lists = λ lock nobody. (nobody, refl);
  }

  -- An exchange of the session's own lock that finds another number than the one expected is a load.
  pub loading_fast-lawful : (expected : ℕ → Type 0) → IsAlwaysLawful content sizes x (Fast x.number) expected (λ n. n)
      mark.LoadedFast
  loading_fast-lawful expected w steps n below shown _ = record {
    list = w.words.list;
    noted = record {
      step = LoadWord (Fast x.number) n;
      tells = refl;
      after = after_loading w x.number (Fast x.number) n;
      happens = (refl, record { steps = steps.makes; exists = tt; is_shown = shown }, refl);
      numbers = refl;
      account = ap (λ a. account_tracing a (Loaded (Fast x.number) n)) steps.account
          ∙ sym (account-loading w x.number (Fast x.number) n);
      words = ap (λ f. record (w.words) { fast = f }) (sym (set_at-same w.words.fast x.number n shown));
      none_beyond = steps.none_beyond;
      few_counted = steps.few_counted x.number;
      keeps = record { in_order = tt; asks = λ d is was. tt; todo_ = λ d is. is; flagged_ = λ d was. was };
    };
    home = λ p none. (none, refl);
    lists = λ lock nobody. (nobody, refl);
  }

  pub loading_strong-lawful : (index : ℕ) → index < 1024 → IsAlwaysLawful content sizes x (Strong index)
      (λ _. Unit {0}) (λ n. n) (mark.LoadedStrong index)
  loading_strong-lawful index within w steps n below shown _ = record {
    list = w.words.list;
    noted = record {
      step = LoadStrong index n;
      tells = refl;
      after = after_reading_counter w x.number index n;
      happens = (record { steps = steps.makes; exists = within; is_shown = shown }, refl);
      numbers = refl;
      account = ap (λ a. account_reading x.number a index n) steps.account ∙ sym (account-reading w x.number index n);
      words = ap (λ f. record (w.words) { strong = f }) (sym (set_at-same w.words.strong index n shown));
      none_beyond = steps.none_beyond;
      few_counted = steps.few_counted x.number;
      keeps = record { in_order = tt; asks = λ d is was. tt; todo_ = λ d is. is; flagged_ = λ d was. was };
    };
    home = λ p none. (none, refl);
    lists = λ lock nobody. (nobody, refl);
  }
