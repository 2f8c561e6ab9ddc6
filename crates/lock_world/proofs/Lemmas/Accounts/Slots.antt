use Rattle.std.proofs.Common.{◌≡◌, ℕ, Bool, true, false, [], ◌∷◌, ◌++◌, Option, Some, None, is_some, refl, sym, ap, ◌∙◌, inl, inr}
use Rattle.std.specs.Prelude.{◌==◌, ◌&&◌, if◌then◌else◌}
use Rattle.std.proofs.lemmas.Bool.{cases_eq}
use Rattle.modes_core.specs.declared.modes.Mode.{Mode}
use Rattle.modes_core.specs.declared.tags.Tag.{Tag}
use Rattle.modes_core.specs.Tag.{partition_of}
use Rattle.lw_word.specs.SlotWord.{word_with, word_without}
use Rattle.lock_table.specs.declared.moves.Move.TheVariants.{Adopt}
use Rattle.lock_table.specs.Content.{Content, add_hold}
use Rattle.lock_table.specs.Put.{set_at}
use Rattle.lock_table.proofs.Lemmas.Put.{set_at-here, set_at-else}
use Rattle.lock_world.specs.declared.events.Word.{Word}
use Rattle.lock_world.specs.declared.events.Word.TheVariants.{Strong}
use Rattle.lock_world.specs.SlotHolds.{slot_holds, relation_of}
use Rattle.lock_world.specs.Counted.{counting, uncounting, passing}
use Rattle.lock_world.specs.World.{World, Hand, Loaded, is_unmarked}
use Rattle.lock_world.specs.Account.{FastAccount, SlotsInHand, Account, known_slots, slots_in_hand, own_hands, fast_account, account}
use Rattle.lock_world.specs.AccountSteps.{account_tracing, account_taking_fast, account_putting_fast, account_sharing_fast, account_unsharing_fast, account_passing, account_counting, account_uncounting, account_storing, account_reading, account_setting, account_unsetting, account_transferring}
use Rattle.lock_world.specs.Happens.Slots.{remembered_after_taking, after_taking_fast, zero_after_putting, after_putting_fast, after_loading, after_reading_counter, MaySetSlot, after_setting_slot, MayClearSlot, after_clearing_slot, MayStoreDatabase, after_storing_database}
use Rattle.lock_world.specs.Happens.Sharing.{after_sharing_fast, after_unsharing_fast}
use Rattle.lock_world.specs.Happens.Counters.{after_counting, after_uncounting, after_passing}
use Rattle.lock_world.specs.Happens.Waits.{recording}
use Rattle.lock_world.specs.Happens.Transfers.{MayTransfer, after_transferring}
use Rattle.lock_world.specs.SafeWorld.{SafeWorld}
use Rattle.lock_world.proofs.Lemmas.Slots.Setting.{slot_holds-set}
use Rattle.lock_world.proofs.Lemmas.Slots.Clearing.{slot_holds-clear}
use Rattle.lock_world.proofs.Lemmas.Others.Slots.{slots_in_hand-set, slots_in_hand-stored}
use Rattle.lock_world.proofs.Lemmas.Accounts.Parts.{account-by, own-set, mine, hands-moved}

-- What a session knows of slots and counters is this part by part.
fast-by :
    (w : World) (s : ℕ) (f : FastAccount) → slots_in_hand (w.sessions.holds_fast s) w.words.database w.words.slot ≡ f.slots
    → slots_in_hand (w.sessions.shares_fast s) w.words.database w.words.slot ≡ f.shared_slots
    → w.words.database s ≡ f.database → w.sessions.remembered s ≡ f.remembered
    → w.sessions.zero s ≡ f.zero
    → w.sessions.counted s ≡ f.counted → fast_account w s ≡ f
fast-by w s f slots shared database remembered zero counted =
    λ i. record {
      slots = slots i;
      shared_slots = shared i;
      database = database i;
      remembered = remembered i;
      zero = zero i;
      counted = counted i;
    }

-- One more lock is held, or one less.
slots-had :
    (has : ℕ → Bool) (database : ℕ → ℕ) (slot : ℕ → ℕ → ℕ) (o : ℕ) (b : Bool)
    → slots_in_hand (set_at has o b) database slot ≡ set_at (slots_in_hand has database slot) o (known_slots b (database o) (slot o))
slots-had has database slot o b = λ i q. at q i where
  at : (q : ℕ) → slots_in_hand (set_at has o b) database slot q ≡ set_at (slots_in_hand has database slot) o (known_slots b (database o) (slot o)) q
  at q =
      elim (cases_eq q o) [
        | inl same ↦
            ap (λ its. known_slots its (database q) (slot q)) (set_at-here has o b q same)
            ∙ ap (λ j. known_slots b (database j) (slot j)) same
            ∙ sym (set_at-here (slots_in_hand has database slot) o (known_slots b (database o) (slot o)) q same)
        | inr other ↦
            ap (λ its. known_slots its (database q) (slot q)) (set_at-else has o b q other)
            ∙ sym (set_at-else (slots_in_hand has database slot) o (known_slots b (database o) (slot o)) q other)
      ]

-- One lock more or less of those that a session holds, or of those that it shares.
row-had :
    (w : World) (has : ℕ → ℕ → Bool) (s o : ℕ) (b : Bool)
    → slots_in_hand (set_at has s (set_at (has s) o b) s) w.words.database w.words.slot
    ≡ set_at (slots_in_hand (has s) w.words.database w.words.slot) o (known_slots b (w.words.database o) (w.words.slot o))
row-had w has s o b =
    ap (λ its. slots_in_hand its w.words.database w.words.slot) (set_at-here has s (set_at (has s) o b) s refl)
    ∙ slots-had (has s) w.words.database w.words.slot o b

-- Taking the lock of a session's slots, and putting it: its own the session remembers as they show.
remembered-taken :
    (remembered slot : ℕ → ℕ → ℕ) (s o : ℕ)
    → remembered_after_taking remembered slot s o s ≡ (if o == s then slot o else remembered s)
remembered-taken remembered slot s o = go (o == s) where
  go : (b : Bool) → (if b then set_at remembered s (slot o) else remembered) s ≡ (if b then slot o else remembered s)
  go true = set_at-here remembered s (slot o) s refl
  go false = refl

pub account-taking_fast :
    (w : World) (s o : ℕ)
    → account (after_taking_fast w s o) s
    ≡ account_taking_fast s (account w s) o (record { word = w.words.slot o; holds = slot_holds (w.words.database o) (w.words.slot o) })
account-taking_fast w s o =
    account-by (after_taking_fast w s o) s (account_taking_fast s (account w s) o slots) refl refl refl refl refl refl
    (fast-by (after_taking_fast w s o) s (account_taking_fast s (account w s) o slots).fast (row-had w w.sessions.holds_fast s o true)
    refl refl (remembered-taken w.sessions.remembered w.words.slot s o) refl refl) refl where
      slots : SlotsInHand
      slots = record { word = w.words.slot o; holds = slot_holds (w.words.database o) (w.words.slot o) }

zero-put : (zero : ℕ → Option ℕ) (s o : ℕ) → zero_after_putting zero s o s ≡ (if o == s then None else zero s)
zero-put zero s o = go (o == s) where
  go : (b : Bool) → (if b then set_at zero s None else zero) s ≡ (if b then None else zero s)
  go true = set_at-here zero s None s refl
  go false = refl

pub account-putting_fast : (w : World) (s o : ℕ) → account (after_putting_fast w s o) s ≡ account_putting_fast s (account w s) o
account-putting_fast w s o =
    account-by (after_putting_fast w s o) s (account_putting_fast s (account w s) o) refl refl refl refl refl refl
    (fast-by (after_putting_fast w s o) s (account_putting_fast s (account w s) o).fast (row-had w w.sessions.holds_fast s o false) refl refl refl (zero-put w.sessions.zero s o) refl) refl

-- Sharing it, and giving it back.
pub account-sharing_fast :
    (w : World) (s o : ℕ)
    → account (after_sharing_fast w s o) s
    ≡ account_sharing_fast s (account w s) o (record { word = w.words.slot o; holds = slot_holds (w.words.database o) (w.words.slot o) })
account-sharing_fast w s o =
    account-by (after_sharing_fast w s o) s (account_sharing_fast s (account w s) o slots) refl refl refl refl refl refl
    (fast-by (after_sharing_fast w s o) s (account_sharing_fast s (account w s) o slots).fast refl (row-had w w.sessions.shares_fast s o true)
    refl (remembered-taken w.sessions.remembered w.words.slot s o) refl refl) refl where
      slots : SlotsInHand
      slots = record { word = w.words.slot o; holds = slot_holds (w.words.database o) (w.words.slot o) }

pub account-unsharing_fast : (w : World) (s o : ℕ) → account (after_unsharing_fast w s o) s ≡ account_unsharing_fast (account w s) o
account-unsharing_fast w s o =
    account-by (after_unsharing_fast w s o) s (account_unsharing_fast (account w s) o) refl refl refl refl refl refl
    (fast-by (after_unsharing_fast w s o) s (account_unsharing_fast (account w s) o).fast refl (row-had w w.sessions.shares_fast s o false) refl refl refl refl) refl

-- Counting, counting no more, and going past a session.
pub account-counting : (w : World) (s : ℕ) (t : Tag) (m : Mode) → account (after_counting w s t m) s ≡ account_counting (account w s) t m
account-counting w s t m =
    account-by (after_counting w s t m) s (account_counting (account w s) t m) refl refl refl refl refl refl
    (fast-by (after_counting w s t m) s (account_counting (account w s) t m).fast refl refl refl refl refl
    (set_at-here w.sessions.counted s (counting (w.sessions.counted s) t m) s refl)) refl

pub account-uncounting : (w : World) (s : ℕ) (t : Tag) (m : Mode) → account (after_uncounting w s t m) s ≡ account_uncounting (account w s) t m
account-uncounting w s t m =
    account-by (after_uncounting w s t m) s (account_uncounting (account w s) t m) refl refl refl refl refl refl
    (fast-by (after_uncounting w s t m) s (account_uncounting (account w s) t m).fast refl refl refl refl refl
    (set_at-here w.sessions.counted s (uncounting (w.sessions.counted s) t m) s refl)) refl

pub account-passing : (w : World) (s o : ℕ) (t : Tag) (m : Mode) → account (after_passing w s o t m) s ≡ account_passing s (account w s) o t m
account-passing w s o t m =
    account-by (after_passing w s o t m) s (account_passing s (account w s) o t m) refl refl refl refl refl refl
    (fast-by (after_passing w s o t m) s (account_passing s (account w s) o t m).fast (row-had w w.sessions.holds_fast s o false) refl refl refl (zero-put w.sessions.zero s o)
    (set_at-here w.sessions.counted s (passing (w.sessions.counted s) t m o) s refl)) refl

-- Loading a word, and a counter.
pub account-loading : (w : World) (s : ℕ) (word : Word) (n : ℕ) → account (after_loading w s word n) s ≡ account_tracing (account w s) (Loaded word n)
account-loading w s word n =
    account-by (after_loading w s word n) s (account_tracing (account w s) (Loaded word n)) refl refl refl refl refl refl refl
    (set_at-here w.sessions.trace s (w.sessions.trace s ++ Loaded word n ∷ []) s refl)

pub account-reading : (w : World) (s index n : ℕ) → account (after_reading_counter w s index n) s ≡ account_reading s (account w s) index n
account-reading w s index n =
    account-by (after_reading_counter w s index n) s (account_reading s (account w s) index n) refl refl refl refl refl refl
    (fast-by (after_reading_counter w s index n) s (account_reading s (account w s) index n).fast refl refl refl refl
    (set (n == 0) (w.sessions.holds_fast s s)) refl)
    (set_at-here w.sessions.trace s (w.sessions.trace s ++ Loaded (Strong index) n ∷ []) s refl) where
      set : (none has : Bool)
          → (if none && has then set_at w.sessions.zero s (Some index) else w.sessions.zero) s
          ≡ (if none && is_some (known_slots has (w.words.database s) (w.words.slot s)) then Some index else w.sessions.zero s)
      set true true = set_at-here w.sessions.zero s (Some index) s refl
      set true false = refl
      set false has = refl

-- Slots are written while their lock is held.
slots-written :
    (has : ℕ → Bool) (database : ℕ → ℕ) (slot : ℕ → ℕ → ℕ) (s : ℕ) (after : ℕ → ℕ) → has s ≡ true
    → slots_in_hand has database (set_at slot s after) ≡ set_at (slots_in_hand has database slot) s (Some (record { word = after; holds = slot_holds (database s) after }))
slots-written has database slot s after own = λ i q. at q i where
  mine : SlotsInHand
  mine = record { word = after; holds = slot_holds (database s) after }

  at : (q : ℕ) → known_slots (has q) (database q) (set_at slot s after q) ≡ set_at (slots_in_hand has database slot) s (Some mine) q
  at q =
      elim (cases_eq q s) [
        | inl same ↦
            ap (known_slots (has q) (database q)) (set_at-here slot s after q same)
            ∙ ap (λ j. known_slots (has j) (database j) after) same
            ∙ ap (λ b. known_slots b (database s) after) own
            ∙ sym (set_at-here (slots_in_hand has database slot) s (Some mine) q same)
        | inr other ↦
            ap (known_slots (has q) (database q)) (set_at-else slot s after q other)
            ∙ sym (set_at-else (slots_in_hand has database slot) s (Some mine) q other)
      ]

-- a session's slots, as whoever has their lock knows them
abbrev pub slots_now : World → ℕ → SlotsInHand
slots_now w s = record { word = w.words.slot s; holds = slot_holds (w.words.database s) (w.words.slot s) }

-- Setting and clearing a mode in one of one's own slots.
pub account-setting :
    (w : World) (s i : ℕ) (t : Tag) (m : Mode) → SafeWorld w → MaySetSlot w s i t m
    → account (after_setting_slot w s i t m) s ≡ account_setting s (account w s) (slots_now w s) i t m
account-setting w s i t m safe may =
    account-by (after_setting_slot w s i t m) s (account_setting s (account w s) (slots_now w s) i t m) refl (own-set w.sessions.own s t m true) refl refl refl refl
    (fast-by (after_setting_slot w s i t m) s (account_setting s (account w s) (slots_now w s) i t m).fast
    (slots-written (w.sessions.holds_fast s) w.words.database w.words.slot s after may.holding
    ∙ ap (λ holds. set_at (slots_in_hand (w.sessions.holds_fast s) w.words.database w.words.slot) s (Some (record { word = after; holds = holds })))
    (slot_holds-set w.numbers.groups (w.words.database s) (w.words.slot s) t m i may.eligible may.fits may.takes))
    (slots_in_hand-set (w.sessions.shares_fast s) w.words.database w.words.slot s after ((safe.but_slots.locks.fast_words s).never_both s s may.holding)) refl
    (set_at-here w.sessions.remembered s after s refl) refl refl)
    refl where
      after : ℕ → ℕ
      after = set_at (w.words.slot s) i (word_with (w.words.slot s i) (relation_of t) m)

pub account-unsetting :
    (w : World) (s i : ℕ) (t : Tag) (m : Mode) → SafeWorld w → MayClearSlot w s i t m
    → account (after_clearing_slot w s i t m) s ≡ account_unsetting s (account w s) (slots_now w s) i t m
account-unsetting w s i t m safe may =
    account-by (after_clearing_slot w s i t m) s (account_unsetting s (account w s) (slots_now w s) i t m) refl (own-set w.sessions.own s t m false) refl refl refl refl
    (fast-by (after_clearing_slot w s i t m) s (account_unsetting s (account w s) (slots_now w s) i t m).fast
    (slots-written (w.sessions.holds_fast s) w.words.database w.words.slot s after may.holding
    ∙ ap (λ holds. set_at (slots_in_hand (w.sessions.holds_fast s) w.words.database w.words.slot) s (Some (record { word = after; holds = holds })))
    (slot_holds-clear (w.words.database s) (w.words.slot s) t m i (safe.slots.one_each s) may.held_in))
    (slots_in_hand-set (w.sessions.shares_fast s) w.words.database w.words.slot s after ((safe.but_slots.locks.fast_words s).never_both s s may.holding)) refl
    (set_at-here w.sessions.remembered s after s refl) refl refl)
    refl where
      after : ℕ → ℕ
      after = set_at (w.words.slot s) i (word_without (w.words.slot s i) m)

-- Storing one's own database.
pub account-storing : (w : World) (s d : ℕ) → MayStoreDatabase w s → account (after_storing_database w s d) s ≡ account_storing (account w s) d
account-storing w s d may =
    account-by (after_storing_database w s d) s (account_storing (account w s) d) refl refl refl refl refl refl
    (fast-by (after_storing_database w s d) s (account_storing (account w s) d).fast
    (slots_in_hand-stored (w.sessions.holds_fast s) w.words.database w.words.slot s d may.unused)
    (slots_in_hand-stored (w.sessions.shares_fast s) w.words.database w.words.slot s d may.unused) (set_at-here w.words.database s d s refl) refl refl refl) refl

-- Moving a mode from a slot to the content in hand.
pub account-transferring :
    (w : World) (s o i : ℕ) (t : Tag) (m strong : Mode) (old : Hand) → SafeWorld w → MayTransfer w s o i t m strong → w.contents.hand (partition_of t) ≡ Some old → old.holder ≡ s
    → account (after_transferring w o i t m) s ≡ account_transferring (account w s) o i (slots_now w o) (mine old (w.contents.now (partition_of t))) t m
account-transferring w s o i t m strong old safe may is whose =
    account-by (after_transferring w o i t m) s after refl refl refl refl
    (ap (λ unmarked. own_hands (set_at w.contents.hand p (recording (w.contents.hand p) (Adopt o i) unmarked)) (set_at w.contents.now p content) s) (ap is_unmarked is)
    ∙ hands-moved w.contents.hand w.contents.now p old (Adopt o i) content old.unmarked s is whose) refl
    (fast-by (after_transferring w o i t m) s after.fast
    (slots-written (w.sessions.holds_fast s) w.words.database w.words.slot o words may.holding_slots
    ∙ ap (λ holds. set_at (slots_in_hand (w.sessions.holds_fast s) w.words.database w.words.slot) o (Some (record { word = words; holds = holds })))
    (slot_holds-clear (w.words.database o) (w.words.slot o) t m i (safe.slots.one_each o) may.held_in))
    (slots_in_hand-set (w.sessions.shares_fast s) w.words.database w.words.slot o words ((safe.but_slots.locks.fast_words o).never_both s s may.holding_slots)) refl refl refl refl)
    refl where
      p : ℕ
      p = partition_of t

      content : Content
      content = add_hold (w.contents.now p) o t m

      words : ℕ → ℕ
      words = set_at (w.words.slot o) i (word_without (w.words.slot o i) m)

      after : Account
      after = account_transferring (account w s) o i (slots_now w o) (mine old (w.contents.now p)) t m
