use Rattle.std.proofs.Common.{◌≡◌, ◌≢◌, ℕ, Bool, true, false, Option, Some, None, refl, sym, ap, ◌∙◌, inl, inr}
use Rattle.std.specs.Prelude.{◌==◌, ◌&&◌, if◌then◌else◌}
use Rattle.std.proofs.lemmas.Bool.{cases_eq, cond-false, false_from_ne_true}
use Rattle.modes_core.specs.declared.modes.Mode.{Mode}
use Rattle.modes_core.specs.declared.tags.Tag.{Tag}
use Rattle.modes_core.specs.Tag.{partition_of}
use Rattle.lock_table.specs.declared.moves.Move.TheVariants.{Adopt}
use Rattle.lock_table.specs.Put.{set_at}
use Rattle.lock_table.proofs.Lemmas.Holds.{set_hold-other_session}
use Rattle.lock_table.proofs.Lemmas.Put.{set_at-here, set_at-else}
use Rattle.lock_world.specs.declared.events.Word.{Word}
use Rattle.lw_word.specs.SlotWord.{word_with, word_without}
use Rattle.lock_world.specs.SlotHolds.{slot_holds, relation_of, NoSlotInUse}
use Rattle.lock_world.specs.World.{World, is_unmarked}
use Rattle.lock_world.specs.Account.{known_slots, slots_in_hand, IsLeftAlone}
use Rattle.lock_world.specs.Happens.Slots.{HappensTakingFast, remembered_after_taking, after_taking_fast, HappensPuttingFast, after_putting_fast, zero_after_putting, after_loading, zero_after_reading, after_reading_counter, MaySetSlot, after_setting_slot, MayClearSlot, after_clearing_slot, MayStoreDatabase, after_storing_database}
use Rattle.lock_world.specs.Happens.Transfers.{MayTransfer, after_transferring}
use Rattle.lock_world.specs.SafeWorld.{SafeWorld}
use Rattle.lock_world.proofs.Lemmas.Slots.Databases.{slot_holds-stored}
use Rattle.lock_world.proofs.Lemmas.Others.Waits.{recorded-others}
use Rattle.lock_world.proofs.Lemmas.Others.Hands.{IsLeftAlone-same, IsLeftAlone-by, fast_account-by}

-- A counter read as 0 by another session is as it was.
pub zero-put_others : (zero : ℕ → Option ℕ) (s o k : ℕ) → k ≢ s → zero_after_putting zero s o k ≡ zero k
zero-put_others zero s o k other = go (o == s) where
  go : (b : Bool) → (if b then set_at zero s None else zero) k ≡ zero k
  go true = set_at-else zero s None k other
  go false = refl

zero-read_others : (zero : ℕ → Option ℕ) (holds_fast : ℕ → ℕ → Bool) (s index shown k : ℕ) → k ≢ s → zero_after_reading zero holds_fast s index shown k ≡ zero k
zero-read_others zero holds_fast s index shown k other = go ((shown == 0) && holds_fast s s) where
  go : (b : Bool) → (if b then set_at zero s (Some index) else zero) k ≡ zero k
  go true = set_at-else zero s (Some index) k other
  go false = refl

-- What another session remembers of its slots is as it was.
pub remembered-taken_others :
    (remembered slot : ℕ → ℕ → ℕ) (s o k : ℕ) → k ≢ s → remembered_after_taking remembered slot s o k ≡ remembered k
remembered-taken_others remembered slot s o k other = go (o == s) where
  go : (b : Bool) → (if b then set_at remembered s (slot o) else remembered) k ≡ remembered k
  go true = set_at-else remembered s (slot o) k other
  go false = refl

-- Taking and putting the lock of slots.
pub taking_fast-others : (w : World) (s o : ℕ) (v : World) (k : ℕ) → k ≢ s → HappensTakingFast w s o v → IsLeftAlone w v k
taking_fast-others w s o v k other h =
    IsLeftAlone-same k w _ v h.1
    (IsLeftAlone-by w (after_taking_fast w s o) k refl refl refl refl refl refl
    (fast_account-by w (after_taking_fast w s o) k (ap (λ has. slots_in_hand has w.words.database w.words.slot) (set_at-else w.sessions.holds_fast s (set_at (w.sessions.holds_fast s) o true) k other)) refl refl
    (remembered-taken_others w.sessions.remembered w.words.slot s o k other) refl refl) refl refl refl)

pub putting_fast-others : (w : World) (s o : ℕ) (v : World) (k : ℕ) → k ≢ s → HappensPuttingFast w s o v → IsLeftAlone w v k
putting_fast-others w s o v k other h =
    IsLeftAlone-same k w _ v h.1
    (IsLeftAlone-by w (after_putting_fast w s o) k refl refl refl refl refl refl
    (fast_account-by w (after_putting_fast w s o) k (ap (λ has. slots_in_hand has w.words.database w.words.slot) (set_at-else w.sessions.holds_fast s (set_at (w.sessions.holds_fast s) o false) k other)) refl refl refl
    (zero-put_others w.sessions.zero s o k other) refl) refl refl refl)

-- Loading words, and counters.
pub loading-others : (w : World) (s : ℕ) (word : Word) (n k : ℕ) → k ≢ s → IsLeftAlone w (after_loading w s word n) k
loading-others w s word n k other = IsLeftAlone-by w (after_loading w s word n) k refl refl refl refl refl refl refl (set_at-else w.sessions.trace s _ k other) refl refl

pub reading_counter-others : (w : World) (s i n k : ℕ) → k ≢ s → IsLeftAlone w (after_reading_counter w s i n) k
reading_counter-others w s i n k other =
    IsLeftAlone-by w (after_reading_counter w s i n) k refl refl refl refl refl refl
    (fast_account-by w (after_reading_counter w s i n) k refl refl refl refl (zero-read_others w.sessions.zero w.sessions.holds_fast s i n k other) refl) (set_at-else w.sessions.trace s _ k other) refl refl

-- The slots of one session change: whoever has not their lock knows no more of them than before.
pub slots_in_hand-set :
    (has : ℕ → Bool) (database : ℕ → ℕ) (slot : ℕ → ℕ → ℕ) (s : ℕ) (after : ℕ → ℕ) → has s ≡ false
    → slots_in_hand has database (set_at slot s after) ≡ slots_in_hand has database slot
slots_in_hand-set has database slot s after not_his = λ i o. at o i where
  at : (o : ℕ) → known_slots (has o) (database o) (set_at slot s after o) ≡ known_slots (has o) (database o) (slot o)
  at o =
      elim (cases_eq o s) [
        | inl same ↦
            cond-false (has o) (Some (record { word = set_at slot s after o; holds = slot_holds (database o) (set_at slot s after o) })) None (ap has same ∙ not_his)
            ∙ sym (cond-false (has o) (Some (record { word = slot o; holds = slot_holds (database o) (slot o) })) None (ap has same ∙ not_his))
        | inr other ↦ ap (known_slots (has o) (database o)) (set_at-else slot s after o other)
      ]

-- Whoever does not hold a lock that somebody else holds exclusively does not share it either.
not_held : (w : World) (s o k : ℕ) → SafeWorld w → k ≢ s → w.sessions.holds_fast s o ≡ true → w.sessions.holds_fast k o ≡ false
not_held w s o k safe other holding =
    false_from_ne_true (w.sessions.holds_fast k o) (λ held. other ((safe.but_slots.locks.fast_words o).by_one k s held holding))

-- Setting and clearing a slot.
pub setting_slot-others : (w : World) (s i : ℕ) (t : Tag) (m : Mode) (k : ℕ) → SafeWorld w → k ≢ s → MaySetSlot w s i t m → IsLeftAlone w (after_setting_slot w s i t m) k
setting_slot-others w s i t m k safe other may =
    IsLeftAlone-by w (after_setting_slot w s i t m) k refl (λ x o n. set_hold-other_session w.sessions.own s t m true k o n other x) refl refl refl refl
    (fast_account-by w (after_setting_slot w s i t m) k (slots_in_hand-set (w.sessions.holds_fast k) w.words.database w.words.slot s (set_at (w.words.slot s) i (word_with (w.words.slot s i) (relation_of t) m)) (not_held w s s k safe other may.holding))
    (slots_in_hand-set (w.sessions.shares_fast k) w.words.database w.words.slot s (set_at (w.words.slot s) i (word_with (w.words.slot s i) (relation_of t) m)) ((safe.but_slots.locks.fast_words s).never_both s k may.holding)) refl
    (set_at-else w.sessions.remembered s _ k other) refl refl)
    refl refl refl

pub clearing_slot-others : (w : World) (s i : ℕ) (t : Tag) (m : Mode) (k : ℕ) → SafeWorld w → k ≢ s → MayClearSlot w s i t m → IsLeftAlone w (after_clearing_slot w s i t m) k
clearing_slot-others w s i t m k safe other may =
    IsLeftAlone-by w (after_clearing_slot w s i t m) k refl (λ x o n. set_hold-other_session w.sessions.own s t m false k o n other x) refl refl refl refl
    (fast_account-by w (after_clearing_slot w s i t m) k (slots_in_hand-set (w.sessions.holds_fast k) w.words.database w.words.slot s (set_at (w.words.slot s) i (word_without (w.words.slot s i) m)) (not_held w s s k safe other may.holding))
    (slots_in_hand-set (w.sessions.shares_fast k) w.words.database w.words.slot s (set_at (w.words.slot s) i (word_without (w.words.slot s i) m)) ((safe.but_slots.locks.fast_words s).never_both s k may.holding)) refl
    (set_at-else w.sessions.remembered s _ k other) refl refl)
    refl refl refl

-- Moving a mode from a slot to the table.
pub transferring-others : (w : World) (s o i : ℕ) (t : Tag) (m strong : Mode) (k : ℕ) → SafeWorld w → k ≢ s → MayTransfer w s o i t m strong → IsLeftAlone w (after_transferring w o i t m) k
transferring-others w s o i t m strong k safe other may =
    IsLeftAlone-by w (after_transferring w o i t m) k refl refl refl refl
    (recorded-others w s (partition_of t) (Adopt o i) (is_unmarked (w.contents.hand (partition_of t))) _ k safe other may.holding (set_at-else w.contents.now (partition_of t) _)) refl
    (fast_account-by w (after_transferring w o i t m) k (slots_in_hand-set (w.sessions.holds_fast k) w.words.database w.words.slot o (set_at (w.words.slot o) i (word_without (w.words.slot o i) m)) (not_held w s o k safe other may.holding_slots))
    (slots_in_hand-set (w.sessions.shares_fast k) w.words.database w.words.slot o (set_at (w.words.slot o) i (word_without (w.words.slot o i) m)) ((safe.but_slots.locks.fast_words o).never_both s k may.holding_slots)) refl refl refl refl)
    refl refl refl

-- Storing a database: slots of which none is in use show nothing before and after.
pub slots_in_hand-stored :
    (has : ℕ → Bool) (database : ℕ → ℕ) (slot : ℕ → ℕ → ℕ) (s d : ℕ) → NoSlotInUse (slot s)
    → slots_in_hand has (set_at database s d) slot ≡ slots_in_hand has database slot
slots_in_hand-stored has database slot s d none = λ i o. at o i where
  holds : (o : ℕ) → slot_holds (set_at database s d o) (slot o) ≡ slot_holds (database o) (slot o)
  holds o =
      elim (cases_eq o s) [
        | inl same ↦
            ap (λ b. slot_holds b (slot o)) (set_at-here database s d o same)
            ∙ ap (λ j. slot_holds d (slot j)) same
            ∙ slot_holds-stored (database s) d (slot s) none
            ∙ ap (λ j. slot_holds (database j) (slot j)) (sym same)
        | inr other ↦ ap (λ b. slot_holds b (slot o)) (set_at-else database s d o other)
      ]

  at : (o : ℕ) → known_slots (has o) (set_at database s d o) (slot o) ≡ known_slots (has o) (database o) (slot o)
  at o = λ i. if has o then Some (record { word = slot o; holds = holds o i }) else None

pub storing_database-others : (w : World) (s d k : ℕ) → k ≢ s → MayStoreDatabase w s → IsLeftAlone w (after_storing_database w s d) k
storing_database-others w s d k other may =
    IsLeftAlone-by w (after_storing_database w s d) k refl refl refl refl refl refl
    (fast_account-by w (after_storing_database w s d) k (slots_in_hand-stored (w.sessions.holds_fast k) w.words.database w.words.slot s d may.unused)
    (slots_in_hand-stored (w.sessions.shares_fast k) w.words.database w.words.slot s d may.unused) (set_at-else w.words.database s d k other) refl refl refl)
    refl refl refl
