use Rattle.std.proofs.Common.{◌≡◌, ℕ, true, false, [], None, sym}
use Rattle.std.proofs.lemmas.Bool.{false≢true, both_ways, false_from_ne_true}
use Rattle.modes_core.specs.declared.modes.Mode.{Mode}
use Rattle.modes_core.specs.declared.tags.Tag.{Tag}
use Rattle.lock_table.specs.Put.{set_at}
use Rattle.lock_table.proofs.Lemmas.Put.{set_at-each}
use Rattle.lock_world.specs.World.{World}
use Rattle.lock_world.specs.SlotHolds.{NoSlotInUse}
use Rattle.lock_world.specs.Happens.Seats.{MayBeIssued, after_issuing, MayGoOn, after_going_on, MayBeKeptApart, after_keeping_apart, MayClose, after_closing}
use Rattle.lock_world.specs.SafeWorld.{SafeWorld, tabled, slots_of}
use Rattle.lock_world.specs.Happens.Lists.{sleepers}
use Rattle.lock_world.proofs.Lemmas.WaitLists.{forgetting-safe}
use Rattle.lock_world.proofs.Lemmas.Safe.Seats.{issuing-safe, going_on-safe, keeping_apart-safe, closing-safe}
use Rattle.lock_world.proofs.Lemmas.Slots.Remembered.{no_hold-no_slot, remembered-closed}
use Rattle.lock_world.proofs.Lemmas.SafeWorld.Tabled.{own_but-false}
use Rattle.lock_world.proofs.Lemmas.SafeWorld.Beside.{beside-safe_world}

-- Who holds nothing has no slot in use.
pub holding_nothing-unused :
    (w : World) (s : ℕ) → SafeWorld w → ((tag : Tag) (mode : Mode) → w.sessions.own s tag mode ≡ false)
    → NoSlotInUse (w.words.slot s)
holding_nothing-unused w s safe none =
    no_hold-no_slot (w.words.database s) (w.words.slot s) (safe.slots.has_database s)
    (λ tag mode. false_from_ne_true (slots_of w.words.database w.words.slot s tag mode)
    (λ shown. both_ways (w.sessions.own s tag mode) (none tag mode) (safe.slots.are_own s tag mode shown)))

-- Issuing a number is safe.
pub issuing-safe_world : (w : World) (s : ℕ) → SafeWorld w → MayBeIssued w s → SafeWorld (after_issuing w s)
issuing-safe_world w s safe may = record {
  but_slots = issuing-safe (tabled w) s safe.but_slots (record { next = may.next; within = may.within });
  lists = record {
    shown = safe.lists.shown;
    sleepers = safe.lists.sleepers;
    no_list = λ k dead. safe.lists.no_list k (was_dead k dead);
    no_stand = λ k dead. safe.lists.no_stand k (was_dead k dead);
  };
  slots = safe.slots;
  order = record {
    awaited_is_not_own = safe.order.awaited_is_not_own;
    no_hold = λ k o n dead. safe.order.no_hold k o n (was_dead k dead);
    no_count = λ k dead. safe.order.no_count k (was_dead k dead);
  };
  counters = safe.counters;
  past = safe.past;
  done = safe.done;
  zero = safe.zero;
  remembered = safe.remembered;
} where
  was_dead : (k : ℕ) → set_at w.numbers.live s true k ≡ false → w.numbers.live k ≡ false
  was_dead = set_at-each (λ k b. b ≡ false → w.numbers.live k ≡ false) w.numbers.live s true (λ e. absurd (false≢true (sym e))) (λ _ _ e. e)

-- Going on by itself is safe.
pub going_on-safe_world : (w : World) (s : ℕ) → SafeWorld w → MayGoOn w s → SafeWorld (after_going_on w s)
going_on-safe_world w s safe may = beside-safe_world w (after_going_on w s) safe (going_on-safe (tabled w) s safe.but_slots may) safe.lists safe.zero safe.remembered

-- Being kept apart is safe.
pub keeping_apart-safe_world : (w : World) (s joiner : ℕ) → SafeWorld w → MayBeKeptApart w s joiner → SafeWorld (after_keeping_apart w s joiner)
keeping_apart-safe_world w s joiner safe may = beside-safe_world w (after_keeping_apart w s joiner) safe
    (keeping_apart-safe (tabled w) s joiner safe.but_slots (record {
      steps = may.steps;
      another = may.another;
      joiner_steps = may.joiner_steps;
      no_word = may.no_word;
      no_fast_word = may.no_fast_word;
      no_shared_word = may.no_shared_word;
      no_shared_fast_word = may.no_shared_fast_word;
    }))
    safe.lists safe.zero safe.remembered

-- Closing is safe.
pub closing-safe_world : (w : World) (s : ℕ) → SafeWorld w → MayClose w s → SafeWorld (after_closing w s)
closing-safe_world w s safe may = record {
  but_slots = closing-safe (tabled w) s safe.but_slots (record {
    steps = may.steps;
    no_word = may.no_word;
    no_fast_word = may.no_fast_word;
    no_shared_word = may.no_shared_word;
    no_shared_fast_word = may.no_shared_fast_word;
    no_hold = λ o n. own_but-false w.sessions.own (slots_of w.words.database w.words.slot) s o n (may.no_hold o n);
    no_wait = may.no_wait;
    no_count = may.no_count;
    no_list = may.no_list;
    no_stand = may.no_stand;
    none_untold = may.none_untold;
    keeps_nobody = may.keeps_nobody;
  });
  lists = record {
    shown = safe.lists.shown;
    sleepers = forgetting-safe (sleepers w) s safe.lists.sleepers;
    no_list = set_at-each (λ k b. b ≡ false → w.sessions.has_list k ≡ None) w.numbers.live s false (λ _. may.no_list) (λ k _ dead. safe.lists.no_list k dead);
    no_stand = set_at-each (λ k b. b ≡ false → w.sessions.stands k ≡ None) w.numbers.live s false (λ _. may.no_stand) (λ k _ dead. safe.lists.no_stand k dead);
  };
  slots = safe.slots;
  order = record {
    awaited_is_not_own = safe.order.awaited_is_not_own;
    no_hold = λ k o n. set_at-each (λ k b. b ≡ false → w.sessions.own k o n ≡ false) w.numbers.live s false (λ _. may.no_hold o n) (λ k _ dead. safe.order.no_hold k o n dead) k;
    no_count = set_at-each (λ k b. b ≡ false → w.sessions.counted k ≡ []) w.numbers.live s false (λ _. may.no_count) (λ k _ dead. safe.order.no_count k dead);
  };
  counters = safe.counters;
  past = safe.past;
  done = safe.done;
  zero = safe.zero;
  remembered = remembered-closed w.words.slot w.sessions.remembered s (holding_nothing-unused w s safe may.no_hold) safe.remembered;
}
