use Rattle.std.proofs.Common.{◌≡◌, ◌≢◌, ℕ, ◌+◌, ◌-◌, ◌<◌, Bool, true, false, List, Option, Some, sym, ap, ◌∙◌, inl, inr, arith}
use Rattle.std.proofs.lemmas.Bool.{both_ways, false_from_ne_true}
use Rattle.modes_core.specs.declared.modes.Mode.{Mode}
use Rattle.modes_core.specs.declared.tags.Tag.{Tag}
use Rattle.modes_core.specs.Tag.{index_of, is_strong_on}
use Rattle.lock_table.specs.Content.{Holds}
use Rattle.lock_table.specs.OwnWait.{OwnWait, is_for}
use Rattle.lock_table.specs.Put.{set_at}
use Rattle.lock_table.proofs.Lemmas.Put.{set_at-else, set_at-each}
use Rattle.lock_world.specs.Counted.{Counted, counting, uncounting, passing, is_past, is_done, AtMostOnce, PastHasNoSlot, StrongIsDone, counter}
use Rattle.lock_world.specs.World.{World}
use Rattle.lock_world.specs.Happens.Slots.{zero_after_putting, after_putting_fast}
use Rattle.lock_world.specs.Happens.Counters.{MayCount, after_counting, MayUncount, after_uncounting, MayPass, after_passing}
use Rattle.lock_world.specs.SafeWorld.{SafeWorld, OwnIsInOrder, ZeroIsAPermission, slots_of, tabled}
use Rattle.lock_world.proofs.Lemmas.Safe.Sharing.{live-within}
use Rattle.lock_world.proofs.Lemmas.Counters.Counting.{is_past-counting, is_at-counting_stays, AtMostOnce-counting}
use Rattle.lock_world.proofs.Lemmas.Counters.Uncounting.{is_past-uncounting, is_at-uncounting_else, AtMostOnce-uncounting}
use Rattle.lock_world.proofs.Lemmas.Counters.Passing.{is_past-passing, is_at-passing_else, AtMostOnce-passing}
use Rattle.lock_world.proofs.Lemmas.Counters.Sums.{counter-counting, counter-uncounting, counter-passing}
use Rattle.lock_world.proofs.Lemmas.SafeWorld.Changes.{with_fast_path-safe}
use Rattle.lock_world.proofs.Lemmas.SafeWorld.Slots.Locks.{zero-after, putting_fast-safe_world}

-- What one session has counted changes: what has to be shown of its list.
module _ (counted : ℕ → List Counted) (s : ℕ) (list : List Counted) where
  abbrev counted' : ℕ → List Counted
  counted' = set_at counted s list

  OwnIsInOrder-counted : (live : ℕ → Bool) (own : Holds) (awaited : ℕ → Option OwnWait) → live s ≡ true → OwnIsInOrder live own awaited counted → OwnIsInOrder live own awaited counted'
  OwnIsInOrder-counted live own awaited alive order = record {
    awaited_is_not_own = order.awaited_is_not_own;
    no_hold = order.no_hold;
    no_count = λ k dead. set_at-else counted s list k (λ same. both_ways (live k) dead (ap live same ∙ alive)) ∙ order.no_count k dead;
  }

  once-counted : AtMostOnce list → ((k : ℕ) → AtMostOnce (counted k)) → (k : ℕ) → AtMostOnce (counted' k)
  once-counted its all = set_at-each (λ k l. AtMostOnce l) counted s list its (λ k _. all k)

  PastHasNoSlot-counted :
      (slots : Holds) → PastHasNoSlot counted slots
      → ((k : ℕ) (o : Tag) (n : Mode) → is_past list o k ≡ true → slots k o n ≡ false) → PastHasNoSlot counted' slots
  PastHasNoSlot-counted slots all its =
      set_at-each (λ j l. (k : ℕ) (o : Tag) (n : Mode) → is_past l o k ≡ true → slots k o n ≡ false) counted s list its (λ j _. all j)

  StrongIsDone-counted :
      (limit : ℕ) (own : Holds) (awaited : ℕ → Option OwnWait) → StrongIsDone limit counted own awaited
      → ((o : Tag) (n : Mode) → is_strong_on o n ≡ true → own s o n ≡ true → is_done limit list o n ≡ true)
      → ((o : Tag) (n : Mode) → is_strong_on o n ≡ true → is_for (awaited s) o n ≡ true → is_done limit list o n ≡ true)
      → StrongIsDone limit counted' own awaited
  StrongIsDone-counted limit own awaited done its_holds its_wait = record {
    held = set_at-each (λ k l. (o : Tag) (n : Mode) → is_strong_on o n ≡ true → own k o n ≡ true → is_done limit l o n ≡ true) counted s list its_holds (λ k _. done.held k);
    awaits = set_at-each (λ k l. (o : Tag) (n : Mode) → is_strong_on o n ≡ true → is_for (awaited k) o n ≡ true → is_done limit l o n ≡ true) counted s list its_wait (λ k _. done.awaits k);
  }

  ZeroIsAPermission-counted :
      (zero : ℕ → Option ℕ) (holds_fast : ℕ → ℕ → Bool) → ZeroIsAPermission zero holds_fast counted
      → ((k : ℕ) (o : Tag) → zero k ≡ Some (index_of o) → is_past list o k ≡ false) → ZeroIsAPermission zero holds_fast counted'
  ZeroIsAPermission-counted zero holds_fast all its = record {
    holds = all.holds;
    nobody_is_past = λ k j o read. set_at-each (λ i l. is_past l o k ≡ false) counted s list (its k o read) (λ i _. all.nobody_is_past k i o read) j;
  }

-- Counting a strong lock is safe: it is past nobody yet.
pub counting-safe_world : (w : World) (s : ℕ) (t : Tag) (m : Mode) → SafeWorld w → MayCount w s t m → SafeWorld (after_counting w s t m)
counting-safe_world w s t m safe may = record {
  but_slots = with_fast_path-safe (tabled w) w.words.database w.words.slot _ _ w.sessions.zero w.sessions.remembered w.sessions.trace safe.but_slots safe.but_slots.traces;
  lists = safe.lists;
  slots = safe.slots;
  order = OwnIsInOrder-counted w.sessions.counted s list w.numbers.live w.sessions.own w.sessions.awaited may.steps.live safe.order;
  counters = record {
    shown = λ index. shown index;
    once = once-counted w.sessions.counted s list (AtMostOnce-counting (w.sessions.counted s) t m may.new (safe.counters.once s)) safe.counters.once;
  };
  past = PastHasNoSlot-counted w.sessions.counted s list (slots_of w.words.database w.words.slot) safe.past
      (λ k o n gone. safe.past s k o n (sym (is_past-counting (w.sessions.counted s) t m o k) ∙ gone));
  done = StrongIsDone-counted w.sessions.counted s list w.numbers.limit w.sessions.own w.sessions.awaited safe.done
      (λ o n strong has. is_at-counting_stays (w.sessions.counted s) t m w.numbers.limit o n (safe.done.held s o n strong has))
      (λ o n strong awaits. is_at-counting_stays (w.sessions.counted s) t m w.numbers.limit o n (safe.done.awaits s o n strong awaits));
  zero = ZeroIsAPermission-counted w.sessions.counted s list w.sessions.zero w.sessions.holds_fast safe.zero
      (λ k o read. is_past-counting (w.sessions.counted s) t m o k ∙ safe.zero.nobody_is_past k s o read);
  remembered = safe.remembered;
} where
  list : List Counted
  list = counting (w.sessions.counted s) t m

  same : w.words.strong ≡ counter w.numbers.limit w.sessions.counted
  same = λ i index. safe.counters.shown index i

  shown : (index : ℕ) → (after_counting w s t m).words.strong index ≡ counter w.numbers.limit (set_at w.sessions.counted s list) index
  shown index =
      ap (λ strong. set_at strong (index_of t) (strong (index_of t) + 1) index) same
      ∙ sym (ap (λ f. f index) (counter-counting w.numbers.limit w.sessions.counted s t m (live-within (tabled w) s safe.but_slots may.steps.live)))

-- Counting it no more is safe, where the session neither has it nor awaits it.
pub uncounting-safe_world : (w : World) (s : ℕ) (t : Tag) (m : Mode) → SafeWorld w → MayUncount w s t m → SafeWorld (after_uncounting w s t m)
uncounting-safe_world w s t m safe may = record {
  but_slots = with_fast_path-safe (tabled w) w.words.database w.words.slot _ _ w.sessions.zero w.sessions.remembered w.sessions.trace safe.but_slots safe.but_slots.traces;
  lists = safe.lists;
  slots = safe.slots;
  order = OwnIsInOrder-counted w.sessions.counted s list w.numbers.live w.sessions.own w.sessions.awaited may.steps.live safe.order;
  counters = record {
    shown = λ index. shown index;
    once = once-counted w.sessions.counted s list (AtMostOnce-uncounting (w.sessions.counted s) t m (safe.counters.once s)) safe.counters.once;
  };
  past = PastHasNoSlot-counted w.sessions.counted s list (slots_of w.words.database w.words.slot) safe.past
      (λ k o n gone. safe.past s k o n (is_past-uncounting (w.sessions.counted s) t m o k gone));
  done = StrongIsDone-counted w.sessions.counted s list w.numbers.limit w.sessions.own w.sessions.awaited safe.done
      (λ o n strong has. is_at-uncounting_else (w.sessions.counted s) t m w.numbers.limit o n (not_own o n has) ∙ safe.done.held s o n strong has)
      (λ o n strong awaits. is_at-uncounting_else (w.sessions.counted s) t m w.numbers.limit o n (not_awaited o n awaits) ∙ safe.done.awaits s o n strong awaits);
  zero = ZeroIsAPermission-counted w.sessions.counted s list w.sessions.zero w.sessions.holds_fast safe.zero
      (λ k o read. false_from_ne_true (is_past list o k) (λ gone.
      both_ways (is_past (w.sessions.counted s) o k) (safe.zero.nobody_is_past k s o read) (is_past-uncounting (w.sessions.counted s) t m o k gone)));
  remembered = safe.remembered;
} where
  list : List Counted
  list = uncounting (w.sessions.counted s) t m

  same : w.words.strong ≡ counter w.numbers.limit w.sessions.counted
  same = λ i index. safe.counters.shown index i

  shown : (index : ℕ) → (after_uncounting w s t m).words.strong index ≡ counter w.numbers.limit (set_at w.sessions.counted s list) index
  shown index =
      ap (λ strong. set_at strong (index_of t) (strong (index_of t) - 1) index) same
      ∙ sym (ap (λ f. f index) (counter-uncounting w.numbers.limit w.sessions.counted s t m (live-within (tabled w) s safe.but_slots may.steps.live) (safe.counters.once s) may.is))

  not_own : (o : Tag) (n : Mode) → w.sessions.own s o n ≡ true → (o ≡ t) × (n ≡ m) → ⊥
  not_own o n has it = both_ways (w.sessions.own s o n) ((λ i. w.sessions.own s (it.0 i) (it.1 i)) ∙ may.not_own) has

  not_awaited : (o : Tag) (n : Mode) → is_for (w.sessions.awaited s) o n ≡ true → (o ≡ t) × (n ≡ m) → ⊥
  not_awaited o n awaits it = both_ways (is_for (w.sessions.awaited s) o n) ((λ i. is_for (w.sessions.awaited s) (it.0 i) (it.1 i)) ∙ may.not_awaited) awaits

-- Going past a session that has no slot on the object is safe: no counter that it has read as 0 is a
-- permission still, since its own lock was not its own to hold.
pub passing-safe_world : (w : World) (s k : ℕ) (t : Tag) (m : Mode) → SafeWorld w → MayPass w s k t m → SafeWorld (after_passing w s k t m)
passing-safe_world w s k t m safe may = record {
  but_slots = with_fast_path-safe (tabled put) w.words.database w.words.slot w.words.strong _ put.sessions.zero w.sessions.remembered w.sessions.trace whole.but_slots whole.but_slots.traces;
  lists = whole.lists;
  slots = safe.slots;
  order = OwnIsInOrder-counted w.sessions.counted s list w.numbers.live w.sessions.own w.sessions.awaited may.steps.live safe.order;
  counters = record {
    shown = λ index. safe.counters.shown index
        ∙ sym (ap (λ f. f index) (counter-passing w.numbers.limit w.sessions.counted s t m k (live-within (tabled w) s safe.but_slots may.steps.live)));
    once = once-counted w.sessions.counted s list (AtMostOnce-passing (w.sessions.counted s) t m k (safe.counters.once s)) safe.counters.once;
  };
  past = PastHasNoSlot-counted w.sessions.counted s list (slots_of w.words.database w.words.slot) safe.past
      (λ j o n gone. elim (is_past-passing (w.sessions.counted s) t m k o j gone) [
        | inl was ↦ safe.past s j o n was
        | inr it ↦ (λ i. slots_of w.words.database w.words.slot (it.1 i) (it.0 i) n) ∙ may.no_slot n
      ]);
  done = StrongIsDone-counted w.sessions.counted s list w.numbers.limit w.sessions.own w.sessions.awaited safe.done
      (λ o n strong has. is_at-passing_else (w.sessions.counted s) t m k w.numbers.limit o n not_last (safe.done.held s o n strong has))
      (λ o n strong awaits. is_at-passing_else (w.sessions.counted s) t m k w.numbers.limit o n not_last (safe.done.awaits s o n strong awaits));
  zero = ZeroIsAPermission-counted w.sessions.counted s list put.sessions.zero put.sessions.holds_fast whole.zero
      (λ j o read. false_from_ne_true (is_past list o j) (λ gone. elim (is_past-passing (w.sessions.counted s) t m k o j gone) [
        | inl was ↦ both_ways (is_past (w.sessions.counted s) o j) (whole.zero.nobody_is_past j s o read) was
        | inr it ↦ not_its_own j (index_of o) read it.1
      ]));
  remembered = safe.remembered;
} where
  list : List Counted
  list = passing (w.sessions.counted s) t m k

  put : World
  put = after_putting_fast w s k

  whole : SafeWorld (after_putting_fast w s k)
  whole = putting_fast-safe_world w s k safe (record { steps = may.steps; holding = may.holding })

  not_last : w.numbers.limit ≢ k
  not_last same = let exists : k < w.numbers.limit = may.exists in omega (arith, exists, same)

  not_its_own : (j index : ℕ) → zero_after_putting w.sessions.zero s k j ≡ Some index → j ≡ k → ⊥
  not_its_own j index read same =
      let before = zero-after w.sessions.zero s k j index read in
      let its = safe.zero.holds j index before.0 in
      let by_it : w.sessions.holds_fast j k ≡ true = ap (λ i. w.sessions.holds_fast j i) (sym same) ∙ its in
      before.1 ((safe.but_slots.locks.fast_words k).by_one j s by_it may.holding) same
