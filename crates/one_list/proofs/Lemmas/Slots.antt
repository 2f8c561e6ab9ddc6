use Rattle.std.proofs.Common.{◌≡◌, ℕ, true, false, List, [], ◌∷◌, Option, Some, None, refl, sym, ap, ◌∙◌, inl, inr, zero, suc}
use Rattle.std.specs.Prelude.{slice_get}
use Rattle.std.proofs.lemmas.Bool.{both_ways, false_from_ne_true, or_cases, or_right, or_from, and_from}
use Rattle.modes_core.specs.declared.modes.Mode.{Mode}
use Rattle.modes_core.specs.declared.tags.Tag.{Tag}
use Rattle.modes_core.specs.Mode.{mode_eq}
use Rattle.modes_core.specs.Conflict.{conflict}
use Rattle.modes_core.specs.Tag.{tag_eq, index_of, partition_of}
use Rattle.modes_core.proofs.Lemmas.Conflicts.{conflict_comm, tag_eq-refl, mode_eq-refl}
use Rattle.lock_table.specs.Content.{Holds, Wait}
use Rattle.lock_table.specs.Queue.{some_awaits_conflict, waits_there}
use Rattle.lock_table.specs.OwnWait.{OwnWait, is_for, is_pending}
use Rattle.lock_world.specs.Counted.{is_done, is_past}
use Rattle.lock_world.specs.World.{World}
use Rattle.lock_world.specs.Safe.{stages, stage_of}
use Rattle.lock_world.specs.SafeWorld.{SafeWorld, slots_of, tabled}
use Rattle.lock_world.specs.Headline.{stands_with}
use Rattle.lock_world.proofs.Lemmas.Slots.Eligible.{held-is_in, eligible-is}
use Rattle.lock_world.proofs.Lemmas.Counters.Passing.{is_at-past}
use Rattle.lock_world.proofs.Lemmas.SlotsAgainstTable.{conflict-strong}
use Rattle.lock_world.proofs.Lemmas.FromSafe.{Stands, entry-stands, session-stands, awaits-for}
use Rattle.lock_world.proofs.Lemmas.FromSafeWorld.{live-within, holder-within}
use Rattle.lock_world.proofs.Lemmas.Headline.{headline}
use Rattle.one_list.specs.OneList.{list_of, Asks, Remembers}
use Rattle.one_list.specs.Requests.{IsCleared}
use Rattle.one_list.proofs.Lemmas.Over.{More, Beside, BesideAll}

-- In a safe World what slots show is in nobody's way.

BesideAll-from : (e : More) (queue : List Wait) → ((i : ℕ) (wait : Wait) → slice_get queue i ≡ Some wait → Beside e wait.mode) → BesideAll e queue
BesideAll-from e [] each = tt
BesideAll-from e (w ∷ queue) each = (each zero w refl, BesideAll-from e queue (λ i wait at. each (suc i) wait at))

module _ (w : World) (safe : SafeWorld w) where
  abbrev slots : Holds
  slots = slots_of w.words.database w.words.slot

  -- the modes on the object that slots show
  abbrev pub shown_on : Tag → More
  shown_on t = λ k n. slots k t n

  -- A mode that is done where it is strong conflicts with nothing that slots show.
  pub beside-done : (s : ℕ) (t : Tag) (m : Mode) → IsCleared w s t m → Beside (shown_on t) m
  beside-done s t m done k n shown =
      false_from_ne_true (conflict m n) (λ clash.
      let found = held-is_in (w.words.database k) (w.words.slot k) t n shown in
      let strong = conflict-strong (w.words.database k) t n m found.1.eligible (conflict_comm n m ∙ clash) in
      let gone = safe.past s k t n (is_at-past (w.sessions.counted s) t m w.numbers.limit k (holder-within w safe k t n (safe.slots.are_own k t n shown)) (done strong)) in
      both_ways (slots k t n) gone shown)

  pub beside-awaited : (o : ℕ) (t : Tag) (m : Mode) → is_for (w.sessions.awaited o) t m ≡ true → Beside (shown_on t) m
  beside-awaited o t m awaits = beside-done o t m (λ strong. safe.done.awaits o t m strong awaits)

  pub beside-own : (o : ℕ) (t : Tag) (m : Mode) → w.sessions.own o t m ≡ true → Beside (shown_on t) m
  beside-own o t m own = beside-done o t m (λ strong. safe.done.held o t m strong own)

  -- Whoever stands in a queue awaits what the entry says.
  pub entry-awaited : (p i : ℕ) (t : Tag) (wait : Wait) → slice_get ((w.contents.now p).waits t) i ≡ Some wait → is_for (w.sessions.awaited wait.session) t wait.mode ≡ true
  entry-awaited p i t wait at =
      let found = entry-stands (tabled w) safe.but_slots p i t wait at in
      let there : Stands wait.session (w.sessions.awaited wait.session) (stages w wait.session) t wait = found.1 in
      ap (λ (a : Option OwnWait). is_for a t wait.mode) there.is_wait
      ∙ and_from (tag_eq there.wait.tag t) (mode_eq there.wait.mode wait.mode)
      (ap (λ (o : Tag). tag_eq o t) there.on ∙ tag_eq-refl t)
      (ap (λ (e : Wait). mode_eq e.mode wait.mode) (sym there.is_entry) ∙ mode_eq-refl wait.mode)

  -- So all that is awaited.
  pub beside-queue : (p : ℕ) (t : Tag) → BesideAll (shown_on t) ((w.contents.now p).waits t)
  beside-queue p t = BesideAll-from (shown_on t) ((w.contents.now p).waits t) each where
    each : (i : ℕ) (wait : Wait) → slice_get ((w.contents.now p).waits t) i ≡ Some wait → Beside (shown_on t) wait.mode
    each i wait at = beside-awaited wait.session t wait.mode (entry-awaited p i t wait at)

  -- A session that waits for nothing, and has not the hold, may ask for it.
  pub asks : (s : ℕ) (t : Tag) (m : Mode) → w.sessions.awaited s ≡ None → w.sessions.own s t m ≡ false → Asks (list_of w) s t m
  asks s t m idle new = record {
    new = (headline w safe).own_or_granted s t m ∙ or_from (w.sessions.own s t m) (is_pending (w.sessions.awaited s) (stages w s) t m) new
        (ap (λ (a : Option OwnWait). is_pending a (stage_of (w.words.wait s) w.contents.hand s a) t m) idle);
    waits_nowhere = λ o. false_from_ne_true (waits_there ((w.contents.now (partition_of o)).waits o) s) (λ there. none o (session-stands (tabled w) safe.but_slots (partition_of o) s o there));
  } where
    none : (o : Tag) → (partition_of o ≡ partition_of o) × ((entry : Wait) × Stands s (w.sessions.awaited s) (stages w s) o entry) → ⊥
    none o found = let some : w.sessions.awaited s ≡ Some found.1.1.wait = found.1.1.is_wait in cc

  -- What a session that joins leaves out of what it remembers, its slots show.
  pub remembers : (s : ℕ) (t : Tag) (m : Mode) → IsCleared w s t m
      → Remembers (list_of w) s t m ((w.contents.now (partition_of t)).holds s t)
  remembers s t m done = record {
    are_held = λ its has. or_right (slots s t its) ((w.contents.now (partition_of t)).holds s t its) has;
    left_out_is_weak = λ its has out. let found = held-is_in (w.words.database s) (w.words.slot s) t its (in_slot its has out) in
        (eligible-is (w.words.database s) t its found.1.eligible).2;
    left_out_beside_asked = λ its has out. beside-done s t m done s its (in_slot its has out);
    left_out_beside_holders = λ its n other has out holds. conflict_comm its n ∙ beside_stands other n holds s its (in_slot its has out);
    left_out_beside_waiters = λ its n other has out awaits.
        conflict_comm its n ∙ beside-awaited other t n (awaits-for (tabled w) safe.but_slots (partition_of t) other t n awaits) s its (in_slot its has out);
  } where
    in_slot : (its : Mode) → stands_with w s t its ≡ true → (w.contents.now (partition_of t)).holds s t its ≡ false → slots s t its ≡ true
    in_slot its has out =
        elim (or_cases (slots s t its) ((w.contents.now (partition_of t)).holds s t its) has) [
          | inl shown ↦ shown
          | inr there ↦ absurd (both_ways ((w.contents.now (partition_of t)).holds s t its) out there)
        ]

    beside_stands : (other : ℕ) (n : Mode) → stands_with w other t n ≡ true → Beside (shown_on t) n
    beside_stands other n holds = beside-done other t n (λ strong. (headline w safe).strong_is_counted other t n strong holds)

  -- Nobody in the queue awaits a mode in conflict with one, if no awaited mode conflicts with it.
  pub none_awaits : (p : ℕ) (t : Tag) (m : Mode) → ((o : ℕ) (n : Mode) → is_for (w.sessions.awaited o) t n ≡ true → conflict m n ≡ false)
      → some_awaits_conflict ((w.contents.now p).waits t) m ≡ false
  none_awaits p t m free = from ((w.contents.now p).waits t) (λ i wait at. free wait.session wait.mode (entry-awaited p i t wait at)) where
    from : (queue : List Wait) → ((i : ℕ) (wait : Wait) → slice_get queue i ≡ Some wait → conflict m wait.mode ≡ false) → some_awaits_conflict queue m ≡ false
    from [] each = refl
    from (v ∷ queue) each = or_from (conflict m v.mode) (some_awaits_conflict queue m) (each zero v refl) (from queue (λ i wait at. each (suc i) wait at))

  -- Nothing is in the way of a slot that may be set.
  pub nothing_strong : (s : ℕ) (t : Tag) → w.sessions.zero s ≡ Some (index_of t) → w.numbers.live s ≡ true
      → (o : ℕ) (n : Mode) → is_done w.numbers.limit (w.sessions.counted o) t n ≡ true → ⊥
  nothing_strong s t read alive o n done =
      both_ways (is_past (w.sessions.counted o) t s) (safe.zero.nobody_is_past s o t read)
      (is_at-past (w.sessions.counted o) t n w.numbers.limit s (live-within w safe s alive) done)
