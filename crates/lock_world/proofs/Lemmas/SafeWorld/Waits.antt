use Rattle.std.proofs.Common.{◌≡◌, ◌≢◌, ℕ, Bool, true, false, List, [], Option, Some, None, refl, sym, ap, ◌∙◌, inl, inr}
use Rattle.std.specs.Prelude.{◌||◌, not, if◌then◌else◌}
use Rattle.std.proofs.lemmas.Bool.{both_ways}
use Rattle.modes_core.specs.declared.modes.Mode.{Mode}
use Rattle.modes_core.specs.declared.tags.Tag.{Tag}
use Rattle.modes_core.specs.Tag.{partition_of, is_strong_on}
use Rattle.lock_table.specs.declared.moves.Move.{Move}
use Rattle.lock_table.specs.declared.moves.Move.TheVariants.{Join, Leave}
use Rattle.lock_table.specs.Content.{Holds, Wait, Content, set_hold}
use Rattle.lock_table.specs.OwnWait.{OwnWait, is_for}
use Rattle.lock_table.specs.Put.{set_at}
use Rattle.lock_table.proofs.Lemmas.Put.{set_at-here, set_at-else}
use Rattle.lock_table.proofs.Lemmas.Holds.{set_hold-other_session, set_hold-still, set_hold-new}
use Rattle.lock_world.specs.Counted.{is_done}
use Rattle.lock_world.specs.World.{World, MakesSteps}
use Rattle.lock_world.specs.Happens.Partitions.{MayMove}
use Rattle.lock_world.specs.Happens.Waits.{after_asking, after_loading_wait, after_setting_waiting, MayMarkFirst, after_marking_first, MayMarkNext, after_marking_next, MayClearSeen, MayClearInHand, after_clearing, MayLeave, after_leaving}
use Rattle.lock_world.specs.Safe.{SafeButSlots}
use Rattle.lock_world.specs.SafeWorld.{SafeWorld, slots_of, own_but, tabled}
use Rattle.lock_world.proofs.Lemmas.Waits.Steps.{GrantsOthers}
use Rattle.lock_world.proofs.Lemmas.Safe.Waits.{asking-safe, loading_wait-safe, setting_waiting-safe, marking_first-safe, marking_next-safe, clearing_seen-safe, clearing_in_hand-safe, leaving-safe}
use Rattle.lock_world.proofs.Lemmas.SafeWorld.Tabled.{with_own-safe, own_but-set_hold, not_own-no_slot, MayMove-tabled, tabled-after}
use Rattle.lock_world.proofs.Lemmas.SafeWorld.OneSession.{SlotsAreOwn-one, OwnIsInOrder-one, StrongIsDone-one, is_for-same, is_for-itself}
use Rattle.lock_world.proofs.Lemmas.SafeWorld.Partitions.{slots-moved, order-moved, done-moved}
use Rattle.lock_world.proofs.Lemmas.SafeWorld.Beside.{beside-safe_world}

-- Asking a session to cancel is safe.
pub asking-safe_world : (w : World) (s k : ℕ) → SafeWorld w → MakesSteps w.numbers s → SafeWorld (after_asking w s k)
asking-safe_world w s k safe steps = beside-safe_world w (after_asking w s k) safe (asking-safe (tabled w) s k safe.but_slots steps) safe.lists safe.zero safe.remembered

-- Loading one's own wait word is safe.
pub loading_wait-safe_world : (w : World) (s n : ℕ) → SafeWorld w → MakesSteps w.numbers s → SafeWorld (after_loading_wait w s n)
loading_wait-safe_world w s n safe steps = beside-safe_world w (after_loading_wait w s n) safe (loading_wait-safe (tabled w) s n safe.but_slots steps) safe.lists safe.zero safe.remembered

-- Setting one's own wait word to waiting is safe.
pub setting_waiting-safe_world :
    (w : World) (s : ℕ) (t : Tag) (m : Mode) (content : Content) → SafeWorld w → MayMove w s (partition_of t) (Join t m) [] content
    → SafeWorld (after_setting_waiting w s t m content)
setting_waiting-safe_world w s t m content safe may = record {
  but_slots = setting_waiting-safe (tabled w) s t m content safe.but_slots (MayMove-tabled w safe s (partition_of t) (Join t m) [] content may);
  lists = safe.lists;
  slots = safe.slots;
  order = OwnIsInOrder-one w.sessions.own w.sessions.own w.sessions.awaited awaited' s (λ _ _ _ _. refl) (set_at-else w.sessions.awaited s (Some wait))
      w.numbers.live w.sessions.counted may.steps.live safe.order (λ o n awaits. let it = its o n awaits in (λ i. w.sessions.own s (sym it.0 i) (sym it.1 i)) ∙ may.own.1);
  counters = safe.counters;
  past = safe.past;
  done = StrongIsDone-one w.sessions.own w.sessions.own w.sessions.awaited awaited' s (λ _ _ _ _. refl) (set_at-else w.sessions.awaited s (Some wait))
      w.numbers.limit w.sessions.counted safe.done (safe.done.held s)
      (λ o n strong awaits. let it = its o n awaits in
      (λ i. is_done w.numbers.limit (w.sessions.counted s) (sym it.0 i) (sym it.1 i)) ∙ may.counted ((λ i. is_strong_on (it.0 i) (it.1 i)) ∙ strong));
  zero = safe.zero;
  remembered = safe.remembered;
} where
  wait : OwnWait
  wait = record { tag = t; mode = m; held = (w.contents.now (partition_of t)).holds s t }

  awaited' : ℕ → Option OwnWait
  awaited' = set_at w.sessions.awaited s (Some wait)

  its : (o : Tag) (n : Mode) → is_for (awaited' s) o n ≡ true → (t ≡ o) × (m ≡ n)
  its o n awaits = is_for-same wait o n (ap (λ a. is_for a o n) (sym (set_at-here w.sessions.awaited s (Some wait) s refl)) ∙ awaits)

-- Marking a wait granted is safe: the first one of a move, and each further one.
pub marking_first-safe_world :
    (w : World) (s k p : ℕ) (done : Move) (granted : List Wait) (content : Content) → GrantsOthers done → SafeWorld w → MayMarkFirst w s k p done granted content
    → SafeWorld (after_marking_first w s k p done granted content)
marking_first-safe_world w s k p done granted content grants safe may = record {
  but_slots = with_own-safe (after_marking_first w s k p done granted content) _ _ (tabled-after w safe s p done granted content may.may_move)
      (marking_first-safe (tabled w) s k p done granted content grants safe.but_slots
      (record { may_move = MayMove-tabled w safe s p done granted content may.may_move; may_mark = record { another = may.may_mark.another; waiting = may.may_mark.waiting }; among = may.among }));
  lists = safe.lists;
  slots = slots-moved w safe s p done granted content may.may_move;
  order = order-moved w safe s p done granted content may.may_move;
  counters = safe.counters;
  past = safe.past;
  done = done-moved w safe s p done granted content may.may_move;
  zero = safe.zero;
  remembered = safe.remembered;
}

pub marking_next-safe_world : (w : World) (s k p : ℕ) (done : Move) → SafeWorld w → MayMarkNext w s k p done → SafeWorld (after_marking_next w k p done)
marking_next-safe_world w s k p done safe may = beside-safe_world w (after_marking_next w k p done) safe
    (marking_next-safe (tabled w) s k p done safe.but_slots (record {
      steps = may.steps;
      holding = may.holding;
      recorded = may.recorded;
      may_mark = record { another = may.may_mark.another; waiting = may.may_mark.waiting };
      is_unmarked_in = may.is_unmarked_in;
    }))
    safe.lists safe.zero safe.remembered

-- What was granted becomes own where the wait ends.
module _ (w : World) (safe : SafeWorld w) (s : ℕ) (wait : OwnWait) (alive : w.numbers.live s ≡ true) (is : w.sessions.awaited s ≡ Some wait) where
  abbrev own : Holds
  own = w.sessions.own

  abbrev slots : Holds
  slots = slots_of w.words.database w.words.slot

  -- whether the wait was granted
  abbrev granted : Bool
  granted = w.sessions.seen s || (w.contents.now (partition_of wait.tag)).holds s wait.tag wait.mode

  abbrev over : Bool → Holds
  over b = if b then set_hold own s wait.tag wait.mode true else own

  abbrev awaited' : ℕ → Option OwnWait
  awaited' = set_at w.sessions.awaited s None

  its : (o : Tag) (n : Mode) → is_for (Some wait) o n ≡ true → is_for (w.sessions.awaited s) o n ≡ true
  its o n e = ap (λ a. is_for a o n) is ∙ e

  none_awaited : (o : Tag) (n : Mode) → is_for (awaited' s) o n ≡ true → ⊥
  none_awaited o n awaits = both_ways false refl (ap (λ a. is_for a o n) (sym (set_at-here w.sessions.awaited s None s refl)) ∙ awaits)

  over-else : (b : Bool) (k : ℕ) (o : Tag) (n : Mode) → k ≢ s → over b k o n ≡ own k o n
  over-else true k o n other = set_hold-other_session own s wait.tag wait.mode true k o n other
  over-else false k o n other = refl

  over-shown : (b : Bool) (o : Tag) (n : Mode) → slots s o n ≡ true → own s o n ≡ true → over b s o n ≡ true
  over-shown true o n shown has = set_hold-still own s wait.tag wait.mode o n has
  over-shown false o n shown has = has

  awaits_it : is_for (w.sessions.awaited s) wait.tag wait.mode ≡ true
  awaits_it = its wait.tag wait.mode (is_for-itself wait)

  over-done : (b : Bool) (o : Tag) (n : Mode) → is_strong_on o n ≡ true → over b s o n ≡ true → is_done w.numbers.limit (w.sessions.counted s) o n ≡ true
  over-done true o n strong has =
      elim (set_hold-new own s wait.tag wait.mode o n has) [
        | inl was ↦ safe.done.held s o n strong was
        | inr it ↦ safe.done.awaits s o n strong ((λ i. is_for (w.sessions.awaited s) (it.0 i) (it.1 i)) ∙ awaits_it)
      ]
  over-done false o n strong has = safe.done.held s o n strong has

  over-tabled : (b : Bool) → (if b then set_hold (own_but own slots) s wait.tag wait.mode true else own_but own slots) ≡ own_but (over b) slots
  over-tabled true = sym (own_but-set_hold own slots s wait.tag wait.mode true true
      (ap not (not_own-no_slot w safe s wait.tag wait.mode (safe.order.awaited_is_not_own s wait.tag wait.mode awaits_it))))
  over-tabled false = refl

  pub clearing-safe_world : SafeButSlots (after_clearing (tabled w) s wait) → SafeWorld (after_clearing w s wait)
  clearing-safe_world but_slots = record {
    but_slots = with_own-safe (after_clearing w s wait) _ _ (over-tabled granted) but_slots;
    lists = safe.lists;
    slots = SlotsAreOwn-one own (over granted) w.sessions.awaited awaited' s (over-else granted) (set_at-else w.sessions.awaited s None)
        w.numbers.groups w.words.database w.words.slot safe.slots (over-shown granted);
    order = OwnIsInOrder-one own (over granted) w.sessions.awaited awaited' s (over-else granted) (set_at-else w.sessions.awaited s None)
        w.numbers.live w.sessions.counted alive safe.order (λ o n awaits. absurd (none_awaited o n awaits));
    counters = safe.counters;
    past = safe.past;
    done = StrongIsDone-one own (over granted) w.sessions.awaited awaited' s (over-else granted) (set_at-else w.sessions.awaited s None)
        w.numbers.limit w.sessions.counted safe.done (over-done granted) (λ o n strong awaits. absurd (none_awaited o n awaits));
    zero = safe.zero;
    remembered = safe.remembered;
  }

  -- Nothing becomes own where the wait leaves the queue.
  pub left-safe_world : (woken : List Wait) (content : Content) → SafeButSlots (after_leaving (tabled w) s wait woken content) → SafeWorld (after_leaving w s wait woken content)
  left-safe_world woken content but_slots = record {
    but_slots = but_slots;
    lists = safe.lists;
    slots = safe.slots;
    order = OwnIsInOrder-one own own w.sessions.awaited awaited' s (λ _ _ _ _. refl) (set_at-else w.sessions.awaited s None)
        w.numbers.live w.sessions.counted alive safe.order (λ o n awaits. absurd (none_awaited o n awaits));
    counters = safe.counters;
    past = safe.past;
    done = StrongIsDone-one own own w.sessions.awaited awaited' s (λ _ _ _ _. refl) (set_at-else w.sessions.awaited s None)
        w.numbers.limit w.sessions.counted safe.done (safe.done.held s) (λ o n strong awaits. absurd (none_awaited o n awaits));
    zero = safe.zero;
    remembered = safe.remembered;
  }

-- Clearing one's own wait word is safe.
pub clearing_seen-safe_world : (w : World) (s : ℕ) (wait : OwnWait) → SafeWorld w → MayClearSeen w s wait → SafeWorld (after_clearing w s wait)
clearing_seen-safe_world w s wait safe may = clearing-safe_world w safe s wait may.steps.live may.is_wait
    (clearing_seen-safe (tabled w) s wait safe.but_slots (record { steps = may.steps; is_wait = may.is_wait; seen = may.seen }))

pub clearing_in_hand-safe_world : (w : World) (s : ℕ) (wait : OwnWait) → SafeWorld w → MayClearInHand w s wait → SafeWorld (after_clearing w s wait)
clearing_in_hand-safe_world w s wait safe may = clearing-safe_world w safe s wait may.steps.live may.is_wait
    (clearing_in_hand-safe (tabled w) s wait safe.but_slots (record { steps = may.steps; is_wait = may.is_wait; holding = may.holding; gone = may.gone }))

-- So is a step that takes the wait out of the queue itself.
pub leaving-safe_world : (w : World) (s : ℕ) (wait : OwnWait) (granted : List Wait) (content : Content) → SafeWorld w → MayLeave w s wait granted content → SafeWorld (after_leaving w s wait granted content)
leaving-safe_world w s wait granted content safe may = left-safe_world w safe s wait may.may_move.steps.live may.is_wait granted content
    (leaving-safe (tabled w) s wait granted content safe.but_slots
    (record { is_wait = may.is_wait; may_move = MayMove-tabled w safe s (partition_of wait.tag) (Leave wait.tag) granted content may.may_move }))
