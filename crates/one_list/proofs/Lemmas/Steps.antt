use Rattle.std.proofs.Common.{◌≡◌, ℕ, true, false, ◌||◌, List, [], Option, Some, None, refl, sym, ap, ◌∙◌, subst, inl, inr}
use Rattle.std.specs.Bool.{MatchBool}
use Rattle.std.proofs.lemmas.Bool.{both_ways, false_from_ne_true, or_left, or_right, or_from}
use Rattle.modes_core.specs.declared.modes.Mode.{Mode}
use Rattle.modes_core.specs.declared.tags.Tag.{Tag}
use Rattle.modes_core.specs.Conflict.{conflict}
use Rattle.modes_core.specs.Tag.{partition_of, is_strong_on}
use Rattle.modes_core.proofs.Lemmas.Conflicts.{conflict_comm}
use Rattle.lock_table.specs.declared.moves.Move.{Move}
use Rattle.lock_table.specs.declared.moves.Move.TheVariants.{Keep, Grant, Join, Release, Leave, Adopt}
use Rattle.lock_table.specs.Put.{set_at}
use Rattle.lock_table.specs.Content.{Holds, Wait, Content, set_hold, add_hold, remove_hold}
use Rattle.lock_table.specs.Clash.{ClashIs, ClashAfterWaiters, NoConflictingHolder, first_waiter}
use Rattle.lock_table.specs.Queue.{some_awaits_conflict, Wakes}
use Rattle.lock_table.specs.Moves.{WakesFor}
use Rattle.lock_table.proofs.Lemmas.Put.{set_at-same}
use Rattle.lock_table.proofs.Lemmas.Find.{find-none}
use Rattle.lock_table.proofs.Lemmas.Holds.{SetHoldAt, here, elsewhere, set_hold-at}
use Rattle.lock_world.specs.declared.events.Step.{Step}
use Rattle.lock_world.specs.declared.events.Step.TheVariants.{PutExclusive, SetWaiting, MarkGranted, ClearWait, SetSlot, ClearSlot}
use Rattle.lock_world.specs.declared.events.Word.TheVariants.{Partition}
use Rattle.lock_world.specs.World.{World, recorded_in}
use Rattle.lock_world.specs.Happens.{HappensStep}
use Rattle.lock_world.specs.Happens.Partitions.{MayMove, IsMadeByPutting, after_putting_partition, after_putting_recorded}
use Rattle.lock_world.specs.Happens.Waits.{after_marking_first, after_leaving}
use Rattle.lock_world.specs.Happens.Slots.{MaySetSlot, after_setting_slot, MayClearSlot, after_clearing_slot, MayStoreDatabase, after_storing_database}
use Rattle.lock_world.specs.Happens.Transfers.{MayTransfer, after_transferring}
use Rattle.lock_world.specs.SafeWorld.{SafeWorld, slots_of}
use Rattle.lock_world.specs.Headline.{stands_with}
use Rattle.lock_world.proofs.Lemmas.Slots.Eligible.{is_in-held}
use Rattle.lock_world.proofs.Lemmas.SlotsAgainstTable.{conflict-strong}
use Rattle.lock_world.proofs.Lemmas.SafeWorld.Slots.Setting.{setting-slots}
use Rattle.lock_world.proofs.Lemmas.SafeWorld.Slots.Clearing.{clearing-slots}
use Rattle.lock_world.proofs.Lemmas.SafeWorld.Slots.Transferring.{transferring-slots}
use Rattle.lock_world.proofs.Lemmas.SafeWorld.Slots.Databases.{storing-slots}
use Rattle.lock_world.proofs.Lemmas.FromSafeWorld.{shown-in_no_content}
use Rattle.lock_world.proofs.Lemmas.Headline.{headline}
use Rattle.lock_world.proofs.Lemmas.LawfulSteps.{LawfulStep, step_of, world_after, putting_partition, putting_recorded, setting_waiting, marking_first, marking_next, leaving_queue, setting_slot, clearing_slot, storing_database, transferring, after_each}
use Rattle.one_list.specs.OneList.{list_of, MovesList, Does, unless_recorded, leave_of, DoesItsMove}
use Rattle.one_list.proofs.Lemmas.InList.{only-hold, list, same-list, granting, joining, releasing, leaving}
use Rattle.one_list.proofs.Lemmas.Slots.{beside-done, beside-awaited, beside-queue, asks, remembers, none_awaits, nothing_strong}

-- Each lawful step of a safe World does on the list what its move_of_step says.

-- A hold set, or cleared, in the one of two places, where it is not in the other.
set-left : (a b : Holds) (s : ℕ) (t : Tag) (m : Mode) (k : ℕ) (o : Tag) (n : Mode)
    → (set_hold a s t m true k o n || b k o n) ≡ set_hold (λ k o n. a k o n || b k o n) s t m true k o n
set-left a b s t m k o n = at (set_hold-at a s t m true k o n) (set_hold-at (λ k o n. a k o n || b k o n) s t m true k o n) where
  at : SetHoldAt a s t m true k o n → SetHoldAt (λ k o n. a k o n || b k o n) s t m true k o n
      → (set_hold a s t m true k o n || b k o n) ≡ set_hold (λ k o n. a k o n || b k o n) s t m true k o n
  at (here it x) (here _ y) = or_left (set_hold a s t m true k o n) (b k o n) x ∙ sym y
  at (here it x) (elsewhere not_it y) = absurd (not_it it)
  at (elsewhere not_it x) (here it y) = absurd (not_it it)
  at (elsewhere _ x) (elsewhere _ y) = ap (λ h. h || b k o n) x ∙ sym y

clear-left : (a b : Holds) (s : ℕ) (t : Tag) (m : Mode) (k : ℕ) (o : Tag) (n : Mode) → b s t m ≡ false
    → (set_hold a s t m false k o n || b k o n) ≡ set_hold (λ k o n. a k o n || b k o n) s t m false k o n
clear-left a b s t m k o n none = at (set_hold-at a s t m false k o n) (set_hold-at (λ k o n. a k o n || b k o n) s t m false k o n) where
  at : SetHoldAt a s t m false k o n → SetHoldAt (λ k o n. a k o n || b k o n) s t m false k o n
      → (set_hold a s t m false k o n || b k o n) ≡ set_hold (λ k o n. a k o n || b k o n) s t m false k o n
  at (here it x) (here _ y) = or_from (set_hold a s t m false k o n) (b k o n) x ((λ i. b (it.session i) (it.tag i) (it.mode i)) ∙ none) ∙ sym y
  at (here it x) (elsewhere not_it y) = absurd (not_it it)
  at (elsewhere not_it x) (here it y) = absurd (not_it it)
  at (elsewhere _ x) (elsewhere _ y) = ap (λ h. h || b k o n) x ∙ sym y

-- The steps that make no move.
abbrev Quiet : Step → Type 0
Quiet (SetSlot i t m) = ⊥
Quiet (ClearSlot i t m) = ⊥
Quiet (PutExclusive (Partition p) done) = ⊥
Quiet (SetWaiting t m) = ⊥
Quiet (MarkGranted o done) = ⊥
Quiet (ClearWait true) = ⊥
Quiet step = Unit {0}

module _ (w : World) (safe : SafeWorld w) (s : ℕ) where
  abbrev slots : Holds
  slots = slots_of w.words.database w.words.slot

  abbrev now : ℕ → Content
  now = w.contents.now

  abbrev table : Holds
  table k o n = (now (partition_of o)).holds k o n

  -- A slot set is a grant.
  setting : (i : ℕ) (t : Tag) (m : Mode) → MaySetSlot w s i t m → DoesItsMove w s (SetSlot i t m) (after_setting_slot w s i t m)
  setting i t m may = ([], (asks w safe s t m may.no_wait may.new, ((None, clash, refl), refl, same))) where
    beside : (o : ℕ) (n : Mode) → (is_strong_on t n ≡ true → ⊥) → conflict m n ≡ false
    beside o n not_strong = false_from_ne_true (conflict m n) (λ clashes. not_strong (conflict-strong (w.words.database s) t m n may.eligible clashes))

    nobody : first_waiter ((now (partition_of t)).waits t) m ≡ None
    nobody = find-none (λ wait. conflict m wait.mode) ((now (partition_of t)).waits t)
        (none_awaits w safe (partition_of t) t m (λ o n awaits. beside o n (λ strong. nothing_strong w safe s t may.read_as_zero may.steps.live o n (safe.done.awaits o t n strong awaits))))

    holders : NoConflictingHolder (stands_with w) s t m
    holders k n other stands =
        beside k n (λ strong. nothing_strong w safe s t may.read_as_zero may.steps.live k n ((headline w safe).strong_is_counted k t n strong stands))

    clash : ClashIs (list_of w) s t m None
    clash = subst (λ first. ClashAfterWaiters first (list_of w) s t m None) (sym nobody) holders

    same : list_of (after_setting_slot w s i t m) ≡ add_hold (list_of w) s t m
    same = λ j. record {
      holds = λ k o n. (ap (λ (h : Holds). h k o n || table k o n) (setting-slots w s i t m safe may) ∙ set-left slots table s t m k o n) j;
      waits = λ o. (now (partition_of o)).waits o;
    }

  -- A slot cleared is a release, that wakes nobody.
  clearing : (i : ℕ) (t : Tag) (m : Mode) → MayClearSlot w s i t m → DoesItsMove w s (ClearSlot i t m) (after_clearing_slot w s i t m)
  clearing i t m may = ([], (or_left (slots s t m) (table s t m) shown, wakes)) where
    shown : slots s t m ≡ true
    shown = is_in-held (w.words.database s) (w.words.slot s) t m i may.held_in

    nobody : some_awaits_conflict ((now (partition_of t)).waits t) m ≡ false
    nobody = none_awaits w safe (partition_of t) t m (λ o n awaits. conflict_comm m n ∙ beside-awaited w safe o t n awaits s m shown)

    same : list_of (after_clearing_slot w s i t m) ≡ remove_hold (list_of w) s t m
    same = λ j. record {
      holds = λ k o n. (ap (λ (h : Holds). h k o n || table k o n) (clearing-slots w s i t m safe may)
          ∙ clear-left slots table s t m k o n (shown-in_no_content w safe (partition_of t) s t m shown)) j;
      waits = λ o. (now (partition_of o)).waits o;
    }

    wakes : WakesFor m (remove_hold (list_of w) s t m) t [] (list_of (after_clearing_slot w s i t m))
    wakes = subst (λ b. MatchBool b (Wakes (remove_hold (list_of w) s t m) t [] (list_of (after_clearing_slot w s i t m)))
        ((◌≡◌ {A = List Wait} [] []) × (list_of (after_clearing_slot w s i t m) ≡ remove_hold (list_of w) s t m))) (sym nobody) (refl, same)

  -- A database stored changes nothing,
  storing : (d : ℕ) → MayStoreDatabase w s → list_of (after_storing_database w s d) ≡ list_of w
  storing d may = λ j. record {
    holds = λ k o n. storing-slots w s d may j k o n || table k o n;
    waits = λ o. (now (partition_of o)).waits o;
  }

  -- nor does a hold that goes from a slot to the table.
  moving : (q i : ℕ) (t : Tag) (m strong : Mode) → MayTransfer w s q i t m strong → list_of (after_transferring w q i t m) ≡ list_of w
  moving q i t m strong may =
      (λ j. list (transferring-slots w s q i t m strong safe may j) (set_at now (partition_of t) (add_hold (now (partition_of t)) q t m)))
      ∙ same-list left now t (add_hold (now (partition_of t)) q t m) (list_of w)
      (only-hold (now (partition_of t)) q t m true)
      (record { holds = λ k o n off. ap (λ b. b || table k o n) (sym ((only-hold (record { holds = slots; waits = (list_of w).waits }) q t m false).holds k o n off)); waits = λ o off. refl })
      (λ k n. at k n (set_hold-at slots q t m false k t n) (set_hold-at (now (partition_of t)).holds q t m true k t n)) refl where
        left : Holds
        left = set_hold slots q t m false

        shown : slots q t m ≡ true
        shown = is_in-held (w.words.database q) (w.words.slot q) t m i may.held_in

        at : (k : ℕ) (n : Mode) → SetHoldAt slots q t m false k t n → SetHoldAt (now (partition_of t)).holds q t m true k t n
            → (slots k t n || table k t n) ≡ (set_hold slots q t m false k t n || set_hold (now (partition_of t)).holds q t m true k t n)
        at k n (here it x) (here _ y) =
            or_left (slots k t n) (table k t n) ((λ i. slots (it.session i) t (it.mode i)) ∙ shown)
            ∙ sym (or_right (set_hold slots q t m false k t n) (set_hold (now (partition_of t)).holds q t m true k t n) y)
        at k n (here it x) (elsewhere not_it y) = absurd (not_it it)
        at k n (elsewhere not_it x) (here it y) = absurd (not_it it)
        at k n (elsewhere _ x) (elsewhere _ y) = λ i. sym x i || sym y i

  -- All other steps that make no move change no slot and no content.
  quiet : (it : LawfulStep w s) → Quiet (step_of it) → list_of (world_after it) ≡ list_of w
  quiet (storing_database d may) is = storing d may
  quiet (transferring q i t m strong may) is = moving q i t m strong may
  quiet (setting_slot i t m may) is = absurd is
  quiet (clearing_slot i t m may) is = absurd is
  quiet (putting_partition p done content may) is = absurd is
  quiet (putting_recorded p done may) is = absurd is
  quiet (setting_waiting t m content may) is = absurd is
  quiet (marking_first o p done granted content may) is = absurd is
  quiet (marking_next o p done may) is = absurd is
  quiet (leaving_queue wait granted content may) is = absurd is
  quiet step is = refl

  -- A content put back as it is changes nothing.
  kept : (p : ℕ) → list slots (set_at now p (now p)) ≡ list_of w
  kept p = ap (list slots) (set_at-same now p (now p) refl)

  not_in_slot : (t : Tag) (m : Mode) → table s t m ≡ true → slots s t m ≡ false
  not_in_slot t m has = false_from_ne_true (slots s t m) (λ shown. both_ways (table s t m) (shown-in_no_content w safe (partition_of t) s t m shown) has)

  releases : (t : Tag) (m : Mode) (granted : List Wait) (content : Content) → MayMove w s (partition_of t) (Release t m) granted content
      → MovesList (list_of w) s (Release t m) granted (list slots (set_at now (partition_of t) content))
  releases t m granted content may =
      releasing slots now t s m granted content (not_in_slot t m may.moved.0) (beside-queue w safe (partition_of t) t) may.moved

  leaves : (t : Tag) (granted : List Wait) (content : Content) → MayMove w s (partition_of t) (Leave t) granted content
      → MovesList (list_of w) s (Leave t) granted (list slots (set_at now (partition_of t) content))
  leaves t granted content may = leaving slots now t s granted content (beside-queue w safe (partition_of t) t) may.moved

  -- A move that is made as the partition is put.
  putting : (p : ℕ) (done : Move) (content : Content) → IsMadeByPutting done → MayMove w s p done [] content
      → MovesList (list_of w) s done [] (list slots (set_at now p content))
  putting p Keep content by may = (refl, ap (λ c. list slots (set_at now p c)) may.moved.1 ∙ kept p)
  putting p (Grant t m) content by may =
      subst (λ q. MayMove w s q (Grant t m) [] content → MovesList (list_of w) s (Grant t m) [] (list slots (set_at now q content))) may.object
      (λ its. (
        asks w safe s t m its.own.0 its.own.1,
        granting slots now t s m [] content (beside-done w safe s t m its.counted) (beside-queue w safe (partition_of t) t) its.moved,
      )) may
  putting p (Join t m) content by may = absurd by
  putting p (Release t m) content by may =
      subst (λ q. MayMove w s q (Release t m) [] content → MovesList (list_of w) s (Release t m) [] (list slots (set_at now q content))) may.object
      (releases t m [] content) may
  putting p (Leave t) content by may = absurd by
  putting p (Adopt o i) content by may = absurd by

  made : (done : Move) (recorded : Option Move) (after : Content) → recorded ≡ None → Does (Some done) (list_of w) s after → Does (unless_recorded recorded done) (list_of w) s after
  made done recorded after none does = subst (λ r. Does (unless_recorded r done) (list_of w) s after) (sym none) does

  made_before : (done its : Move) (recorded : Option Move) (after : Content) → recorded ≡ Some its → after ≡ list_of w → Does (unless_recorded recorded done) (list_of w) s after
  made_before done its recorded after is same = subst (λ r. Does (unless_recorded r done) (list_of w) s after) (sym is) same

  pub step-moves : (step : Step) (v : World) → HappensStep w s step v → DoesItsMove w s step v
  step-moves (SetSlot i t m) v h = subst (DoesItsMove w s (SetSlot i t m)) (sym h.1) (setting i t m h.0)
  step-moves (ClearSlot i t m) v h = subst (DoesItsMove w s (ClearSlot i t m)) (sym h.1) (clearing i t m h.0)
  step-moves (PutExclusive (Partition p) done) v (inl h) = subst (DoesItsMove w s (PutExclusive (Partition p) done)) (sym h.2)
      (made done (recorded_in (w.contents.hand p)) (list_of (after_putting_partition w s p done h.0)) h.1.may_move.unrecorded
      ([], putting p done h.0 h.1.by_putting h.1.may_move))
  step-moves (PutExclusive (Partition p) done) v (inr h) = subst (DoesItsMove w s (PutExclusive (Partition p) done)) (sym h.1)
      (made_before done done (recorded_in (w.contents.hand p)) (list_of (after_putting_recorded w s p)) h.0.recorded (kept p))
  step-moves (SetWaiting t m) v h = subst (DoesItsMove w s (SetWaiting t m)) (sym h.2) (
    [],
    (
      asks w safe s t m h.1.own.0 h.1.own.1,
      refl,
      (joining slots now t s m [] h.0 (beside-done w safe s t m h.1.counted) (beside-queue w safe (partition_of t) t) (remembers w safe s t m h.1.counted) h.1.moved).1,
    ),
  )
  step-moves (MarkGranted o (Release t m)) v (inl h) = subst (DoesItsMove w s (MarkGranted o (Release t m))) (sym h.3)
      (made (Release t m) (recorded_in (w.contents.hand (partition_of t))) (list_of (after_marking_first w s o (partition_of t) (Release t m) h.0 h.1)) h.2.may_move.unrecorded
      (h.0, releases t m h.0 h.1 h.2.may_move))
  step-moves (MarkGranted o (Release t m)) v (inr h) = subst (DoesItsMove w s (MarkGranted o (Release t m))) (sym h.1)
      (made_before (Release t m) (Release t m) (recorded_in (w.contents.hand (partition_of t))) (list_of w) h.0.recorded refl)
  step-moves (MarkGranted o (Leave t)) v (inl h) = subst (DoesItsMove w s (MarkGranted o (Leave t))) (sym h.3)
      (made (Leave t) (recorded_in (w.contents.hand (partition_of t))) (list_of (after_marking_first w s o (partition_of t) (Leave t) h.0 h.1)) h.2.may_move.unrecorded
      (h.0, leaves t h.0 h.1 h.2.may_move))
  step-moves (MarkGranted o (Leave t)) v (inr h) = subst (DoesItsMove w s (MarkGranted o (Leave t))) (sym h.1)
      (made_before (Leave t) (Leave t) (recorded_in (w.contents.hand (partition_of t))) (list_of w) h.0.recorded refl)
  step-moves (MarkGranted o done) v h = absurd h
  step-moves (ClearWait true) v (inl h) = subst (DoesItsMove w s (ClearWait true)) (sym h.4)
      (subst (λ a. Does (leave_of w a) (list_of w) s (list_of (after_leaving w s h.0 h.1 h.2))) (sym h.3.is_wait)
      (made (Leave h.0.tag) (recorded_in (w.contents.hand (partition_of h.0.tag))) (list_of (after_leaving w s h.0 h.1 h.2)) h.3.may_move.unrecorded
      (h.1, leaves h.0.tag h.1 h.2 h.3.may_move)))
  step-moves (ClearWait true) v (inr h) = subst (DoesItsMove w s (ClearWait true)) (sym h.3)
      (subst (λ a. Does (leave_of w a) (list_of w) s (list_of w)) (sym h.1.is_wait)
      (made_before (Leave h.0.tag) (Leave h.0.tag) (recorded_in (w.contents.hand (partition_of h.0.tag))) (list_of w) h.2 refl))
  step-moves step v h = after_each w s (λ its u. Quiet its → list_of u ≡ list_of w) quiet step v h tt
