use Rattle.std.proofs.Common.{◌≡◌, ◌≢◌, ℕ, true, false, ◌||◌, List, [], ◌∷◌, Option, Some, None, if◌then◌else◌, refl, sym, ap, subst, ◌∙◌, inl, inr}
use Rattle.std.specs.Prelude.{◌==◌}
use Rattle.std.proofs.lemmas.Bool.{cases_eq, both_ways, false_from_ne_true, eq-eqb, ne_eqb, cond-true, cond-false}
use Rattle.modes_core.specs.declared.modes.Mode.{Mode}
use Rattle.modes_core.specs.declared.tags.Tag.{Tag}
use Rattle.modes_core.specs.Mode.{mode_eq}
use Rattle.modes_core.specs.Tag.{tag_eq, partition_of}
use Rattle.modes_core.proofs.Lemmas.Conflicts.{both_true, mode_eq-same, tag_eq-refl, tag_eq-same}
use Rattle.lock_table.specs.Content.{Holds, Wait, Content, set_hold, add_hold, remove_hold}
use Rattle.lock_table.specs.Clash.{NoConflictingHolder}
use Rattle.lock_table.specs.Put.{set_at}
use Rattle.lock_table.specs.OwnWait.{OwnWait, Stage, InQueue, HasLeft, entry_of, is_for, is_pending, queued_by}
use Rattle.lock_table.specs.declared.answering.Answer.TheVariants.{Granted, Queued}
use Rattle.lock_table.specs.Queue.{Wakes, WaitingAnswer, NoneFreeBehind, some_awaits_conflict, joined, joining_wait, add_wait, with_queue, remove_wait, queue_without}
use Rattle.lock_world.specs.Safe.{AgreesOn, AreInOnePlace, NobodyIsFree, NoConflictingHolds}
use Rattle.lock_table.proofs.Lemmas.Put.{put_here, put_else, set_at-here, set_at-else, set_at-same}
use Rattle.lock_table.proofs.Lemmas.QueueLaws.{HasMore-set, NoneFreeBehind-more, NoneFreeBehind-removed, woken-none_free, woken-no_conflict, joined-none_free}
use Rattle.lock_table.proofs.Lemmas.Queues.{granted-no_holder}
use Rattle.lock_world.proofs.Lemmas.Moves.OnePlace.{NoConflictIn, NoConflictingHolds-set, NoConflictIn-added, NoConflictIn-removed}
use Rattle.lock_table.proofs.Lemmas.QueuesOf.{of_session, joined-its, joined-other, without-its, without-other}
use Rattle.lock_world.proofs.Lemmas.Moves.Agreeing.{tag_eq-turned, not_pending, with_granted, AgreesOn-set, ChangesOnly, ChangesOnly-set, ChangesOnly-both, ChangesOnly-wakes, SameElsewhere, SameElsewhere-set, NotOwn, NotOwn-set, AreInOnePlace-change, AreInOnePlace-wakes, NoneFree-change, NobodyIsFree-set, Standing, standing, nothing, waiting}

-- What each move leaves: no conflict, each in one place, nobody free.

pub record LeavesSafe (now : ℕ → Content) (own : Holds) (awaited : ℕ → Option OwnWait) (stage : ℕ → Stage) : Type 0 where
  pub no_conflict : NoConflictingHolds now
  pub one_place : AreInOnePlace now own awaited stage
  pub none_free : NobodyIsFree now

pub LeavesSafe-kept : (now : ℕ → Content) (own : Holds) (awaited : ℕ → Option OwnWait) (stage : ℕ → Stage) (p : ℕ) → LeavesSafe now own awaited stage → LeavesSafe (set_at now p (now p)) own awaited stage
LeavesSafe-kept now own awaited stage p safe = subst (λ all. LeavesSafe all own awaited stage) (sym (set_at-same now p (now p) refl)) safe

on_the_object : (now : ℕ → Content) (own : Holds) (awaited : ℕ → Option OwnWait) (stage : ℕ → Stage) (p : ℕ) (t : Tag) → AreInOnePlace now own awaited stage → partition_of t ≡ p → AgreesOn (now p) t own awaited stage
on_the_object now own awaited stage p t one object = subst (λ q. AgreesOn (now q) t own awaited stage) object (one.on_object t)

-- A session with a wait in an object's queue has recorded it, and it waits.
pub stood : (now : ℕ → Content) (own : Holds) (awaited : ℕ → Option OwnWait) (stage : ℕ → Stage) (p k : ℕ) (t : Tag) → AreInOnePlace now own awaited stage → partition_of t ≡ p → (of_session k ((now p).waits t) ≡ [] → ⊥) →
    (wait : OwnWait) × (awaited k ≡ Some wait) × (wait.tag ≡ t) × (stage k ≡ InQueue)
stood now own awaited stage p k t one object some = at (standing k (awaited k) (stage k) t) where
  at : Standing k (awaited k) (stage k) t → (wait : OwnWait) × (awaited k ≡ Some wait) × (wait.tag ≡ t) × (stage k ≡ InQueue)
  at (nothing none) = absurd (some ((on_the_object now own awaited stage p t one object).in_queue k ∙ none))
  at (waiting wait is in_queue tag) = (wait, is, tag, in_queue)

-- ---- a grant and a release

module _ (now : ℕ → Content) (own : Holds) (awaited : ℕ → Option OwnWait) (stage : ℕ → Stage) (p s : ℕ) (t : Tag) (safe : LeavesSafe now own awaited stage) (object : partition_of t ≡ p) where
  on_it : AgreesOn (now p) t own awaited stage
  on_it = on_the_object now own awaited stage p t safe.one_place object

  -- a hold that conflicts with no other session's is added to the content and to its session's own holds
  pub LeavesSafe-added : (m : Mode) → NoConflictingHolder (now p).holds s t m → is_for (awaited s) t m ≡ false → LeavesSafe (set_at now p (add_hold (now p) s t m)) (set_hold own s t m true) awaited stage
  LeavesSafe-added m free not_for =
      let only = ChangesOnly-set (now p) (add_hold (now p) s t m) s t m true refl refl in
      record {
        no_conflict = NoConflictingHolds-set now p (add_hold (now p) s t m) (NoConflictIn-added (now p) s t m (add_hold (now p) s t m) refl free (safe.no_conflict p)) safe.no_conflict;
        one_place = AreInOnePlace-change now own (set_hold own s t m true) awaited awaited stage stage p t (add_hold (now p) s t m) safe.one_place object only
            (SameElsewhere-set own awaited stage s t m true)
            (AgreesOn-set (now p) (add_hold (now p) s t m) t own awaited stage s m true on_it refl refl (not_pending (awaited s) (stage s) t m not_for))
            (NotOwn-set own awaited s t m true (λ e. absurd (both_ways (is_for (awaited s) t m) not_for e)) safe.one_place.awaited_is_not_own);
        none_free = NobodyIsFree-set now p (add_hold (now p) s t m)
            (NoneFree-change (now p) (add_hold (now p) s t m) t only
            (NoneFreeBehind-more [] (now p).holds (set_hold (now p).holds s t m true) t ((now p).waits t) (HasMore-set (now p).holds s t t m) (safe.none_free p t))
            (safe.none_free p))
            safe.none_free;
      }

  -- a grant
  pub LeavesSafe-granted : (m : Mode) → WaitingAnswer (now p) s t m Granted → awaited s ≡ None → LeavesSafe (set_at now p (add_hold (now p) s t m)) (set_hold own s t m true) awaited stage
  LeavesSafe-granted m answer none = LeavesSafe-added m (granted-no_holder (now p) s t m answer) (ap (λ w. is_for w t m) none)

  -- a release, before the wakeup
  module _ (m : Mode) (owns : own s t m ≡ true) where
    not_for : is_for (awaited s) t m ≡ false
    not_for = false_from_ne_true (is_for (awaited s) t m) (λ e. both_ways (own s t m) (safe.one_place.awaited_is_not_own s t m e) owns)

    only : ChangesOnly (now p) (remove_hold (now p) s t m) t
    only = ChangesOnly-set (now p) (remove_hold (now p) s t m) s t m false refl refl

    on_it_released : AgreesOn (remove_hold (now p) s t m) t (set_hold own s t m false) awaited stage
    on_it_released = AgreesOn-set (now p) (remove_hold (now p) s t m) t own awaited stage s m false on_it refl refl (not_pending (awaited s) (stage s) t m not_for)

    not_own : NotOwn (set_hold own s t m false) awaited
    not_own = NotOwn-set own awaited s t m false (λ e. refl) safe.one_place.awaited_is_not_own

    no_conflict : NoConflictIn (remove_hold (now p) s t m)
    no_conflict = NoConflictIn-removed (now p) s t m (remove_hold (now p) s t m) refl (safe.no_conflict p)

    -- a release that wakes nobody
    pub LeavesSafe-released : some_awaits_conflict ((now p).waits t) m ≡ false → LeavesSafe (set_at now p (remove_hold (now p) s t m)) (set_hold own s t m false) awaited stage
    LeavesSafe-released quiet = record {
      no_conflict = NoConflictingHolds-set now p (remove_hold (now p) s t m) no_conflict safe.no_conflict;
      one_place = AreInOnePlace-change now own (set_hold own s t m false) awaited awaited stage stage p t (remove_hold (now p) s t m) safe.one_place object only
          (SameElsewhere-set own awaited stage s t m false) on_it_released not_own;
      none_free = NobodyIsFree-set now p (remove_hold (now p) s t m)
          (NoneFree-change (now p) (remove_hold (now p) s t m) t only
          (NoneFreeBehind-removed [] (now p).holds s t m ((now p).waits t) quiet (safe.none_free p t)) (safe.none_free p))
          safe.none_free;
    }

    -- a release with a wakeup
    pub LeavesSafe-woken : (granted : List Wait) (after : Content) → Wakes (remove_hold (now p) s t m) t granted after → LeavesSafe (set_at now p after) (set_hold own s t m false) awaited (with_granted stage granted)
    LeavesSafe-woken granted after wakes = record {
      no_conflict = NoConflictingHolds-set now p after (woken-no_conflict (remove_hold (now p) s t m) t granted after wakes no_conflict) safe.no_conflict;
      one_place = AreInOnePlace-wakes now own (set_hold own s t m false) awaited stage stage p t (remove_hold (now p) s t m) after granted safe.one_place object only
          (SameElsewhere-set own awaited stage s t m false) on_it_released not_own wakes;
      none_free = NobodyIsFree-set now p after
          (NoneFree-change (now p) after t (ChangesOnly-both (now p) (remove_hold (now p) s t m) after t only (ChangesOnly-wakes (remove_hold (now p) s t m) after t granted wakes))
          (woken-none_free (remove_hold (now p) s t m) t granted after wakes) (safe.none_free p))
          safe.none_free;
    }

-- ---- stages of which one was set

abbrev pub set_stage : (ℕ → Stage) → ℕ → Stage → ℕ → Stage
set_stage stage s st k = if k == s then st else stage k

set_stage-here : (stage : ℕ → Stage) (s : ℕ) (st : Stage) (k : ℕ) → k ≡ s → set_stage stage s st k ≡ st
set_stage-here stage s st k same = cond-true (k == s) st (stage k) (eq-eqb k s same)

set_stage-else : (stage : ℕ → Stage) (s : ℕ) (st : Stage) (k : ℕ) → k ≢ s → set_stage stage s st k ≡ stage k
set_stage-else stage s st k apart = cond-false (k == s) st (stage k) (ne_eqb k s apart)

ChangesOnly-queue : (before : Content) (t : Tag) (queue : List Wait) → ChangesOnly before (with_queue before t queue) t
ChangesOnly-queue before t queue = record { holds = λ k o n other. refl; waits = λ o other. put_else tag_eq before.waits t queue o other }

-- ---- a leave

nothing-left : (k : ℕ) (own : Option OwnWait) (t : Tag) → queued_by k own HasLeft t ≡ []
nothing-left k None t = refl
nothing-left k (Some wait) t = refl

module _ (now : ℕ → Content) (own : Holds) (awaited : ℕ → Option OwnWait) (stage : ℕ → Stage) (p s : ℕ) (t : Tag) (safe : LeavesSafe now own awaited stage) (object : partition_of t ≡ p)
    (wait : OwnWait) (is : awaited s ≡ Some wait) (tag : wait.tag ≡ t) (in_queue : stage s ≡ InQueue) where
  pending_left : (k : ℕ) (o : Tag) (n : Mode) → is_pending (awaited k) (set_stage stage s HasLeft k) o n ≡ is_pending (awaited k) (stage k) o n
  pending_left k o n =
      elim (cases_eq k s) [
        | inl same ↦ ap (λ st. is_pending (awaited k) st o n) (set_stage-here stage s HasLeft k same) ∙ sym (ap (λ st. is_pending (awaited k) st o n) (ap stage same ∙ in_queue))
        | inr apart ↦ ap (λ st. is_pending (awaited k) st o n) (set_stage-else stage s HasLeft k apart)
      ]

  queued_left : (k : ℕ) → k ≡ s → (o : Tag) → queued_by k (awaited k) (set_stage stage s HasLeft k) o ≡ []
  queued_left k same o = ap (λ st. queued_by k (awaited k) st o) (set_stage-here stage s HasLeft k same) ∙ nothing-left k (awaited k) o

  queued_left-else : (k : ℕ) → k ≢ s → (o : Tag) → queued_by k (awaited k) (set_stage stage s HasLeft k) o ≡ queued_by k (awaited k) (stage k) o
  queued_left-else k apart o = ap (λ st. queued_by k (awaited k) st o) (set_stage-else stage s HasLeft k apart)

  queued_elsewhere : (k : ℕ) → k ≡ s → (o : Tag) → tag_eq o t ≡ false → queued_by k (awaited k) (stage k) o ≡ []
  queued_elsewhere k same o other =
      ap (λ st. queued_by k (awaited k) st o) (ap stage same ∙ in_queue) ∙ ap (λ w. queued_by k w InQueue o) (ap awaited same ∙ is)
      ∙ cond-false (tag_eq wait.tag o) (entry_of k wait ∷ []) [] (ap (λ x. tag_eq x o) tag ∙ tag_eq-turned o t other)

  same_left : SameElsewhere own own awaited awaited stage (set_stage stage s HasLeft) t
  same_left = record {
    held = λ k o n other. ap (λ b. own k o n || b) (pending_left k o n);
    queued = λ k o other. elim (cases_eq k s) [
      | inl same ↦ queued_left k same o ∙ sym (queued_elsewhere k same o other)
      | inr apart ↦ queued_left-else k apart o
    ];
  }

  on_it_left : AgreesOn (remove_wait (now p) s t) t own awaited (set_stage stage s HasLeft)
  on_it_left =
      let agrees = on_the_object now own awaited stage p t safe.one_place object in
      record {
        held = λ k n. agrees.held k n ∙ ap (λ b. own k t n || b) (sym (pending_left k t n));
        in_queue = λ k. ap (of_session k) (put_here tag_eq (now p).waits t (queue_without ((now p).waits t) s) t (tag_eq-refl t)) ∙ elim (cases_eq k s) [
          | inl same ↦ ap (λ j. of_session j (queue_without ((now p).waits t) s)) same ∙ without-its s ((now p).waits t) ∙ sym (queued_left k same t)
          | inr apart ↦ without-other k s ((now p).waits t) apart ∙ agrees.in_queue k ∙ sym (queued_left-else k apart t)
        ];
      }

  pub LeavesSafe-left : (granted : List Wait) (after : Content) → Wakes (remove_wait (now p) s t) t granted after → LeavesSafe (set_at now p after) own awaited (with_granted (set_stage stage s HasLeft) granted)
  LeavesSafe-left granted after wakes =
      let only = ChangesOnly-queue (now p) t (queue_without ((now p).waits t) s) in
      record {
        no_conflict = NoConflictingHolds-set now p after (woken-no_conflict (remove_wait (now p) s t) t granted after wakes (safe.no_conflict p)) safe.no_conflict;
        one_place = AreInOnePlace-wakes now own own awaited stage (set_stage stage s HasLeft) p t (remove_wait (now p) s t) after granted safe.one_place object only
            same_left on_it_left safe.one_place.awaited_is_not_own wakes;
        none_free = NobodyIsFree-set now p after
            (NoneFree-change (now p) after t (ChangesOnly-both (now p) (remove_wait (now p) s t) after t only (ChangesOnly-wakes (remove_wait (now p) s t) after t granted wakes))
            (woken-none_free (remove_wait (now p) s t) t granted after wakes) (safe.none_free p))
            safe.none_free;
      }

-- ---- a join

-- the wait that a join records
abbrev pub recorded_wait : Content → ℕ → Tag → Mode → OwnWait
recorded_wait c s t m = record { tag = t; mode = m; held = c.holds s t }

module _ (now : ℕ → Content) (own : Holds) (awaited : ℕ → Option OwnWait) (stage : ℕ → Stage) (p s : ℕ) (t : Tag) (m : Mode) (safe : LeavesSafe now own awaited stage) (object : partition_of t ≡ p)
    (none : awaited s ≡ None) (not_its : own s t m ≡ false) (place : ℕ) (answer : WaitingAnswer (now p) s t m (Queued place)) where
  awaits-here : (k : ℕ) → k ≡ s → (set_at awaited s (Some (recorded_wait (now p) s t m))) k ≡ Some (recorded_wait (now p) s t m)
  awaits-here k same = set_at-here awaited s (Some (recorded_wait (now p) s t m)) k same

  awaits-else : (k : ℕ) → k ≢ s → (set_at awaited s (Some (recorded_wait (now p) s t m))) k ≡ awaited k
  awaits-else k apart = set_at-else awaited s (Some (recorded_wait (now p) s t m)) k apart

  was_none : (k : ℕ) → k ≡ s → awaited k ≡ None
  was_none k same = ap awaited same ∙ none

  pending_joined : (k : ℕ) (o : Tag) (n : Mode) → is_pending ((set_at awaited s (Some (recorded_wait (now p) s t m))) k) (set_stage stage s InQueue k) o n ≡ is_pending (awaited k) (stage k) o n
  pending_joined k o n =
      elim (cases_eq k s) [
        | inl same ↦ ap (λ st. is_pending ((set_at awaited s (Some (recorded_wait (now p) s t m))) k) st o n) (set_stage-here stage s InQueue k same) ∙ sym (not_pending (awaited k) (stage k) o n (ap (λ w. is_for w o n) (was_none k same)))
        | inr apart ↦ ap (λ st. is_pending ((set_at awaited s (Some (recorded_wait (now p) s t m))) k) st o n) (set_stage-else stage s InQueue k apart) ∙ ap (λ w. is_pending w (stage k) o n) (awaits-else k apart)
      ]

  queued_before : (k : ℕ) → k ≡ s → (o : Tag) → queued_by k (awaited k) (stage k) o ≡ []
  queued_before k same o = ap (λ w. queued_by k w (stage k) o) (was_none k same)

  queued_joined : (k : ℕ) → k ≡ s → (o : Tag) → queued_by k ((set_at awaited s (Some (recorded_wait (now p) s t m))) k) (set_stage stage s InQueue k) o ≡ queued_by k (Some (recorded_wait (now p) s t m)) InQueue o
  queued_joined k same o =
      ap (λ st. queued_by k ((set_at awaited s (Some (recorded_wait (now p) s t m))) k) st o) (set_stage-here stage s InQueue k same) ∙ ap (λ w. queued_by k w InQueue o) (awaits-here k same)

  queued_joined-else : (k : ℕ) → k ≢ s → (o : Tag) → queued_by k ((set_at awaited s (Some (recorded_wait (now p) s t m))) k) (set_stage stage s InQueue k) o ≡ queued_by k (awaited k) (stage k) o
  queued_joined-else k apart o =
      ap (λ st. queued_by k ((set_at awaited s (Some (recorded_wait (now p) s t m))) k) st o) (set_stage-else stage s InQueue k apart) ∙ ap (λ w. queued_by k w (stage k) o) (awaits-else k apart)

  queued_there : (k : ℕ) → k ≡ s → queued_by k ((set_at awaited s (Some (recorded_wait (now p) s t m))) k) (set_stage stage s InQueue k) t ≡ joining_wait (now p) s t m ∷ []
  queued_there k same =
      queued_joined k same t ∙ cond-true (tag_eq t t) (entry_of k (recorded_wait (now p) s t m) ∷ []) [] (tag_eq-refl t)
      ∙ ap (λ j. entry_of j (recorded_wait (now p) s t m) ∷ []) same

  same_joined : SameElsewhere own own awaited (set_at awaited s (Some (recorded_wait (now p) s t m))) stage (set_stage stage s InQueue) t
  same_joined = record {
    held = λ k o n other. ap (λ b. own k o n || b) (pending_joined k o n);
    queued = λ k o other. elim (cases_eq k s) [
      | inl same ↦ queued_joined k same o ∙ cond-false (tag_eq t o) (entry_of k (recorded_wait (now p) s t m) ∷ []) [] (tag_eq-turned o t other) ∙ sym (queued_before k same o)
      | inr apart ↦ queued_joined-else k apart o
    ];
  }

  queue_joined : (add_wait (now p) s t m place).waits t ≡ joined place (joining_wait (now p) s t m) ((now p).waits t)
  queue_joined = put_here tag_eq (now p).waits t (joined place (joining_wait (now p) s t m) ((now p).waits t)) t (tag_eq-refl t)

  on_it_joined : AgreesOn (add_wait (now p) s t m place) t own (set_at awaited s (Some (recorded_wait (now p) s t m))) (set_stage stage s InQueue)
  on_it_joined =
      let agrees = on_the_object now own awaited stage p t safe.one_place object in
      record {
        held = λ k n. agrees.held k n ∙ ap (λ b. own k t n || b) (sym (pending_joined k t n));
        in_queue = λ k. ap (of_session k) queue_joined ∙ elim (cases_eq k s) [
          | inl same ↦ joined-its k place (joining_wait (now p) s t m) ((now p).waits t) (sym same) (agrees.in_queue k ∙ queued_before k same t) ∙ sym (queued_there k same)
          | inr apart ↦ joined-other k place (joining_wait (now p) s t m) ((now p).waits t) (λ e. apart (sym e)) ∙ agrees.in_queue k ∙ sym (queued_joined-else k apart t)
        ];
      }

  not_own_joined : NotOwn own (set_at awaited s (Some (recorded_wait (now p) s t m)))
  not_own_joined k o n e =
      elim (cases_eq k s) [
        | inl same ↦
            let key = both_true (tag_eq t o) (mode_eq m n) (sym (ap (λ w. is_for w o n) (awaits-here k same)) ∙ e) in
            ap (λ j. own j o n) same ∙ ap (λ x. own s x n) (sym (tag_eq-same t o key.0)) ∙ ap (own s t) (sym (mode_eq-same m n key.1)) ∙ not_its
        | inr apart ↦ safe.one_place.awaited_is_not_own k o n (sym (ap (λ w. is_for w o n) (awaits-else k apart)) ∙ e)
      ]

  pub LeavesSafe-joined : LeavesSafe (set_at now p (add_wait (now p) s t m place)) own (set_at awaited s (Some (recorded_wait (now p) s t m))) (set_stage stage s InQueue)
  LeavesSafe-joined =
      let only = ChangesOnly-queue (now p) t (joined place (joining_wait (now p) s t m) ((now p).waits t)) in
      record {
        no_conflict = NoConflictingHolds-set now p (add_wait (now p) s t m place) (safe.no_conflict p) safe.no_conflict;
        one_place = AreInOnePlace-change now own own awaited (set_at awaited s (Some (recorded_wait (now p) s t m))) stage (set_stage stage s InQueue) p t (add_wait (now p) s t m place) safe.one_place object only same_joined on_it_joined not_own_joined;
        none_free = NobodyIsFree-set now p (add_wait (now p) s t m place)
            (NoneFree-change (now p) (add_wait (now p) s t m place) t only
            (subst (λ queue. NoneFreeBehind [] (now p).holds t queue) (sym queue_joined) (joined-none_free (now p) s t m place ((now p).holds s t) answer (safe.none_free p t)))
            (safe.none_free p))
            safe.none_free;
      }
