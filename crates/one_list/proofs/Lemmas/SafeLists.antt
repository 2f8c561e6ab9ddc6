use Rattle.std.proofs.Common.{◌≡◌, ℕ, true, false, List, [], ◌∷◌, refl, sym, subst, inl, inr, zero, suc, Some}
use Rattle.std.proofs.lemmas.Bool.{cases_Bool, or_right, false≢true, MatchBool-at_true, MatchBool-at_false}
use Rattle.modes_core.specs.declared.modes.Mode.{Mode}
use Rattle.modes_core.specs.declared.tags.Tag.{Tag}
use Rattle.modes_core.specs.Tag.{partition_of}
use Rattle.lock_table.specs.declared.moves.Move.{Move}
use Rattle.lock_table.specs.declared.moves.Move.TheVariants.{Keep, Grant, Join, Release, Leave, Adopt}
use Rattle.lock_table.specs.Content.{Wait, Content, empty_content, set_hold, add_hold, remove_hold}
use Rattle.lock_table.specs.Queue.{NoneFree, some_awaits_conflict, Wakes, NoneFreeBehind, NoConflictAmong, with_queue, joined, remove_wait, queue_without}
use Rattle.lock_table.specs.Clash.{NoConflictingHolder}
use Rattle.lock_table.specs.Moves.{WakesFor}
use Rattle.lock_table.proofs.Lemmas.Queues.{granted-no_holder}
use Rattle.lock_table.proofs.Lemmas.QueueLaws.{HasMore-set, NoneFreeBehind-more, NoneFreeBehind-removed, woken-none_free, woken-no_conflict, joined-none_free}
use Rattle.lock_world.proofs.Lemmas.Moves.Agreeing.{ChangesOnly, ChangesOnly-both, ChangesOnly-wakes, NoneFree-change}
use Rattle.lock_world.proofs.Lemmas.Moves.OnePlace.{NoConflictIn-added, NoConflictIn-removed}
use Rattle.std.specs.Prelude.{slice_get}
use Rattle.lock_world.specs.declared.events.Event.{Event}
use Rattle.lock_world.specs.World.{World}
use Rattle.lock_world.specs.SafeWorld.{SafeWorld, slots_of}
use Rattle.lock_world.specs.Headline.{stands_with}
use Rattle.lock_world.proofs.Lemmas.Headline.{headline}
use Rattle.one_list.specs.OneList.{list_of, MovesList, JoinsQueue, IsStepOfList, IsRunOfList}
use Rattle.one_list.specs.Moments.{ListIsSafe}
use Rattle.one_list.proofs.Lemmas.InList.{only-queue, only-hold, put-on}

-- The list alone: its steps keep it safe.

pub empty-safe : ListIsSafe empty_content
empty-safe = record { no_conflict = λ k l o x y apart has its. absurd (false≢true has); none_free = λ o. tt }

-- A wakeup after a change of the object that makes no conflict.
woken-safe : (before between after : Content) (t : Tag) (granted : List Wait) → ListIsSafe before → ChangesOnly before between t → NoConflictAmong between.holds → Wakes between t granted after → ListIsSafe after
woken-safe before between after t granted safe only apart wakes = record {
  no_conflict = woken-no_conflict between t granted after wakes apart;
  none_free = NoneFree-change before after t (ChangesOnly-both before between after t only (ChangesOnly-wakes between after t granted wakes))
      (woken-none_free between t granted after wakes) safe.none_free;
}

granted-safe : (before : Content) (s : ℕ) (t : Tag) (m : Mode) → ListIsSafe before → NoConflictingHolder before.holds s t m → ListIsSafe (add_hold before s t m)
granted-safe before s t m safe free = record {
  no_conflict = NoConflictIn-added before s t m (add_hold before s t m) refl free safe.no_conflict;
  none_free = NoneFree-change before (add_hold before s t m) t (only-hold before s t m true)
      (NoneFreeBehind-more [] before.holds (set_hold before.holds s t m true) t (before.waits t) (HasMore-set before.holds s t t m) (safe.none_free t)) safe.none_free;
}

joined-safe : (before : Content) (s : ℕ) (t : Tag) (m : Mode) (after : Content) → ListIsSafe before → JoinsQueue before s t m after → ListIsSafe after
joined-safe before s t m after safe joins = subst ListIsSafe (sym joins.stands) (record {
  no_conflict = safe.no_conflict;
  none_free = NoneFree-change before (with_queue before t queue) t (only-queue before t queue)
      (subst (λ q. NoneFreeBehind [] before.holds t q) (sym (put-on before.waits t queue))
      (joined-none_free before s t m joins.place joins.held joins.answered (safe.none_free t))) safe.none_free;
}) where
  queue : List Wait
  queue = joined joins.place (record { session = s; mode = m; held = joins.held }) (before.waits t)

released-safe : (before : Content) (s : ℕ) (t : Tag) (m : Mode) (granted : List Wait) (after : Content) → ListIsSafe before → WakesFor m (remove_hold before s t m) t granted after → ListIsSafe after
released-safe before s t m granted after safe wakes =
    elim (cases_Bool (some_awaits_conflict (before.waits t) m)) [
      | inl some ↦ woken-safe before (remove_hold before s t m) after t granted safe only apart
          (MatchBool-at_true (Wakes (remove_hold before s t m) t granted after) ((granted ≡ []) × (after ≡ remove_hold before s t m)) some wakes)
      | inr nobody ↦ subst ListIsSafe
          (sym (MatchBool-at_false (Wakes (remove_hold before s t m) t granted after) ((granted ≡ []) × (after ≡ remove_hold before s t m)) nobody wakes).1)
          (record {
            no_conflict = apart;
            none_free = NoneFree-change before (remove_hold before s t m) t only
                (NoneFreeBehind-removed [] before.holds s t m (before.waits t) nobody (safe.none_free t)) safe.none_free;
          })
    ] where
      only : ChangesOnly before (remove_hold before s t m) t
      only = only-hold before s t m false

      apart : NoConflictAmong (remove_hold before s t m).holds
      apart = NoConflictIn-removed before s t m (remove_hold before s t m) refl safe.no_conflict

pub moves-safe : (before : Content) (s : ℕ) (done : Move) (granted : List Wait) (after : Content) → ListIsSafe before → MovesList before s done granted after → ListIsSafe after
moves-safe before s Keep granted after safe moves = subst ListIsSafe (sym moves.1) safe
moves-safe before s (Grant t m) granted after safe moves =
    subst ListIsSafe (sym moves.1.2) (granted-safe before s t m safe (granted-no_holder before s t m moves.1.0))
moves-safe before s (Join t m) granted after safe moves = joined-safe before s t m after safe moves.2
moves-safe before s (Release t m) granted after safe moves = released-safe before s t m granted after safe moves.1
moves-safe before s (Leave t) granted after safe moves =
    woken-safe before (remove_wait before s t) after t granted safe (only-queue before t (queue_without (before.waits t) s)) safe.no_conflict moves.1
moves-safe before s (Adopt o i) granted after safe moves = absurd moves

pub step-safe : (s : ℕ) (before after : Content) → ListIsSafe before → IsStepOfList s before after → ListIsSafe after
step-safe s before after safe (inl same) = subst ListIsSafe (sym same) safe
step-safe s before after safe (inr moves) = moves-safe before s moves.0 moves.1 after safe moves.2

-- What a safe World shows is a safe list.
pub safe-list : (w : World) → SafeWorld w → ListIsSafe (list_of w)
safe-list w safe = record { no_conflict = (headline w safe).no_two_conflict; none_free = none_free } where
  none_free : (t : Tag) → NoneFree (list_of w) t
  none_free t =
      NoneFreeBehind-more [] (w.contents.now (partition_of t)).holds (stands_with w) t ((w.contents.now (partition_of t)).waits t)
      (λ k m has. or_right (slots_of w.words.database w.words.slot k t m) ((w.contents.now (partition_of t)).holds k t m) has)
      (safe.but_slots.table.promise.none_free (partition_of t) t)

-- So each World of a run of the list shows a safe list.
pub run-safe : (list : Content) (events : List Event) (worlds : List World) → ListIsSafe list → IsRunOfList list events worlds
    → (place : ℕ) (w : World) → slice_get worlds place ≡ Some w → ListIsSafe (list_of w)
run-safe list [] [] safe run place w at = absurd (cc)
run-safe list [] (v ∷ worlds) safe run place w at = absurd run
run-safe list (event ∷ events) [] safe run place w at = absurd run
run-safe list (event ∷ events) (v ∷ worlds) safe run zero w at =
    subst (λ z. ListIsSafe (list_of z)) (let same : v ≡ w = cc in same) (step-safe event.session list (list_of v) safe run.0)
run-safe list (event ∷ events) (v ∷ worlds) safe run (suc place) w at =
    run-safe (list_of v) events worlds (step-safe event.session list (list_of v) safe run.0) run.1 place w at
