use Rattle.std.proofs.Common.{◌≡◌, ◌≢◌, ◌⊎◌, ℕ, true, false, ◌||◌, List, [], ◌∷◌, Option, Some, None, if◌then◌else◌, refl, sym, ap, subst, ◌∙◌, inl, inr}
use Rattle.std.specs.Prelude.{◌==◌}
use Rattle.std.proofs.lemmas.Bool.{cases_Bool, cases_eq, both_ways, false_from_ne_true, and_from, or_from, or_right, cond-true, MatchBool-at_true, MatchBool-at_false}
use Rattle.modes_core.specs.declared.modes.Mode.{Mode}
use Rattle.modes_core.specs.declared.tags.Tag.{Tag}
use Rattle.modes_core.specs.Mode.{mode_eq}
use Rattle.modes_core.specs.Tag.{tag_eq, partition_of}
use Rattle.modes_core.proofs.Lemmas.Conflicts.{both_true, mode_eq-refl, mode_eq-same, tag_eq-refl, tag_eq-same}
use Rattle.lock_table.specs.declared.moves.Move.{Move}
use Rattle.lock_table.specs.declared.moves.Move.TheVariants.{Keep, Grant, Join, Release, Leave, Adopt}
use Rattle.lock_table.specs.Content.{Holds, Wait, Content, set_hold, add_hold, remove_hold}
use Rattle.lock_table.specs.Queue.{Wakes, waits_there, some_awaits_conflict, add_wait, remove_wait, queue_without}
use Rattle.lock_table.specs.Moves.{Moves, WakesFor, IsInPartition, FitsOwn}
use Rattle.lock_table.specs.OwnWait.{OwnWait, Stage, InQueue, WasGranted, HasLeft, entry_of, is_for, is_pending, queued_by}
use Rattle.lock_table.specs.Put.{set_at}
use Rattle.lock_world.specs.Happens.Partitions.{own_after}
use Rattle.lock_world.specs.Safe.{NoConflictingHolds, AreInOnePlace, NobodyIsFree}
use Rattle.lock_table.proofs.Lemmas.Put.{put_here}
use Rattle.lock_table.proofs.Lemmas.Holds.{SetHoldAt, here, elsewhere, set_hold-at, set_hold-other_session}
use Rattle.lock_table.proofs.Lemmas.QueueLaws.{woken-split, release-not_own}
use Rattle.lock_table.proofs.Lemmas.QueuesOf.{of_session, one-there, there-some, granted-there, without-its, without-other}
use Rattle.lock_world.proofs.Lemmas.Moves.Agreeing.{or-false, AreInOnePlace-same, AreInOnePlace-ended, pending-stage, queued-stage}
use Rattle.lock_world.proofs.Lemmas.Moves.Each.{LeavesSafe, LeavesSafe-kept, LeavesSafe-granted, LeavesSafe-released, LeavesSafe-woken, LeavesSafe-left, LeavesSafe-joined, stood}

-- What a move leaves of the facts on contents and accounts, over the contents, the sessions' own holds, the
-- waits and their stages as plain functions.

-- the waits after a move: a join records one
abbrev pub awaited_after : Content → (ℕ → Option OwnWait) → ℕ → Move → ℕ → Option OwnWait
awaited_after before awaited s Keep = awaited
awaited_after before awaited s (Grant t m) = awaited
awaited_after before awaited s (Join t m) = set_at awaited s (Some (record { tag = t; mode = m; held = before.holds s t }))
awaited_after before awaited s (Release t m) = awaited
awaited_after before awaited s (Leave t) = awaited
awaited_after before awaited s (Adopt k i) = awaited

-- the stages after a move, but of those whom it granted
abbrev pub stage_by_move : (ℕ → Stage) → ℕ → Move → ℕ → Stage
stage_by_move stage s Keep k = stage k
stage_by_move stage s (Grant t m) k = stage k
stage_by_move stage s (Join t m) k = if k == s then InQueue else stage k
stage_by_move stage s (Release t m) k = stage k
stage_by_move stage s (Leave t) k = if k == s then HasLeft else stage k
stage_by_move stage s (Adopt j i) k = stage k

-- the stages after a move
abbrev pub stage_after : (ℕ → Stage) → ℕ → Move → List Wait → ℕ → Stage
stage_after stage s done granted k = if waits_there granted k then WasGranted else stage_by_move stage s done k

pub record Moved (now : ℕ → Content) (own : Holds) (awaited : ℕ → Option OwnWait) (stage : ℕ → Stage) (p s : ℕ) (done : Move) (granted : List Wait) (content : Content) : Type 0 where
  pub no_conflict : NoConflictingHolds (set_at now p content)
  pub one_place : AreInOnePlace (set_at now p content) (own_after own s done) (awaited_after (now p) awaited s done) (stage_after stage s done granted)
  pub none_free : NobodyIsFree (set_at now p content)

-- A session that was granted stood in the queue, with a wait of its own account, on an object of the
-- partition.
pub record StoodInQueue (awaited : ℕ → Option OwnWait) (stage : ℕ → Stage) (p k : ℕ) : Type 0 where
  pub wait : OwnWait
  pub is_wait : awaited k ≡ Some wait
  pub in_partition : partition_of wait.tag ≡ p
  pub in_queue : stage k ≡ InQueue

-- The stage of a session that has no wait says nothing.
pub AreInOnePlace-stage : (now : ℕ → Content) (own : Holds) (awaited : ℕ → Option OwnWait) (stage stage' : ℕ → Stage)
    → ((k : ℕ) (wait : OwnWait) → awaited k ≡ Some wait → stage k ≡ stage' k) → AreInOnePlace now own awaited stage → AreInOnePlace now own awaited stage'
AreInOnePlace-stage now own awaited stage stage' same one =
    AreInOnePlace-same now own own awaited awaited stage stage' one
    (λ k o n. ap (λ b. own k o n || b) (pending-stage (awaited k) (stage k) (stage' k) o n (same k)))
    (λ k o. queued-stage k (awaited k) (stage k) (stage' k) o (same k))
    one.awaited_is_not_own

-- A stage is one of three.
which_stage : (st : Stage) → (st ≡ InQueue) ⊎ ((st ≡ WasGranted) ⊎ (st ≡ HasLeft))
which_stage InQueue = inl refl
which_stage WasGranted = inr (inl refl)
which_stage HasLeft = inr (inr refl)

module _ (now : ℕ → Content) (own : Holds) (awaited : ℕ → Option OwnWait) (stage : ℕ → Stage) (p s : ℕ) (one : AreInOnePlace now own awaited stage) where
  -- what is pending of the session's wait, and what stands of it in a queue
  pending_at : (wait : OwnWait) (st : Stage) → awaited s ≡ Some wait → stage s ≡ st → (o : Tag) (n : Mode) → is_pending (awaited s) (stage s) o n ≡ is_pending (Some wait) st o n
  pending_at wait st is at o n = ap (λ x. is_pending (awaited s) x o n) at ∙ ap (λ w. is_pending w st o n) is

  queued_at : (wait : OwnWait) (st : Stage) → awaited s ≡ Some wait → stage s ≡ st → (o : Tag) → queued_by s (awaited s) (stage s) o ≡ queued_by s (Some wait) st o
  queued_at wait st is at o = ap (λ x. queued_by s (awaited s) x o) at ∙ ap (λ w. queued_by s w st o) is

  for_itself : (wait : OwnWait) → is_for (Some wait) wait.tag wait.mode ≡ true
  for_itself wait = and_from (tag_eq wait.tag wait.tag) (mode_eq wait.mode wait.mode) (tag_eq-refl wait.tag) (mode_eq-refl wait.mode)

  -- A wait that was granted is taken over: its hold is the session's own from then on.
  pub taken-one_place : (wait : OwnWait) (stage' : ℕ → Stage) → awaited s ≡ Some wait → stage s ≡ WasGranted → ((k : ℕ) → k ≢ s → stage k ≡ stage' k)
      → AreInOnePlace now (set_hold own s wait.tag wait.mode true) (set_at awaited s None) stage'
  taken-one_place wait stage' is granted others =
      AreInOnePlace-ended now own (set_hold own s wait.tag wait.mode true) awaited stage stage' s one others
      (λ k o n apart. set_hold-other_session own s wait.tag wait.mode true k o n apart) its
      (λ o. queued_at wait WasGranted is granted o) where
        its : (o : Tag) (n : Mode) → (own s o n || is_pending (awaited s) (stage s) o n) ≡ set_hold own s wait.tag wait.mode true s o n
        its o n = ap (λ b. own s o n || b) (pending_at wait WasGranted is granted o n) ∙ at (set_hold-at own s wait.tag wait.mode true s o n) where
          at : SetHoldAt own s wait.tag wait.mode true s o n → (own s o n || is_for (Some wait) o n) ≡ set_hold own s wait.tag wait.mode true s o n
          at (here it value) =
              or_right (own s o n) (is_for (Some wait) o n) (ap (λ x. is_for (Some wait) x n) it.tag ∙ ap (is_for (Some wait) wait.tag) it.mode ∙ for_itself wait) ∙ sym value
          at (elsewhere not_it value) =
              let not_for : is_for (Some wait) o n ≡ false = false_from_ne_true (is_for (Some wait) o n) (λ e.
              let key = both_true (tag_eq wait.tag o) (mode_eq wait.mode n) e in
              not_it (record { session = refl; tag = sym (tag_eq-same wait.tag o key.0); mode = sym (mode_eq-same wait.mode n key.1) })) in
              ap (λ b. own s o n || b) not_for ∙ or-false (own s o n) ∙ sym value

  -- A granted wait's hold is in the content.
  pub granted-held : (wait : OwnWait) → awaited s ≡ Some wait → stage s ≡ WasGranted → (now (partition_of wait.tag)).holds s wait.tag wait.mode ≡ true
  granted-held wait is granted =
      (one.on_object wait.tag).held s wait.mode ∙ or_right (own s wait.tag wait.mode) (is_pending (awaited s) (stage s) wait.tag wait.mode)
      (pending_at wait WasGranted is granted wait.tag wait.mode ∙ for_itself wait)

  -- A wait that has left the queue ends with no hold.
  pub left-one_place : (wait : OwnWait) (stage' : ℕ → Stage) → awaited s ≡ Some wait → stage s ≡ HasLeft → ((k : ℕ) → k ≢ s → stage k ≡ stage' k)
      → AreInOnePlace now own (set_at awaited s None) stage'
  left-one_place wait stage' is left others =
      AreInOnePlace-ended now own own awaited stage stage' s one others (λ k o n apart. refl)
      (λ o n. ap (λ b. own s o n || b) (pending_at wait HasLeft is left o n) ∙ or-false (own s o n))
      (λ o. queued_at wait HasLeft is left o)

  pub left-not_held : (wait : OwnWait) → awaited s ≡ Some wait → stage s ≡ HasLeft → (now (partition_of wait.tag)).holds s wait.tag wait.mode ≡ false
  left-not_held wait is left =
      (one.on_object wait.tag).held s wait.mode
      ∙ or_from (own s wait.tag wait.mode) (is_pending (awaited s) (stage s) wait.tag wait.mode)
      (one.awaited_is_not_own s wait.tag wait.mode (ap (λ w. is_for w wait.tag wait.mode) is ∙ for_itself wait))
      (pending_at wait HasLeft is left wait.tag wait.mode)

  -- A session whose wait is not in the object's queue was granted, or its wait has left.
  pub gone-stage : (wait : OwnWait) → awaited s ≡ Some wait → waits_there ((now (partition_of wait.tag)).waits wait.tag) s ≡ false → (stage s ≡ WasGranted) ⊎ (stage s ≡ HasLeft)
  gone-stage wait is gone = at (which_stage (stage s)) where
    at : (stage s ≡ InQueue) ⊎ ((stage s ≡ WasGranted) ⊎ (stage s ≡ HasLeft)) → (stage s ≡ WasGranted) ⊎ (stage s ≡ HasLeft)
    at (inr ended) = ended
    at (inl in_queue) =
        absurd (both_ways (waits_there ((now (partition_of wait.tag)).waits wait.tag) s) gone
        (one-there s ((now (partition_of wait.tag)).waits wait.tag) [] (entry_of s wait)
        ((one.on_object wait.tag).in_queue s ∙ queued_at wait InQueue is in_queue wait.tag ∙ cond-true (tag_eq wait.tag wait.tag) (entry_of s wait ∷ []) [] (tag_eq-refl wait.tag))))

  -- A session that stands in a queue has recorded its wait there.
  pub queued-stood : (t : Tag) → partition_of t ≡ p → waits_there ((now p).waits t) s ≡ true → (wait : OwnWait) × (awaited s ≡ Some wait) × (wait.tag ≡ t) × (stage s ≡ InQueue)
  queued-stood t object there = stood now own awaited stage p s t one object (there-some s ((now p).waits t) there)

-- A release wakes the queue, or nobody.
by_wakeup : (m : Mode) (before : Content) (t : Tag) (granted : List Wait) (after : Content) → WakesFor m before t granted after →
    Wakes before t granted after ⊎ ((some_awaits_conflict (before.waits t) m ≡ false) × (granted ≡ []) × (after ≡ before))
by_wakeup m before t granted after wakes =
    elim (cases_Bool (some_awaits_conflict (before.waits t) m)) [
      | inl some ↦ inl (MatchBool-at_true (Wakes before t granted after) ((granted ≡ []) × (after ≡ before)) some wakes)
      | inr quiet ↦ let same = MatchBool-at_false (Wakes before t granted after) ((granted ≡ []) × (after ≡ before)) quiet wakes in inr (quiet, same.0, same.1)
    ]

nobody_granted : (P : List Wait → Content → Type 0) (granted : List Wait) (after content : Content) → granted ≡ [] → after ≡ content → P [] content → P granted after
nobody_granted P granted after content none is there = subst (λ g. P g after) (sym none) (subst (P []) (sym is) there)

LeavesSafe-moved : (now : ℕ → Content) (own : Holds) (awaited : ℕ → Option OwnWait) (stage : ℕ → Stage) (p s : ℕ) → LeavesSafe now own awaited stage
    → (done : Move) (granted : List Wait) (content : Content) → IsInPartition p done → FitsOwn own (awaited s) s done → Moves (now p) s done granted content
    → LeavesSafe (set_at now p content) (own_after own s done) (awaited_after (now p) awaited s done) (stage_after stage s done granted)
LeavesSafe-moved now own awaited stage p s safe Keep granted content object fits moves =
    nobody_granted (λ g c. LeavesSafe (set_at now p c) own awaited (stage_after stage s Keep g)) granted content (now p) moves.0 moves.1 (LeavesSafe-kept now own awaited stage p safe)
LeavesSafe-moved now own awaited stage p s safe (Grant t m) granted content object fits moves =
    nobody_granted (λ g c. LeavesSafe (set_at now p c) (set_hold own s t m true) awaited (stage_after stage s (Grant t m) g)) granted content (add_hold (now p) s t m) moves.1 moves.2
    (LeavesSafe-granted now own awaited stage p s t safe object m moves.0 fits.0)
LeavesSafe-moved now own awaited stage p s safe (Join t m) granted content object fits moves =
    nobody_granted (λ g c. LeavesSafe (set_at now p c) own (awaited_after (now p) awaited s (Join t m)) (stage_after stage s (Join t m) g)) granted content (add_wait (now p) s t m moves.0) moves.2 moves.3
    (LeavesSafe-joined now own awaited stage p s t m safe object fits.0 fits.1 moves.0 moves.1)
LeavesSafe-moved now own awaited stage p s safe (Release t m) granted content object fits moves =
    elim (by_wakeup m (remove_hold (now p) s t m) t granted content moves.1) [
      | inl wakes ↦ LeavesSafe-woken now own awaited stage p s t safe object m fits granted content wakes
      | inr none ↦ nobody_granted (λ g c. LeavesSafe (set_at now p c) (set_hold own s t m false) awaited (stage_after stage s (Release t m) g)) granted content (remove_hold (now p) s t m) none.1 none.2
          (LeavesSafe-released now own awaited stage p s t safe object m fits none.0)
    ]
LeavesSafe-moved now own awaited stage p s safe (Leave t) granted content object fits moves =
    let wait = stood now own awaited stage p s t safe.one_place object (there-some s ((now p).waits t) moves.0) in
    LeavesSafe-left now own awaited stage p s t safe object wait.0 wait.1 wait.2 wait.3 granted content moves.1
LeavesSafe-moved now own awaited stage p s safe (Adopt k i) granted content object fits moves = absurd moves

-- Nobody is granted, where nobody is.
not_granted : (k : ℕ) (granted : List Wait) → granted ≡ [] → waits_there granted k ≡ false
not_granted k granted none = ap (λ g. waits_there g k) none

-- Who was granted by a wakeup stood in the queue.
woken-some : (k : ℕ) (before : Content) (t : Tag) (granted : List Wait) (after : Content) → Wakes before t granted after → waits_there granted k ≡ true → of_session k (before.waits t) ≡ [] → ⊥
woken-some k before t granted after wakes among none =
    both_ways (waits_there granted k) (granted-there k (before.waits t) granted (after.waits t) (woken-split before t granted after wakes) none) among

queue_left : (before : Content) (s : ℕ) (t : Tag) → (remove_wait before s t).waits t ≡ queue_without (before.waits t) s
queue_left before s t = put_here tag_eq before.waits t (queue_without (before.waits t) s) t (tag_eq-refl t)

left-some : (before : Content) (s k : ℕ) (t : Tag) → (of_session k ((remove_wait before s t).waits t) ≡ [] → ⊥) → of_session k (before.waits t) ≡ [] → ⊥
left-some before s k t some none =
    elim (cases_eq k s) [
      | inl same ↦ some (ap (of_session k) (queue_left before s t) ∙ ap (λ j. of_session j (queue_without (before.waits t) s)) same ∙ without-its s (before.waits t))
      | inr apart ↦ some (ap (of_session k) (queue_left before s t) ∙ without-other k s (before.waits t) apart ∙ none)
    ]

module _ (now : ℕ → Content) (own : Holds) (awaited : ℕ → Option OwnWait) (stage : ℕ → Stage) (p s : ℕ) (one : AreInOnePlace now own awaited stage) where
  stood_in_queue : (k : ℕ) (t : Tag) → partition_of t ≡ p → (of_session k ((now p).waits t) ≡ [] → ⊥) → StoodInQueue awaited stage p k
  stood_in_queue k t object some =
      let it = stood now own awaited stage p k t one object some in
      record { wait = it.0; is_wait = it.1; in_partition = ap partition_of it.2 ∙ object; in_queue = it.3 }

  stood-moved : (k : ℕ) (done : Move) (granted : List Wait) (content : Content) → IsInPartition p done → Moves (now p) s done granted content → waits_there granted k ≡ true → StoodInQueue awaited stage p k
  stood-moved k Keep granted content object moves among = absurd (both_ways (waits_there granted k) (not_granted k granted moves.0) among)
  stood-moved k (Grant t m) granted content object moves among = absurd (both_ways (waits_there granted k) (not_granted k granted moves.1) among)
  stood-moved k (Join t m) granted content object moves among = absurd (both_ways (waits_there granted k) (not_granted k granted moves.2) among)
  stood-moved k (Release t m) granted content object moves among =
      elim (by_wakeup m (remove_hold (now p) s t m) t granted content moves.1) [
        | inl wakes ↦ stood_in_queue k t object (woken-some k (remove_hold (now p) s t m) t granted content wakes among)
        | inr none ↦ absurd (both_ways (waits_there granted k) (not_granted k granted none.1) among)
      ]
  stood-moved k (Leave t) granted content object moves among = stood_in_queue k t object (left-some (now p) s k t (woken-some k (remove_wait (now p) s t) t granted content moves.1 among))
  stood-moved k (Adopt j i) granted content object moves among = absurd moves

  another-moved : NobodyIsFree now → (done : Move) (granted : List Wait) (content : Content) → Moves (now p) s done granted content → waits_there granted s ≡ false
  another-moved none_free Keep granted content moves = not_granted s granted moves.0
  another-moved none_free (Grant t m) granted content moves = not_granted s granted moves.1
  another-moved none_free (Join t m) granted content moves = not_granted s granted moves.2
  another-moved none_free (Release t m) granted content moves =
      elim (by_wakeup m (remove_hold (now p) s t m) t granted content moves.1) [
        | inl wakes ↦ release-not_own (now p) content s t m granted (none_free p t) wakes
        | inr none ↦ not_granted s granted none.1
      ]
  another-moved none_free (Leave t) granted content moves =
      granted-there s ((remove_wait (now p) s t).waits t) granted (content.waits t) (woken-split (remove_wait (now p) s t) t granted content moves.1)
      (ap (of_session s) (queue_left (now p) s t) ∙ without-its s ((now p).waits t))
  another-moved none_free (Adopt k i) granted content moves = absurd moves

module _ (now : ℕ → Content) (own : Holds) (awaited : ℕ → Option OwnWait) (stage : ℕ → Stage) (p s : ℕ) (done : Move) (granted : List Wait) (content : Content)
    (one : AreInOnePlace now own awaited stage) (none_free : NobodyIsFree now) (object : IsInPartition p done) (fits : FitsOwn own (awaited s) s done) (moves : Moves (now p) s done granted content) where
  pub moved : NoConflictingHolds now → Moved now own awaited stage p s done granted content
  moved apart =
      let safe = LeavesSafe-moved now own awaited stage p s (record { no_conflict = apart; one_place = one; none_free = none_free }) done granted content object fits moves in
      record { no_conflict = safe.no_conflict; one_place = safe.one_place; none_free = safe.none_free }

  pub granted-stood : (k : ℕ) → waits_there granted k ≡ true → StoodInQueue awaited stage p k
  granted-stood k among = stood-moved now own awaited stage p s one k done granted content object moves among

  -- A move grants no wait of its own session.
  pub granted-another : waits_there granted s ≡ false
  granted-another = another-moved now own awaited stage p s one none_free done granted content moves
