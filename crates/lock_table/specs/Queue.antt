use Rattle.std.specs.Prelude.{◌≡◌, ◌≢◌, ◌⊎◌, ℕ, Bool, true, false, ◌&&◌, List, [], ◌∷◌, ◌++◌, length, take, drop, find, filter, not, ◌==◌, Option, Some, None}
use Rattle.std.specs.List.{list_any}
use Rattle.modes_core.specs.declared.modes.Mode.{Mode}
use Rattle.modes_core.specs.declared.tags.Tag.{Tag}
use Rattle.modes_core.specs.Conflict.{conflict}
use Rattle.modes_core.specs.ModeSet.{all_modes}
use Rattle.modes_core.specs.Mode.{mode_eq}
use Rattle.modes_core.specs.Tag.{tag_eq}
use Rattle.lock_table.specs.Put.{put}
use Rattle.lock_table.specs.Content.{Holds, Wait, Content, set_hold}
use Rattle.lock_table.specs.Clash.{NoConflictingHolder, ClashIs}
use Rattle.lock_table.specs.declared.answering.Clash.{Clash}
use Rattle.lock_table.specs.declared.answering.Answer.{Answer}
use Rattle.lock_table.specs.declared.answering.Answer.TheVariants.{Granted, Queued, SimpleDeadlock}

-- whether the mode conflicts with a mode of the set
abbrev pub conflicts_with_some : Mode → (Mode → Bool) → Bool
conflicts_with_some mode set = list_any (λ other. set other && conflict mode other) all_modes

-- whether a wait of the list awaits a mode that conflicts with the mode
abbrev pub some_awaits_conflict : List Wait → Mode → Bool
some_awaits_conflict waits mode = list_any (λ wait. conflict mode wait.mode) waits

-- The mode is free to go: it conflicts with no hold of another session on the object, and with no mode that
-- is awaited ahead.
pub record IsFree (holds : Holds) (session : ℕ) (tag : Tag) (mode : Mode) (ahead : List Wait) : Type 0 where
  pub beside_holders : NoConflictingHolder holds session tag mode
  pub behind_waiters : some_awaits_conflict ahead mode ≡ false

-- What a request that may wait is answered.

-- The waiter is the first one of the queue whose mode conflicts with a mode of the set; these are ahead of
-- it, and these behind.
pub record IsFirstAgainst (set : Mode → Bool) (queue ahead : List Wait) (waiter : Wait) (behind : List Wait) : Type 0 where
  pub parts : queue ≡ ahead ++ waiter ∷ behind
  pub passed : list_any (λ wait. conflicts_with_some wait.mode set) ahead ≡ false
  pub met : conflicts_with_some waiter.mode set ≡ true

-- The answer to a request that meets this waiter, with these ahead of it: the waiter's own holds may be in
-- its way, or nothing may be, or else it goes before the waiter (the early insertion of ProcSleep in proc.c).
abbrev pub AnswerAtWaiter : Holds → ℕ → Tag → Mode → List Wait → Wait → Answer → Type 0
AnswerAtWaiter holds session tag mode ahead waiter (SimpleDeadlock other) =
    (conflicts_with_some mode waiter.held ≡ true) × (other ≡ waiter.session)
AnswerAtWaiter holds session tag mode ahead waiter Granted =
    (conflicts_with_some mode waiter.held ≡ false) × IsFree holds session tag mode ahead
AnswerAtWaiter holds session tag mode ahead waiter (Queued place) =
    (conflicts_with_some mode waiter.held ≡ false) × (IsFree holds session tag mode ahead → ⊥) × (place ≡ length ahead)

-- The answer to a request that something is in the way of: behind all where no waiter's mode conflicts with
-- one that its session holds of the object, and else by the first such waiter.
abbrev pub AnswerByPlace : Content → ℕ → Tag → Mode → Answer → Type 0
AnswerByPlace content session tag mode answer =
    ((list_any (λ wait. conflicts_with_some wait.mode (content.holds session tag)) (content.waits tag) ≡ false)
    × (answer ≡ Queued (length (content.waits tag))))
    ⊎ ((ahead : List Wait) × (waiter : Wait) × (behind : List Wait)
    × IsFirstAgainst (content.holds session tag) (content.waits tag) ahead waiter behind
    × AnswerAtWaiter content.holds session tag mode ahead waiter answer)

-- The answer to a request that may wait, once it is known what it clashes with.
abbrev pub WaitingAnswerAt : Option Clash → Content → ℕ → Tag → Mode → Answer → Type 0
WaitingAnswerAt None content session tag mode answer = answer ≡ Granted
WaitingAnswerAt (Some clash) content session tag mode answer = AnswerByPlace content session tag mode answer

-- A request that may wait is granted where it clashes with nothing, and else answered by its place. (One that
-- may not wait is granted where it clashes with nothing, and else refused with what it clashes with:
-- `ClashIs` is its answer.)
abbrev pub WaitingAnswer : Content → ℕ → Tag → Mode → Answer → Type 0
WaitingAnswer content session tag mode answer =
    (clash : Option Clash) × ClashIs content session tag mode clash × WaitingAnswerAt clash content session tag mode answer

-- the queue with a new wait at this place, counted from the front: before the wait there, or behind all
abbrev pub joined : ℕ → Wait → List Wait → List Wait
joined place wait queue = take place queue ++ wait ∷ drop place queue

-- A session's wait in a queue.

-- whether the session waits in the queue
abbrev pub waits_there : List Wait → ℕ → Bool
waits_there queue session = list_any (λ wait. wait.session == session) queue

-- whether the session waits in the queue for the mode
abbrev pub awaits_mode : List Wait → ℕ → Mode → Bool
awaits_mode queue session mode = list_any (λ wait. (wait.session == session) && mode_eq wait.mode mode) queue

-- the session's wait, if it waits in the queue
abbrev pub wait_in : List Wait → ℕ → Option Wait
wait_in queue session = find (λ wait. wait.session == session) queue

-- the queue without the session's wait
abbrev pub queue_without : List Wait → ℕ → List Wait
queue_without queue session = filter (λ wait. not (wait.session == session)) queue

-- the content with another queue for the object
abbrev pub with_queue : Content → Tag → List Wait → Content
with_queue content tag queue = record { holds = content.holds; waits = put tag_eq content.waits tag queue }

-- the wait that a request becomes when it joins: with the modes of the object that its session holds then
abbrev pub joining_wait : Content → ℕ → Tag → Mode → Wait
joining_wait content session tag mode = record { session = session; mode = mode; held = content.holds session tag }

-- the content with one wait more, at its place
abbrev pub add_wait : Content → ℕ → Tag → Mode → ℕ → Content
add_wait content session tag mode place =
    with_queue content tag (joined place (joining_wait content session tag mode) (content.waits tag))

-- the content with the session's wait on the object gone
abbrev pub remove_wait : Content → ℕ → Tag → Content
remove_wait content session tag = with_queue content tag (queue_without (content.waits tag) session)

-- The wakeup of an object's queue (ProcLockWakeup in proc.c).

-- The one way to split a queue into granted and left, from the front, with these left so far: a wait is
-- granted exactly where it is free to go beside the holders, those granted before it among them, and behind
-- those left before it.
abbrev pub SplitsBehind : List Wait → Holds → Tag → List Wait → List Wait → List Wait → Type 0
SplitsBehind ahead holds tag [] granted left = (granted ≡ []) × (left ≡ [])
SplitsBehind ahead holds tag (wait ∷ queue) granted left =
    (IsFree holds wait.session tag wait.mode ahead
    × ((others : List Wait) × (granted ≡ wait ∷ others)
    × SplitsBehind ahead (set_hold holds wait.session tag wait.mode true) tag queue others left))
    ⊎ ((IsFree holds wait.session tag wait.mode ahead → ⊥)
    × ((others : List Wait) × (left ≡ wait ∷ others) × SplitsBehind (ahead ++ wait ∷ []) holds tag queue granted others))

-- the holds, with those that these waits become
abbrev pub hold_all : Holds → Tag → List Wait → Holds
hold_all holds tag [] = holds
hold_all holds tag (wait ∷ waits) = hold_all (set_hold holds wait.session tag wait.mode true) tag waits

-- The wakeup of the object: these waits are granted and become holds, and the others stay in their order.
pub record Wakes (before : Content) (tag : Tag) (granted : List Wait) (after : Content) : Type 0 where
  pub left : List Wait
  pub split : SplitsBehind [] before.holds tag (before.waits tag) granted left
  pub holds : after.holds ≡ hold_all before.holds tag granted
  pub waits : after.waits ≡ put tag_eq before.waits tag left

-- What the laws say of a queue.

-- No wait of the queue is free to go, each behind those before it and behind these.
abbrev pub NoneFreeBehind : List Wait → Holds → Tag → List Wait → Type 0
NoneFreeBehind ahead holds tag [] = Unit {0}
NoneFreeBehind ahead holds tag (wait ∷ queue) =
    (IsFree holds wait.session tag wait.mode ahead → ⊥) × NoneFreeBehind (ahead ++ wait ∷ []) holds tag queue

-- No wait of the object's queue is free to go.
abbrev pub NoneFree : Content → Tag → Type 0
NoneFree content tag = NoneFreeBehind [] content.holds tag (content.waits tag)

-- No two sessions' holds conflict.
abbrev pub NoConflictAmong : Holds → Type 0
NoConflictAmong holds =
    (session other : ℕ) (tag : Tag) (mode its : Mode) → session ≢ other
    → holds session tag mode ≡ true → holds other tag its ≡ true → conflict mode its ≡ false

-- Each wait of the queue went to one of the two lists, and both keep its order.
abbrev pub IsSplitOf : List Wait → List Wait → List Wait → Type 0
IsSplitOf [] granted left = (granted ≡ []) × (left ≡ [])
IsSplitOf (wait ∷ queue) granted left =
    ((others : List Wait) × (granted ≡ wait ∷ others) × IsSplitOf queue others left)
    ⊎ ((others : List Wait) × (left ≡ wait ∷ others) × IsSplitOf queue granted others)
