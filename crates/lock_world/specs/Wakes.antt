pub mod Waking
pub mod Events
pub mod Calling
pub mod Owing
pub mod Reasons
use Rattle.std.specs.Prelude.{◌≡◌, ◌≢◌, ◌⊎◌, ◌<◌, ◌^◌, ℕ, Bool, true, false, List, [], ◌∷◌, Some, None}
use Rattle.lock_table.specs.Put.{set_at}
use Rattle.lw_word.specs.LightweightWord.{IsHeldByNobody, IsListLocked}
use Rattle.lock_world.specs.declared.events.Event.{Event}
use Rattle.lock_world.specs.World.{World, Numbers, MakesSteps, opening}
use Rattle.lock_world.specs.WaitLists.{lock_word}
use Rattle.lock_world.specs.Happens.{Happens}
use Rattle.lw_word.specs.WaitList.{stands_in}
use Rattle.lock_world.specs.Wakes.Waking.{HasLock, NoneOr, Owes, IsAsleep, IsInvolved}
use Rattle.lock_world.specs.Wakes.Calling.{Calls, IsParked, ShowsWaiting, ShowsUntold, looking, calling, wait_calls_after, sleep_calls_after, no_calls}
use Rattle.lock_world.specs.Wakes.Owing.{Duties, waking, no_duties, duties_after, after_attempt, after_looking, HasNothingToDo, MaySleep, Asks, AsksInOrder}

-- No sleeper is forgotten, no call is lost, and no circle of sleepers comes: of every run whose steps keep to
-- what their sessions have to do for those who wait. What they have to do is kept beside the World, and
-- changes with each step.

-- What stands beside the World: duties for those who wait for lightweight locks, calls on wait words and on
-- sleep words, and who parks on which by its last turn.
pub record Beside : Type 0 where
  pub duties : Duties
  pub waits : Calls
  pub sleeps : Calls
  pub waiting : ℕ → Bool
  pub asleep : ℕ → Bool

-- beside the opening World: no duty and no call
abbrev pub nothing_beside : Beside
nothing_beside = record { duties = no_duties; waits = no_calls; sleeps = no_calls; waiting = λ _. false; asleep = λ _. false }

-- A turn of a run: an event of the World; a look at a word, which tells its session that another has the list
-- or the lock; a call; or a look at the session's own word, wait word or sleep word, right before it parks on
-- what that showed.
pub data Turn : Type 0 where
  happened : (event : Event) → Turn
  saw_list_locked : (session lock : ℕ) → Turn
  saw_held : (session lock : ℕ) → Turn
  called_waiter : (session other : ℕ) → Turn
  called_sleeper : (session other : ℕ) → Turn
  parks_waiting : (session shown : ℕ) → Turn
  parks_asleep : (session shown : ℕ) → Turn

-- The turn is lawful in the World w and keeps to what its session has to do, and v is the World after it.
abbrev pub Keeps : World → Beside → Turn → World → Type 0
Keeps w b (happened event) v = Happens w event v × Asks w b.duties b.waits b.sleeps event.session event.step
Keeps w b (saw_list_locked session lock) v =
    IsListLocked (lock_word w.words.partition w.words.fast lock) × NoneOr (b.duties.due session) lock × (v ≡ w)
Keeps w b (saw_held session lock) v =
    (IsHeldByNobody (lock_word w.words.partition w.words.fast lock) → ⊥) × NoneOr (b.duties.tries session) lock × (v ≡ w)
Keeps w b (called_waiter session other) v = v ≡ w
Keeps w b (called_sleeper session other) v = v ≡ w
Keeps w b (parks_waiting session shown) v =
    (shown ≡ w.words.wait session) × HasNothingToDo w b.duties b.waits b.sleeps session × (v ≡ w)
Keeps w b (parks_asleep session shown) v =
    (shown ≡ w.words.sleep session) × MaySleep w b.duties b.waits b.sleeps session × (v ≡ w)

-- The turn keeps to the order of lightweight locks as well.
abbrev pub IsInOrder : World → Turn → Type 0
IsInOrder w (happened event) = AsksInOrder w event.session event.step
IsInOrder w turn = Unit {0}

-- The turn keeps to what its session has to do, and to the order of lightweight locks.
abbrev pub KeepsInOrder : World → Beside → Turn → World → Type 0
KeepsInOrder w b turn v = Keeps w b turn v × IsInOrder w turn

-- The session makes a turn: it parks on no word.
abbrev pub unparked : Beside → ℕ → Beside
unparked b session = record b { waiting = set_at b.waiting session false; asleep = set_at b.asleep session false }

-- what a turn makes of what stands beside the World, but for who parks
abbrev pub after_turn : World → Beside → Turn → Beside
after_turn w b (happened event) = record b {
  duties = duties_after w b.duties event.session event.step;
  waits = wait_calls_after w b.waits event.session event.step;
  sleeps = sleep_calls_after b.sleeps event.session event.step;
}
after_turn w b (saw_list_locked session lock) = record b { duties = after_looking b.duties session }
after_turn w b (saw_held session lock) = record b { duties = after_attempt b.duties session }
after_turn w b (called_waiter session other) = record b { waits = calling w.words.wait b.waits session other }
after_turn w b (called_sleeper session other) = record b { sleeps = calling w.words.sleep b.sleeps session other }
after_turn w b (parks_waiting session shown) = record b { waits = looking b.waits session shown; waiting = set_at b.waiting session true }
after_turn w b (parks_asleep session shown) = record b { sleeps = looking b.sleeps session shown; asleep = set_at b.asleep session true }

-- whose turn it is
abbrev pub session_of : Turn → ℕ
session_of (happened event) = event.session
session_of (saw_list_locked session lock) = session
session_of (saw_held session lock) = session
session_of (called_waiter session other) = session
session_of (called_sleeper session other) = session
session_of (parks_waiting session shown) = session
session_of (parks_asleep session shown) = session

-- what stands beside the next World
abbrev pub beside_after : World → Beside → Turn → Beside
beside_after w b turn = after_turn w (unparked b (session_of turn)) turn

-- The turns lead from the World w, with b beside it, to v with d, each turn being one of these.
abbrev pub RunsBy : (World → Beside → Turn → World → Type 0) → World → Beside → List Turn → World → Beside → Type 0
RunsBy each w b [] v d = (v ≡ w) × (d ≡ b)
RunsBy each w b (turn ∷ turns) v d = (u : World) × each w b turn u × RunsBy each u (beside_after w b turn) turns v d

-- A run from the opening World, of `limit` sessions with `groups` groups of slots, whose turns keep to what
-- their sessions have to do.
abbrev pub RunKeeps : ℕ → ℕ → List Turn → World → Beside → Type 0
RunKeeps limit groups turns v d = (limit < 2 ^ 24) × RunsBy Keeps (opening limit groups) nothing_beside turns v d

-- A run from the opening World whose turns keep to what their sessions have to do, and take lightweight locks
-- in their order.
abbrev pub RunKeepsInOrder : ℕ → ℕ → List Turn → World → Beside → Type 0
RunKeepsInOrder limit groups turns v d = (limit < 2 ^ 24) × RunsBy KeepsInOrder (opening limit groups) nothing_beside turns v d

-- A number makes no step where it is not live, or its session is kept apart.
abbrev pub MakesNoStep : Numbers → ℕ → Type 0
MakesNoStep numbers session = (numbers.live session ≡ false) ⊎ ((joiner : ℕ) × (numbers.kept_by session ≡ Some joiner))

-- Only sessions that make steps have a lightweight lock, or something to do.
abbrev pub OnlyLiveOwe : World → Beside → Type 0
OnlyLiveOwe w b =
    (session : ℕ) → MakesNoStep w.numbers session → HasNothingToDo w b.duties b.waits b.sleeps session

-- A sleeper stands in its list, and a session that makes steps has that lock or something to do for it; or
-- the sleeper was taken off, and a session that makes steps has it to tell.
abbrev pub IsLookedAfter : World → Beside → ℕ → ℕ → Type 0
IsLookedAfter w b session lock =
    ((stands_in session (w.words.list lock) ≡ true)
    × ((other : ℕ) × Owes (waking w b.duties) lock other × MakesSteps w.numbers other))
    ⊎ ((other : ℕ) × (w.sessions.off other session ≡ true) × MakesSteps w.numbers other)

-- The session is parked on its wait word, which showed this, or on its sleep word.
abbrev pub IsParkedWaiting : Beside → ℕ → ℕ → Type 0
IsParkedWaiting b session shown = IsParked ShowsWaiting b.waits b.waiting session shown

abbrev pub IsParkedAsleep : Beside → ℕ → ℕ → Type 0
IsParkedAsleep b session shown = IsParked ShowsUntold b.sleeps b.asleep session shown

-- The session is parked, on one of its two words.
abbrev pub IsParkedOnAWord : Beside → ℕ → Type 0
IsParkedOnAWord b session = ((shown : ℕ) × IsParkedWaiting b session shown) ⊎ ((shown : ℕ) × IsParkedAsleep b session shown)

-- A session that is parked on what its word does not show any more is owed a call, by a session that makes
-- steps and is not parked itself, on neither of its words.
abbrev pub NoCallIsLost : World → Beside → (ℕ → ℕ → Type 0) → (ℕ → ℕ) → Calls → Type 0
NoCallIsLost w b IsParkedSo word c =
    (session shown : ℕ) → IsParkedSo session shown → word session ≢ shown
    → (other : ℕ) × (c.owed other session ≡ true) × MakesSteps w.numbers other × (IsParkedOnAWord b other → ⊥)

-- Whoever is parked has nothing left to do that another session may wait for: on its wait word it has no
-- lightweight lock either, on its sleep word it stands in the list of a lock.
pub record ParkedHaveNothingToDo (w : World) (b : Beside) : Type 0 where
  pub waiting : (session shown : ℕ) → IsParkedWaiting b session shown → HasNothingToDo w b.duties b.waits b.sleeps session
  pub asleep : (session shown : ℕ) → IsParkedAsleep b session shown → MaySleep w b.duties b.waits b.sleeps session

-- The session has a lightweight lock or something to do for one, somebody to tell, or a call to make.
pub data HasSomethingToDo (w : World) (b : Beside) (session : ℕ) : Type 0 where
  is_involved : IsInvolved (waking w b.duties) session → HasSomethingToDo w b session
  calls_waiter : (other : ℕ) → b.waits.owed session other ≡ true → HasSomethingToDo w b session
  calls_sleeper : (other : ℕ) → b.sleeps.owed session other ≡ true → HasSomethingToDo w b session

-- Not all who have something to do are parked, on either word, where there are any, or where anybody is
-- parked for a lightweight lock: no circle of sleepers, and each chain of waiting ends at one that runs.
abbrev pub NotAllSleep : World → Beside → Type 0
NotAllSleep w b =
    ((session : ℕ) → HasSomethingToDo w b session → IsParkedOnAWord b session)
    → (session : ℕ) → HasSomethingToDo w b session ⊎ ((shown : ℕ) × IsParkedAsleep b session shown) → ⊥

-- A run that keeps to all of this, in which a session falls asleep for a lightweight lock, and one that goes
-- on from there until the session has it. So what is asked of a run can be met.
pub record SleepAndWakeup : Type 0 where
  pub limit : ℕ
  pub groups : ℕ
  pub session : ℕ
  pub lock : ℕ
  pub to_sleep : List Turn
  pub asleep : World
  pub beside : Beside
  pub falls_asleep : RunKeepsInOrder limit groups to_sleep asleep beside
  pub sleeps : IsAsleep (waking asleep beside.duties) session lock
  pub parked : IsParkedAsleep beside session 1
  pub to_wake : List Turn
  pub awake : World
  pub beside_awake : Beside
  pub wakes_up : RunsBy KeepsInOrder asleep beside to_wake awake beside_awake
  pub has_it : HasLock (waking awake beside_awake.duties) session lock
