use Rattle.std.specs.Prelude.{◌≡◌, ◌≢◌, ◌⊎◌, true, ℕ, List, ◌∷◌, Option, Some, None}
use Rattle.modes_core.specs.Tag.{partition_of}
use Rattle.atomic_table.specs.Table.{State}
use Rattle.lock_table.specs.declared.request.Request.{Request}
use Rattle.lock_table.specs.Content.{Content}
use Rattle.lock_table.specs.OwnWait.{OwnWait}
use Rattle.lock_world.specs.declared.events.Event.{Event}
use Rattle.lock_world.specs.World.{World, MakesSteps, opening}
use Rattle.lock_world.specs.Happens.{Runs}
use Rattle.modes_core.specs.declared.modes.Mode.{Mode}
use Rattle.modes_core.specs.declared.tags.Tag.{Tag}
use Rattle.lock_world.specs.Counted.{counter}
use Rattle.lock_world.specs.Headline.{Headline, RefusalsSawWhatTheyName, NoTwoConflict, IsInOnePlace, Place, StandsAt, stands_with}
use Rattle.lock_world.specs.WaitWord.{wait_state}
use Rattle.lock_world.specs.Wakes.Reasons.{HasReason}
use Rattle.shared_rule.specs.declared.rule.TableSizes.{TableSizes}
use Rattle.shared_rule.specs.declared.history.View.{View}
use Rattle.shared_rule.specs.declared.kept.Kept.{Kept}
use Rattle.shared_rule.specs.Shown.{WordsAreShown}
use Rattle.lock_world.specs.Wakes.{Beside, Turn, RunKeeps, RunKeepsInOrder, IsLookedAfter, OnlyLiveOwe}
use Rattle.lock_world.specs.Wakes.{IsParkedWaiting, IsParkedAsleep, ParkedHaveNothingToDo, NotAllSleep}
use Rattle.lock_world.specs.Wakes.Waking.{NobodyIsForgotten, IsAsleep, OrderIsKept}
use Rattle.lock_world.specs.Wakes.Owing.{waking}
use Rattle.shared_rule.specs.declared.history.History.{History}
use Rattle.shared_rule.specs.Todos.{without_lost, todo_told_by}
use Rattle.shared_rule.specs.Owed.{owed_told}
use Rattle.shared_rule.specs.Looks.{looks_told, looks_of}
use Rattle.shared_rule.specs.History.{is_among}
use Rattle.shared_rule.specs.Ruled.{ContentsAreHome, SeatsAreShown, StandsAtSeat, TurnsAreTold, todo_of}

-- The headline of the table: its words, its contents at home and the histories of all sessions show a World
-- in which no two sessions stand with conflicting modes on one object, each hold is in one place, and each
-- strong lock counter is how much is counted at its index.
pub record ShowsHeadline {T : Type 0} (content : T → Content) (begun : T → Option Request) (sizes : TableSizes)
    (state : State (Kept T) (View T)) : Type 0 where
  pub world : World
  pub words : WordsAreShown sizes state.words world.words
  pub contents : ContentsAreHome content begun state.homes world.contents
  pub seats : SeatsAreShown content state.views world
  pub no_two_conflict : NoTwoConflict world
  pub one_place :
      (session : ℕ) (tag : Tag) (mode : Mode) → stands_with world session tag mode ≡ true
      → IsInOnePlace world session tag mode
  pub nowhere_else :
      (session : ℕ) (tag : Tag) (mode : Mode) (place : Place) → StandsAt world session tag mode place
      → stands_with world session tag mode ≡ true
  pub counters :
      (index : ℕ) → world.words.strong index ≡ counter world.numbers.limit world.sessions.counted index

-- What each refusal saw: the table shows such a World, to which events have led from the opening one.
-- Whatever a conditional request was refused with was so in a World on the way.
pub record ShowsRefusals {T : Type 0} (content : T → Content) (begun : T → Option Request) (sizes : TableSizes)
    (state : State (Kept T) (View T)) : Type 0 where
  pub world : World
  pub events : List Event
  pub run : Runs (opening sizes.sessions sizes.groups) events world
  pub words : WordsAreShown sizes state.words world.words
  pub contents : ContentsAreHome content begun state.homes world.contents
  pub seats : SeatsAreShown content state.views world
  pub headline : Headline world
  pub refusals : RefusalsSawWhatTheyName (opening sizes.sessions sizes.groups ∷ run.0) world

-- Why each session waits that awaits an object: the table shows such a World, and where the object's
-- partition is at home, another session holds the object in a mode that conflicts with the one awaited, or
-- one that waits before it awaits such a mode. Otherwise the wait word shows the grant.
pub record ShowsReasons {T : Type 0} (content : T → Content) (begun : T → Option Request) (sizes : TableSizes)
    (state : State (Kept T) (View T)) : Type 0 where
  pub world : World
  pub words : WordsAreShown sizes state.words world.words
  pub contents : ContentsAreHome content begun state.homes world.contents
  pub seats : SeatsAreShown content state.views world
  pub reasons :
      (session : ℕ) (wait : OwnWait) → world.sessions.awaited session ≡ Some wait → world.contents.hand (partition_of wait.tag) ≡ None
      → HasReason (world.contents.now (partition_of wait.tag)) session wait ⊎ (wait_state (world.words.wait session) ≡ 2)

-- No sleeper is forgotten: the table shows such a World, with what stands beside it as the histories of all
-- sessions tell that have a seat. Where the wait list of a lightweight lock has a waiter, a session has the
-- lock or something to do for it. A session that sleeps stands in its list, and one that makes steps has that
-- lock or something to do for it; or the sleeper was taken off, and one that makes steps has it to tell. A
-- session that makes no step has no lightweight lock, and nothing to do.
pub record ShowsSleepers {T : Type 0} (content : T → Content) (begun : T → Option Request) (sizes : TableSizes)
    (state : State (Kept T) (View T)) : Type 0 where
  pub world : World
  pub words : WordsAreShown sizes state.words world.words
  pub seats : SeatsAreShown content state.views world
  pub beside : Beside
  pub todo :
      (history : History T) → StandsAtSeat state.views history
      → without_lost (todo_told_by history.number history.marks) ≡ todo_of beside history.number
  pub nobody : NobodyIsForgotten (waking world beside.duties)
  pub owed : (session lock : ℕ) → IsAsleep (waking world beside.duties) session lock → IsLookedAfter world beside session lock
  pub only_live : OnlyLiveOwe world beside

-- No circle of sleepers comes: the table shows such a World, with what stands beside it as the histories of
-- all sessions tell that have a seat, and turns of all sessions led there, each session's those that its
-- history tells. Nobody stands in the list of a lightweight lock while it has a later one. Whoever parks, on
-- its wait word or its sleep word, has nothing left to do that others may wait for. So not all are parked who
-- have a lightweight lock, something to do for one, somebody to tell or a call to make, where there are any,
-- or where anybody is parked for a lightweight lock.
pub record ShowsNoCircle {T : Type 0} (content : T → Content) (begun : T → Option Request) (sizes : TableSizes)
    (state : State (Kept T) (View T)) : Type 0 where
  pub world : World
  pub words : WordsAreShown sizes state.words world.words
  pub seats : SeatsAreShown content state.views world
  pub turns : List Turn
  pub beside : Beside
  pub run : RunKeepsInOrder sizes.sessions sizes.groups turns world beside
  pub told : TurnsAreTold state.views world.numbers turns
  pub todo :
      (history : History T) → StandsAtSeat state.views history
      → without_lost (todo_told_by history.number history.marks) ≡ todo_of beside history.number
  pub in_order : OrderIsKept (waking world beside.duties)
  pub parked : ParkedHaveNothingToDo world beside
  pub somebody_runs : NotAllSleep world beside

-- By its history this session has the other to wake, which waits for a lock of the table.
abbrev pub HasToWake : {T : Type 0} → History T → ℕ → Type 0
HasToWake history other = is_among (owed_told history.marks) other ≡ true

-- By its history this session has the other to call, which it took off a wait list.
abbrev pub HasToCall : {T : Type 0} → History T → ℕ → Type 0
HasToCall history other = (todo_told_by history.number history.marks).calls other ≡ true

-- A session that makes steps, and has its history at a seat, owes the other that.
pub record IsOwedBy {T : Type 0} (Has : History T → ℕ → Type 0) (views : List (View T)) (w : World) (other : ℕ) : Type 0 where
  pub history : History T
  pub stands : StandsAtSeat views history
  pub makes : MakesSteps w.numbers history.number
  pub owes : Has history other

-- No call is lost: the table shows such a World, to which turns of all sessions led, events, looks and calls.
-- The turns of each session are those that its history tells, one for each mark and in order. A session parks
-- on its wait word, as it loaded it last by its history, where that shows that it waits, and on its sleep
-- word where that does not show that it was told; a call since then wakes it. For each session that is parked
-- on what its word no more shows there is a session that makes steps and, as its history tells, has that one
-- to wake.
pub record ShowsCalls {T : Type 0} (content : T → Content) (begun : T → Option Request) (sizes : TableSizes)
    (state : State (Kept T) (View T)) : Type 0 where
  pub world : World
  pub words : WordsAreShown sizes state.words world.words
  pub seats : SeatsAreShown content state.views world
  pub turns : List Turn
  pub beside : Beside
  pub run : RunKeeps sizes.sessions sizes.groups turns world beside
  pub told : TurnsAreTold state.views world.numbers turns
  pub looked : (history : History T) → StandsAtSeat state.views history → looks_told history.marks ≡ looks_of beside history.number
  pub waits :
      (session shown : ℕ) → IsParkedWaiting beside session shown → world.words.wait session ≢ shown
      → IsOwedBy HasToWake state.views world session
  pub sleeps :
      (session shown : ℕ) → IsParkedAsleep beside session shown → world.words.sleep session ≢ shown
      → IsOwedBy HasToCall state.views world session
