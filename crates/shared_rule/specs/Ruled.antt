use Rattle.std.specs.Prelude.{◌≡◌, ◌≢◌, ℕ, ◌+◌, ◌*◌, ◌<◌, ◌≤◌, ◌==◌, Bool, true, false, List, [], ◌∷◌, ◌++◌, length, slice_get, count_by, Option, Some, None}
use mathlib.Core.Option.{some}
use mathlib.Core.Option as maybe
use lib.ListN.{get_elem?}
use Rattle.atomic_table.specs.Table.{State}
use Rattle.std.specs.Global.{Box}
use Rattle.lw_word.specs.declared.wait_lists.LwWaiter.{LwWaiter}
use Rattle.lw_word.specs.WaitList.{Waiting}
use Rattle.lock_table.specs.declared.request.Request.{Request}
use Rattle.lock_table.specs.Content.{Content}
use Rattle.lock_world.specs.declared.events.Event.{Event}
use Rattle.lock_world.specs.declared.events.Step.TheVariants.{JoinSeat}
use Rattle.lock_world.specs.World.{World, Words, Contents, Hand, Numbers, opening}
use Rattle.lock_world.specs.Counted.{Counted}
use Rattle.lock_world.specs.SafeWorld.{SafeWorld}
use Rattle.lock_table.specs.Total.{how_many}
use Rattle.lock_world.specs.SlotHolds.{group_size, most_groups}
use Rattle.lock_world.specs.Account.{account}
use Rattle.lock_world.specs.Happens.Counters.{most_counted}
use Rattle.shared_rule.specs.declared.rule.TableSizes.{TableSizes}
use Rattle.shared_rule.specs.declared.history.History.{History}
use Rattle.shared_rule.specs.declared.history.View.{View}
use Rattle.shared_rule.specs.declared.kept.Kept.{Kept}
use Rattle.shared_rule.specs.declared.kept.Kept.TheVariants as kept
use Rattle.shared_rule.specs.Layout.{content_shelf_of, list_shelf_of, lock_count}
use Rattle.shared_rule.specs.Shown.{WordsAreShown}
use Rattle.shared_rule.specs.History.{blank_account, is_among, told, keeper}
use Rattle.shared_rule.specs.Tells.{AreTold, AreTurnsTold, Leads, steps_of, events_of, turns_of}
use Rattle.shared_rule.specs.Todos.{Todo, nothing_to_do, without_lost, todo_told_by, flagged_told_by}
use Rattle.lock_world.specs.Wakes.{Beside, Turn, RunKeepsInOrder}
use Rattle.lock_world.specs.Wakes.Owing.{Duties}
use Rattle.shared_rule.specs.Owed.{owed_told}
use Rattle.modes_core.specs.Sessions.{most_sessions}

-- The rule of the table: there is a World which its words, its contents at home and the histories of all
-- sessions show, to which a list of events leads from the World before the first step, and which is safe.

-- A session has the slots of this number of groups: each slot beyond them shows 0.
abbrev pub NoneBeyondSlots : ℕ → Words → Type 0
NoneBeyondSlots groups words = (session slot : ℕ) → group_size * groups ≤ slot → words.slot session slot ≡ 0

-- What the shelves of contents show.
module _ {T : Type 0} (content : T → Content) (begun : T → Option Request) where
  -- A partition that is in nobody's hand has its content at home, and no request is begun in it.
  pub record IsAtHome (now : Content) (there : maybe.Option (maybe.Option (Kept T))) : Type 0 where
    pub part : T
    pub at_home : there ≡ some (some (kept.Part part))
    pub is_content : content part ≡ now
    pub none_begun : begun part ≡ None

  -- The partition has its content at home, unless a session has it in hand.
  abbrev pub IsHomeUnlessInHand : Option Hand → Content → maybe.Option (maybe.Option (Kept T)) → Type 0
  IsHomeUnlessInHand None now there = IsAtHome now there
  IsHomeUnlessInHand (Some hand) now there = Unit {0}

  -- Each partition has its content at home, unless a session has it in hand.
  abbrev pub ContentsAreHome : List (maybe.Option (Kept T)) → Contents → Type 0
  ContentsAreHome homes contents =
      (p : ℕ) → p < 16 → IsHomeUnlessInHand (contents.hand p) (contents.now p) (get_elem? homes (content_shelf_of p))

-- No session has the wait list of this lock in hand.
abbrev pub IsInNoHand : ℕ → (ℕ → Option ℕ) → Type 0
IsInNoHand lock has_list = (session : ℕ) → has_list session ≢ Some lock

module _ {T : Type 0} where
  -- Where nobody has it in hand, the list of a lock is at home, with those who wait for it and with room for
  -- this number of sessions.
  pub record ListIsAtHome (sessions : ℕ) (waiters : List LwWaiter) (there : maybe.Option (maybe.Option (Kept T))) : Type 0 where
    pub list : Box Waiting
    pub at_home : there ≡ some (some (kept.List list))
    pub is_list : list.value.waiters ≡ waiters
    pub has_room : list.value.room ≡ sessions

  -- Where nobody has it in hand, the list of each lock is at home, with those who wait for it and with room
  -- for this number of sessions.
  abbrev pub ListsAreHome : ℕ → List (maybe.Option (Kept T)) → (ℕ → Option ℕ) → (ℕ → List LwWaiter) → Type 0
  ListsAreHome sessions homes has_list list =
      (lock : ℕ) → lock < lock_count sessions → IsInNoHand lock has_list
      → ListIsAtHome sessions (list lock) (get_elem? homes (list_shelf_of lock))

-- The session of this number was opened, and has closed: the number was given out and is live no more.
abbrev pub IsClosed : Numbers → ℕ → Type 0
IsClosed numbers number = (number < numbers.issued) × (numbers.live number ≡ false)

module _ {T : Type 0} where
  -- Each closed session has one history among these, and with those that are live they are all that were
  -- given out.
  pub record ClosedAreCounted (numbers : Numbers) (closed : List (History T)) : Type 0 where
    pub once : (number : ℕ) → count_by (λ history. history.number == number) closed ≤ 1
    pub all : how_many numbers.issued numbers.live + length closed ≡ numbers.issued

  -- The closed sessions are counted so among those that the opener's view has as closed, the one view that
  -- knows the next number.
  abbrev pub OpenerHasClosed : List (View T) → Numbers → Type 0
  OpenerHasClosed views numbers =
      (seat : ℕ) (view : View T) (number : ℕ) → get_elem? views seat ≡ some view → view.next ≡ Some number
      → ClosedAreCounted numbers view.closed

-- Where histories stand in the views of the seats.
module _ {T : Type 0} where
  -- The history stands among these of one seat's view.
  pub record StandsAmong (these : View T → List (History T)) (views : List (View T)) (history : History T) : Type 0 where
    pub seat : ℕ
    pub place : ℕ
    pub view : View T
    pub there : get_elem? views seat ≡ some view
    pub stands : slice_get (these view) place ≡ Some history

  -- The history stands among those of the sessions that a seat is for.
  abbrev pub StandsAtSeat : List (View T) → History T → Type 0
  StandsAtSeat views history = StandsAmong (λ view. view.sessions) views history

  -- The history stands among those of the sessions that have closed.
  abbrev pub StandsClosed : List (View T) → History T → Type 0
  StandsClosed views history = StandsAmong (λ view. view.closed) views history

  -- The session of this number has a history at a seat.
  pub record HasSeat (views : List (View T)) (number : ℕ) : Type 0 where
    pub history : History T
    pub number_ : history.number ≡ number
    pub stands : StandsAtSeat views history

  -- The session of this number has closed, and has its history still.
  pub record HasClosedHistory (views : List (View T)) (number : ℕ) : Type 0 where
    pub history : History T
    pub number_ : history.number ≡ number
    pub stands : StandsClosed views history

  -- Nobody but the session of this number has made a step, of those that seats are for and those that have
  -- closed.
  pub record NobodyElse (views : List (View T)) (number : ℕ) : Type 0 where
    pub at_seat : (history : History T) → StandsAtSeat views history → history.number ≢ number → history.marks ≡ []
    pub closed : (history : History T) → StandsClosed views history → history.number ≢ number → history.marks ≡ []

  -- One seat is the opener's, which knows the next number.
  pub record HasOpener (views : List (View T)) (issued : ℕ) : Type 0 where
    pub seat : ℕ
    pub view : View T
    pub there : get_elem? views seat ≡ some view
    pub next : view.next ≡ Some issued

  -- Of the session of each number, those that seats are for and those that have closed, the steps among the
  -- events are those that its history tells, and no other; a number not given out has made none. Each live
  -- session has its seat, and the opener has its own.
  pub record StepsAreTold (views : List (View T)) (numbers : Numbers) (events : List Event) : Type 0 where
    pub opener : HasOpener views numbers.issued
    pub live : (number : ℕ) → numbers.live number ≡ true → HasSeat views number
    pub at_seat :
        (history : History T) → StandsAtSeat views history
        → AreTold history.number history.marks (steps_of history.number events)
    pub closed :
        (history : History T) → StandsClosed views history
        → AreTold history.number history.marks (steps_of history.number events)
    pub none : (number : ℕ) → numbers.issued ≤ number → steps_of number events ≡ []

-- What the views of the seats show.
module _ {T : Type 0} (content : T → Content) where
  -- What the history of a closed session tells was so as it closed: the events before that lead to a World
  -- with just its account, and those from then on to the World now.
  pub record HasClosedSo (first now : World) (events : List Event) (history : History T) : Type 0 where
    pub before : List Event
    pub after : List Event
    pub all : events ≡ before ++ record { session = history.number; step = JoinSeat None } ∷ after
    pub world : World
    pub run : Leads first before world
    pub rest : Leads world (record { session = history.number; step = JoinSeat None } ∷ after) now
    pub account : told content history.number history.marks ≡ account world history.number

  -- A history tells the account of its session, which is live, stands in no other view and not twice in this
  -- one, and makes steps of its own if it is the first there.
  pub record HistoryIsShown (w : World) (seat_of place_in : ℕ → ℕ) (its_seat its_place : ℕ)
      (sessions : List (History T)) (history : History T) : Type 0 where
    pub account : told content history.number history.marks ≡ account w history.number
    pub live : w.numbers.live history.number ≡ true
    pub kept_by : w.numbers.kept_by history.number ≡ keeper sessions its_place
    pub seat : seat_of history.number ≡ its_seat
    pub place : place_in history.number ≡ its_place

  -- A session that is kept apart stands behind its keeper.
  pub record IsBehind (views : List (View T)) (seat_of place_in : ℕ → ℕ) (session joiner : ℕ) : Type 0 where
    pub view : View T
    pub there : get_elem? views (seat_of joiner) ≡ some view
    pub same_seat : seat_of session ≡ seat_of joiner
    pub history : History T
    pub stands : slice_get view.sessions (place_in session) ≡ Some history
    pub whose : history.number ≡ session
    pub behind : place_in joiner < place_in session

  -- The seats show the World's sessions: who is open, who is kept apart by whom, who has closed, and which
  -- number comes next.
  pub record SeatsAreShown (views : List (View T)) (w : World) : Type 0 where
    -- in which seat's view each session's history stands, and at which place
    pub seat_of : ℕ → ℕ
    pub place_in : ℕ → ℕ
    pub history :
        (seat place : ℕ) (view : View T) (history : History T) → get_elem? views seat ≡ some view
        → slice_get view.sessions place ≡ Some history
        → HistoryIsShown w seat_of place_in seat place view.sessions history
    pub behind :
        (session joiner : ℕ) → w.numbers.kept_by session ≡ Some joiner
        → IsBehind views seat_of place_in session joiner
    -- one seat is the opener's, and knows the next number
    pub opener : ℕ
    pub next :
        (seat : ℕ) (view : View T) (number : ℕ) → get_elem? views seat ≡ some view → view.next ≡ Some number
        → (seat ≡ opener) × (number ≡ w.numbers.issued)
    -- whom a view has as closed is
    pub closed :
        (seat place : ℕ) (view : View T) (history : History T) → get_elem? views seat ≡ some view
        → slice_get view.closed place ≡ Some history → IsClosed w.numbers history.number
    -- a number not yet given out has an account with nothing in it
    pub not_issued : (number : ℕ) → w.numbers.issued ≤ number → account w number ≡ blank_account

-- what one session has to do for those who wait for lightweight locks, by the duties of all and by the
-- sessions that it has to call, lost attempts aside
abbrev pub todo_with : Duties → (ℕ → Bool) → ℕ → Todo
todo_with duties calls number = record {
  due = duties.due number;
  tries = duties.tries number;
  owes_release_ok = duties.owes_release_ok number;
  calls = calls;
  lost = 0;
}

-- what one session has to do for those who wait for lightweight locks, of what all have
abbrev pub todo_of : Beside → ℕ → Todo
todo_of beside number = todo_with beside.duties (beside.sleeps.owed number) number

-- Each session that waits for a lock of the table and is owed a call by this session is among those whom this
-- one has to wake.
abbrev pub OwesAsTold : Beside → ℕ → List ℕ → Type 0
OwesAsTold beside number owed = (other : ℕ) → beside.waits.owed number other ≡ true → is_among owed other ≡ true

module _ {T : Type 0} where
  -- Each session's turns, events, looks and calls, are those that its history tells, one for each mark and in
  -- order, and no other; a number not given out has made none.
  pub record TurnsAreTold (views : List (View T)) (numbers : Numbers) (turns : List Turn) : Type 0 where
    pub at_seat :
        (history : History T) → StandsAtSeat views history
        → AreTurnsTold history.number history.marks (turns_of history.number turns)
    pub closed :
        (history : History T) → StandsClosed views history
        → AreTurnsTold history.number history.marks (turns_of history.number turns)
    pub none : (number : ℕ) → numbers.issued ≤ number → turns_of number turns ≡ []

-- No sleeper is forgotten, no call is lost and no circle of sleepers comes: there is a run of turns that
-- leads from the World before the first step to this one, and keeps to what is owed and to the order of
-- lightweight locks. Its events are those of the rule, and each session's turns are those that its history
-- tells. What stands beside the World then is what the histories at the seats tell: what each session has to
-- do for those who wait for lightweight locks, and whom it has to wake.
pub record WakesAreKept {T : Type 0} (sizes : TableSizes) (views : List (View T)) (events : List Event) (w : World) : Type 0 where
  pub turns : List Turn
  pub beside : Beside
  pub run : RunKeepsInOrder sizes.sessions sizes.groups turns w beside
  pub events_ : events_of turns ≡ events
  pub told : TurnsAreTold views w.numbers turns
  pub todo :
      (history : History T) → StandsAtSeat views history
      → without_lost (todo_told_by history.number history.marks) ≡ todo_of beside history.number
  pub flagged :
      (history : History T) → StandsAtSeat views history → flagged_told_by history.marks ≡ beside.duties.flagged history.number
  pub owed : (history : History T) → StandsAtSeat views history → OwesAsTold beside history.number (owed_told history.marks)
  pub none_todo : (number : ℕ) → w.numbers.issued ≤ number → nothing_to_do ≡ todo_of beside number
  pub none_flagged : (number : ℕ) → w.numbers.issued ≤ number → false ≡ beside.duties.flagged number
  pub none_owed : (number : ℕ) → w.numbers.issued ≤ number → OwesAsTold beside number []

-- The rule, by the content that a keeper stands for and the request that is begun in it.
module _ {T : Type 0} (content : T → Content) (begun : T → Option Request) where
  -- What the words of a table of these sizes and its shelves show: these words, contents and wait lists,
  -- within the table's bounds.
  pub record IsShown (sizes : TableSizes) (table : List ℕ) (homes : List (maybe.Option (Kept T)))
      (words : Words) (contents : Contents) (counted : ℕ → List Counted) (has_list : ℕ → Option ℕ) : Type 0 where
    pub few : sizes.sessions ≤ most_sessions
    pub some_groups : 0 < sizes.groups
    pub few_groups : sizes.groups ≤ most_groups
    pub of_words : WordsAreShown sizes table words
    pub none_beyond : NoneBeyondSlots sizes.groups words
    pub few_counted : (session : ℕ) → length (counted session) ≤ most_counted
    pub of_contents : ContentsAreHome content begun homes contents
    pub of_lists : ListsAreHome sizes.sessions homes has_list words.list

  -- The rule of the table: its words, its contents and all histories show a World that is safe.
  pub record Ruled (sizes : TableSizes) (state : State (Kept T) (View T)) : Type 0 where
    pub world : World
    -- each step is its event: these lead here from the World before the first step,
    pub events : List Event
    pub run : Leads (opening sizes.sessions sizes.groups) events world
    -- and are the steps that the histories tell
    pub steps : StepsAreTold state.views world.numbers events
    pub closed_so :
        (history : History T) → StandsClosed state.views history
        → HasClosedSo content (opening sizes.sessions sizes.groups) world events history
    pub safe : SafeWorld world
    pub is_limit : world.numbers.limit ≡ sizes.sessions
    pub are_groups : world.numbers.groups ≡ sizes.groups
    pub shown : IsShown sizes state.words state.homes world.words world.contents world.sessions.counted world.sessions.has_list
    pub seats : SeatsAreShown content state.views world
    pub closed : OpenerHasClosed state.views world.numbers
    pub wakes : WakesAreKept sizes state.views events world
