use Rattle.std.specs.Prelude.{ℕ, zero, suc, Bool, false, ◌||◌, ◌==◌, List, [], ◌∷◌, map, Option, Some, None}
use Rattle.std.specs.Prelude.{slice_index_or}
use Rattle.std.specs.List.{list_any}
use Rattle.modes_core.specs.declared.modes.Mode.{Mode}
use Rattle.modes_core.specs.Tag.{partition_of}
use Rattle.lock_table.specs.declared.moves.Move.{Move}
use Rattle.lock_table.specs.declared.moves.Move.TheVariants.{Keep}
use Rattle.lock_table.specs.Content.{Content, empty_content}
use Rattle.lock_table.specs.OwnWait.{OwnWait}
use Rattle.lock_world.specs.declared.events.Word.TheVariants.{Database, Fast, Slot, Wait}
use Rattle.lock_world.specs.SlotHolds.{slot_holds}
use Rattle.lock_world.specs.WaitWord.{wait_state}
use Rattle.lock_world.specs.World.{Loaded, AskedToCancel}
use Rattle.lock_world.specs.Happens.Waits.{unmarked_but}
use Rattle.lock_world.specs.Account.{Account, InHand, SlotsInHand, ListInHand}
use Rattle.lock_world.specs.AccountSteps.{account_taking, account_putting, account_taking_fast, account_putting_fast}
use Rattle.lock_world.specs.AccountSteps.{account_sharing_fast, account_unsharing_fast}
use Rattle.lock_world.specs.AccountSteps.{account_passing, account_counting, account_uncounting, account_tracing}
use Rattle.lock_world.specs.AccountSteps.{account_waiting, account_marking, account_clearing, account_leaving}
use Rattle.lock_world.specs.AccountSteps.{account_reading, account_setting, account_unsetting, account_transferring}
use Rattle.lock_world.specs.AccountSteps.{account_storing, account_locking_list, account_unlocking_list}
use Rattle.lock_world.specs.AccountSteps.{account_joining_list, account_leaving_list, account_taking_off}
use Rattle.lock_world.specs.AccountSteps.{account_telling, account_loading_sleep}
use Rattle.shared_rule.specs.declared.history.Mark.{Mark}
use Rattle.shared_rule.specs.declared.history.Mark.TheVariants.{TookPart, PutPart, SetWaiting, MarkedGranted, LeftQueue, OfWords}
use Rattle.shared_rule.specs.declared.history.WordMark.{WordMark}
use Rattle.shared_rule.specs.declared.history.WordMark.TheVariants.{TookFast, PutFast, SharedFast, UnsharedFast, Passed}
use Rattle.shared_rule.specs.declared.history.WordMark.TheVariants.{Counted, Uncounted, LoadedWait, Asked, ClearedWait}
use Rattle.shared_rule.specs.declared.history.WordMark.TheVariants.{LoadedDatabase, LoadedSlot, LoadedFast, LoadedStrong, SetSlot}
use Rattle.shared_rule.specs.declared.history.WordMark.TheVariants.{ClearedSlot, TransferredSlot, StoredDatabase, LockedList, UnlockedList}
use Rattle.shared_rule.specs.declared.history.WordMark.TheVariants.{JoinedList, LeftList, TookOff, Told, LoadedSleep}
use Rattle.shared_rule.specs.declared.history.WordMark.TheVariants.{SetReleaseOk, SetHasWaiters, SawListLocked, SawHeld, CalledWaiter, CalledSleeper, ParksWaiting, ParksAsleep}
use Rattle.shared_rule.specs.declared.history.History.{History}
use Rattle.shared_rule.specs.declared.history.View.{View}

-- What a session's history tells: its account.

-- the account of a session that has made no step
abbrev pub blank_account : Account
blank_account = record {
  own = λ _ _. false;
  awaited = None;
  seen = false;
  hand = λ _. None;
  shares = λ _. false;
  fast = record {
    slots = λ _. None;
    shared_slots = λ _. None;
    database = 0;
    remembered = λ _. 0;
    zero = None;
    counted = [];
  };
  lists = record { in_hand = None; stands = None; off = λ _. false };
  trace = [];
}

-- the content as it was taken, of a partition in hand
abbrev pub taken_of : Option InHand → Content
taken_of None = empty_content
taken_of (Some mine) = mine.taken

-- a partition in hand; where there is none, one with nothing in it
abbrev pub in_hand : Option InHand → InHand
in_hand None = record { taken = empty_content; now = empty_content; recorded = None; unmarked = λ _. false }
in_hand (Some mine) = mine

-- whether the session is among these
abbrev pub is_among : List ℕ → ℕ → Bool
is_among sessions session = list_any (λ other. other == session) sessions

-- the sessions of those whom a wakeup tells of
abbrev pub sessions_told : List (ℕ × Mode) → List ℕ
sessions_told woken = map (λ told. told.0) woken

-- what marking a session granted makes of the account: the move is made by the first such step, and stands
-- recorded at each further one
abbrev pub account_granting_by : Option Move → Account → ℕ → InHand → ℕ → Move → List ℕ → Content → Account
account_granting_by None a part mine other done woken now =
    account_marking a part mine now done done (unmarked_but (is_among woken) other)
account_granting_by (Some made) a part mine other done woken now =
    account_marking a part mine mine.now Keep made (unmarked_but mine.unmarked other)

-- what marking a session granted makes of the account, by the move that is recorded of the partition in hand
abbrev pub account_granting : Account → ℕ → InHand → ℕ → Move → List ℕ → Content → Account
account_granting a part mine other done woken now = account_granting_by mine.recorded a part mine other done woken now

-- whether its own wait was granted, as far as the session can tell: it has seen that, or the content in hand
-- has it
abbrev pub is_granted : ℕ → Account → OwnWait → Bool
is_granted number a wait = a.seen || (in_hand (a.hand (partition_of wait.tag))).now.holds number wait.tag wait.mode

-- what clearing its own wait word makes of the account of a session with this wait, if it has one
abbrev pub account_cleared : ℕ → Account → Option OwnWait → Account
account_cleared number a None = a
account_cleared number a (Some wait) = account_clearing a wait (is_granted number a wait)

-- what leaving the queue, by clearing its own wait word, makes of the account of a session with this wait, if
-- it has one
abbrev pub account_left : Account → Option OwnWait → Content → List ℕ → Account
account_left a None now woken = a
account_left a (Some wait) now woken =
    account_leaving a (in_hand (a.hand (partition_of wait.tag))) wait now (is_among woken)

-- the slots of a session that has no lock by the fast path
abbrev pub no_slots : SlotsInHand
no_slots = record { word = λ _. 0; holds = slot_holds 0 (λ _. 0) }

-- slots in hand; where they are not, slots that show nothing
abbrev pub slots_here : Option SlotsInHand → SlotsInHand
slots_here None = no_slots
slots_here (Some slots) = slots

-- the list in hand; where there is none, one in which nobody stands
abbrev pub list_here : Option ListInHand → ListInHand
list_here None = record { lock = 0; waiters = [] }
list_here (Some mine) = mine

-- the slots of a session with this database whose words are these, slot by slot
abbrev pub slots_shown : ℕ → List ℕ → SlotsInHand
slots_shown database words = record {
  word = λ slot. slice_index_or words slot 0;
  holds = slot_holds database (λ slot. slice_index_or words slot 0);
}

-- what a step that tells of no content makes of the account of the session of this number
abbrev pub noted_words : ℕ → Account → WordMark → Account
noted_words number a (TookFast owner database words) = account_taking_fast number a owner (slots_shown database words)
noted_words number a (PutFast owner found) = account_putting_fast number a owner
noted_words number a (SharedFast owner database words) = account_sharing_fast number a owner (slots_shown database words)
noted_words number a (UnsharedFast owner found) = account_unsharing_fast a owner
noted_words number a (Passed owner tag mode found) = account_passing number a owner tag mode
noted_words number a (Counted tag mode) = account_counting a tag mode
noted_words number a (Uncounted tag mode) = account_uncounting a tag mode
noted_words number a (LoadedWait shown) =
    record (account_tracing a (Loaded (Wait number) shown)) { seen = a.seen || (wait_state shown == 2) }
noted_words number a (Asked other before) = account_tracing a (AskedToCancel other before)
noted_words number a ClearedWait = account_cleared number a a.awaited
noted_words number a (LoadedDatabase owner shown) = account_tracing a (Loaded (Database owner) shown)
noted_words number a (LoadedSlot owner slot shown) = account_tracing a (Loaded (Slot owner slot) shown)
noted_words number a (LoadedFast shown) = account_tracing a (Loaded (Fast number) shown)
noted_words number a (LoadedStrong index shown) = account_reading number a index shown
noted_words number a (SetSlot slot tag mode) =
    account_setting number a (slots_here (a.fast.slots number)) slot tag mode
noted_words number a (ClearedSlot slot tag mode) =
    account_unsetting number a (slots_here (a.fast.slots number)) slot tag mode
noted_words number a (TransferredSlot owner slot tag mode) =
    account_transferring a owner slot (slots_here (a.fast.slots owner))
    (in_hand (a.hand (partition_of tag))) tag mode
noted_words number a (StoredDatabase database) = account_storing a database
noted_words number a (LockedList lock waiters) = account_locking_list a lock waiters
noted_words number a UnlockedList = account_unlocking_list a
noted_words number a (JoinedList mode) =
    account_joining_list a (list_here a.lists.in_hand) (record { session = number; mode = mode })
noted_words number a LeftList = account_leaving_list a (list_here a.lists.in_hand) number
noted_words number a (TookOff other) = account_taking_off a (list_here a.lists.in_hand) other
noted_words number a (Told other) = account_telling a other
noted_words number a (LoadedSleep shown) = account_loading_sleep a shown
noted_words number a (SetReleaseOk lock) = a
noted_words number a (SetHasWaiters lock) = a
noted_words number a (SawListLocked lock) = a
noted_words number a (SawHeld lock shown) = a
noted_words number a (CalledWaiter other) = a
noted_words number a (CalledSleeper other) = a
noted_words number a (ParksWaiting shown) = a
noted_words number a (ParksAsleep shown) = a

module _ {T : Type 0} (content : T → Content) where
  -- what a step makes of it
  abbrev pub noted : ℕ → Account → Mark T → Account
  noted number a (TookPart part taken) = account_taking a part (content taken)
  noted number a (PutPart part done put found) = account_putting a part (taken_of (a.hand part)) (content put) done
  noted number a (SetWaiting tag mode now) =
      account_waiting a (in_hand (a.hand (partition_of tag))) tag mode (content now)
      ((in_hand (a.hand (partition_of tag))).now.holds number tag)
  noted number a (MarkedGranted part other done woken now) =
      account_granting a part (in_hand (a.hand part)) other done woken (content now)
  noted number a (LeftQueue woken now) = account_left a a.awaited (content now) woken
  noted number a (OfWords step) = noted_words number a step

  -- the account that these steps tell, the last one first
  abbrev pub told : ℕ → List (Mark T) → Account
  told number [] = blank_account
  told number (mark ∷ marks) = noted number (told number marks) mark

  -- the account of the session that makes its steps with the seat
  abbrev pub first_account : List (History T) → Account
  first_account [] = blank_account
  first_account (history ∷ others) = told history.number history.marks

module _ {T : Type 0} where
  -- the number of the session that makes its steps with the seat
  abbrev pub first_number : List (History T) → ℕ
  first_number [] = 0
  first_number (history ∷ others) = history.number

  -- who keeps the history at this place apart: the first, which goes on by itself
  abbrev pub keeper : List (History T) → ℕ → Option ℕ
  keeper [] place = None
  keeper (history ∷ others) zero = None
  keeper (history ∷ others) (suc place) = Some history.number

  -- the histories with a step of the first
  abbrev pub noting_first : List (History T) → Mark T → List (History T)
  noting_first [] mark = []
  noting_first (history ∷ others) mark = record { number = history.number; marks = mark ∷ history.marks } ∷ others

  -- the view with a step of its session
  abbrev pub noting : View T → Mark T → View T
  noting view mark = record { next = view.next; closed = view.closed; sessions = noting_first view.sessions mark }

  -- the view of the opener's seat before the first session
  abbrev pub opening_view : View T
  opening_view = record { next = Some 0; closed = []; sessions = [] }

  -- the view of the seat of one session, with this number and these steps
  abbrev pub lone : ℕ → List (Mark T) → View T
  lone number marks = record { next = None; closed = []; sessions = record { number = number; marks = marks } ∷ [] }

  -- the view of a seat that was joined to another
  abbrev pub spent_view : View T
  spent_view = record { next = None; closed = []; sessions = [] }
