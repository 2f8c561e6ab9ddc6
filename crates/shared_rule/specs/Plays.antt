use Rattle.std.specs.Prelude.{◌≡◌, ◌≢◌, ℕ, ◌<◌, ◌/◌, ◌%◌, ◌^◌, Bool, true, List, ◌∷◌, Option, Some, None}
use Rattle.atomic_table.specs.Table.{Me, Step, rest}
use Rattle.atomic_table.specs.Seated.{TableId}
use Rattle.std.specs.Global.{Box}
use Rattle.lw_word.specs.WaitList.{Waiting, stands_in}
use Rattle.lw_word.specs.declared.words.LwMode.{LwMode}
use Rattle.lock_table.specs.declared.request.Request.{Request}
use Rattle.lock_table.specs.Content.{Content}
use Rattle.lock_world.specs.declared.events.Word.{Word}
use Rattle.lock_world.specs.declared.events.Word.TheVariants.{Partition, Fast}
use Rattle.lock_world.specs.Account.{Account}
use Rattle.lock_world.specs.AccountFacts.{KnowsContent, KnowsSlots}
use Rattle.atomic_table.specs.declared.shared.Seat.{Seat}
use Rattle.shared_rule.specs.declared.history.History.{History}
use Rattle.shared_rule.specs.declared.history.Mark.{Mark}
use Rattle.shared_rule.specs.Marks.{TookPart, TookFast, SharedFast, LoadedFast, LockedList, SawListLocked, SawHeld}
use Rattle.shared_rule.specs.declared.history.PlacedView.{PlacedView}
use Rattle.shared_rule.specs.declared.history.View.{View}
use Rattle.shared_rule.specs.declared.kept.Kept.{Kept}
use Rattle.shared_rule.specs.declared.kept.Kept.TheVariants.{Part}
use Rattle.shared_rule.specs.declared.kept.Kept.TheVariants as kept
use Rattle.shared_rule.specs.declared.lw_locks.LwLock.{LwLock}
use Rattle.shared_rule.specs.declared.rule.TableSizes.{TableSizes}
use Rattle.shared_rule.specs.LwLocks.{word_of_lock, lock_number, LockExists, IsFreeFor}
use Rattle.shared_rule.specs.Layout.{index_of_word, content_shelf_of, list_shelf_of, IsSized}
use Rattle.shared_rule.specs.History.{noting, first_account, first_number, slots_shown}
use Rattle.shared_rule.specs.Quiet.{Quiet, first_quiet}
use Rattle.shared_rule.specs.Owed.{first_owed}
use Rattle.shared_rule.specs.Todos.{Todo, first_todo, first_flagged}
use Rattle.shared_rule.specs.Looks.{word_looked_at}
use Rattle.shared_rule.specs.Waiters.{WaitersExist, WaitsExist}
use Rattle.shared_rule.specs.Slots.{KnowsWord}

-- What each step tells. A session's side of a step: its view, and the contents that it has in hand, each with
-- its shelf.

abbrev pub Side : Type 0 → Type 0
Side T = Me (Kept T) (View T)

module _ {T : Type 0} where
  -- the side of a step, the places of the last steps aside
  abbrev pub side_in : Me (Kept T) (PlacedView T) → Side T
  side_in me = (me.0.view, me.1)

  -- the side of the session that makes its steps with the seat
  abbrev pub side_of : Seat (Kept T) (PlacedView T) → Side T
  side_of seat = side_in seat.me

  -- the number of the session that makes its steps with the seat
  abbrev pub number_at : Seat (Kept T) (PlacedView T) → ℕ
  number_at seat = first_number (side_of seat).0.sessions

  -- the account of the session that makes its steps with the seat
  abbrev pub account_at : (T → Content) → Seat (Kept T) (PlacedView T) → Account
  account_at content seat = first_account content (side_of seat).0.sessions

  -- the quiet steps of the session that makes its steps with the seat
  abbrev pub quiet_at : Seat (Kept T) (PlacedView T) → List Quiet
  quiet_at seat = first_quiet (side_of seat).0.sessions

  -- what the session that makes its steps with the seat has to do for those who wait
  abbrev pub todo_at : Seat (Kept T) (PlacedView T) → Todo
  todo_at seat = first_todo (side_of seat).0.sessions

  -- whether the session that makes its steps with the seat has set has-waiters in the word of the list that
  -- it locked last
  abbrev pub flagged_at : Seat (Kept T) (PlacedView T) → Bool
  flagged_at seat = first_flagged (side_of seat).0.sessions

  -- whom the session that makes its steps with the seat has to wake, of those who wait for a lock of the
  -- table
  abbrev pub owed_at : Seat (Kept T) (PlacedView T) → List ℕ
  owed_at seat = first_owed (side_of seat).0.sessions

  -- the seat is at this table, which is one of these sizes
  pub record FitsTable (seat : Seat (Kept T) (PlacedView T)) (sizes : TableSizes) (table : TableId) : Type 0 where
    pub at : seat.table_id ≡ table
    pub sized : IsSized sizes table

  -- the seat is for a session, which makes its steps with it
  pub record HasSession (view : View T) : Type 0 where
    pub history : History T
    pub others : List (History T)
    pub sessions : view.sessions ≡ history ∷ others

  -- the seat is the same one after a step
  pub record IsSameSeat (before after : Seat (Kept T) (PlacedView T)) : Type 0 where
    pub table_id : after.table_id ≡ before.table_id
    pub id : after.id ≡ before.id

  -- what a step tells of its side says nothing of places
  abbrev pub Unplaced :
      (Step (Kept T) → Side T → ℕ → Side T → Type 0) → Step (Kept T) → Me (Kept T) (PlacedView T) → ℕ
      → Me (Kept T) (PlacedView T) → Type 0
  Unplaced tells step before found after = tells step (side_in before) found (side_in after)

  -- the step of the seat's session was noted, and no content came or went
  abbrev pub Marked : (ℕ → Mark T) → Step (Kept T) → Side T → ℕ → Side T → Type 0
  Marked mark step before found after = after ≡ (noting before.0 (mark found), before.1)

  -- the step of the seat's session was noted, and the content that came last went home
  abbrev pub WentHome : (ℕ → Mark T) → Step (Kept T) → Side T → ℕ → Side T → Type 0
  WentHome mark step before found after = after ≡ (noting before.0 (mark found), rest before.1)

module _ {T : Type 0} (content : T → Content) where
  -- The step of the seat's session was noted, and of the number found the session learns what its account
  -- knows of the word that the mark names.
  abbrev pub Looked : (ℕ → Mark T) → Step (Kept T) → Side T → ℕ → Side T → Type 0
  Looked mark step before found after =
      Marked mark step before found after
      × ((word : Word) → word_looked_at (mark found) ≡ Some word
      → KnowsWord (first_number before.0.sessions) (first_account content before.0.sessions) word found)

  -- What the slots of a session show, of this number of groups, was noted by this mark as the lock of them
  -- came into hand or is shared, and the session knows of it what its account tells.
  pub record SeesSlots (groups : ℕ) (mark : ℕ → ℕ → List ℕ → Mark T) (owner : ℕ) (before after : Side T) : Type 0 where
    pub database : ℕ
    pub words : List ℕ
    pub side : after ≡ (noting before.0 (mark owner database words), before.1)
    pub knows :
        KnowsSlots groups (first_number before.0.sessions) (first_account content before.0.sessions) owner
        (slots_shown database words)

  -- The lock of a session's slots, of this number of groups, came into hand.
  abbrev pub TookSlots : ℕ → ℕ → Side T → Side T → Type 0
  TookSlots groups = SeesSlots groups TookFast

  -- The lock of a session's slots, of this number of groups, is shared.
  abbrev pub SharedSlots : ℕ → ℕ → Side T → Side T → Type 0
  SharedSlots groups = SeesSlots groups SharedFast

  -- An exchange takes or shares the lock of a session's slots where it finds the number that it expects, and
  -- else leaves the view so.
  abbrev pub SeesSlotsOr :
      ℕ → (ℕ → ℕ → List ℕ → Mark T) → (ℕ → View T → View T) → Step (Kept T) → Side T → ℕ → Side T → Type 0
  SeesSlotsOr groups mark lost step before found after =
      (found ≡ step.first → (sessions owner : ℕ) → step.word ≡ index_of_word sessions (Fast owner)
      → SeesSlots groups mark owner before after)
      × (found ≢ step.first → after ≡ (lost found before.0, before.1))

  -- An exchange takes the lock of a session's slots where it finds the number that it expects, and else
  -- leaves the view so.
  abbrev pub TookSlotsOr : ℕ → (ℕ → View T → View T) → Step (Kept T) → Side T → ℕ → Side T → Type 0
  TookSlotsOr groups = SeesSlotsOr groups TookFast

  -- An exchange shares the lock of a session's slots where it finds the number that it expects, and else
  -- leaves the view so.
  abbrev pub SharedSlotsOr : ℕ → (ℕ → View T → View T) → Step (Kept T) → Side T → ℕ → Side T → Type 0
  SharedSlotsOr groups = SeesSlotsOr groups SharedFast

module _ {T : Type 0} (content : T → Content) where
  -- The wait list of a lightweight lock came in hand, and those who stand there were noted. The session is
  -- among them only if its account has that it stands in the list of this lock, there is room for this number
  -- of sessions, and all who stand there have numbers below it.
  pub record TookList (sessions : ℕ) (lock : LwLock) (before after : Side T) : Type 0 where
    pub list : Box Waiting
    pub side :
        after
        ≡ (
          noting before.0 (LockedList (lock_number lock) list.value.waiters),
          (list_shelf_of (lock_number lock), kept.List list) ∷ before.1,
        )
    pub stands :
        stands_in (first_number before.0.sessions) list.value.waiters ≡ true
        → (first_account content before.0.sessions).lists.stands ≡ Some (lock_number lock)
    pub room : list.value.room ≡ sessions
    pub exist : WaitersExist sessions list.value.waiters

  -- A fetch-or of its bit takes the list where it finds that bit not set, and else only sees that another has
  -- it.
  abbrev pub LockedListOr : ℕ → Step (Kept T) → Side T → ℕ → Side T → Type 0
  LockedListOr sessions step before found after =
      (found / 2 ^ 28 % 2 ≡ 0 → (lock : LwLock) → LockExists sessions lock
      → step.word ≡ index_of_word sessions (word_of_lock lock) → TookList sessions lock before after)
      × (found / 2 ^ 28 % 2 ≢ 0 → (lock : LwLock) → LockExists sessions lock
      → step.word ≡ index_of_word sessions (word_of_lock lock)
      → after ≡ (noting before.0 (SawListLocked (lock_number lock)), before.1))

module _ {T : Type 0} where
  -- A load sees that a lightweight lock can't be had in the mode, and that is noted, where it finds somebody
  -- in the way.
  abbrev pub SawHeldOr : LwMode → Step (Kept T) → Side T → ℕ → Side T → Type 0
  SawHeldOr mode step before found after =
      (IsFreeFor mode found → after ≡ before)
      × ((IsFreeFor mode found → ⊥) → (sessions : ℕ) (lock : LwLock) → LockExists sessions lock
      → step.word ≡ index_of_word sessions (word_of_lock lock)
      → after ≡ (noting before.0 (SawHeld (lock_number lock) found), before.1))

  -- A lost exchange is not noted.
  abbrev pub unnoted : ℕ → View T → View T
  unnoted found view = view

  -- A lost exchange is noted as a load of the word of the lock of the session's own slots.
  abbrev pub noted_load : ℕ → View T → View T
  noted_load found view = noting view (LoadedFast found)

module _ {T : Type 0} (content : T → Content) (begun : T → Option Request) where
  -- A partition came into hand with its content, of which the session knows what its account tells, in which
  -- no request is begun, and in which only sessions with numbers below this one wait.
  pub record TookContent (sessions p : ℕ) (before after : Side T) : Type 0 where
    pub part : T
    pub side : after ≡ (noting before.0 (TookPart p part), (content_shelf_of p, Part part) ∷ before.1)
    pub none_begun : begun part ≡ None
    pub knows : KnowsContent (first_number before.0.sessions) (first_account content before.0.sessions) p (content part)
    pub waiters : WaitsExist sessions (content part)

  -- An exchange takes a partition in hand where it finds the number that it expects, and else changes
  -- nothing.
  abbrev pub TookPartition : ℕ → Step (Kept T) → Side T → ℕ → Side T → Type 0
  TookPartition sessions step before found after =
      (found ≡ step.first → (p : ℕ) → p < 16 → step.word ≡ index_of_word sessions (Partition p)
      → TookContent sessions p before after)
      × (found ≢ step.first → after ≡ before)
