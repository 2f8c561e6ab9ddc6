use Rattle.std.specs.Prelude.{◌≡◌, ℕ, ◌∷◌, List, Option, None}
use Rattle.atomic_table.specs.declared.shared.Seat.{Seat}
use Rattle.atomic_table.specs.Seated.{TableId}
use Rattle.atomic_table.specs.Table.{rest}
use Rattle.lock_table.specs.declared.request.Request.{Request}
use Rattle.lock_table.specs.declared.moves.Move.{Move}
use Rattle.lock_table.specs.Content.{Content}
use Rattle.lw_word.specs.declared.words.LwMode.{LwMode}
use Rattle.lw_word.specs.LockState.{state_of, put_in}
use Rattle.lock_world.specs.Account.{Account, InHand}
use Rattle.lock_world.specs.AccountSteps.{account_putting}
use Rattle.shared_rule.specs.declared.history.Mark.{Mark}
use Rattle.shared_rule.specs.declared.history.PlacedView.{PlacedView}
use Rattle.shared_rule.specs.declared.rule.TableSizes.{TableSizes}
use Rattle.shared_rule.specs.declared.kept.Kept.{Kept}
use Rattle.shared_rule.specs.declared.kept.Kept.TheVariants.{Nothing}
use Rattle.shared_rule.specs.declared.lw_locks.LwLock.{LwLock}
use Rattle.shared_rule.specs.declared.lw_locks.LwLock.TheVariants.{OfPart, OfSlots}
use Rattle.shared_rule.specs.History.{taken_of}
use Rattle.shared_rule.specs.Layout.{content_shelf_of}
use Rattle.shared_rule.specs.Lawful.{MayPutPart}
use Rattle.shared_rule.specs.Led.{Led, LedTo}
use Rattle.shared_rule.specs.LwLocks.{lock_number, LockExists, no_lists}
use Rattle.shared_rule.specs.Marks.{PutPart}
use Rattle.shared_rule.specs.Plays.{side_of, account_at, number_at, todo_at, FitsTable, HasSession}
use Rattle.shared_rule.specs.Todos.{nothing_to_do, todo_putting}

-- What a release of a lightweight lock leads to: the members of the lock's trait (`Held` of lw_lock).

-- Of a lock of a table of these sizes:
module _ {T : Type 0} (content : T → Content) (sizes : TableSizes) (table : TableId) (lock : LwLock) where
  -- A session may put it, as far as that is the same for all locks.
  pub record MayPut (seat : Seat (Kept T) (PlacedView T)) : Type 0 where
    pub fits : FitsTable seat sizes table
    pub exists : LockExists sizes.sessions lock
    pub session : HasSession (side_of seat).0
    pub idle : (account_at content seat).lists ≡ no_lists
    pub todo : todo_at seat ≡ nothing_to_do

  -- The session has put the lock, which it had in this mode, and whose word showed a number then. Since then
  -- its account is `a`, and `shelves` are those of what it has in hand. All that it may have to do is to look
  -- at the lock's list.
  pub record HasPut (mode : LwMode) (before after : Seat (Kept T) (PlacedView T)) (a : Account) (shelves : List (ℕ × Kept T)) : Type 0 where
    pub found : ℕ
    pub led : LedTo content before after a (todo_putting (todo_at before) (lock_number lock) (put_in mode (state_of found)))
    pub in_hand : (side_of after).1 ≡ shelves
    pub may : MayPut before
    pub lists : a.lists ≡ (account_at content before).lists

-- The session has put a lock, and has done what there was to do for those who wait.
pub record HasReleased {T : Type 0} (content : T → Content) (before after : Seat (Kept T) (PlacedView T)) (a : Account)
    (shelves : List (ℕ × Kept T)) : Type 0 where
  pub led : Led content before after a
  pub in_hand : (side_of after).1 ≡ shelves

-- A partition goes home with its content, after this move.
module _ {T : Type 0} (content : T → Content) (part : ℕ) (done : Move) where
  -- the account since
  abbrev pub account_put : Seat (Kept T) (PlacedView T) → T → Account
  account_put before taken =
      account_putting (account_at content before) part (taken_of ((account_at content before).hand part)) (content taken) done

  -- The partition may go home, under this mark.
  pub record MayPutPartition (begun : T → Option Request) (sizes : TableSizes) (table : TableId) (mark : ℕ → Mark T)
      (seat : Seat (Kept T) (PlacedView T)) (taken : T) : Type 0 where
    pub may : MayPut content sizes table (OfPart part) seat
    pub in_hand : (side_of seat).1 ≡ (content_shelf_of part, Nothing) ∷ rest (side_of seat).1
    pub none_begun : begun taken ≡ None
    pub lawful : (mine : InHand) × MayPutPart sizes.sessions (number_at seat) (account_at content seat) part mine done (content taken)
    pub mark_is : mark ≡ PutPart part done taken

-- The lock of a session's slots is put, under this mark, where this is so of the account.
pub record MayPutSlots {T : Type 0} (content : T → Content) (sizes : TableSizes) (table : TableId) (owner : ℕ)
    (may_by : Account → Type 0) (mark its : ℕ → Mark T) (seat : Seat (Kept T) (PlacedView T)) : Type 0 where
  pub may : MayPut content sizes table (OfSlots owner) seat
  pub lawful : may_by (account_at content seat)
  pub mark_is : mark ≡ its
