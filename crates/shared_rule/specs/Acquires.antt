use Rattle.std.specs.Prelude.{◌≡◌, ℕ, ◌∷◌, Option, None}
use Rattle.atomic_table.specs.declared.shared.Seat.{Seat}
use Rattle.lock_table.specs.declared.request.Request.{Request}
use Rattle.lock_table.specs.Content.{Content}
use Rattle.lw_word.specs.declared.words.LwMode.{LwMode}
use Rattle.lw_word.specs.declared.words.LwMode.TheVariants.{Exclusive, Shared}
use Rattle.lock_world.specs.Account.{Account, SlotsInHand}
use Rattle.lock_world.specs.AccountLaw.{MayShareFastBy}
use Rattle.lock_world.specs.Wakes.Waking.{NoneOr}
use Rattle.lock_world.specs.AccountSteps.{account_taking, account_taking_fast, account_sharing_fast}
use Rattle.lock_world.specs.AccountFacts.{KnowsContent, KnowsSlots}
use Rattle.shared_rule.specs.declared.history.PlacedView.{PlacedView}
use Rattle.shared_rule.specs.declared.kept.Kept.{Kept}
use Rattle.shared_rule.specs.declared.kept.Kept.TheVariants.{Nothing}
use Rattle.shared_rule.specs.History.{noting}
use Rattle.shared_rule.specs.Layout.{content_shelf_of}
use Rattle.shared_rule.specs.Led.{LedBy, LedTo}
use Rattle.shared_rule.specs.LwLocks.{lock_number, IsFreeFor}
use Rattle.shared_rule.specs.Marks.{SawHeld}
use Rattle.shared_rule.specs.declared.lw_locks.LwLock.{LwLock}
use Rattle.shared_rule.specs.Plays.{side_of, account_at, number_at, quiet_at, todo_at}
use Rattle.shared_rule.specs.Quiet.{quiet_getting}
use Rattle.shared_rule.specs.Todos.{Todo, todo_attempted, todo_lost}
use Rattle.shared_rule.specs.Waiters.{WaitsExist}

-- What an acquire of a lightweight lock leads to, whether it won at once or waited in the lock's list.

-- What getting the lock of a session's slots makes of the account: exclusively, or to share it.
abbrev pub account_getting : LwMode → ℕ → Account → ℕ → SlotsInHand → Account
account_getting Exclusive number a owner slots = account_taking_fast number a owner slots
account_getting Shared number a owner slots = account_sharing_fast number a owner slots

-- The session may get the lock of a session's slots in the mode: it doesn't share that lock yet.
abbrev pub MayGetSlots : LwMode → Account → ℕ → Type 0
MayGetSlots Exclusive a owner = Unit {0}
MayGetSlots Shared a owner = MayShareFastBy a owner

module _ {T : Type 0} (content : T → Content) where
  -- The session got nothing: the account, and what is in hand, are as before, and this is to do.
  pub record GotNothing (before after : Seat (Kept T) (PlacedView T)) (todo : Todo) : Type 0 where
    pub led : LedTo content before after (account_at content before) todo
    pub shelves : (side_of after).1 ≡ (side_of before).1

  -- The session got nothing, and has as much to do for those who wait as before.
  abbrev pub IsAsBefore : Seat (Kept T) (PlacedView T) → Seat (Kept T) (PlacedView T) → Type 0
  IsAsBefore before after = GotNothing before after (todo_at before)

  -- The session lost an attempt at the lock: by its last mark the lock's word showed a number at which the
  -- mode can't be had.
  pub record SeesInTheWay (lock : LwLock) (mode : LwMode) (before after : Seat (Kept T) (PlacedView T)) : Type 0 where
    pub nothing : GotNothing before after (todo_lost (todo_at before))
    pub shown : ℕ
    pub noted : (side_of after).0 ≡ noting (side_of before).0 (SawHeld (lock_number lock) shown)
    pub in_the_way : IsFreeFor mode shown → ⊥

  -- The session got nothing, and has tried or is to try this lock still.
  pub record IsTrying (lock : ℕ) (before after : Seat (Kept T) (PlacedView T)) : Type 0 where
    pub todo : Todo
    pub nothing : GotNothing before after todo
    pub no_other : NoneOr todo.tries lock
    pub same : todo_attempted todo ≡ todo_attempted (todo_at before)

  -- The session got the lock of a session's slots, of this number of groups, in this mode, with what they
  -- show.
  pub record GetsSlots (groups : ℕ) (mode : LwMode) (owner : ℕ) (before after : Seat (Kept T) (PlacedView T)) : Type 0 where
    pub shown : SlotsInHand
    pub knows : KnowsSlots groups (number_at before) (account_at content before) owner shown
    pub led :
        LedBy content before after
        (account_getting mode (number_at before) (account_at content before) owner shown)
        (quiet_getting mode owner (quiet_at before)) (todo_attempted (todo_at before))
    pub shelves : (side_of after).1 ≡ (side_of before).1

module _ {T : Type 0} (content : T → Content) (begun : T → Option Request) where
  -- The session got a partition, with this content, in which only sessions with numbers below this one wait.
  pub record TakesPartition (sessions part : ℕ) (before after : Seat (Kept T) (PlacedView T)) (taken : T) : Type 0 where
    pub led :
        LedTo content before after (account_taking (account_at content before) part (content taken))
        (todo_attempted (todo_at before))
    pub shelves : (side_of after).1 ≡ (content_shelf_of part, Nothing) ∷ (side_of before).1
    pub none_begun : begun taken ≡ None
    pub knows : KnowsContent (number_at before) (account_at content before) part (content taken)
    pub waiters : WaitsExist sessions (content taken)
