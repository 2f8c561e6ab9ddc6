use Rattle.std.specs.Prelude.{◌≡◌, ◌≢◌, ℕ, ◌+◌, ◌<◌, true, false, List, [], ◌∷◌, ◌++◌, Option, Some, None}
use Rattle.modes_core.specs.declared.modes.Mode.{Mode}
use Rattle.modes_core.specs.declared.tags.Tag.{Tag}
use Rattle.modes_core.specs.Conflict.{conflict}
use Rattle.atomic_table.specs.Table.{Step}
use Rattle.lock_table.specs.Content.{Content}
use Rattle.lock_world.specs.Account.{Account}
use Rattle.shared_rule.specs.declared.history.History.{History}
use Rattle.shared_rule.specs.declared.history.Mark.{Mark}
use Rattle.shared_rule.specs.declared.history.View.{View}
use Rattle.shared_rule.specs.declared.kept.Kept.{Kept}
use Rattle.shared_rule.specs.History.{lone, first_account}
use Rattle.shared_rule.specs.Plays.{Side}
use Rattle.shared_rule.specs.Openers.{HaveClosed}

-- Seats that are cut in two and joined: sessions open and close, and meet at one seat, each behind those that
-- came before it.

-- By its account the session holds nothing.
abbrev pub HoldsNothing : Account → Type 0
HoldsNothing a = (tag : Tag) (mode : Mode) → a.own tag mode ≡ false

-- Closing, by the session's account: nothing is held, awaited or counted, it has no wait list nor stands in
-- one, and nobody whom it took off a list is untold.
pub record MayCloseBy (a : Account) : Type 0 where
  pub no_hold : HoldsNothing a
  pub no_wait : a.awaited ≡ None
  pub no_partition : (partition : ℕ) → a.hand partition ≡ None
  pub no_shared_partition : (partition : ℕ) → a.shares partition ≡ false
  pub no_fast_word : (owner : ℕ) → a.fast.slots owner ≡ None
  pub no_shared_fast_word : (owner : ℕ) → a.fast.shared_slots owner ≡ None
  pub no_count : a.fast.counted ≡ []
  pub no_list : a.lists.in_hand ≡ None
  pub no_stand : a.lists.stands ≡ None
  pub none_untold : (other : ℕ) → a.lists.off other ≡ false

-- Being kept apart, by the session's account: it holds no word, exclusively or shared.
pub record MayBeKeptApartBy (a : Account) : Type 0 where
  pub no_partition : (partition : ℕ) → a.hand partition ≡ None
  pub no_fast_word : (owner : ℕ) → a.fast.slots owner ≡ None
  pub no_shared_partition : (partition : ℕ) → a.shares partition ≡ false
  pub no_shared_fast_word : (owner : ℕ) → a.fast.shared_slots owner ≡ None

-- No hold of the one conflicts with a hold of the other on an object.
abbrev pub DoNotConflict : Account → Account → Type 0
DoNotConflict a b =
    (tag : Tag) (mode its : Mode) → a.own tag mode ≡ true → b.own tag its ≡ true → conflict mode its ≡ false

-- the number that the next session gets
abbrev pub number_in : Option ℕ → ℕ
number_in None = 0
number_in (Some number) = number

-- the number that the session after the next one gets
abbrev pub number_after : Option ℕ → Option ℕ
number_after None = None
number_after (Some number) = Some (number + 1)

-- a list without its last element
abbrev pub all_but_last : {A : Type 0} → List A → List A
all_but_last [] = []
all_but_last (x ∷ []) = []
all_but_last (x ∷ y ∷ others) = x ∷ all_but_last (y ∷ others)

-- the last element of a list, alone
abbrev pub last_of : {A : Type 0} → List A → List A
last_of [] = []
last_of (x ∷ []) = x ∷ []
last_of (x ∷ y ∷ others) = last_of (y ∷ others)

module _ {T : Type 0} where
  -- the history of the session that makes its steps with the seat
  abbrev pub first_of : List (History T) → List (History T)
  first_of [] = []
  first_of (history ∷ others) = history ∷ []

  -- the histories behind that of the session that makes its steps with the seat
  abbrev pub behind_of : List (History T) → List (History T)
  behind_of [] = []
  behind_of (history ∷ others) = others

  -- the view of the opener's seat once it has given a number out
  abbrev pub opened : View T → View T
  opened view = record { next = number_after view.next; closed = view.closed; sessions = view.sessions }

  -- the view of the session that got a number from the opener's seat
  abbrev pub newcomer : View T → View T
  newcomer view = lone (number_in view.next) []

  -- the view of the opener's seat once it has taken a session's back, whose number is closed then, with its
  -- history
  abbrev pub with_closed : View T → View T → View T
  with_closed view session = record {
    next = view.next;
    closed = first_of session.sessions ++ view.closed;
    sessions = view.sessions;
  }

  -- the view with another's histories behind its own
  abbrev pub met : View T → View T → View T
  met view other = record { next = view.next; closed = view.closed; sessions = view.sessions ++ other.sessions }

  -- the view of a seat without its last session
  abbrev pub parted : View T → View T
  parted view = record { next = view.next; closed = view.closed; sessions = all_but_last view.sessions }

  -- the view of the last session of a seat, once it goes on by itself
  abbrev pub handed_back : View T → View T
  handed_back view = record { next = None; closed = []; sessions = last_of view.sessions }

  -- The opener's seat gives out a number below the limit.
  pub record HasNumber (view : View T) (limit : ℕ) : Type 0 where
    pub number : ℕ
    pub next : view.next ≡ Some number
    pub within : number < limit

  -- The seat is the opener's, which knows the next number.
  pub record HasNext (view : View T) : Type 0 where
    pub number : ℕ
    pub next : view.next ≡ Some number

  -- The seat is for one session.
  pub record IsForOne (view : View T) : Type 0 where
    pub number : ℕ
    pub marks : List (Mark T)
    pub one : view ≡ lone number marks

  -- The seat is for two sessions that meet.
  pub record IsForTwo (view : View T) : Type 0 where
    pub first : History T
    pub second : History T
    pub two : view ≡ record { next = None; closed = []; sessions = first ∷ second ∷ [] }

  -- Some session is the last one there.
  pub record HasLast (view : View T) : Type 0 where
    pub before : List (History T)
    pub last : History T
    pub sessions : view.sessions ≡ before ++ last ∷ []

  -- Nothing changed, and those that the opener has as closed were given out, each once.
  abbrev pub ToldClosed : Step (Kept T) → Side T → ℕ → Side T → Type 0
  ToldClosed step before found after =
      (after ≡ before) × HaveClosed (number_in before.0.next) before.0.closed

  -- The first two of these histories are of sessions with different numbers.
  abbrev pub HaveTwoNumbers : List (History T) → Type 0
  HaveTwoNumbers sessions = (first second : History T) (others : List (History T)) →
      sessions ≡ first ∷ second ∷ others → first.number ≢ second.number

module _ {T : Type 0} (content : T → Content) where
  -- Nothing changed, the first session and the one behind it have different numbers, and no hold of the one
  -- conflicts with a hold of the other.
  abbrev pub ToldApart : Step (Kept T) → Side T → ℕ → Side T → Type 0
  ToldApart step before found after =
      (after ≡ before)
      × HaveTwoNumbers before.0.sessions
      × DoNotConflict (first_account content before.0.sessions) (first_account content (behind_of before.0.sessions))
