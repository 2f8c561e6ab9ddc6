use Rattle.std.specs.Prelude.{◌≡◌, ℕ, ◌<◌, ◌≤◌, ◌==◌, List, ◌∷◌, ◌++◌, [], length, slice_get, count_by, Some}
use Rattle.atomic_table.specs.Seated.{TableId}
use Rattle.lock_table.specs.Content.{Content}
use Rattle.lock_world.specs.World.{TraceEntry}
use Rattle.shared_rule.specs.declared.history.History.{History}
use Rattle.shared_rule.specs.History.{told}
use Rattle.shared_rule.specs.Quiet.{Quiet, quiet_told}
use Rattle.lock_world.specs.Account.{Account}

-- The opener, and the sessions that have closed.

-- the trace that a history tells
abbrev pub trace_told : {T : Type 0} → (T → Content) → History T → List TraceEntry
trace_told content history = (told content history.number history.marks).trace

module _ {T : Type 0} where
  -- The sessions of these histories have closed, where `issued` numbers were given out: each is there once,
  -- its number was given out, and they are no more than were.
  pub record HaveClosed (issued : ℕ) (closed : List (History T)) : Type 0 where
    pub once : (number : ℕ) → count_by (λ history. history.number == number) closed ≤ 1
    pub given_out :
        (place : ℕ) (history : History T) → slice_get closed place ≡ Some history → history.number < issued
    pub no_more : length closed ≤ issued

-- The opener as contracts see it: at which table, how many numbers it has given out, how many there can be,
-- how many groups of slots each session has, the histories of the sessions that have closed, the last one
-- first, and who is gathered at its seat, the first one first.
pub record OpenerState (T : Type 0) : Type 0 where
  pub table : TableId
  pub issued : ℕ
  pub limit : ℕ
  pub groups : ℕ
  pub closed : List (History T)
  pub gathered : List (History T)

-- The opener has taken a session of this number back, with this trace, and all else of it is as before.
pub record HasTakenBack {T : Type 0} (content : T → Content) (number : ℕ) (trace : List TraceEntry)
    (old new : OpenerState T) : Type 0 where
  pub last : History T
  pub number_ : last.number ≡ number
  pub trace_ : trace_told content last ≡ trace
  pub opener : new ≡ record old { closed = last ∷ old.closed }

-- The opener has gathered a session of this number, with this account and these quiet steps, after those that
-- came before.
pub record HasGathered {T : Type 0} (content : T → Content) (number : ℕ) (account : Account) (quiet : List Quiet)
    (old new : OpenerState T) : Type 0 where
  pub last : History T
  pub number_ : last.number ≡ number
  pub account_ : told content last.number last.marks ≡ account
  pub quiet_ : quiet_told last.marks ≡ quiet
  pub opener : new ≡ record old { gathered = old.gathered ++ last ∷ [] }

-- The session that came last has this number.
pub record HasLastOf {T : Type 0} (number : ℕ) (opener : OpenerState T) : Type 0 where
  pub before : List (History T)
  pub last : History T
  pub gathered : opener.gathered ≡ before ++ last ∷ []
  pub number_ : last.number ≡ number
