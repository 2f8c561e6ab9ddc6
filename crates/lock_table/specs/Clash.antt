use Rattle.std.specs.Prelude.{◌≡◌, ◌≢◌, ℕ, ◌<◌, true, false, List, Option, Some, None, find, nat_lt, nat_le, ◌==◌, ◌||◌, ◌&&◌, if◌then◌else◌}
use Rattle.modes_core.specs.declared.modes.Mode.{Mode}
use Rattle.modes_core.specs.declared.tags.Tag.{Tag}
use Rattle.modes_core.specs.declared.refusals.How.TheVariants.{Held, Awaited}
use Rattle.modes_core.specs.Mode.{number_of}
use Rattle.modes_core.specs.Conflict.{conflict}
use Rattle.lock_table.specs.declared.answering.Clash.{Clash}
use Rattle.lock_table.specs.Content.{Holds, Wait, Content}

-- No session other than this one holds the object in a mode that conflicts with the mode.
abbrev pub NoConflictingHolder : Holds → ℕ → Tag → Mode → Type 0
NoConflictingHolder holds session tag mode =
    (other : ℕ) (its : Mode) → other ≢ session → holds other tag its ≡ true → conflict mode its ≡ false

-- `other` is the lowest-numbered session, other than this one, that holds the object in a mode that conflicts
-- with the mode, and `its` is its lowest such mode.
pub record IsConflictingHolder (holds : Holds) (session : ℕ) (tag : Tag) (mode : Mode) (other : ℕ) (its : Mode) : Type 0 where
  pub another : other ≢ session
  pub holding : holds other tag its ≡ true
  pub conflicting : conflict mode its ≡ true
  pub lowest_session : (k : ℕ) (n : Mode) → k < other → k ≢ session → holds k tag n ≡ true → conflict mode n ≡ false
  pub lowest_mode : (n : Mode) → number_of n < number_of its → holds other tag n ≡ true → conflict mode n ≡ false

-- the holder that a request for the mode conflicts with, if there is one
abbrev pub HolderInTheWay : Holds → ℕ → Tag → Mode → Option (ℕ × Mode) → Type 0
HolderInTheWay holds session tag mode None = NoConflictingHolder holds session tag mode
HolderInTheWay holds session tag mode (Some found) = IsConflictingHolder holds session tag mode found.0 found.1

-- the lower of two holders, by session and then by mode
abbrev pub lower_holder_of : Option (ℕ × Mode) → ℕ → Mode → ℕ × Mode
lower_holder_of None session mode = (session, mode)
lower_holder_of (Some lowest) session mode =
    if nat_lt lowest.0 session || ((lowest.0 == session) && nat_le (number_of lowest.1) (number_of mode)) then lowest else (session, mode)

-- the first waiter of a queue that awaits a mode in conflict with the mode
abbrev pub first_waiter : List Wait → Mode → Option Wait
first_waiter waits mode = find (λ w. conflict mode w.mode) waits

-- What a request clashes with, once the first waiter that awaits a conflicting mode is known, if there is
-- one.
abbrev pub ClashAfterWaiters : Option Wait → Content → ℕ → Tag → Mode → Option Clash → Type 0
ClashAfterWaiters (Some w) content session tag mode found = found ≡ Some (record { session = w.session; mode = w.mode; how = Awaited })
ClashAfterWaiters None content session tag mode None = NoConflictingHolder content.holds session tag mode
ClashAfterWaiters None content session tag mode (Some found) =
    IsConflictingHolder content.holds session tag mode found.session found.mode × (found.how ≡ Held)

-- What a request for the mode on the object clashes with in the content, if anything: the first waiter that
-- awaits a conflicting mode, else the conflicting holder.
abbrev pub ClashIs : Content → ℕ → Tag → Mode → Option Clash → Type 0
ClashIs content session tag mode found = ClashAfterWaiters (first_waiter (content.waits tag) mode) content session tag mode found

-- Something is in the way of a request for the mode.
abbrev pub Clashes : Content → ℕ → Tag → Mode → Type 0
Clashes content session tag mode = (clash : Clash) × ClashIs content session tag mode (Some clash)
