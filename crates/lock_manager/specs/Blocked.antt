use Rattle.std.specs.Prelude.{◌≡◌, ℕ, ◌+◌, false, not, List, [], ◌∷◌, ◌++◌, length, map, filter, All, Result, IfOk, OnOk}
use Rattle.std.specs.Global.{Vec}
use Rattle.lock_table.specs.declared.no_memory.NoMemory as no_memory
use Rattle.lock_table.specs.declared.rows.TableRow.{TableRow}
use Rattle.lock_table.specs.Content.{Content}
use Rattle.lock_table.specs.Listing.{IsListing}
use Rattle.modes_core.specs.declared.refusals.Refusal.{Refusal}
use Rattle.lock_world.specs.Account.{Account}
use Rattle.wait_queue.specs.Queues.{blockers_in}
use Rattle.lock_manager.specs.declared.blocked.Blocked.{Blocked}
use Rattle.lock_manager.specs.Listings.{listing_steps, AreOfCaller}

-- All waits at one moment, each with all who are in its way, as the session's trace has them.

-- the row of a listing that shows the wait
abbrev pub row_of_wait : Blocked → TableRow
row_of_wait wait = record { session = wait.session; tag = wait.tag; mode = wait.mode; granted = false }

-- The wait is listed with just those who are in its way in this content.
abbrev pub HasBlockers : Content → Blocked → Type 0
HasBlockers content wait = wait.blockers.items ≡ blockers_in content wait.tag wait.session

-- These are just the waits in the content, in the order of its listing, each with just those who are in its
-- way there.
pub record AreBlocked (content : Content) (found : List Blocked) : Type 0 where
  pub rows : List TableRow
  pub listed : IsListing content rows
  pub waits : map row_of_wait found ≡ filter (λ row. not row.granted) rows
  pub in_the_way : All (HasBlockers content) found

-- These are just the waits in several contents, one content after another, each with just those who are in
-- its way there.
abbrev pub AreBlockedIn : List Content → List Blocked → Type 0
AreBlockedIn [] found = found ≡ []
AreBlockedIn (content ∷ contents) found =
    (its others : List Blocked) × (found ≡ its ++ others) × AreBlocked content its × AreBlockedIn contents others

-- All sixteen partitions are taken, in rising order, and put back as they were, in the opposite order: while
-- all are in hand their contents stand side by side, and the waits are those of these.
pub record ListsBlocked (number : ℕ) (a : Account) (result : Result (Vec Blocked) Refusal) (b : Account) : Type 0 where
  pub contents : List Content
  pub sixteen : length contents ≡ 16
  pub of_caller : AreOfCaller number a.own a.awaited a.fast.database a.fast.remembered 0 contents
  pub trace : b.trace ≡ a.trace ++ listing_steps 0 contents
  pub waits : IfOk result (λ found. AreBlockedIn contents found.items)

-- ---- how all waits are found, partition by partition

-- The list has the content's waits behind what it had.
pub record AppendsBlocked (content : Content) (old new : List Blocked) : Type 0 where
  pub added : List Blocked
  pub behind : new ≡ old ++ added
  pub blocked : AreBlocked content added

-- All partitions from one on are taken and put back as they were, and the waits in their contents join the
-- list.
pub record ListsBlockedFrom (number partition : ℕ) (a : Account) (old : List Blocked)
    (result : Result (Unit {0}) no_memory.NoMemory) (b : Account) (new : List Blocked) : Type 0 where
  pub contents : List Content
  pub last : partition + length contents ≡ 16
  pub of_caller : AreOfCaller number a.own a.awaited a.fast.database a.fast.remembered partition contents
  pub account : b ≡ record a { trace = a.trace ++ listing_steps partition contents }
  pub waits : OnOk result ((added : List Blocked) × (new ≡ old ++ added) × AreBlockedIn contents added)
