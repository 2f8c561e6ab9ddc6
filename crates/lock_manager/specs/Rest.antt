use Rattle.std.specs.Prelude.{◌≡◌, ℕ, false, List, map, filter, None}
use Rattle.modes_core.specs.Tag.{is_strong_on}
use Rattle.local_locks.specs.declared.records.Entry.{Entry}
use Rattle.local_locks.specs.Owned.{has_entry}
use Rattle.lock_world.specs.Account.{Account}
use Rattle.lock_world.specs.Counted.{Counted}
use Rattle.lock_world.specs.SlotHolds.{AreInGroups}
use Rattle.lock_world.specs.World.{TraceEntry}
use Rattle.shared_rule.specs.Boards.{Stack, nothing_due}
use Rattle.fast_path.specs.declared.use_counts.UseCounts.{UseCounts}
use Rattle.fast_path.specs.Slots.{count_in, AreCounted, AreUseCounts}

-- What a session has between two of its calls.

-- the strong locks among these entries, each counted, and past every session that there can be
abbrev pub counted_for : ℕ → List Entry → List Counted
counted_for limit entries =
    map (λ entry. record { tag = entry.tag; mode = entry.mode; position = limit })
    (filter (λ entry. is_strong_on entry.tag entry.mode) entries)

-- The account of a session of this database that has these entries and is in no call: it holds what it has
-- entries for, in its slots or in the table, has counted the strong locks of these, remembers its slots as
-- showing these words, waits for nothing, and has no word in hand.
abbrev pub account_at_rest : ℕ → ℕ → (ℕ → ℕ) → List Entry → List TraceEntry → Account
account_at_rest limit database remembered entries trace = record {
  own = has_entry entries;
  awaited = None;
  seen = false;
  hand = λ _. None;
  shares = λ _. false;
  fast = record {
    slots = λ _. None;
    shared_slots = λ _. None;
    database = database;
    remembered = remembered;
    zero = None;
    counted = counted_for limit entries;
  };
  lists = record { in_hand = None; stands = None; off = λ _. false };
  trace = trace;
}

-- As the session remembers its slots, each in use is of its relation's group, and each group's use count is
-- not below the number of its slots in use, and not above how many it has.
pub record IsUseCount (groups : ℕ) (a : Account) (uses : UseCounts) : Type 0 where
  pub in_groups : AreInGroups groups a.fast.remembered
  pub enough : AreCounted a.fast.remembered (count_in uses)
  pub within : AreUseCounts (count_in uses)

-- By its account the session is in no call, and it has no partition to put and nobody to wake.
pub record IsAtRest (groups limit database : ℕ) (uses : UseCounts) (a : Account) (stack : Stack)
    (entries : List Entry) : Type 0 where
  pub account : a ≡ account_at_rest limit database a.fast.remembered entries a.trace
  pub use_count : IsUseCount groups a uses
  pub nothing_left : stack ≡ nothing_due

-- What a step in the middle of a call of a session that doesn't wait may count on: the session has no word in
-- hand, shares none of slots, owes nobody a wake, has read no counter as 0, and has no wait.
pub record IsIdle (a : Account) (stack : Stack) : Type 0 where
  pub no_wait : a.awaited ≡ None
  pub no_content : a.hand ≡ (λ _. None)
  pub no_slots : a.fast.slots ≡ (λ _. None)
  pub no_shared_slots : a.fast.shared_slots ≡ (λ _. None)
  pub no_zero : a.fast.zero ≡ None
  pub nothing_left : stack ≡ nothing_due
