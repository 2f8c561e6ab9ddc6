use Rattle.std.specs.Prelude.{ℕ, ◌≤◌}

-- For how many entries of each kind a keeper of a partition has memory, whether they are in use or not: lock
-- records, holder records (or holds), queue records, waits, names of those whom a wakeup grants, and places
-- of an index. A keeper with no entries of a kind has 0 there.
pub record Capacity : Type 0 where
  pub locks : ℕ
  pub holders : ℕ
  pub queues : ℕ
  pub waits : ℕ
  pub woken : ℕ
  pub places : ℕ

-- The new capacity is not above the old one in any kind: no memory was taken for entries.
pub record IsNotAbove (old new : Capacity) : Type 0 where
  pub locks : new.locks ≤ old.locks
  pub holders : new.holders ≤ old.holders
  pub queues : new.queues ≤ old.queues
  pub waits : new.waits ≤ old.waits
  pub woken : new.woken ≤ old.woken
  pub places : new.places ≤ old.places
