use Rattle.std.specs.Prelude.{ℕ, ◌<◌, Some, None}
use Rattle.lw_word.specs.declared.words.LwMode.{LwMode}
use Rattle.lw_word.specs.declared.words.LwMode.TheVariants.{Exclusive, Shared}
use Rattle.lw_word.specs.LightweightWord.{IsHeldByNobody, IsFreeToShare}
use Rattle.lock_world.specs.declared.events.Word.{Word}
use Rattle.lock_world.specs.declared.events.Word.TheVariants.{Partition, Fast}
use Rattle.lock_world.specs.WaitLists.{partition_lock, fast_lock}
use Rattle.lock_world.specs.Account.{ListAccount}
use Rattle.shared_rule.specs.declared.lw_locks.LwLock.{LwLock}
use Rattle.shared_rule.specs.declared.lw_locks.LwLock.TheVariants.{OfPart, OfSlots}

-- The lightweight locks of the table: the word of each.

abbrev pub word_of_lock : LwLock → Word
word_of_lock (OfPart partition) = Partition partition
word_of_lock (OfSlots owner) = Fast owner

-- the number of a lightweight lock, by which its wait list is known
abbrev pub lock_number : LwLock → ℕ
lock_number (OfPart partition) = partition_lock partition
lock_number (OfSlots owner) = fast_lock owner

-- There is this lock where there can be this number of sessions: it has its word and its shelf in their
-- table.
abbrev pub LockExists : ℕ → LwLock → Type 0
LockExists limit (OfPart partition) = partition < 16
LockExists limit (OfSlots owner) = owner < limit

-- A lock's word that shows this number lets a session have the lock in the mode.
abbrev pub IsFreeFor : LwMode → ℕ → Type 0
IsFreeFor Exclusive shown = IsHeldByNobody shown
IsFreeFor Shared shown = IsFreeToShare shown

-- What a session knows of wait lists between two calls: it has none in hand, stands in none, and owes nobody
-- that it was taken off one.
abbrev pub no_lists : ListAccount
no_lists = record { in_hand = None; stands = None; off = λ _. Rattle.std.specs.Prelude.false }

-- What a session knows of wait lists while it waits for a lock, in whose list it stands unless somebody has
-- taken it off.
abbrev pub queued_for : ℕ → ListAccount
queued_for lock = record { in_hand = None; stands = Some lock; off = λ _. Rattle.std.specs.Prelude.false }
