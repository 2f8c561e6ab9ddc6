use Rattle.std.specs.Prelude.{◌≡◌, ◌≢◌, ℕ, ◌+◌, ◌*◌, ◌/◌, ◌%◌, ◌<◌, ◌≤◌, ◌⊎◌, max}
use Rattle.atomic_table.specs.Seated.{TableId}
use Rattle.lock_world.specs.declared.events.Word.{Word}
use Rattle.lock_world.specs.declared.events.Word.TheVariants.{Partition, Fast, Database, Slot, Wait, Strong, Sleep}
use Rattle.lock_world.specs.SlotHolds.{group_size, most_groups}
use Rattle.lock_world.specs.World.{WordExists}
use Rattle.shared_rule.specs.declared.rule.TableSizes.{TableSizes}

-- Where each word stands in the table: its index, in words of 8 bytes. First come the partitions, then the
-- strong lock counters, then blocks of words, one for each session, with the slots of its first group. The
-- slots of each further group have as many blocks behind those.

-- where the block of this number begins
abbrev pub block_start : ℕ → ℕ
block_start block = 1296 + 37 * block

-- the number of the block that has a session's slots of this group, by how many sessions there can be
abbrev pub block_of : ℕ → ℕ → ℕ → ℕ
block_of sessions session group = session + sessions * group

-- how many words the table has for this number of sessions, each with this number of groups of slots
abbrev pub words_of : ℕ → ℕ → ℕ
words_of sessions groups = block_start (sessions * groups)

-- the index of a word in a table for this number of sessions
abbrev pub index_of_word : ℕ → Word → ℕ
index_of_word sessions (Partition p) = 16 * p
index_of_word sessions (Strong index) = 256 + index
index_of_word sessions (Fast session) = block_start session
index_of_word sessions (Database session) = block_start session + 1
index_of_word sessions (Slot session slot) =
    block_start (block_of sessions session (slot / group_size)) + 2 + slot % group_size
index_of_word sessions (Wait session) = block_start session + 18
index_of_word sessions (Sleep session) = block_start session + 19

-- The word is no session's, or is that of a session with a number below this one.
abbrev pub SessionHasWords : ℕ → Word → Type 0
SessionHasWords sessions (Partition p) = Unit {0}
SessionHasWords sessions (Strong index) = Unit {0}
SessionHasWords sessions (Fast session) = session < sessions
SessionHasWords sessions (Database session) = session < sessions
SessionHasWords sessions (Slot session slot) = session < sessions
SessionHasWords sessions (Wait session) = session < sessions
SessionHasWords sessions (Sleep session) = session < sessions

-- The table of these sizes has this word.
abbrev pub IsInTable : TableSizes → Word → Type 0
IsInTable sizes word = WordExists sizes.groups word × SessionHasWords sizes.sessions word

-- No word of the table of these sizes stands at this index: it is a gap.
abbrev pub IsGap : TableSizes → ℕ → Type 0
IsGap sizes index = (word : Word) → IsInTable sizes word → index_of_word sizes.sessions word ≢ index

-- Words of one group may share a cache line: each partition's word is a group, all counters together are one,
-- and a session's words are one.
abbrev pub group_of : Word → ℕ
group_of (Partition p) = p
group_of (Strong index) = 16
group_of (Fast session) = 17 + session
group_of (Database session) = 17 + session
group_of (Slot session slot) = 17 + session
group_of (Wait session) = 17 + session
group_of (Sleep session) = 17 + session

-- The two indexes are 16 words apart at least, which is 128 bytes.
abbrev pub IsApart : ℕ → ℕ → Type 0
IsApart index other = (index + 16 ≤ other) ⊎ (other + 16 ≤ index)

-- on which shelf of the table a partition's content lies
abbrev pub content_shelf_of : ℕ → ℕ
content_shelf_of partition = 8 * partition

-- how many numbers of lightweight locks there are shelves for, where there can be this number of sessions:
-- partitions have the even numbers below 32, and sessions' slots the first odd ones
abbrev pub lock_count : ℕ → ℕ
lock_count sessions = max 32 (2 * sessions)

-- on which shelf the wait list of a lightweight lock lies, by the lock's number
abbrev pub list_shelf_of : ℕ → ℕ
list_shelf_of lock = 128 + 8 * lock

-- how many shelves the table has for this number of sessions
abbrev pub shelves_of : ℕ → ℕ
shelves_of sessions = list_shelf_of (lock_count sessions)

-- The table has the words and the shelves of these sizes, with 1 to 8 groups of slots for each session.
pub record IsSized (sizes : TableSizes) (table : TableId) : Type 0 where
  pub words : table.words ≡ words_of sizes.sessions sizes.groups
  pub shelves : table.slots ≡ shelves_of sizes.sessions
  pub some_groups : 0 < sizes.groups
  pub few_groups : sizes.groups ≤ most_groups
