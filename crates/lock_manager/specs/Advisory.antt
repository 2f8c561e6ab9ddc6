use Rattle.std.specs.Prelude.{ℕ, Bool, not, ◌==◌, List, map, filter}
use Rattle.modes_core.specs.declared.modes.Mode.{Mode}
use Rattle.modes_core.specs.declared.tags.Tag.{Tag}
use Rattle.modes_core.specs.declared.tags.LockMethod.{LockMethod}
use Rattle.modes_core.specs.declared.tags.LockMethod.TheVariants.{Default, User}
use Rattle.modes_core.specs.Tag.{method_of}
use Rattle.local_locks.specs.declared.records.Entry.{Entry}
use Rattle.local_locks.specs.Owned.{count_in_all}

-- All advisory locks that the session owns are given back at once.

-- what is left of the session's count: nothing in the user method, that of advisory locks, and all of it in
-- the default method
abbrev pub kept_by_unlock_all : LockMethod → ℕ → ℕ
kept_by_unlock_all Default count = count
kept_by_unlock_all User count = 0

-- the entry once the session's count of an advisory lock is gone; what the transaction has stays
abbrev pub after_unlock_all : Entry → Entry
after_unlock_all entry = record entry { session = kept_by_unlock_all (method_of entry.tag) entry.session }

-- whether nothing is left of the entry once the session's count of an advisory lock is gone
abbrev pub is_unlocked : Entry → Bool
is_unlocked entry = count_in_all (after_unlock_all entry) == 0

-- the objects and modes that the session has no longer, in the order of making
abbrev pub unlocked_by_all : List Entry → List (Tag × Mode)
unlocked_by_all entries = map (λ entry. (entry.tag, entry.mode)) (filter is_unlocked entries)

-- the entries that are left, with the counts that are left of them
abbrev pub left_by_unlock_all : List Entry → List Entry
left_by_unlock_all entries = map after_unlock_all (filter (λ entry. not (is_unlocked entry)) entries)

-- whether the entry is of an advisory lock that the session owns: something of its count goes
abbrev pub is_owned_advisory : Entry → Bool
is_owned_advisory entry = not (kept_by_unlock_all (method_of entry.tag) entry.session == entry.session)
