use Rattle.std.specs.Prelude.{◌≡◌, ℕ, ◌+◌, ◌≤◌, nat_lt, Bool, true, false, not, ◌==◌, ◌&&◌, List, [], ◌∷◌, ◌++◌, map, filter, count_by, Option, if◌then◌else◌}
use Rattle.std.specs.List.{list_any}
use Rattle.modes_core.specs.declared.modes.Mode.{Mode}
use Rattle.modes_core.specs.declared.tags.Tag.{Tag}
use Rattle.modes_core.specs.Mode.{mode_eq}
use Rattle.modes_core.specs.Tag.{tag_eq, index_of, is_strong_on}
use Rattle.lock_table.specs.declared.moves.Move.{Move}
use Rattle.lock_table.specs.declared.moves.Move.TheVariants.{Keep, Grant, Join, Release, Leave, Adopt}
use Rattle.lock_table.specs.Content.{Holds}
use Rattle.lock_table.specs.OwnWait.{OwnWait, is_for}
use Rattle.lock_table.specs.Total.{total}

-- What a session has counted: the strong locks that it has, awaits or is about to ask for, each counted by
-- one in the strong lock counter of its object (FastPathStrongRelationLocks in lock.c).

-- A strong lock that is counted, and the position up to which its session has moved other sessions' slots on
-- that object to the lock table: it is past each session below the position.
pub record Counted : Type 0 where
  pub tag : Tag
  pub mode : Mode
  pub position : ℕ

-- whether what is counted is for the mode on the object
abbrev pub is_of : Tag → Mode → Counted → Bool
is_of tag mode c = tag_eq c.tag tag && mode_eq c.mode mode

-- counting a strong lock, past nobody yet (BeginStrongLockAcquire in lock.c)
abbrev pub counting : List Counted → Tag → Mode → List Counted
counting list tag mode = list ++ record { tag = tag; mode = mode; position = 0 } ∷ []

-- counting a strong lock no more (AbortStrongLockAcquire, and RemoveLocalLock at its release)
abbrev pub uncounting : List Counted → Tag → Mode → List Counted
uncounting list tag mode = filter (λ (c : Counted). not (is_of tag mode c)) list

-- what is counted, now past the session, if it is for the mode on the object and the session is next
abbrev pub passed : Tag → Mode → ℕ → Counted → Counted
passed tag mode session c = if is_of tag mode c && (c.position == session) then record c { position = session + 1 } else c

-- going past a session that has no slot on the object (a turn of the loop of FastPathTransferRelationLocks in
-- lock.c)
abbrev pub passing : List Counted → Tag → Mode → ℕ → List Counted
passing list tag mode session = map (passed tag mode session) list

-- how many are counted at an index of the counters
abbrev pub count_at : ℕ → List Counted → ℕ
count_at index list = count_by (λ (c : Counted). index_of c.tag == index) list

-- whether the mode on the object is counted
abbrev pub is_counted : List Counted → Tag → Mode → Bool
is_counted list tag mode = list_any (is_of tag mode) list

-- whether the mode on the object is counted, and at this position
abbrev pub is_at : ℕ → List Counted → Tag → Mode → Bool
is_at position list tag mode = list_any (λ (c : Counted). is_of tag mode c && (c.position == position)) list

-- whether the mode on the object is counted, and past each session that there can be
abbrev pub is_done : ℕ → List Counted → Tag → Mode → Bool
is_done limit list tag mode = is_at limit list tag mode

-- whether something counted for the object is past the session
abbrev pub is_past : List Counted → Tag → ℕ → Bool
is_past list tag session = list_any (λ (c : Counted). tag_eq c.tag tag && nat_lt session c.position) list

-- Each mode on each object is counted once at most.
abbrev pub AtMostOnce : List Counted → Type 0
AtMostOnce list = (tag : Tag) (mode : Mode) → count_by (is_of tag mode) list ≤ 1

-- what the counter at an index shows: how much all sessions have counted there
abbrev pub counter : ℕ → (ℕ → List Counted) → ℕ → ℕ
counter limit counted index = total limit (λ session. count_at index (counted session))

-- A strong mode that a session has, or awaits, is done.
pub record StrongIsDone (limit : ℕ) (counted : ℕ → List Counted) (own : Holds) (awaited : ℕ → Option OwnWait) : Type 0 where
  pub held :
      (session : ℕ) (tag : Tag) (mode : Mode) → is_strong_on tag mode ≡ true
      → own session tag mode ≡ true → is_done limit (counted session) tag mode ≡ true
  pub awaits :
      (session : ℕ) (tag : Tag) (mode : Mode) → is_strong_on tag mode ≡ true
      → is_for (awaited session) tag mode ≡ true → is_done limit (counted session) tag mode ≡ true

-- Where something counted for an object is past a session, no slot of that session has the object.
abbrev pub PastHasNoSlot : (ℕ → List Counted) → Holds → Type 0
PastHasNoSlot counted slots =
    (session other : ℕ) (tag : Tag) (mode : Mode) → is_past (counted session) tag other ≡ true → slots other tag mode ≡ false

-- What a move asks of the counts: where it grants or queues a strong mode, this is counted, and past each
-- session.
abbrev pub IsCountedFor : ℕ → List Counted → Move → Type 0
IsCountedFor limit counted Keep = Unit {0}
IsCountedFor limit counted (Grant tag mode) = is_strong_on tag mode ≡ true → is_done limit counted tag mode ≡ true
IsCountedFor limit counted (Join tag mode) = is_strong_on tag mode ≡ true → is_done limit counted tag mode ≡ true
IsCountedFor limit counted (Release tag mode) = Unit {0}
IsCountedFor limit counted (Leave tag) = Unit {0}
IsCountedFor limit counted (Adopt owner slot) = Unit {0}
