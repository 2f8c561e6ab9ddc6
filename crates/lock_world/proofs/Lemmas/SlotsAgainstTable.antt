use Rattle.std.proofs.Common.{◌≡◌, ℕ, ◌<◌, true, false, not, ◌&&◌, nat_eq, nat_le, List, Option}
use Rattle.std.proofs.lemmas.Bool.{false≢true, both_ways, false_from_ne_true, and_parts, and_from}
use Rattle.modes_core.specs.declared.modes.Mode.{Mode}
use Rattle.modes_core.specs.declared.tags.Tag.{Tag}
use Rattle.modes_core.specs.declared.tags.Tag.TheVariants.{Relation, Object, Advisory}
use Rattle.modes_core.specs.Mode.{number_of}
use Rattle.modes_core.specs.Conflict.{conflict}
use Rattle.modes_core.specs.Tag.{is_eligible_for, is_strong_on}
use Rattle.modes_core.proofs.Lemmas.Conflicts.{weak-conflict}
use Rattle.lock_table.specs.Content.{Holds}
use Rattle.lock_table.specs.OwnWait.{OwnWait, is_for}
use Rattle.lock_world.specs.SlotHolds.{slot_holds}
use Rattle.lock_world.specs.Counted.{Counted, is_done, StrongIsDone, PastHasNoSlot}
use Rattle.lock_world.proofs.Lemmas.Slots.Eligible.{held-is_in}
use Rattle.lock_world.proofs.Lemmas.Counters.Passing.{is_at-past}

-- Slots against the lock table: a hold that a slot shows conflicts with nothing that any session has or
-- awaits.

-- What conflicts with an eligible mode is strong: modes 1 to 3 conflict only with 5 to 8.
pub conflict-strong : (database : ℕ) (tag : Tag) (mode its : Mode) → is_eligible_for database tag mode ≡ true → conflict mode its ≡ true → is_strong_on tag its ≡ true
conflict-strong database (Relation d r) mode its eligible clash =
    let both = and_parts (nat_eq d database) (not (nat_eq d 0) && nat_le (number_of mode) 3) eligible in
    let rest = and_parts (not (nat_eq d 0)) (nat_le (number_of mode) 3) both.1 in
    and_from (not (nat_eq d 0)) (nat_le 5 (number_of its)) rest.0 (weak-conflict mode its rest.1 clash)
conflict-strong database (Object s d c o) mode its eligible clash = absurd (false≢true eligible)
conflict-strong database (Advisory s d k l) mode its eligible clash = absurd (false≢true eligible)

-- A mode that is done where it is strong conflicts with no hold in a slot: its session is past whoever has
-- the slot.
slot-no_conflict :
    (limit : ℕ) (counted : ℕ → List Counted) (database : ℕ → ℕ) (slot : ℕ → ℕ → ℕ) (session other : ℕ) (tag : Tag) (mode its : Mode) →
    PastHasNoSlot counted (λ k. slot_holds (database k) (slot k)) → session < limit →
    slot_holds (database session) (slot session) tag mode ≡ true → (is_strong_on tag its ≡ true → is_done limit (counted other) tag its ≡ true) →
    conflict mode its ≡ false
slot-no_conflict limit counted database slot session other tag mode its past below held done =
    false_from_ne_true (conflict mode its) (λ clash.
    let found = held-is_in (database session) (slot session) tag mode held in
    let strong = conflict-strong (database session) tag mode its found.1.eligible clash in
    let gone = past other session tag mode (is_at-past (counted other) tag its limit session below (done strong)) in
    both_ways (slot_holds (database session) (slot session) tag mode) gone held)

-- So where all strong modes are done, no hold in a slot conflicts with a hold of a session, nor with what it
-- awaits.
pub slot-no_conflict_own :
    (limit : ℕ) (counted : ℕ → List Counted) (own : Holds) (awaited : ℕ → Option OwnWait) (database : ℕ → ℕ) (slot : ℕ → ℕ → ℕ) →
    StrongIsDone limit counted own awaited → PastHasNoSlot counted (λ k. slot_holds (database k) (slot k)) →
    (session other : ℕ) (tag : Tag) (mode its : Mode) → session < limit →
    slot_holds (database session) (slot session) tag mode ≡ true → own other tag its ≡ true → conflict mode its ≡ false
slot-no_conflict_own limit counted own awaited database slot done past session other tag mode its below held has =
    slot-no_conflict limit counted database slot session other tag mode its past below held (λ strong. done.held other tag its strong has)

pub slot-no_conflict_awaited :
    (limit : ℕ) (counted : ℕ → List Counted) (own : Holds) (awaited : ℕ → Option OwnWait) (database : ℕ → ℕ) (slot : ℕ → ℕ → ℕ) →
    StrongIsDone limit counted own awaited → PastHasNoSlot counted (λ k. slot_holds (database k) (slot k)) →
    (session other : ℕ) (tag : Tag) (mode its : Mode) → session < limit →
    slot_holds (database session) (slot session) tag mode ≡ true → is_for (awaited other) tag its ≡ true → conflict mode its ≡ false
slot-no_conflict_awaited limit counted own awaited database slot done past session other tag mode its below held waits =
    slot-no_conflict limit counted database slot session other tag mode its past below held (λ strong. done.awaits other tag its strong waits)
