use Rattle.std.specs.Prelude.{◌≡◌, ◌≢◌, ℕ, true, false, List, [], Option, None}
use Rattle.std.specs.Bool.{MatchBool}
use Rattle.modes_core.specs.declared.modes.Mode.{Mode}
use Rattle.modes_core.specs.declared.tags.Tag.{Tag}
use Rattle.modes_core.specs.Tag.{partition_of}
use Rattle.lock_table.specs.declared.moves.Move.{Move}
use Rattle.lock_table.specs.declared.moves.Move.TheVariants.{Keep, Grant, Join, Release, Leave, Adopt}
use Rattle.lock_table.specs.Content.{Holds, Wait, Content, add_hold, remove_hold}
use Rattle.lock_table.specs.declared.answering.Answer.TheVariants.{Granted, Queued}
use Rattle.lock_table.specs.Queue.{some_awaits_conflict, waits_there, WaitingAnswer, Wakes, add_wait, remove_wait}
use Rattle.lock_table.specs.OwnWait.{OwnWait}

-- After a hold of the mode is gone, the object's queue is woken where somebody awaits a mode in conflict with
-- it, and only there.
abbrev pub WakesFor : Mode → Content → Tag → List Wait → Content → Type 0
WakesFor mode before tag granted after =
    MatchBool (some_awaits_conflict (before.waits tag) mode) (Wakes before tag granted after) ((granted ≡ []) × (after ≡ before))

-- The move of the session leads from the one content to the other, and these waits are granted by it. An
-- adopt is made in many steps: see Adopts.
abbrev pub Moves : Content → ℕ → Move → List Wait → Content → Type 0
Moves before session Keep granted after = (granted ≡ []) × (after ≡ before)
Moves before session (Grant tag mode) granted after =
    WaitingAnswer before session tag mode Granted × (granted ≡ []) × (after ≡ add_hold before session tag mode)
Moves before session (Join tag mode) granted after =
    (place : ℕ) × WaitingAnswer before session tag mode (Queued place) × (granted ≡ []) × (after ≡ add_wait before session tag mode place)
Moves before session (Release tag mode) granted after =
    (before.holds session tag mode ≡ true) × WakesFor mode (remove_hold before session tag mode) tag granted after
Moves before session (Leave tag) granted after =
    (waits_there (before.waits tag) session ≡ true) × Wakes (remove_wait before session tag) tag granted after
Moves before session (Adopt owner slot) granted after = ⊥

-- An adopt has led from the one content to the other: the slot's session has more holds, and all else is as
-- before.
pub record Adopts (before : Content) (owner : ℕ) (after : Content) : Type 0 where
  pub more : (tag : Tag) (mode : Mode) → before.holds owner tag mode ≡ true → after.holds owner tag mode ≡ true
  pub others : (session : ℕ) → session ≢ owner → after.holds session ≡ before.holds session
  pub waits : after.waits ≡ before.waits

-- The object of a move lies in the partition.
abbrev pub IsInPartition : ℕ → Move → Type 0
IsInPartition partition Keep = Unit {0}
IsInPartition partition (Grant tag mode) = partition_of tag ≡ partition
IsInPartition partition (Join tag mode) = partition_of tag ≡ partition
IsInPartition partition (Release tag mode) = partition_of tag ≡ partition
IsInPartition partition (Leave tag) = partition_of tag ≡ partition
IsInPartition partition (Adopt owner slot) = Unit {0}

-- What a session must have for a move by its own account: for a grant or a join, no wait, and not the hold;
-- for a release, the hold. A leave takes out the session's wait that is in the queue.
abbrev pub FitsOwn : Holds → Option OwnWait → ℕ → Move → Type 0
FitsOwn own awaited session Keep = Unit {0}
FitsOwn own awaited session (Grant tag mode) = (awaited ≡ None) × (own session tag mode ≡ false)
FitsOwn own awaited session (Join tag mode) = (awaited ≡ None) × (own session tag mode ≡ false)
FitsOwn own awaited session (Release tag mode) = own session tag mode ≡ true
FitsOwn own awaited session (Leave tag) = Unit {0}
FitsOwn own awaited session (Adopt owner slot) = Unit {0}
