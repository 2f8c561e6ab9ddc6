use Rattle.std.specs.Prelude.{◌≡◌, ◌⊎◌, ℕ, ◌≤◌, Bool, true, false, List, [], ◌∷◌, Option, Some, None}
use Rattle.modes_core.specs.declared.modes.Mode.{Mode}
use Rattle.modes_core.specs.declared.tags.Tag.{Tag}
use Rattle.modes_core.specs.Mode.{number_of}
use Rattle.modes_core.specs.Conflict.{conflict}
use Rattle.modes_core.specs.Tag.{partition_of}
use Rattle.lock_table.specs.declared.moves.Move.{Move}
use Rattle.lock_table.specs.declared.moves.Move.TheVariants.{Keep, Grant, Join, Release, Leave, Adopt}
use Rattle.lock_table.specs.declared.answering.Answer.TheVariants.{Queued}
use Rattle.lock_table.specs.Content.{Wait, Content}
use Rattle.lock_table.specs.Queue.{WaitingAnswer, awaits_mode, waits_there, joined, with_queue}
use Rattle.lock_table.specs.Moves.{Moves}
use Rattle.lock_table.specs.OwnWait.{OwnWait}
use Rattle.lock_world.specs.declared.events.Event.{Event}
use Rattle.lock_world.specs.declared.events.Step.{Step}
use Rattle.lock_world.specs.declared.events.Step.TheVariants.{PutExclusive, SetWaiting, MarkGranted, ClearWait, SetSlot, ClearSlot}
use Rattle.lock_world.specs.declared.events.Word.TheVariants.{Partition}
use Rattle.lock_world.specs.World.{World, recorded_in}
use Rattle.lock_world.specs.Headline.{stands_with}

-- The lock manager as one plain list: who holds which object in which mode, and who waits for each object, in
-- which order. The list has no slot, no counter, no partition and no content in anybody's hand.

-- the one list that a World shows: each hold, wherever it stands, and the queue of each object
abbrev pub list_of : World → Content
list_of w = record { holds = stands_with w; waits = λ tag. (w.contents.now (partition_of tag)).waits tag }

-- What a wait remembers of the modes that its session holds on the object as it joins: some of them. Each
-- mode that is left out is weak (1 to 3), and conflicts neither with the mode asked for, nor with any that
-- somebody holds or awaits on the object then.
pub record Remembers (list : Content) (session : ℕ) (tag : Tag) (mode : Mode) (held : Mode → Bool) : Type 0 where
  pub are_held : (its : Mode) → held its ≡ true → list.holds session tag its ≡ true
  pub left_out_is_weak : (its : Mode) → list.holds session tag its ≡ true → held its ≡ false → number_of its ≤ 3
  pub left_out_beside_asked :
      (its : Mode) → list.holds session tag its ≡ true → held its ≡ false → conflict mode its ≡ false
  pub left_out_beside_holders :
      (its n : Mode) (other : ℕ) → list.holds session tag its ≡ true → held its ≡ false
      → list.holds other tag n ≡ true → conflict its n ≡ false
  pub left_out_beside_waiters :
      (its n : Mode) (other : ℕ) → list.holds session tag its ≡ true → held its ≡ false
      → awaits_mode (list.waits tag) other n ≡ true → conflict its n ≡ false

-- A session that asks for the mode hasn't got it, and waits in no queue.
pub record Asks (list : Content) (session : ℕ) (tag : Tag) (mode : Mode) : Type 0 where
  pub new : list.holds session tag mode ≡ false
  pub waits_nowhere : (other : Tag) → waits_there (list.waits other) session ≡ false

-- A session joins the object's queue, at the place that its request is answered with.
pub record JoinsQueue (before : Content) (session : ℕ) (tag : Tag) (mode : Mode) (after : Content) : Type 0 where
  pub place : ℕ
  pub held : Mode → Bool
  pub answered : WaitingAnswer before session tag mode (Queued place)
  pub remembers : Remembers before session tag mode held
  pub stands :
      after ≡ with_queue before tag
      (joined place (record { session = session; mode = mode; held = held }) (before.waits tag))

-- A move of the session leads from one list to another, and grants these waits. A grant has nothing in its
-- way, a join has its place, a release and a leave make their wakeups: all as `Moves` says of one content,
-- but that what a join remembers is open. Nothing is adopted: no hold has a place to move to.
abbrev pub MovesList : Content → ℕ → Move → List Wait → Content → Type 0
MovesList before session Keep granted after = (granted ≡ []) × (after ≡ before)
MovesList before session (Grant tag mode) granted after =
    Asks before session tag mode × Moves before session (Grant tag mode) granted after
MovesList before session (Join tag mode) granted after =
    Asks before session tag mode × (granted ≡ []) × JoinsQueue before session tag mode after
MovesList before session (Release tag mode) granted after = Moves before session (Release tag mode) granted after
MovesList before session (Leave tag) granted after = Moves before session (Leave tag) granted after
MovesList before session (Adopt owner slot) granted after = ⊥

-- What a step does to the list: nothing, or this move of its session.
abbrev pub Does : Option Move → Content → ℕ → Content → Type 0
Does None before session after = after ≡ before
Does (Some done) before session after = (granted : List Wait) × MovesList before session done granted after

-- the move, if none stands recorded in the hand that has the partition: a recorded one was made by an earlier
-- step
abbrev pub unless_recorded : Option Move → Move → Option Move
unless_recorded None done = Some done
unless_recorded (Some recorded) done = None

-- the leave of the queue in which the session waits, if none stands recorded
abbrev pub leave_of : World → Option OwnWait → Option Move
leave_of w None = None
leave_of w (Some wait) = unless_recorded (recorded_in (w.contents.hand (partition_of wait.tag))) (Leave wait.tag)

-- the move that a step of the session makes on the list, if any: six kinds of steps make one, at once and
-- whole
abbrev pub move_of_step : World → ℕ → Step → Option Move
move_of_step w session (SetSlot place tag mode) = Some (Grant tag mode)
move_of_step w session (ClearSlot place tag mode) = Some (Release tag mode)
move_of_step w session (PutExclusive (Partition partition) done) =
    unless_recorded (recorded_in (w.contents.hand partition)) done
move_of_step w session (SetWaiting tag mode) = Some (Join tag mode)
move_of_step w session (MarkGranted other (Release tag mode)) =
    unless_recorded (recorded_in (w.contents.hand (partition_of tag))) (Release tag mode)
move_of_step w session (MarkGranted other (Leave tag)) =
    unless_recorded (recorded_in (w.contents.hand (partition_of tag))) (Leave tag)
move_of_step w session (ClearWait true) = leave_of w (w.sessions.awaited session)
move_of_step w session step = None

-- The step of the session does to the list that the Worlds show just the move that it makes, if any.
abbrev pub DoesItsMove : World → ℕ → Step → World → Type 0
DoesItsMove w session step v = Does (move_of_step w session step) (list_of w) session (list_of v)

-- A step of the list: nothing changes, or the session makes one move.
abbrev pub IsStepOfList : ℕ → Content → Content → Type 0
IsStepOfList session before after =
    (after ≡ before) ⊎ ((done : Move) × (granted : List Wait) × MovesList before session done granted after)

-- A run of the list, event by event: what each World shows follows by a step of the list from what the one
-- before it showed.
abbrev pub IsRunOfList : Content → List Event → List World → Type 0
IsRunOfList list [] [] = Unit {0}
IsRunOfList list [] (w ∷ worlds) = ⊥
IsRunOfList list (event ∷ events) [] = ⊥
IsRunOfList list (event ∷ events) (w ∷ worlds) =
    IsStepOfList event.session list (list_of w) × IsRunOfList (list_of w) events worlds
