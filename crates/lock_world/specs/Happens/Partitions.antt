use Rattle.std.specs.Prelude.{◌≡◌, ◌≢◌, ℕ, true, false, List, Option, Some, None, ◌⊎◌, ◌<◌, [], ◌∷◌, ◌++◌}
use Rattle.modes_core.specs.Tag.{partition_of}
use Rattle.lock_table.specs.declared.moves.Move.{Move}
use Rattle.lock_table.specs.declared.moves.Move.TheVariants.{Keep, Grant, Join, Release, Leave, Adopt}
use Rattle.lock_table.specs.Content.{Holds, Content, set_hold}
use Rattle.lock_table.specs.Content as content
use Rattle.lock_table.specs.Moves.{Moves, IsInPartition, FitsOwn}
use Rattle.lock_table.specs.OwnWait.{OwnWait}
use Rattle.lock_world.specs.Counted.{IsCountedFor}
use Rattle.lock_world.specs.World.{World, Hand, MakesSteps, recorded_in, is_unmarked, Took, Episode}
use Rattle.lock_table.specs.Put.{set_at}
use Rattle.lw_word.specs.LightweightWord.{IsHeldByNobody, taken_word, put_word}

-- Partitions: a session takes a content in hand, and puts it back after one move of its own on it, at most.

-- Taking a partition: its word shows that nobody holds it.
pub record MayTakePartition (w : World) (session partition : ℕ) : Type 0 where
  pub steps : MakesSteps w.numbers session
  pub exists : partition < 16
  pub free : IsHeldByNobody (w.words.partition partition)

-- The word shows the exclusive holder, and the content is in the session's hand.
abbrev pub after_taking_partition : World → ℕ → ℕ → World
after_taking_partition w session partition = record {
  words = record (w.words) { partition = set_at w.words.partition partition (taken_word (w.words.partition partition)) };
  contents = record (w.contents) {
    hand = set_at w.contents.hand partition
        (Some (record { holder = session; taken = w.contents.now partition; recorded = None; unmarked = λ _. false }));
  };
  sessions = record (w.sessions) {
    holds_partition = set_at w.sessions.holds_partition session (set_at (w.sessions.holds_partition session) partition true);
    trace = set_at w.sessions.trace session (w.sessions.trace session ++ Took partition (w.contents.now partition) ∷ []);
  };
  numbers = w.numbers;
}

-- The partition is taken, where that is lawful.
abbrev pub HappensTakingPartition : World → ℕ → ℕ → World → Type 0
HappensTakingPartition w session partition v = MayTakePartition w session partition × (v ≡ after_taking_partition w session partition)

-- The session has the partition in hand, has made no move on it, and this one leads to the content and grants
-- these waits. A strong mode that it grants or queues is counted, and past each session.
pub record MayMove (w : World) (session partition : ℕ) (done : Move) (granted : List content.Wait) (content : Content) : Type 0 where
  pub steps : MakesSteps w.numbers session
  pub holding : w.sessions.holds_partition session partition ≡ true
  pub unrecorded : recorded_in (w.contents.hand partition) ≡ None
  pub object : IsInPartition partition done
  pub own : FitsOwn w.sessions.own (w.sessions.awaited session) session done
  pub counted : IsCountedFor w.numbers.limit (w.sessions.counted session) done
  pub moved : Moves (w.contents.now partition) session done granted content

-- own holds follow the move
abbrev pub own_after : Holds → ℕ → Move → Holds
own_after own session Keep = own
own_after own session (Grant tag mode) = set_hold own session tag mode true
own_after own session (Join tag mode) = own
own_after own session (Release tag mode) = set_hold own session tag mode false
own_after own session (Leave tag) = own
own_after own session (Adopt owner slot) = own

-- Putting a partition after one move of the session's own on its content, by which nobody is granted.
-- A join and a leave stand recorded before the partition is put.
abbrev pub IsMadeByPutting : Move → Type 0
IsMadeByPutting Keep = Unit {0}
IsMadeByPutting (Grant tag mode) = Unit {0}
IsMadeByPutting (Join tag mode) = ⊥
IsMadeByPutting (Release tag mode) = Unit {0}
IsMadeByPutting (Leave tag) = ⊥
IsMadeByPutting (Adopt owner slot) = ⊥

-- A partition may be put with a move that is made as it is put, which leaves this content.
pub record MayPutPartition (w : World) (session partition : ℕ) (done : Move) (content : Content) : Type 0 where
  pub may_move : MayMove w session partition done [] content
  pub by_putting : IsMadeByPutting done

-- the content that a hand has taken
abbrev pub content_taken : Content → Option Hand → Content
content_taken now None = now
content_taken now (Some hand) = hand.taken

-- The word is free of the session, the content is at home, and own holds follow.
abbrev pub after_putting_partition : World → ℕ → ℕ → Move → Content → World
after_putting_partition w session partition done content = record {
  words = record (w.words) { partition = set_at w.words.partition partition (put_word (w.words.partition partition)) };
  contents = record { now = set_at w.contents.now partition content; hand = set_at w.contents.hand partition None };
  sessions = record (w.sessions) {
    own = own_after w.sessions.own session done;
    holds_partition = set_at w.sessions.holds_partition session (set_at (w.sessions.holds_partition session) partition false);
    trace = set_at w.sessions.trace session
        (w.sessions.trace session ++ Episode partition (content_taken (w.contents.now partition) (w.contents.hand partition)) content ∷ []);
  };
  numbers = w.numbers;
}

-- Putting a partition with the move recorded in the hand: all whom it granted are marked, and after a leave
-- the session has no wait on an object of the partition.
abbrev pub WaitIsOver : Option OwnWait → ℕ → Move → Type 0
WaitIsOver awaited partition Keep = Unit {0}
WaitIsOver awaited partition (Grant tag mode) = Unit {0}
WaitIsOver awaited partition (Join tag mode) = Unit {0}
WaitIsOver awaited partition (Release tag mode) = Unit {0}
WaitIsOver awaited partition (Leave tag) = (wait : OwnWait) → awaited ≡ Some wait → partition_of wait.tag ≢ partition
WaitIsOver awaited partition (Adopt owner slot) = Unit {0}

-- A partition may be put with the move that stands recorded.
pub record MayPutRecorded (w : World) (session partition : ℕ) (done : Move) : Type 0 where
  pub steps : MakesSteps w.numbers session
  pub holding : w.sessions.holds_partition session partition ≡ true
  pub recorded : recorded_in (w.contents.hand partition) ≡ Some done
  pub all_marked : (other : ℕ) → is_unmarked (w.contents.hand partition) other ≡ false
  pub wait_is_over : WaitIsOver (w.sessions.awaited session) partition done

-- The content is as recorded, and own holds have followed.
abbrev pub after_putting_recorded : World → ℕ → ℕ → World
after_putting_recorded w session partition = after_putting_partition w session partition Keep (w.contents.now partition)

-- The partition is put, where that is lawful, in one of the two ways.
abbrev pub HappensPuttingPartition : World → ℕ → ℕ → Move → World → Type 0
HappensPuttingPartition w session partition done v =
    ((content : Content) × MayPutPartition w session partition done content
    × (v ≡ after_putting_partition w session partition done content))
    ⊎ (MayPutRecorded w session partition done × (v ≡ after_putting_recorded w session partition))
