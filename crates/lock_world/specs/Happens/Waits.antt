use Rattle.std.specs.Prelude.{◌≡◌, ◌≢◌, ℕ, ◌==◌, ◌||◌, ◌&&◌, not, Bool, true, false, List, Option, Some, None, if◌then◌else◌, ◌⊎◌, [], ◌∷◌, ◌++◌}
use Rattle.modes_core.specs.declared.modes.Mode.{Mode}
use Rattle.modes_core.specs.declared.tags.Tag.{Tag}
use Rattle.modes_core.specs.Tag.{partition_of}
use Rattle.lock_table.specs.declared.moves.Move.{Move}
use Rattle.lock_table.specs.declared.moves.Move.TheVariants.{Keep, Grant, Join, Release, Leave, Adopt}
use Rattle.lock_table.specs.Content.{Holds, Wait, Content, set_hold}
use Rattle.lock_table.specs.Queue.{waits_there}
use Rattle.lock_table.specs.OwnWait.{OwnWait}
use Rattle.lock_world.specs.declared.events.Word.TheVariants as word
use Rattle.lock_world.specs.WaitWord.{wait_state, granted_word, asked_word}
use Rattle.lock_world.specs.World.{World, Hand, MakesSteps, recorded_in, is_unmarked, AskedToCancel, Loaded}
use Rattle.lock_table.specs.Put.{set_at}
use Rattle.lock_world.specs.Happens.Partitions.{MayMove, own_after}

-- Waits: steps on wait words. A join, a leave and a release that wakes somebody are made by such a step, and
-- stand recorded in the hand until the partition is put back.

-- Asking a session to cancel: any number, issued or not, closed or not, its own too.
abbrev pub after_asking : World → ℕ → ℕ → World
after_asking w session other = record {
  words = record (w.words) { wait = set_at w.words.wait other (asked_word (w.words.wait other)) };
  contents = w.contents;
  sessions = record (w.sessions) {
    trace = set_at w.sessions.trace session (w.sessions.trace session ++ AskedToCancel other (w.words.wait other) ∷ []);
  };
  numbers = w.numbers;
}

-- Loading one's own wait word: the value shown is the whole word, and a session sees so that its wait was
-- granted.
pub record MayLoadWait (w : World) (session shown : ℕ) : Type 0 where
  pub steps : MakesSteps w.numbers session
  pub is_word : shown ≡ w.words.wait session

-- the World once the session has loaded its wait word
abbrev pub after_loading_wait : World → ℕ → ℕ → World
after_loading_wait w session shown = record {
  words = w.words;
  contents = w.contents;
  sessions = record (w.sessions) {
    seen = set_at w.sessions.seen session (w.sessions.seen session || (wait_state (w.words.wait session) == 2));
    trace = set_at w.sessions.trace session (w.sessions.trace session ++ Loaded (word.Wait session) shown ∷ []);
  };
  numbers = w.numbers;
}

-- the hand, with a move recorded, and those whom it granted unmarked
abbrev pub recording : Option Hand → Move → (ℕ → Bool) → Option Hand
recording None done unmarked = None
recording (Some hand) done unmarked = Some (record hand { recorded = Some done; unmarked = unmarked })

-- the sessions that are unmarked, without one that is marked now
abbrev pub unmarked_but : (ℕ → Bool) → ℕ → ℕ → Bool
unmarked_but unmarked marked session = unmarked session && not (session == marked)

-- Setting one's own wait word to waiting: the join is made, the wait recorded.
abbrev pub after_setting_waiting : World → ℕ → Tag → Mode → Content → World
after_setting_waiting w session tag mode content = record {
  words = record (w.words) { wait = set_at w.words.wait session 1 };
  contents = record {
    now = set_at w.contents.now (partition_of tag) content;
    hand = set_at w.contents.hand (partition_of tag) (recording (w.contents.hand (partition_of tag)) (Join tag mode) (λ _. false));
  };
  sessions = record (w.sessions) {
    awaited = set_at w.sessions.awaited session
        (Some (record { tag = tag; mode = mode; held = (w.contents.now (partition_of tag)).holds session tag }));
    seen = set_at w.sessions.seen session false;
  };
  numbers = w.numbers;
}

-- The session sets its wait word to waiting and joins the queue, where that is lawful.
abbrev pub HappensSetting : World → ℕ → Tag → Mode → World → Type 0
HappensSetting w session tag mode v =
    (content : Content) × MayMove w session (partition_of tag) (Join tag mode) [] content
    × (v ≡ after_setting_waiting w session tag mode content)

-- Marking the wait of another session granted, which waits: by the first such step the move is made; by each
-- further one one more of those whom it granted is marked, until nobody is unmarked.
pub record MayMark (w : World) (session other : ℕ) : Type 0 where
  pub another : other ≢ session
  pub waiting : wait_state (w.words.wait other) ≡ 1

-- The first of those whom a move grants may be marked, by which the move is made and recorded.
pub record MayMarkFirst (w : World) (session other partition : ℕ) (done : Move) (granted : List Wait) (content : Content) : Type 0 where
  pub may_move : MayMove w session partition done granted content
  pub may_mark : MayMark w session other
  pub among : waits_there granted other ≡ true

-- the World once the move is made and recorded, and the first wait is marked
abbrev pub after_marking_first : World → ℕ → ℕ → ℕ → Move → List Wait → Content → World
after_marking_first w session other partition done granted content = record {
  words = record (w.words) { wait = set_at w.words.wait other (granted_word (w.words.wait other)) };
  contents = record {
    now = set_at w.contents.now partition content;
    hand = set_at w.contents.hand partition (recording (w.contents.hand partition) done (unmarked_but (waits_there granted) other));
  };
  sessions = record (w.sessions) { own = own_after w.sessions.own session done };
  numbers = w.numbers;
}

-- One more of those whom the recorded move granted may be marked.
pub record MayMarkNext (w : World) (session other partition : ℕ) (done : Move) : Type 0 where
  pub steps : MakesSteps w.numbers session
  pub holding : w.sessions.holds_partition session partition ≡ true
  pub recorded : recorded_in (w.contents.hand partition) ≡ Some done
  pub may_mark : MayMark w session other
  pub is_unmarked_in : is_unmarked (w.contents.hand partition) other ≡ true

-- the World once one more wait is marked
abbrev pub after_marking_next : World → ℕ → ℕ → Move → World
after_marking_next w other partition done = record {
  words = record (w.words) { wait = set_at w.words.wait other (granted_word (w.words.wait other)) };
  contents = record (w.contents) {
    hand = set_at w.contents.hand partition
        (recording (w.contents.hand partition) done (unmarked_but (is_unmarked (w.contents.hand partition)) other));
  };
  sessions = w.sessions;
  numbers = w.numbers;
}

-- A wait is marked by a move in the partition, where that is lawful, in one of the two ways.
abbrev pub HappensMarkingIn : World → ℕ → ℕ → ℕ → Move → World → Type 0
HappensMarkingIn w session other partition done v =
    ((granted : List Wait) × (content : Content) × MayMarkFirst w session other partition done granted content
    × (v ≡ after_marking_first w session other partition done granted content))
    ⊎ (MayMarkNext w session other partition done × (v ≡ after_marking_next w other partition done))

-- Only a release and a leave grant waits.
abbrev pub HappensMarking : World → ℕ → ℕ → Move → World → Type 0
HappensMarking w session other Keep v = ⊥
HappensMarking w session other (Grant tag mode) v = ⊥
HappensMarking w session other (Join tag mode) v = ⊥
HappensMarking w session other (Release tag mode) v = HappensMarkingIn w session other (partition_of tag) (Release tag mode) v
HappensMarking w session other (Leave tag) v = HappensMarkingIn w session other (partition_of tag) (Leave tag) v
HappensMarking w session other (Adopt owner slot) v = ⊥

-- Clearing one's own wait word: the session has seen the grant, or it has the partition in hand and its wait
-- is not in the queue. What was granted is its own from then on.
pub record MayClearSeen (w : World) (session : ℕ) (wait : OwnWait) : Type 0 where
  pub steps : MakesSteps w.numbers session
  pub is_wait : w.sessions.awaited session ≡ Some wait
  pub seen : w.sessions.seen session ≡ true

-- The session may clear its wait word, with the partition in hand and its wait no more in the queue.
pub record MayClearInHand (w : World) (session : ℕ) (wait : OwnWait) : Type 0 where
  pub steps : MakesSteps w.numbers session
  pub is_wait : w.sessions.awaited session ≡ Some wait
  pub holding : w.sessions.holds_partition session (partition_of wait.tag) ≡ true
  pub gone : waits_there ((w.contents.now (partition_of wait.tag)).waits wait.tag) session ≡ false

-- own holds with what the wait was granted, if it was
abbrev pub taken_over : World → ℕ → OwnWait → Holds
taken_over w session wait =
    if w.sessions.seen session || (w.contents.now (partition_of wait.tag)).holds session wait.tag wait.mode
    then set_hold w.sessions.own session wait.tag wait.mode true else w.sessions.own

-- the World once the session's wait is over
abbrev pub after_clearing : World → ℕ → OwnWait → World
after_clearing w session wait = record {
  words = record (w.words) { wait = set_at w.words.wait session 0 };
  contents = w.contents;
  sessions = record (w.sessions) {
    own = taken_over w session wait;
    awaited = set_at w.sessions.awaited session None;
    seen = set_at w.sessions.seen session false;
  };
  numbers = w.numbers;
}

-- Clearing the wait word by a step that takes the wait out of the queue itself.
pub record MayLeave (w : World) (session : ℕ) (wait : OwnWait) (granted : List Wait) (content : Content) : Type 0 where
  pub is_wait : w.sessions.awaited session ≡ Some wait
  pub may_move : MayMove w session (partition_of wait.tag) (Leave wait.tag) granted content

-- the World once the session's wait is out of the queue, and over
abbrev pub after_leaving : World → ℕ → OwnWait → List Wait → Content → World
after_leaving w session wait granted content = record {
  words = record (w.words) { wait = set_at w.words.wait session 0 };
  contents = record {
    now = set_at w.contents.now (partition_of wait.tag) content;
    hand = set_at w.contents.hand (partition_of wait.tag)
        (recording (w.contents.hand (partition_of wait.tag)) (Leave wait.tag) (waits_there granted));
  };
  sessions = record (w.sessions) {
    awaited = set_at w.sessions.awaited session None;
    seen = set_at w.sessions.seen session false;
  };
  numbers = w.numbers;
}

-- With leaving, the step makes the leave, or it stands recorded already.
abbrev pub HappensClearing : World → ℕ → Bool → World → Type 0
HappensClearing w session false v =
    (wait : OwnWait) × (MayClearSeen w session wait ⊎ MayClearInHand w session wait) × (v ≡ after_clearing w session wait)
HappensClearing w session true v =
    ((wait : OwnWait) × (granted : List Wait) × (content : Content) × MayLeave w session wait granted content
    × (v ≡ after_leaving w session wait granted content))
    ⊎ ((wait : OwnWait) × MayClearInHand w session wait
    × (recorded_in (w.contents.hand (partition_of wait.tag)) ≡ Some (Leave wait.tag)) × (v ≡ after_clearing w session wait))
