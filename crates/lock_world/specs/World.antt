use Rattle.std.specs.Prelude.{◌≡◌, ℕ, ◌*◌, ◌<◌, Bool, true, false, List, [], Option, Some, None}
use Rattle.lock_table.specs.declared.moves.Move.{Move}
use Rattle.lock_world.specs.declared.events.Word.{Word}
use Rattle.lock_world.specs.declared.events.Word.TheVariants.{Partition, Fast, Database, Slot, Wait, Strong, Sleep}
use Rattle.lock_table.specs.Content.{Holds, Content, empty_content}
use Rattle.lw_word.specs.LightweightWord.{free_word}
use Rattle.lw_word.specs.declared.wait_lists.LwWaiter.{LwWaiter}
use Rattle.lock_table.specs.OwnWait.{OwnWait}
use Rattle.lock_world.specs.SlotHolds.{group_size}
use Rattle.lock_world.specs.Counted.{Counted}

-- The World is all that there is between two atomic steps: what each word shows, each content wherever it is,
-- what each session has by its own account, and which session numbers are in use.

-- What the words of the shared table show, a field for each range of words.
pub record Words : Type 0 where
  -- the lightweight lock of each partition
  pub partition : ℕ → ℕ
  -- the lightweight lock of each session's fast-path slots
  pub fast : ℕ → ℕ
  -- the database of each session
  pub database : ℕ → ℕ
  -- each session's fast-path slots
  pub slot : ℕ → ℕ → ℕ
  -- each session's wait word
  pub wait : ℕ → ℕ
  -- the strong lock counters
  pub strong : ℕ → ℕ
  -- each session's sleep word: 0 not waiting for a lightweight lock, 1 waiting, 2 taken off the list and to
  -- be told
  pub sleep : ℕ → ℕ
  -- who waits for each lightweight lock, first come first, by the lock's number
  pub list : ℕ → List LwWaiter

-- A partition's content in a session's hand: whose hand it is, the content as it was taken, and what the
-- session has made of it.
pub record Hand : Type 0 where
  pub holder : ℕ
  pub taken : Content
  -- the move that it has made and that stands recorded in the content, if any
  pub recorded : Option Move
  -- those whom that move granted and whose wait words are not yet marked so
  pub unmarked : ℕ → Bool

-- The contents of the partitions.
pub record Contents : Type 0 where
  -- the content as it is now, at home or, as its holder has recorded it, in hand
  pub now : ℕ → Content
  -- nothing where the content is at home
  pub hand : ℕ → Option Hand

-- What a session has seen and done, in the order of its steps.
pub data TraceEntry : Type 0 where
  -- it took the partition with this content
  Took : (partition : ℕ) → (taken : Content) → TraceEntry
  -- it put the partition back: the content taken, and the content put
  Episode : (partition : ℕ) → (taken : Content) → (put_back : Content) → TraceEntry
  -- it asked the session to cancel, whose wait word showed this before
  AskedToCancel : (other : ℕ) → (before : ℕ) → TraceEntry
  -- it loaded the word, which showed this
  Loaded : (word : Word) → (shown : ℕ) → TraceEntry

-- What each session has by its own account.
pub record Sessions : Type 0 where
  -- its own holds
  pub own : Holds
  -- the partition words that it holds exclusively, and those that it shares
  pub holds_partition : ℕ → ℕ → Bool
  pub shares_partition : ℕ → ℕ → Bool
  -- the same of the words of sessions' fast-path locks
  pub holds_fast : ℕ → ℕ → Bool
  pub shares_fast : ℕ → ℕ → Bool
  -- its wait, until it has cleared its wait word
  pub awaited : ℕ → Option OwnWait
  -- it has seen its wait word show that this wait was granted
  pub seen : ℕ → Bool
  -- the strong locks that it has counted
  pub counted : ℕ → List Counted
  -- the index of the strong lock counter that it has read as 0, for as long as that lets it set a slot
  pub zero : ℕ → Option ℕ
  -- the words of its own slots as it last saw or stored them; others may have cleared modes there since
  pub remembered : ℕ → ℕ → ℕ
  -- the lightweight lock whose wait list it has in hand, and the one in whose list it stands, by their
  -- numbers
  pub has_list : ℕ → Option ℕ
  pub stands : ℕ → Option ℕ
  -- whom it has taken off a list and not told yet
  pub off : ℕ → ℕ → Bool
  pub trace : ℕ → List TraceEntry

-- The session numbers.
pub record Numbers : Type 0 where
  -- how many numbers there are
  pub limit : ℕ
  -- how many groups of fast-path slots each session has
  pub groups : ℕ
  -- the numbers below this one have been given out, and it is the next
  pub issued : ℕ
  -- the numbers given out and not closed
  pub live : ℕ → Bool
  -- the session that keeps this one apart, if any
  pub kept_by : ℕ → Option ℕ

-- All that there is between two atomic steps.
pub record World : Type 0 where
  pub words : Words
  pub contents : Contents
  pub sessions : Sessions
  pub numbers : Numbers

-- the move that a hand has recorded
abbrev pub recorded_in : Option Hand → Option Move
recorded_in None = None
recorded_in (Some hand) = hand.recorded

-- whether the hand has a grant of the session unmarked: its move granted the wait, and the wait word is not
-- marked yet
abbrev pub is_unmarked : Option Hand → ℕ → Bool
is_unmarked None session = false
is_unmarked (Some hand) session = hand.unmarked session

-- The session makes steps of its own: it is live, and no other session keeps it apart.
pub record MakesSteps (numbers : Numbers) (session : ℕ) : Type 0 where
  pub live : numbers.live session ≡ true
  pub by_itself : numbers.kept_by session ≡ None

-- The World before the first step, of `limit` sessions with `groups` groups of slots: all is empty, and only
-- release-ok is set, in each lightweight word.
abbrev pub opening : ℕ → ℕ → World
opening limit groups = record {
  words = record {
    partition = λ _. free_word;
    fast = λ _. free_word;
    database = λ _. 0;
    slot = λ _ _. 0;
    wait = λ _. 0;
    strong = λ _. 0;
    sleep = λ _. 0;
    list = λ _. [];
  };
  contents = record { now = λ _. empty_content; hand = λ _. None };
  sessions = record {
    own = λ _ _ _. false;
    holds_partition = λ _ _. false;
    shares_partition = λ _ _. false;
    holds_fast = λ _ _. false;
    shares_fast = λ _ _. false;
    awaited = λ _. None;
    seen = λ _. false;
    counted = λ _. [];
    zero = λ _. None;
    remembered = λ _ _. 0;
    has_list = λ _. None;
    stands = λ _. None;
    off = λ _ _. false;
    trace = λ _. [];
  };
  numbers = record { limit = limit; groups = groups; issued = 0; live = λ _. false; kept_by = λ _. None };
}

-- There is such a word, with this many groups of slots.
abbrev pub WordExists : ℕ → Word → Type 0
WordExists groups (Partition p) = p < 16
WordExists groups (Fast session) = Unit {0}
WordExists groups (Database session) = Unit {0}
WordExists groups (Slot session place) = place < group_size * groups
WordExists groups (Wait session) = Unit {0}
WordExists groups (Strong index) = index < 1024
WordExists groups (Sleep session) = Unit {0}

-- what a word shows in the World
abbrev pub word_in : Words → Word → ℕ
word_in words (Partition p) = words.partition p
word_in words (Fast session) = words.fast session
word_in words (Database session) = words.database session
word_in words (Slot session place) = words.slot session place
word_in words (Wait session) = words.wait session
word_in words (Strong index) = words.strong index
word_in words (Sleep session) = words.sleep session
