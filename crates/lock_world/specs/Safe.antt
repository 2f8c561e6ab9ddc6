use Rattle.std.specs.Prelude.{◌≡◌, ◌≢◌, ◌⊎◌, ℕ, ◌^◌, ◌<◌, ◌≤◌, Bool, true, false, ◌==◌, ◌&&◌, ◌||◌, List, [], ◌∷◌, filter, Option, Some, None, if◌then◌else◌}
use Rattle.modes_core.specs.declared.modes.Mode.{Mode}
use Rattle.modes_core.specs.declared.tags.Tag.{Tag}
use Rattle.modes_core.specs.Conflict.{conflict}
use Rattle.modes_core.specs.Tag.{tag_eq, partition_of, is_eligible_for}
use Rattle.lock_table.specs.declared.moves.Move.{Move}
use Rattle.lock_table.specs.declared.moves.Move.TheVariants.{Keep, Grant, Join, Release, Leave, Adopt}
use Rattle.lock_table.specs.Content.{Holds, Wait, Content}
use Rattle.lw_word.specs.LightweightWord.{IsHeldExclusively, shared_count}
use Rattle.lock_table.specs.OwnWait.{OwnWait, Stage, InQueue, WasGranted, HasLeft, is_for, is_pending, queued_by}
use Rattle.lock_table.specs.Queue.{NoneFree}
use Rattle.lock_table.specs.Total.{how_many}
use Rattle.lock_world.specs.WaitWord.{wait_state}
use Rattle.lock_table.specs.Moves.{Moves, Adopts, IsInPartition}
use Rattle.lock_table.specs.Put.{set_at}
use Rattle.lock_world.specs.World.{World, Hand, Contents, Numbers, TraceEntry, Took, Episode, AskedToCancel, Loaded, recorded_in, is_unmarked}

-- What holds between any two atomic steps: the promise, and the facts that carry it from one step to the
-- next.

-- How far each wait has come, as its word and the hand that has its partition tell.

-- whether the hand is this session's
abbrev pub is_hand_of : Option Hand → ℕ → Bool
is_hand_of None session = false
is_hand_of (Some hand) session = hand.holder == session

-- whether the move is a leave of the object's queue
abbrev pub is_leave_of : Option Move → Tag → Bool
is_leave_of None tag = false
is_leave_of (Some Keep) tag = false
is_leave_of (Some (Grant other mode)) tag = false
is_leave_of (Some (Join other mode)) tag = false
is_leave_of (Some (Release other mode)) tag = false
is_leave_of (Some (Leave other)) tag = tag_eq other tag
is_leave_of (Some (Adopt owner slot)) tag = false

-- the stage of a wait by the hand alone: granted where the grant stands unmarked in the hand, and left where
-- its own session's hand has recorded that
abbrev pub stage_by_hand : Option Hand → ℕ → Tag → Stage
stage_by_hand hand session tag =
    if is_unmarked hand session then WasGranted
    else (if is_hand_of hand session && is_leave_of (recorded_in hand) tag then HasLeft else InQueue)

-- the stage of a session's wait: granted where its word shows it, else by the hand that has the partition
abbrev pub stage_of : ℕ → (ℕ → Option Hand) → ℕ → Option OwnWait → Stage
stage_of word hand session None = InQueue
stage_of word hand session (Some wait) =
    if wait_state word == 2 then WasGranted else stage_by_hand (hand (partition_of wait.tag)) session wait.tag

-- the stage of each session's wait
abbrev pub stages : World → ℕ → Stage
stages w session = stage_of (w.words.wait session) w.contents.hand session (w.sessions.awaited session)

-- The promise.

-- No two holds of different sessions on one object conflict.
abbrev pub NoConflictingHolds : (ℕ → Content) → Type 0
NoConflictingHolds now =
    (p : ℕ) (session other : ℕ) (tag : Tag) (mode its : Mode) → session ≢ other
    → (now p).holds session tag mode ≡ true → (now p).holds other tag its ≡ true → conflict mode its ≡ false

-- On one object the content and the sessions' own accounts agree: each own hold is there, and nothing else
-- but pending grants; and a session has in the queue just the wait that it recorded, while that waits, with
-- what it recorded.
pub record AgreesOn (content : Content) (tag : Tag) (own : Holds) (awaited : ℕ → Option OwnWait) (stage : ℕ → Stage) : Type 0 where
  pub held : (session : ℕ) (mode : Mode) →
      content.holds session tag mode ≡ (own session tag mode || is_pending (awaited session) (stage session) tag mode)
  pub in_queue : (session : ℕ) →
      filter (λ wait. wait.session == session) (content.waits tag) ≡ queued_by session (awaited session) (stage session) tag

-- Each own hold, each pending grant and each wait of a session is in exactly one place, the content of the
-- object's partition, and the contents have nothing else. What a session awaits is no own hold of it.
pub record AreInOnePlace (now : ℕ → Content) (own : Holds) (awaited : ℕ → Option OwnWait) (stage : ℕ → Stage) : Type 0 where
  pub on_object : (tag : Tag) → AgreesOn (now (partition_of tag)) tag own awaited stage
  pub no_hold_elsewhere : (p session : ℕ) (tag : Tag) (mode : Mode) → (now p).holds session tag mode ≡ true → partition_of tag ≡ p
  pub no_wait_elsewhere : (p : ℕ) (tag : Tag) → partition_of tag ≢ p → (now p).waits tag ≡ []
  pub awaited_is_not_own : (session : ℕ) (tag : Tag) (mode : Mode) → is_for (awaited session) tag mode ≡ true → own session tag mode ≡ false

-- No wait is free to go, after those before it.
abbrev pub NobodyIsFree : (ℕ → Content) → Type 0
NobodyIsFree now = (p : ℕ) (tag : Tag) → NoneFree (now p) tag

-- A lightweight word shows exactly the sessions that hold it: its bit 24 is set exactly where one session,
-- and no more, holds it exclusively, its count is the number of those that share it, and never both.
pub record ShowsHolders (limit word : ℕ) (holds shares : ℕ → Bool) : Type 0 where
  pub held_is_shown : (session : ℕ) → holds session ≡ true → IsHeldExclusively word
  pub shown_is_held : IsHeldExclusively word → (session : ℕ) × (holds session ≡ true)
  pub by_one : (session other : ℕ) → holds session ≡ true → holds other ≡ true → session ≡ other
  pub shared : shared_count word ≡ how_many limit shares
  pub within : (session : ℕ) → shares session ≡ true → session < limit
  pub never_both : (session other : ℕ) → holds session ≡ true → shares other ≡ false

-- Each word shows who holds it and how many share it.
abbrev pub WordsShowHolders : ℕ → (ℕ → ℕ) → (ℕ → ℕ → Bool) → (ℕ → ℕ → Bool) → Type 0
WordsShowHolders limit word holds shares = (p : ℕ) → ShowsHolders limit (word p) (λ session. holds session p) (λ session. shares session p)

-- A wait word shows 0 where its session has no wait, else that it waits or that its wait was granted. A
-- session has seen a grant only where its word shows it; and a grant stands unmarked in a hand only of a
-- session that waits on an object of its partition, and whose hand it is not.
pub record WaitWordsShowWaits (word : ℕ → ℕ) (awaited : ℕ → Option OwnWait) (seen : ℕ → Bool) (hand : ℕ → Option Hand) : Type 0 where
  pub idle : (session : ℕ) → awaited session ≡ None → wait_state (word session) ≡ 0
  pub waiting :
      (session : ℕ) (wait : OwnWait) → awaited session ≡ Some wait
      → (wait_state (word session) ≡ 1) ⊎ (wait_state (word session) ≡ 2)
  pub seen_is_shown : (session : ℕ) → seen session ≡ true → wait_state (word session) ≡ 2
  pub unmarked_waits : (p session : ℕ) →
      is_unmarked (hand p) session ≡ true → (wait : OwnWait) × (awaited session ≡ Some wait) × (partition_of wait.tag ≡ p)
  pub unmarked_shows_waiting : (p session : ℕ) → is_unmarked (hand p) session ≡ true → wait_state (word session) ≡ 1
  pub unmarked_of_another : (p session : ℕ) → is_unmarked (hand p) session ≡ true → is_hand_of (hand p) session ≡ false

-- A session number that is not live has no hold, no wait and no word.
pub record SpentHaveNothing (live : ℕ → Bool) (own : Holds) (awaited : ℕ → Option OwnWait) (holds : ℕ → ℕ → Bool) : Type 0 where
  pub no_hold : (session : ℕ) (tag : Tag) (mode : Mode) → live session ≡ false → own session tag mode ≡ false
  pub no_wait : (session : ℕ) → live session ≡ false → awaited session ≡ None
  pub no_word : (session p : ℕ) → live session ≡ false → holds session p ≡ false

-- What is promised of partitions, waits and lightweight words.
pub record Promise (w : World) : Type 0 where
  pub no_conflict : NoConflictingHolds w.contents.now
  pub one_place : AreInOnePlace w.contents.now w.sessions.own w.sessions.awaited (stages w)
  pub none_free : NobodyIsFree w.contents.now
  pub wait_words : WaitWordsShowWaits w.words.wait w.sessions.awaited w.sessions.seen w.contents.hand
  pub words : WordsShowHolders w.numbers.limit w.words.partition w.sessions.holds_partition w.sessions.shares_partition
  pub spent : SpentHaveNothing w.numbers.live w.sessions.own w.sessions.awaited w.sessions.holds_partition

-- The facts that carry the promise.

-- A content is in a session's hand exactly where the session holds the partition's word.
abbrev pub HandsAreHolders : (ℕ → Option Hand) → (ℕ → ℕ → Bool) → Type 0
HandsAreHolders hand holds = (p session : ℕ) → holds session p ≡ is_hand_of (hand p) session

-- Live numbers are given out, no more than there are, of which a word's count can hold each; and only live
-- sessions are kept apart, by live ones.
pub record NumbersAreInOrder (numbers : Numbers) : Type 0 where
  pub live_is_issued : (session : ℕ) → numbers.live session ≡ true → session < numbers.issued
  pub within : numbers.issued ≤ numbers.limit
  pub few : numbers.limit < 2 ^ 24
  pub kept_is_live : (session joiner : ℕ) → numbers.kept_by session ≡ Some joiner → numbers.live session ≡ true
  pub joiner_is_live : (session joiner : ℕ) → numbers.kept_by session ≡ Some joiner → numbers.live joiner ≡ true

-- In a hand that has recorded no move nobody is unmarked.
abbrev pub UnmarkedByItsMove : (ℕ → Option Hand) → Type 0
UnmarkedByItsMove hand = (p : ℕ) → recorded_in (hand p) ≡ None → (session : ℕ) → is_unmarked (hand p) session ≡ false

-- What carries the promise from one step to the next.
pub record Carriers (w : World) : Type 0 where
  pub hands : HandsAreHolders w.contents.hand w.sessions.holds_partition
  pub numbers : NumbersAreInOrder w.numbers
  pub unmarked_by_move : UnmarkedByItsMove w.contents.hand

-- What is safe of partitions, waits and numbers.
pub record TableIsSafe (w : World) : Type 0 where
  pub promise : Promise w
  pub carriers : Carriers w

-- What the traces tell.

-- what a session has in hand after this step, of each partition the content as it took it
abbrev pub taken_after : (ℕ → Option Content) → TraceEntry → ℕ → Option Content
taken_after taken (Took partition content) = set_at taken partition (Some content)
taken_after taken (Episode partition content put_back) = set_at taken partition None
taken_after taken (AskedToCancel other before) = taken
taken_after taken (Loaded word shown) = taken

-- what the session has in hand after these steps, of each partition the content as it took it
abbrev pub taken_by : (ℕ → Option Content) → List TraceEntry → ℕ → Option Content
taken_by taken [] = taken
taken_by taken (entry ∷ trace) = taken_by (taken_after taken entry) trace

-- A hold that a slot could have, on an object of the partition: in a mode and on a relation that are eligible
-- for some database.
pub record IsAdopted (partition : ℕ) (tag : Tag) (mode : Mode) : Type 0 where
  pub object : partition_of tag ≡ partition
  pub database : ℕ
  pub eligible : is_eligible_for database tag mode ≡ true

-- An adopt adds such holds of one session, and no others of it.
abbrev pub AddsAdopted : ℕ → Content → ℕ → Content → Type 0
AddsAdopted partition before owner after =
    (tag : Tag) (mode : Mode) → after.holds owner tag mode ≡ true
    → (before.holds owner tag mode ≡ true) ⊎ IsAdopted partition tag mode

-- The move of the session, in all its steps, is on an object of the partition, and leads from the one content
-- to the other.
abbrev pub Makes : ℕ → Content → ℕ → Move → Content → Type 0
Makes partition taken session done now =
    ((granted : List Wait) × IsInPartition partition done × Moves taken session done granted now)
    ⊎ ((owner : ℕ) × (slot : ℕ) × (done ≡ Adopt owner slot) × Adopts taken owner now × AddsAdopted partition taken owner now)

-- One move of the session on the partition leads from the one content to the other.
abbrev pub IsOneMove : ℕ → Content → ℕ → Content → Type 0
IsOneMove partition taken session now = (done : Move) × Makes partition taken session done now

-- An episode is of a partition that the session had in hand, with the content that it took, and puts what one
-- move makes of it.
abbrev pub EntryIsSound : ℕ → (ℕ → Option Content) → TraceEntry → Type 0
EntryIsSound session taken (Took partition content) = Unit {0}
EntryIsSound session taken (Episode partition content put_back) =
    (taken partition ≡ Some content) × IsOneMove partition content session put_back
EntryIsSound session taken (AskedToCancel other before) = Unit {0}
EntryIsSound session taken (Loaded word shown) = Unit {0}

-- Each episode of a trace put what one move makes of the content that it took, and that one was taken before.
abbrev pub EpisodesAreMoves : ℕ → (ℕ → Option Content) → List TraceEntry → Type 0
EpisodesAreMoves session taken [] = Unit {0}
EpisodesAreMoves session taken (entry ∷ trace) = EntryIsSound session taken entry × EpisodesAreMoves session (taken_after taken entry) trace

-- the content that the session has taken and has in hand, if this is its hand
abbrev pub taken_in : Option Hand → ℕ → Option Content
taken_in None session = None
taken_in (Some hand) session = if hand.holder == session then Some hand.taken else None

-- The content in hand is the one taken, or what the recorded move has made of it.
abbrev pub IsMadeBy : ℕ → Option Move → Content → ℕ → Content → Type 0
IsMadeBy partition None taken session now = now ≡ taken
IsMadeBy partition (Some done) taken session now = Makes partition taken session done now

-- A content in hand is the content taken after one move at most.
abbrev pub HandIsOneMove : ℕ → Option Hand → Content → Type 0
HandIsOneMove partition None now = Unit {0}
HandIsOneMove partition (Some hand) now = IsMadeBy partition hand.recorded hand.taken hand.holder now

-- Each content in hand is the content taken after one move at most; each episode in a trace put such a
-- content, of a partition that the session had in hand until then; and a number not yet given out has no
-- trace.
pub record TracesTell (contents : Contents) (trace : ℕ → List TraceEntry) (issued : ℕ) : Type 0 where
  pub one_move : (p : ℕ) → HandIsOneMove p (contents.hand p) (contents.now p)
  pub in_hand : (session p : ℕ) → taken_by (λ _. None) (trace session) p ≡ taken_in (contents.hand p) session
  pub episodes : (session : ℕ) → EpisodesAreMoves session (λ _. None) (trace session)
  pub new : (session : ℕ) → issued ≤ session → trace session ≡ []

-- What is safe of the words of sessions' fast-path locks, and of sharing.

-- The words of fast-path locks show who holds them, and a number that is not live holds none and shares no
-- word.
pub record LocksAreShown (limit : ℕ) (live : ℕ → Bool) (fast : ℕ → ℕ)
    (holds_fast shares_fast shares_partition : ℕ → ℕ → Bool) : Type 0 where
  pub fast_words : WordsShowHolders limit fast holds_fast shares_fast
  pub no_fast : (session owner : ℕ) → live session ≡ false → holds_fast session owner ≡ false
  pub no_shared_fast : (session owner : ℕ) → live session ≡ false → shares_fast session owner ≡ false
  pub no_shared_partition : (session p : ℕ) → live session ≡ false → shares_partition session p ≡ false

-- What is safe of a World but for slots and counters.
pub record SafeButSlots (w : World) : Type 0 where
  pub table : TableIsSafe w
  pub locks :
      LocksAreShown w.numbers.limit w.numbers.live w.words.fast
      w.sessions.holds_fast w.sessions.shares_fast w.sessions.shares_partition
  pub traces : TracesTell w.contents w.sessions.trace w.numbers.issued
