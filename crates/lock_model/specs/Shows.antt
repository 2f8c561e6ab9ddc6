use Rattle.std.specs.Prelude.{◌≡◌, ◌⊎◌, ℕ, ◌<◌, Bool, true, false, not, ◌&&◌, ◌==◌, List, [], length, map, filter, count_by, Option, Some, None, is_none, All, option_map, slice_index_or, if◌then◌else◌}
use Rattle.std.specs.List.{list_any}
use Rattle.modes_core.specs.declared.modes.Mode.{Mode}
use Rattle.modes_core.specs.declared.tags.Tag.{Tag}
use Rattle.modes_core.specs.Mode.{mode_eq}
use Rattle.modes_core.specs.Sessions.{most_sessions}
use Rattle.modes_core.specs.Tag.{tag_eq, partition_of}
use Rattle.lock_model.specs.declared.machine.plain.Hold.{Hold}
use Rattle.lock_model.specs.declared.machine.plain.Spot.TheVariants.{Table}
use Rattle.lock_model.specs.declared.machine.hands.InHand.{InHand}
use Rattle.lock_model.specs.declared.machine.own_waits.Awaited.{Awaited}
use Rattle.lock_model.specs.declared.machine.state.Numbers.{Numbers}
use Rattle.lock_model.specs.declared.machine.state.Words.{Words}
use Rattle.lock_model.specs.declared.machine.state.Locks.{Locks}
use Rattle.lock_model.specs.declared.machine.state.FastPath.{FastPath}
use Rattle.lock_model.specs.declared.machine.state.CountedBy.{CountedBy}
use Rattle.lock_model.specs.declared.machine.state.Sleeper.{Sleeper}
use Rattle.lock_model.specs.declared.machine.state.Lists.{Lists}
use Rattle.lock_model.specs.declared.machine.state.Contents.{Contents}
use Rattle.lock_model.specs.declared.machine.state.OwnWaits.{OwnWaits}
use Rattle.lock_model.specs.declared.machine.state.Machine.{Machine}
use Rattle.lock_table.specs.declared.moves.Move.{Move}
use Rattle.lock_table.specs.declared.moves.Move.TheVariants.{Keep, Grant, Join, Release, Leave, Adopt}
use Rattle.lock_table.specs.MoveTests.{move_eq}
use Rattle.lock_world.specs.declared.events.Step.{Step}
use Rattle.lock_table.specs.Content.{Holds, Content}
use Rattle.lw_word.specs.LightweightWord.{IsLightweightWord}
use Rattle.lw_word.specs.LockState.{LockState, opening_state, state_of}
use Rattle.lw_word.specs.declared.wait_lists.LwWaiter.{LwWaiter}
use Rattle.lock_table.specs.OwnWait.{OwnWait}
use Rattle.lock_table.specs.Parts.{part_at, contents_in}
use Rattle.lock_world.specs.Counted.{Counted}
use Rattle.lock_world.specs.World.{World, Hand}
use Rattle.lock_world.specs.World as world
use Rattle.lock_world.specs.Happens.{Next}
use Rattle.lock_world.specs.Happens.Waits.{HappensMarkingIn}
use Rattle.lock_table.specs.Queue.{waits_there}
use Rattle.lock_world.specs.SafeWorld.{SafeWorld}

-- whether a hold is that of this session on this object in this mode
abbrev pub is_hold : ℕ → Tag → Mode → Hold → Bool
is_hold session tag mode hold = (hold.session == session) && (tag_eq hold.tag tag && mode_eq hold.mode mode)

-- The list has each of the holds once, and nothing else.
abbrev pub ListsHolds : List Hold → Holds → Type 0
ListsHolds list holds =
    (session : ℕ) (tag : Tag) (mode : Mode) → count_by (is_hold session tag mode) list ≡ (if holds session tag mode then 1 else 0)

-- Each of the listed holds is in the lock table.
abbrev pub AreInTable : List Hold → Type 0
AreInTable list = All (λ hold. hold.spot ≡ Table) list

-- whether the session is one of those unmarked
abbrev pub is_unmarked_in : List Bool → ℕ → Bool
is_unmarked_in unmarked session = slice_index_or unmarked session false

-- whether no session is marked
abbrev pub none_unmarked : List Bool → Bool
none_unmarked unmarked = not (list_any (λ b. b) unmarked)

-- whether the session is among those woken
abbrev pub names_in : List (ℕ × Mode) → ℕ → Bool
names_in woken session = list_any (λ whose. whose.0 == session) woken

-- The machine's hand is the World's.
pub record ShowsHand (shown : InHand) (hand : Hand) : Type 0 where
  pub holder : shown.holder ≡ hand.holder
  pub recorded : shown.recorded ≡ hand.recorded
  pub unmarked : (session : ℕ) → is_unmarked_in shown.unmarked session ≡ hand.unmarked session

-- Either both have no hand, or the machine's hand is the World's.
abbrev pub ShowsHandIfAny : Option InHand → Option Hand → Type 0
ShowsHandIfAny None None = Unit {0}
ShowsHandIfAny (Some shown) (Some hand) = ShowsHand shown hand
ShowsHandIfAny None (Some hand) = ⊥
ShowsHandIfAny (Some shown) None = ⊥

-- what the machine keeps of a session's wait
abbrev pub awaited_of : OwnWait → Awaited
awaited_of wait = record { tag = wait.tag; mode = wait.mode }

-- The session numbers in use are the World's.
pub record ShowsNumbers (shown : Numbers) (numbers : world.Numbers) : Type 0 where
  pub limit : numbers.limit ≡ 64
  pub groups : shown.groups ≡ numbers.groups
  pub some_groups : 0 < shown.groups
  pub issued : shown.issued ≡ numbers.issued
  pub live : (session : ℕ) → slice_index_or shown.live session false ≡ numbers.live session
  pub kept_by : (session : ℕ) → slice_index_or shown.kept_by session None ≡ numbers.kept_by session

-- The word of a lightweight lock says what its number in the World says.
pub record ShowsLock (shown : LockState) (word : ℕ) : Type 0 where
  pub says : shown ≡ state_of word
  pub is_word : IsLightweightWord word

-- The words show what they show in the World. A wait word is there of each session that has a number, since
-- any may be asked to cancel.
pub record ShowsWords (shown : Words) (words : world.Words) : Type 0 where
  pub sixty_four_fast : length shown.fast ≡ 64
  pub all_waits : length shown.waits ≡ most_sessions
  pub partition : (p : ℕ) → ShowsLock (slice_index_or shown.partitions p opening_state) (words.partition p)
  pub fast : (session : ℕ) → ShowsLock (slice_index_or shown.fast session opening_state) (words.fast session)
  pub wait : (session : ℕ) → slice_index_or shown.waits session 0 ≡ words.wait session

-- The marks of some locks, 64 of each, show which sessions have which of them in the World.
pub record ShowsMarks (shown : List (List Bool)) (locks : ℕ) (has : ℕ → ℕ → Bool) : Type 0 where
  pub as_many : length shown ≡ locks
  pub sixty_four : (lock : ℕ) → lock < locks → length (slice_index_or shown lock []) ≡ 64
  pub mark : (session lock : ℕ) → slice_index_or (slice_index_or shown lock []) session false ≡ has session lock

-- Who has the lightweight locks of fast-path slots, exclusively or shared, and who shares those of partitions
-- is as in the World.
pub record ShowsLocks (shown : Locks) (holds_fast shares_fast shares_partition : ℕ → ℕ → Bool) : Type 0 where
  pub fast_holders : ShowsMarks shown.fast_holders 64 holds_fast
  pub fast_sharers : ShowsMarks shown.fast_sharers 64 shares_fast
  pub partition_sharers : ShowsMarks shown.partition_sharers 16 shares_partition

-- The databases and the slots are the World's, and so is which counter each session has read as 0.
pub record ShowsFastPath (shown : FastPath) (databases : ℕ → ℕ) (slots : ℕ → ℕ → ℕ) (zeros : ℕ → Option ℕ) : Type 0 where
  pub sixty_four_databases : length shown.databases ≡ 64
  pub sixty_four : length shown.slots ≡ 64
  pub each_slots : (session : ℕ) → session < 64 → length (slice_index_or shown.slots session []) ≡ 128
  pub sixty_four_zeros : length shown.zeros ≡ 64
  pub database : (session : ℕ) → slice_index_or shown.databases session 0 ≡ databases session
  pub slot : (session place : ℕ) → slice_index_or (slice_index_or shown.slots session []) place 0 ≡ slots session place
  pub zero : (session : ℕ) → slice_index_or shown.zeros session None ≡ zeros session

-- what the machine keeps of a strong lock that is counted, without the session
abbrev pub counted_from : CountedBy → Counted
counted_from c = record { tag = c.tag; mode = c.mode; position = c.position }

-- the strong locks that the session has counted
abbrev pub counted_of : ℕ → List CountedBy → List Counted
counted_of session list = map counted_from (filter (λ c. c.session == session) list)

-- The strong locks that each session has counted are the World's.
pub record ShowsCounted (shown : List CountedBy) (counted : ℕ → List Counted) : Type 0 where
  pub each : (session : ℕ) → counted_of session shown ≡ counted session
  pub within : All (λ c. c.session < 64) shown

-- The contents, at home and in hand, are the World's, and no request is begun in any.
pub record ShowsContents (shown : Contents) (contents : world.Contents) : Type 0 where
  pub sixteen_hands : length shown.hands ≡ 16
  pub hand : (p : ℕ) → ShowsHandIfAny (slice_index_or shown.hands p None) (contents.hand p)
  pub sixteen : length shown.parts.items ≡ 16
  pub now : (p : ℕ) → p < 16 → contents_in shown.parts.items p ≡ contents.now p
  pub none_begun : (p : ℕ) → (part_at shown.parts.items p).begun ≡ None

-- The sessions' waits by their own account are the World's: what each awaits, and whether it has seen its
-- grant.
pub record ShowsWaits (shown : OwnWaits) (wait : ℕ → Option OwnWait) (has_seen : ℕ → Bool) : Type 0 where
  pub sixty_four : length shown.awaited ≡ 64
  pub sixty_four_seen : length shown.seen ≡ 64
  pub awaited : (session : ℕ) → slice_index_or shown.awaited session None ≡ option_map awaited_of (wait session)
  pub seen : (session : ℕ) → slice_index_or shown.seen session false ≡ has_seen session

-- the wait list of a lock: those who wait for it, in the order of joining
abbrev pub waiters_of : ℕ → List Sleeper → List LwWaiter
waiters_of lock list = map (λ (sleeper : Sleeper). sleeper.waiter) (filter (λ (sleeper : Sleeper). sleeper.lock == lock) list)

-- The wait lists and the sleep words are the World's, and so is what each session knows of lists: the one
-- that it has locked, the one that it is in, and whom it took off.
pub record ShowsLists (shown : Lists) (words : ℕ → ℕ) (lists : ℕ → List LwWaiter)
    (have stand : ℕ → Option ℕ) (taken : ℕ → ℕ → Bool) : Type 0 where
  pub sixty_four : length shown.sleep ≡ 64
  pub sixty_four_have : length shown.has_list ≡ 64
  pub sixty_four_stand : length shown.stands ≡ 64
  pub sixty_four_off : length shown.off ≡ 64
  pub each_off : (session : ℕ) → session < 64 → length (slice_index_or shown.off session []) ≡ 64
  pub sleep : (session : ℕ) → slice_index_or shown.sleep session 0 ≡ words session
  pub list : (lock : ℕ) → waiters_of lock shown.sleepers.items ≡ lists lock
  pub has_list : (session : ℕ) → slice_index_or shown.has_list session None ≡ have session
  pub stands : (session : ℕ) → slice_index_or shown.stands session None ≡ stand session
  pub off : (session other : ℕ) → slice_index_or (slice_index_or shown.off session []) other false ≡ taken session other

-- What the machine keeps is what the World has. It keeps no own holds: a session's own are those that its
-- slots show, and those of the contents but what it awaits.
pub record Shows (machine : Machine) (w : World) : Type 0 where
  pub numbers : ShowsNumbers machine.numbers w.numbers
  pub words : ShowsWords machine.words w.words
  pub locks : ShowsLocks machine.locks w.sessions.holds_fast w.sessions.shares_fast w.sessions.shares_partition
  pub fast_path : ShowsFastPath machine.fast_path w.words.database w.words.slot w.sessions.zero
  pub counted : ShowsCounted machine.counted.items w.sessions.counted
  pub lists : ShowsLists machine.lists w.words.sleep w.words.list w.sessions.has_list w.sessions.stands w.sessions.off
  pub contents : ShowsContents machine.contents w.contents
  pub waits : ShowsWaits machine.waits w.sessions.awaited w.sessions.seen

-- whether the session makes steps of its own
abbrev pub makes_steps : Machine → ℕ → Bool
makes_steps machine session =
    slice_index_or machine.numbers.live session false && is_none (slice_index_or machine.numbers.kept_by session None)

-- whether the session has locked no wait list and is in none
abbrev pub has_no_list : Machine → ℕ → Bool
has_no_list machine session =
    is_none (slice_index_or machine.lists.has_list session None) && is_none (slice_index_or machine.lists.stands session None)

-- whether the session has taken somebody off a wait list and not woken it
abbrev pub owes_a_telling : Machine → ℕ → Bool
owes_a_telling machine session = list_any (λ untold. untold) (slice_index_or machine.lists.off session [])

-- whether the session has a mark of any lock
abbrev pub has_a_mark : ℕ → List (List Bool) → Bool
has_a_mark session marks = list_any (λ of_lock. slice_index_or of_lock session false) marks

-- whether there is a number, and it is this one
abbrev pub is_number : ℕ → Option ℕ → Bool
is_number session None = false
is_number session (Some other) = other == session

-- whether a hand is this session's
abbrev pub is_holder : ℕ → Option InHand → Bool
is_holder session None = false
is_holder session (Some hand) = hand.holder == session

-- the partition in hand, where the session makes steps and has it
abbrev pub hand_of : Machine → ℕ → ℕ → Option InHand
hand_of machine session p =
    if makes_steps machine session && is_holder session (slice_index_or machine.contents.hands p None)
    then slice_index_or machine.contents.hands p None
    else None

-- whether the wait is for the mode on the object
abbrev pub awaits : Option Awaited → Tag → Mode → Bool
awaits None tag mode = false
awaits (Some wait) tag mode = tag_eq wait.tag tag && mode_eq wait.mode mode

-- The session has the partition in hand, and has made no move on it.
abbrev pub HasUnmoved : Machine → ℕ → ℕ → Type 0
HasUnmoved machine session p = (hand : InHand) × (hand_of machine session p ≡ Some hand) × (hand.recorded ≡ None)

-- whether this move is recorded
abbrev pub has_made : Option Move → Move → Bool
has_made None done = false
has_made (Some recorded) done = move_eq recorded done

-- whether the move has left the session no wait on an object of the partition that it should have ended
abbrev pub is_over : Option Awaited → ℕ → Move → Bool
is_over awaited p Keep = true
is_over awaited p (Grant tag mode) = true
is_over awaited p (Join tag mode) = true
is_over awaited p (Release tag mode) = true
is_over awaited p (Adopt owner slot) = true
is_over None p (Leave tag) = true
is_over (Some wait) p (Leave tag) = not (partition_of wait.tag == p)

-- whether the move is a release or a leave, which can grant waits
abbrev pub IsWaking : Move → Type 0
IsWaking Keep = ⊥
IsWaking (Grant tag mode) = ⊥
IsWaking (Join tag mode) = ⊥
IsWaking (Release tag mode) = Unit {0}
IsWaking (Leave tag) = Unit {0}
IsWaking (Adopt owner slot) = ⊥

-- What a release asks of the session's account beside the hold: that it is no grant which it hasn't taken
-- over.
abbrev pub IsOwnFor : Option Awaited → Move → Type 0
IsOwnFor awaited Keep = Unit {0}
IsOwnFor awaited (Grant tag mode) = Unit {0}
IsOwnFor awaited (Join tag mode) = Unit {0}
IsOwnFor awaited (Release tag mode) = awaits awaited tag mode ≡ false
IsOwnFor awaited (Leave tag) = Unit {0}
IsOwnFor awaited (Adopt owner slot) = Unit {0}

-- The session cannot make the release or the leave: it has no such hold of its own, or no such wait.
abbrev pub CannotMake : Option Awaited → Content → ℕ → Move → Type 0
CannotMake awaited content session Keep = Unit {0}
CannotMake awaited content session (Grant tag mode) = Unit {0}
CannotMake awaited content session (Join tag mode) = Unit {0}
CannotMake awaited content session (Release tag mode) = (awaits awaited tag mode ≡ true) ⊎ (content.holds session tag mode ≡ false)
CannotMake awaited content session (Leave tag) = waits_there (content.waits tag) session ≡ false
CannotMake awaited content session (Adopt owner slot) = Unit {0}

-- The machine shows a safe World.
abbrev pub ShowsSafe : Machine → Type 0
ShowsSafe machine = (w : World) × SafeWorld w × Shows machine w

-- Whatever safe World the machine showed, the event of the session leads on from it to one that the machine
-- shows now.
abbrev pub Follows : Machine → ℕ → Step → Machine → Type 0
Follows old session step new =
    (w : World) → SafeWorld w → Shows old w → (v : World) × Next w (record { session = session; step = step }) v × Shows new v

-- Whatever safe World the machine showed, marking the other session's wait granted, by a move in the
-- partition, leads on from it to one that the machine shows now.
abbrev pub FollowsMarking : Machine → ℕ → ℕ → ℕ → Move → Machine → Type 0
FollowsMarking old session other p done new =
    (w : World) → SafeWorld w → Shows old w →
    (v : World)
    × (HappensMarkingIn w session other p done v ⊎ (((u : World) × HappensMarkingIn w session other p done u → ⊥) × (v ≡ w)))
    × Shows new v
