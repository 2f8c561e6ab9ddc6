use Rattle.std.specs.Prelude.{◌≡◌, ℕ, ◌==◌, Bool, List, Option, Some, None, if◌then◌else◌}
use Rattle.modes_core.specs.declared.modes.Mode.{Mode}
use Rattle.modes_core.specs.declared.tags.Tag.{Tag}
use Rattle.lock_table.specs.declared.moves.Move.{Move}
use Rattle.lock_table.specs.Content.{Content}
use Rattle.lock_table.specs.OwnWait.{OwnWait}
use Rattle.lw_word.specs.declared.wait_lists.LwWaiter.{LwWaiter}
use Rattle.lock_world.specs.SlotHolds.{slot_holds}
use Rattle.lock_world.specs.Counted.{Counted}
use Rattle.lock_world.specs.World.{World, Hand, TraceEntry}

-- An account: all that one session knows of the World, with no other session's steps in it.

-- a partition in the session's own hand
pub record InHand : Type 0 where
  -- the content as it took it
  pub taken : Content
  -- the content as it is now
  pub now : Content
  -- the move that it has made and that stands recorded, if any
  pub recorded : Option Move
  -- those whom that move granted and whose wait words are not yet marked so
  pub unmarked : ℕ → Bool

-- the slots of a session, where their lock is held: what the words show, and which holds that is
pub record SlotsInHand : Type 0 where
  pub word : ℕ → ℕ
  pub holds : Tag → Mode → Bool

-- What a session knows of slots and counters.
pub record FastAccount : Type 0 where
  -- the slots of each session whose lock it holds exclusively, and of each whose lock it shares
  pub slots : ℕ → Option SlotsInHand
  pub shared_slots : ℕ → Option SlotsInHand
  -- its own database
  pub database : ℕ
  -- the words of its own slots as it last saw or stored them; others may have cleared modes there since
  pub remembered : ℕ → ℕ
  -- the index of the strong lock counter that it has read as 0, for as long as that lets it set a slot
  pub zero : Option ℕ
  -- the strong locks that it has counted
  pub counted : List Counted

-- the wait list in the session's own hand: whose, and who stands in it
pub record ListInHand : Type 0 where
  pub lock : ℕ
  pub waiters : List LwWaiter

-- What a session knows of the wait lists of lightweight locks.
pub record ListAccount : Type 0 where
  pub in_hand : Option ListInHand
  -- the lock in whose list it stands
  pub stands : Option ℕ
  -- whom it has taken off a list and not told yet
  pub off : ℕ → Bool

-- All that one session knows.
pub record Account : Type 0 where
  -- its own holds
  pub own : Tag → Mode → Bool
  -- its wait, until it has cleared its wait word
  pub awaited : Option OwnWait
  -- it has seen its wait word show that this wait was granted
  pub seen : Bool
  -- the partitions that it has in hand
  pub hand : ℕ → Option InHand
  -- the partitions whose words it shares
  pub shares : ℕ → Bool
  pub fast : FastAccount
  pub lists : ListAccount
  pub trace : List TraceEntry

-- the hand that has a partition, as its own session knows it; nothing where the hand is another session's
abbrev pub own_hand : Option Hand → Content → ℕ → Option InHand
own_hand None now session = None
own_hand (Some hand) now session =
    if hand.holder == session
    then Some (record { taken = hand.taken; now = now; recorded = hand.recorded; unmarked = hand.unmarked })
    else None

-- what a session has in hand of each partition
abbrev pub own_hands : (ℕ → Option Hand) → (ℕ → Content) → ℕ → ℕ → Option InHand
own_hands hand now session p = own_hand (hand p) (now p) session

-- the slots of a session as the one that has their lock knows them
abbrev pub known_slots : Bool → ℕ → (ℕ → ℕ) → Option SlotsInHand
known_slots has database slot = if has then Some (record { word = slot; holds = slot_holds database slot }) else None

-- the slots of each session as the one that has their lock knows them
abbrev pub slots_in_hand : (ℕ → Bool) → (ℕ → ℕ) → (ℕ → ℕ → ℕ) → ℕ → Option SlotsInHand
slots_in_hand has database slot owner = known_slots (has owner) (database owner) (slot owner)

-- what a session knows of slots, databases and counted strong locks, in the World
abbrev pub fast_account : World → ℕ → FastAccount
fast_account w session = record {
  slots = slots_in_hand (w.sessions.holds_fast session) w.words.database w.words.slot;
  shared_slots = slots_in_hand (w.sessions.shares_fast session) w.words.database w.words.slot;
  database = w.words.database session;
  remembered = w.sessions.remembered session;
  zero = w.sessions.zero session;
  counted = w.sessions.counted session;
}

-- the list of the lock in hand, as it stands
abbrev pub list_in_hand : Option ℕ → (ℕ → List LwWaiter) → Option ListInHand
list_in_hand None list = None
list_in_hand (Some lock) list = Some (record { lock = lock; waiters = list lock })

-- what a session knows of wait lists, in the World
abbrev pub list_account : World → ℕ → ListAccount
list_account w session = record {
  in_hand = list_in_hand (w.sessions.has_list session) w.words.list;
  stands = w.sessions.stands session;
  off = w.sessions.off session;
}

-- the session's account in the World
abbrev pub account : World → ℕ → Account
account w session = record {
  own = w.sessions.own session;
  awaited = w.sessions.awaited session;
  seen = w.sessions.seen session;
  hand = own_hands w.contents.hand w.contents.now session;
  shares = w.sessions.shares_partition session;
  fast = fast_account w session;
  lists = list_account w session;
  trace = w.sessions.trace session;
}

-- What stays of a session number where another session makes a step: its account, with all locks that it has,
-- and whether it is live and kept apart.
pub record IsLeftAlone (w v : World) (session : ℕ) : Type 0 where
  pub account : account v session ≡ account w session
  pub live : v.numbers.live session ≡ w.numbers.live session
  pub kept_by : v.numbers.kept_by session ≡ w.numbers.kept_by session
