use Rattle.std.specs.Prelude.{ℕ, ◌==◌, ◌&&◌, Bool, true, false, List, [], ◌∷◌, ◌++◌, Some, None, is_some, if◌then◌else◌}
use Rattle.modes_core.specs.declared.modes.Mode.{Mode}
use Rattle.modes_core.specs.declared.tags.Tag.{Tag}
use Rattle.modes_core.specs.Mode.{mode_eq}
use Rattle.modes_core.specs.Tag.{tag_eq, partition_of}
use Rattle.lock_table.specs.declared.moves.Move.{Move}
use Rattle.lock_table.specs.declared.moves.Move.TheVariants.{Keep, Grant, Join, Release, Leave, Adopt}
use Rattle.lock_table.specs.Content.{Content, add_hold}
use Rattle.lock_table.specs.OwnWait.{OwnWait}
use Rattle.lock_table.specs.Put.{put, set_at}
use Rattle.lw_word.specs.SlotWord.{word_with, word_without}
use Rattle.lock_world.specs.declared.events.Word.TheVariants.{Strong}
use Rattle.lock_world.specs.SlotHolds.{relation_of}
use Rattle.lock_world.specs.Counted.{counting, uncounting, passing}
use Rattle.lock_world.specs.World.{TraceEntry, Took, Episode, Loaded}
use Rattle.lw_word.specs.declared.wait_lists.LwWaiter.{LwWaiter}
use Rattle.lw_word.specs.WaitList.{without}
use Rattle.lock_world.specs.Account.{Account, InHand, SlotsInHand, ListInHand}

-- What each kind of step makes of the account of the session that makes it.

-- a step that joins the trace
abbrev pub account_tracing : Account → TraceEntry → Account
account_tracing a entry = record a { trace = a.trace ++ entry ∷ [] }

-- own holds with one set
abbrev pub own_with : (Tag → Mode → Bool) → Tag → Mode → Bool → Tag → Mode → Bool
own_with own tag mode b = put tag_eq own tag (put mode_eq (own tag) mode b)

-- own holds after a move
abbrev pub own_moved : (Tag → Mode → Bool) → Move → Tag → Mode → Bool
own_moved own Keep = own
own_moved own (Grant tag mode) = own_with own tag mode true
own_moved own (Join tag mode) = own
own_moved own (Release tag mode) = own_with own tag mode false
own_moved own (Leave tag) = own
own_moved own (Adopt owner slot) = own

-- Partitions.

-- taking a partition, with this content
abbrev pub account_taking : Account → ℕ → Content → Account
account_taking a p content = record a {
  hand = set_at a.hand p (Some (record { taken = content; now = content; recorded = None; unmarked = λ _. false }));
  trace = a.trace ++ Took p content ∷ [];
}

-- putting a partition that was taken with the one content, with the other, own holds following the move
abbrev pub account_putting : Account → ℕ → Content → Content → Move → Account
account_putting a p taken content done = record a {
  own = own_moved a.own done;
  hand = set_at a.hand p None;
  trace = a.trace ++ Episode p taken content ∷ [];
}

-- Waits.

-- a partition in hand with a move recorded, and those whom it granted unmarked
abbrev pub hand_recording : InHand → Content → Move → (ℕ → Bool) → InHand
hand_recording mine content done unmarked = record { taken = mine.taken; now = content; recorded = Some done; unmarked = unmarked }

-- setting one's own wait word to waiting
abbrev pub account_waiting : Account → InHand → Tag → Mode → Content → (Mode → Bool) → Account
account_waiting a mine tag mode content held = record a {
  awaited = Some (record { tag = tag; mode = mode; held = held });
  seen = false;
  hand = set_at a.hand (partition_of tag) (Some (hand_recording mine content (Join tag mode) (λ _. false)));
}

-- marking somebody granted: the move stands recorded from then on, and own holds follow it, if they haven't
abbrev pub account_marking : Account → ℕ → InHand → Content → Move → Move → (ℕ → Bool) → Account
account_marking a p mine content made done unmarked = record a {
  own = own_moved a.own made;
  hand = set_at a.hand p (Some (hand_recording mine content done unmarked));
}

-- clearing one's own wait word: where it was granted, what the wait was for is the session's own from then on
abbrev pub account_clearing : Account → OwnWait → Bool → Account
account_clearing a wait granted = record a {
  own = if granted then own_with a.own wait.tag wait.mode true else a.own;
  awaited = None;
  seen = false;
}

-- clearing one's own wait word by a step that takes the wait out of the queue itself
abbrev pub account_leaving : Account → InHand → OwnWait → Content → (ℕ → Bool) → Account
account_leaving a mine wait content unmarked = record a {
  awaited = None;
  seen = false;
  hand = set_at a.hand (partition_of wait.tag) (Some (hand_recording mine content (Leave wait.tag) unmarked));
}

-- Slots and counters.

-- taking the lock of a session's slots, which show this, by the session of this number, which remembers its
-- own so
abbrev pub account_taking_fast : ℕ → Account → ℕ → SlotsInHand → Account
account_taking_fast number a owner slots = record a {
  fast = record (a.fast) {
    slots = set_at a.fast.slots owner (Some slots);
    remembered = if owner == number then slots.word else a.fast.remembered;
  };
}

-- putting it, by the session of this number
abbrev pub account_putting_fast : ℕ → Account → ℕ → Account
account_putting_fast number a owner = record a {
  fast = record (a.fast) {
    slots = set_at a.fast.slots owner None;
    zero = if owner == number then None else a.fast.zero;
  };
}

-- sharing it, and giving it back
abbrev pub account_sharing_fast : ℕ → Account → ℕ → SlotsInHand → Account
account_sharing_fast number a owner slots = record a {
  fast = record (a.fast) {
    shared_slots = set_at a.fast.shared_slots owner (Some slots);
    remembered = if owner == number then slots.word else a.fast.remembered;
  };
}

-- once it has given back a lock of slots that it shared
abbrev pub account_unsharing_fast : Account → ℕ → Account
account_unsharing_fast a owner = record a { fast = record (a.fast) { shared_slots = set_at a.fast.shared_slots owner None } }

-- going past the owner, as its lock is put
abbrev pub account_passing : ℕ → Account → ℕ → Tag → Mode → Account
account_passing number a owner tag mode = record a {
  fast = record (a.fast) {
    slots = set_at a.fast.slots owner None;
    zero = if owner == number then None else a.fast.zero;
    counted = passing a.fast.counted tag mode owner;
  };
}

-- counting a strong lock, and counting it no more
abbrev pub account_counting : Account → Tag → Mode → Account
account_counting a tag mode = record a { fast = record (a.fast) { counted = counting a.fast.counted tag mode } }

-- once it counts a strong lock no more
abbrev pub account_uncounting : Account → Tag → Mode → Account
account_uncounting a tag mode = record a { fast = record (a.fast) { counted = uncounting a.fast.counted tag mode } }

-- storing one's own database
abbrev pub account_storing : Account → ℕ → Account
account_storing a database = record a { fast = record (a.fast) { database = database } }

-- reading a strong lock counter, which shows this
abbrev pub account_reading : ℕ → Account → ℕ → ℕ → Account
account_reading number a index shown = record a {
  fast = record (a.fast) { zero = if (shown == 0) && is_some (a.fast.slots number) then Some index else a.fast.zero };
  trace = a.trace ++ Loaded (Strong index) shown ∷ [];
}

-- setting a mode in one of one's own slots, and clearing one, with one's own slots in hand
abbrev pub account_setting : ℕ → Account → SlotsInHand → ℕ → Tag → Mode → Account
account_setting number a mine place tag mode = record a {
  own = own_with a.own tag mode true;
  fast = record (a.fast) {
    slots = set_at a.fast.slots number (Some (record {
      word = set_at mine.word place (word_with (mine.word place) (relation_of tag) mode);
      holds = own_with mine.holds tag mode true;
    }));
    remembered = set_at mine.word place (word_with (mine.word place) (relation_of tag) mode);
  };
}

-- once it has cleared a mode in its slot
abbrev pub account_unsetting : ℕ → Account → SlotsInHand → ℕ → Tag → Mode → Account
account_unsetting number a mine place tag mode = record a {
  own = own_with a.own tag mode false;
  fast = record (a.fast) {
    slots = set_at a.fast.slots number (Some (record {
      word = set_at mine.word place (word_without (mine.word place) mode);
      holds = own_with mine.holds tag mode false;
    }));
    remembered = set_at mine.word place (word_without (mine.word place) mode);
  };
}

-- moving a mode from a slot, with the lock of its session's slots held, to the content in hand of the
-- object's partition
abbrev pub account_transferring : Account → ℕ → ℕ → SlotsInHand → InHand → Tag → Mode → Account
account_transferring a owner place its mine tag mode = record a {
  hand = set_at a.hand (partition_of tag)
      (Some (hand_recording mine (add_hold mine.now owner tag mode) (Adopt owner place) mine.unmarked));
  fast = record (a.fast) {
    slots = set_at a.fast.slots owner (Some (record {
      word = set_at its.word place (word_without (its.word place) mode);
      holds = own_with its.holds tag mode false;
    }));
  };
}

-- Wait lists.

-- locking the list of a lock, in which these stand, and unlocking it
abbrev pub account_locking_list : Account → ℕ → List LwWaiter → Account
account_locking_list a lock waiters = record a { lists = record (a.lists) { in_hand = Some (record { lock = lock; waiters = waiters }) } }

-- once it has unlocked the wait list in hand
abbrev pub account_unlocking_list : Account → Account
account_unlocking_list a = record a { lists = record (a.lists) { in_hand = None } }

-- joining the list in hand, and leaving it
abbrev pub account_joining_list : Account → ListInHand → LwWaiter → Account
account_joining_list a mine waiter = record a {
  lists = record (a.lists) { in_hand = Some (record mine { waiters = mine.waiters ++ waiter ∷ [] }); stands = Some mine.lock };
}

-- once it has left the wait list in hand
abbrev pub account_leaving_list : Account → ListInHand → ℕ → Account
account_leaving_list a mine number = record a {
  lists = record (a.lists) { in_hand = Some (record mine { waiters = without number mine.waiters }); stands = None };
}

-- taking a session off it, and telling one that was taken off
abbrev pub account_taking_off : Account → ListInHand → ℕ → Account
account_taking_off a mine other = record a {
  lists = record (a.lists) { in_hand = Some (record mine { waiters = without other mine.waiters }); off = set_at a.lists.off other true };
}

-- once it has told a session that it took off
abbrev pub account_telling : Account → ℕ → Account
account_telling a other = record a { lists = record (a.lists) { off = set_at a.lists.off other false } }

-- loading one's own sleep word
abbrev pub account_loading_sleep : Account → ℕ → Account
account_loading_sleep a shown = record a { lists = record (a.lists) { stands = if shown == 0 then None else a.lists.stands } }
