use Rattle.lock_world.specs.World.{World}
use Rattle.lock_world.specs.Safe.{SafeButSlots}
use Rattle.lock_world.specs.WaitLists.{ListsAreSafe}
use Rattle.lock_world.specs.SafeWorld.{SafeWorld, ZeroIsAPermission, SlotsAreRemembered, tabled}
use Rattle.lock_world.specs.Happens.Lists.{sleepers}

-- Most steps leave slots, own holds, waits and what is counted as they are: then only what is safe of
-- partitions, of wait lists, of counters read as 0 and of remembered slots has to be shown.

-- the World v, with the slots, the own holds and waits, and all that is counted as in w
abbrev pub beside : World → World → World
beside w v = record {
  words = record (v.words) { database = w.words.database; slot = w.words.slot; strong = w.words.strong };
  contents = v.contents;
  sessions = record (v.sessions) {
    own = w.sessions.own;
    awaited = w.sessions.awaited;
    counted = w.sessions.counted;
  };
  numbers = record (v.numbers) { limit = w.numbers.limit; groups = w.numbers.groups; live = w.numbers.live };
}

pub beside-safe_world :
    (w v : World) → SafeWorld w → SafeButSlots (tabled (beside w v))
    → ListsAreSafe v.words.partition v.words.fast (sleepers v) v.sessions.has_list w.numbers.live
    → ZeroIsAPermission v.sessions.zero v.sessions.holds_fast w.sessions.counted → SlotsAreRemembered w.words.slot v.sessions.remembered → SafeWorld (beside w v)
beside-safe_world w v safe but_slots lists zero remembered = record {
  but_slots = but_slots;
  lists = lists;
  slots = safe.slots;
  order = safe.order;
  counters = safe.counters;
  past = safe.past;
  done = safe.done;
  zero = zero;
  remembered = remembered;
}
