use Rattle.lock_world.specs.World.{World}
use Rattle.lock_world.specs.Safe.{TableIsSafe, NumbersAreInOrder, SpentHaveNothing, WordsShowHolders}

-- Of the locks of sessions' fast-path slots, of the slots and what is remembered of them, of counters, of
-- whom a session took off a list and of traces no fact of partitions, waits and numbers speaks.

-- the World v, with the contents, the own holds, the waits and the holders of partitions of w
abbrev pub beside : World → World → World
beside w v = record {
  words = record (v.words) { wait = w.words.wait };
  contents = w.contents;
  sessions = record (v.sessions) {
    own = w.sessions.own;
    awaited = w.sessions.awaited;
    seen = w.sessions.seen;
    holds_partition = w.sessions.holds_partition;
  };
  numbers = v.numbers;
}

-- is safe where its partitions' words and its numbers are,
pub beside-table :
    (w v : World) → TableIsSafe w → WordsShowHolders v.numbers.limit v.words.partition w.sessions.holds_partition v.sessions.shares_partition
    → SpentHaveNothing v.numbers.live w.sessions.own w.sessions.awaited w.sessions.holds_partition → NumbersAreInOrder v.numbers → TableIsSafe (beside w v)
beside-table w v safe words spent order = record {
  promise = record {
    no_conflict = safe.promise.no_conflict;
    one_place = safe.promise.one_place;
    none_free = safe.promise.none_free;
    wait_words = safe.promise.wait_words;
    words = words;
    spent = spent;
  };
  carriers = record { hands = safe.carriers.hands; numbers = order; unmarked_by_move = safe.carriers.unmarked_by_move };
}

-- as where both are those of w.
pub same-table :
    (w v : World) → TableIsSafe w
    → TableIsSafe (beside w (record v { words = record (v.words) { partition = w.words.partition }; sessions = record (v.sessions) { shares_partition = w.sessions.shares_partition }; numbers = w.numbers }))
same-table w v safe =
    beside-table w (record v { words = record (v.words) { partition = w.words.partition }; sessions = record (v.sessions) { shares_partition = w.sessions.shares_partition }; numbers = w.numbers }) safe
    safe.promise.words safe.promise.spent safe.carriers.numbers
