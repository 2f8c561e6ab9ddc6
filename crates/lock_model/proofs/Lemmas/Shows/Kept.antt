use Rattle.std.specs.Global.{Vec}
use Rattle.lock_model.specs.declared.machine.state.CountedBy.{CountedBy}
use Rattle.lock_model.specs.declared.machine.state.Machine.{Machine}
use Rattle.lock_model.specs.declared.machine.state.Words.{Words}
use Rattle.lock_model.specs.declared.machine.state.Locks.{Locks}
use Rattle.lock_model.specs.declared.machine.state.FastPath.{FastPath}
use Rattle.lock_model.specs.declared.machine.state.Lists.{Lists}
use Rattle.lock_model.specs.declared.machine.state.Contents.{Contents}
use Rattle.lock_model.specs.declared.machine.state.OwnWaits.{OwnWaits}
use Rattle.lock_world.specs.World.{World}
use Rattle.lock_model.specs.Shows.{Shows, ShowsWords, ShowsLocks, ShowsFastPath, ShowsCounted, ShowsLists, ShowsContents, ShowsWaits}

-- Most steps change few parts of what the machine shows: with those shown again it shows all.
module _ {m : Machine} {w : World} (shows : Shows m w) where
  -- Steps on words, on contents and on waits.

  -- the World v, with the fast path, the locks and the lists of w
  abbrev with_table : World → World
  with_table v = record {
    words = record (v.words) { database = w.words.database; slot = w.words.slot; sleep = w.words.sleep; list = w.words.list };
    contents = v.contents;
    sessions = record (v.sessions) {
      holds_fast = w.sessions.holds_fast;
      shares_fast = w.sessions.shares_fast;
      shares_partition = w.sessions.shares_partition;
      zero = w.sessions.zero;
      counted = w.sessions.counted;
      has_list = w.sessions.has_list;
      stands = w.sessions.stands;
      off = w.sessions.off;
    };
    numbers = w.numbers;
  }

  pub table_shown :
      {words : Words} {contents : Contents} {waits : OwnWaits} (v : World) → ShowsWords words (with_table v).words → ShowsContents contents v.contents
      → ShowsWaits waits v.sessions.awaited v.sessions.seen → Shows (record m { words = words; contents = contents; waits = waits }) (with_table v)
  table_shown v words contents waits = record {
    numbers = shows.numbers;
    words = words;
    locks = shows.locks;
    fast_path = shows.fast_path;
    counted = shows.counted;
    lists = shows.lists;
    contents = contents;
    waits = waits;
  }

  -- Steps on the lists of sleepers.

  -- the World v, with all but its words and its lists as in w
  abbrev with_lists_of : World → World
  with_lists_of v = record {
    words = record (v.words) { database = w.words.database; slot = w.words.slot };
    contents = w.contents;
    sessions = record (w.sessions) { has_list = v.sessions.has_list; stands = v.sessions.stands; off = v.sessions.off };
    numbers = w.numbers;
  }

  pub lists_shown :
      {words : Words} {lists : Lists} (v : World) → ShowsWords words (with_lists_of v).words
      → ShowsLists lists v.words.sleep v.words.list v.sessions.has_list v.sessions.stands v.sessions.off → Shows (record m { words = words; lists = lists }) (with_lists_of v)
  lists_shown v words lists = record {
    numbers = shows.numbers;
    words = words;
    locks = shows.locks;
    fast_path = shows.fast_path;
    counted = shows.counted;
    lists = lists;
    contents = shows.contents;
    waits = shows.waits;
  }

  -- Steps on lightweight locks, on slots and on counters.

  -- the World v, with the contents, the waits and the lists of w
  abbrev with_fast_path : World → World
  with_fast_path v = record {
    words = record (v.words) { sleep = w.words.sleep; list = w.words.list };
    contents = w.contents;
    sessions = record (v.sessions) {
      awaited = w.sessions.awaited;
      seen = w.sessions.seen;
      has_list = w.sessions.has_list;
      stands = w.sessions.stands;
      off = w.sessions.off;
    };
    numbers = w.numbers;
  }

  pub fast_path_shown :
      {words : Words} {locks : Locks} {fast_path : FastPath} {counted : Vec CountedBy} (v : World) → ShowsWords words (with_fast_path v).words
      → ShowsLocks locks v.sessions.holds_fast v.sessions.shares_fast v.sessions.shares_partition
      → ShowsFastPath fast_path v.words.database v.words.slot v.sessions.zero → ShowsCounted counted.items v.sessions.counted
      → Shows (record m { words = words; locks = locks; fast_path = fast_path; counted = counted }) (with_fast_path v)
  fast_path_shown v words locks fast_path counted = record {
    numbers = shows.numbers;
    words = words;
    locks = locks;
    fast_path = fast_path;
    counted = counted;
    lists = shows.lists;
    contents = shows.contents;
    waits = shows.waits;
  }
