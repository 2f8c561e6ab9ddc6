use Rattle.std.specs.Prelude.{◌≡◌, ℕ, ◌+◌, ◌-◌, ◌<◌, true, false, length}
use Rattle.modes_core.specs.declared.modes.Mode.{Mode}
use Rattle.modes_core.specs.declared.tags.Tag.{Tag}
use Rattle.modes_core.specs.Tag.{index_of, is_strong_on}
use Rattle.lw_word.specs.LightweightWord.{put_word}
use Rattle.lock_table.specs.OwnWait.{is_for}
use Rattle.lock_table.specs.Put.{set_at}
use Rattle.lock_world.specs.SlotHolds.{slot_holds}
use Rattle.lock_world.specs.Counted.{counting, uncounting, passing, is_counted, is_at}
use Rattle.lock_world.specs.World.{World, MakesSteps}
use Rattle.lock_world.specs.Happens.Slots.{zero_after_putting}

-- Counters: a session counts a strong lock before it asks for it, goes past each session that has no slot on
-- the object, and counts the lock no more once it neither has it nor awaits it.

-- how many strong locks a session may have counted
abbrev pub most_counted : ℕ
most_counted = 65536

-- Counting (BeginStrongLockAcquire in lock.c).
pub record MayCount (w : World) (session : ℕ) (tag : Tag) (mode : Mode) : Type 0 where
  pub steps : MakesSteps w.numbers session
  pub strong : is_strong_on tag mode ≡ true
  pub new : is_counted (w.sessions.counted session) tag mode ≡ false
  pub few : length (w.sessions.counted session) < most_counted

-- the World once a strong lock is counted, past nobody
abbrev pub after_counting : World → ℕ → Tag → Mode → World
after_counting w session tag mode = record {
  words = record (w.words) { strong = set_at w.words.strong (index_of tag) (w.words.strong (index_of tag) + 1) };
  contents = w.contents;
  sessions = record (w.sessions) {
    counted = set_at w.sessions.counted session (counting (w.sessions.counted session) tag mode);
  };
  numbers = w.numbers;
}

-- Counting no more (AbortStrongLockAcquire, and RemoveLocalLock at its release).
pub record MayUncount (w : World) (session : ℕ) (tag : Tag) (mode : Mode) : Type 0 where
  pub steps : MakesSteps w.numbers session
  pub is : is_counted (w.sessions.counted session) tag mode ≡ true
  pub not_own : w.sessions.own session tag mode ≡ false
  pub not_awaited : is_for (w.sessions.awaited session) tag mode ≡ false

-- the World once a strong lock is counted no more
abbrev pub after_uncounting : World → ℕ → Tag → Mode → World
after_uncounting w session tag mode = record {
  words = record (w.words) { strong = set_at w.words.strong (index_of tag) (w.words.strong (index_of tag) - 1) };
  contents = w.contents;
  sessions = record (w.sessions) {
    counted = set_at w.sessions.counted session (uncounting (w.sessions.counted session) tag mode);
  };
  numbers = w.numbers;
}

-- Going past a session: its lock is put, and it has no slot on the object (a turn of the loop of
-- FastPathTransferRelationLocks in lock.c). It is the next one, issued or not, its own too.
pub record MayPass (w : World) (session owner : ℕ) (tag : Tag) (mode : Mode) : Type 0 where
  pub steps : MakesSteps w.numbers session
  pub holding : w.sessions.holds_fast session owner ≡ true
  pub exists : owner < w.numbers.limit
  pub next : is_at owner (w.sessions.counted session) tag mode ≡ true
  pub no_slot : (its : Mode) → slot_holds (w.words.database owner) (w.words.slot owner) tag its ≡ false

-- the World once a counted lock is past one session more, whose slots' lock is put
abbrev pub after_passing : World → ℕ → ℕ → Tag → Mode → World
after_passing w session owner tag mode = record {
  words = record (w.words) { fast = set_at w.words.fast owner (put_word (w.words.fast owner)) };
  contents = w.contents;
  sessions = record (w.sessions) {
    holds_fast = set_at w.sessions.holds_fast session (set_at (w.sessions.holds_fast session) owner false);
    zero = zero_after_putting w.sessions.zero session owner;
    counted = set_at w.sessions.counted session (passing (w.sessions.counted session) tag mode owner);
  };
  numbers = w.numbers;
}
