use Rattle.std.specs.Prelude.{◌≡◌, ℕ, ◌^◌, ◌<◌, ◌==◌, ◌&&◌, Bool, true, false, Option, Some, None, ◌∷◌, [], ◌++◌, if◌then◌else◌}
use Rattle.modes_core.specs.declared.modes.Mode.{Mode}
use Rattle.modes_core.specs.declared.tags.Tag.{Tag}
use Rattle.modes_core.specs.Tag.{index_of, is_eligible_for}
use Rattle.lw_word.specs.LightweightWord.{IsHeldByNobody, taken_word, put_word}
use Rattle.lw_word.specs.SlotWord.{word_with, word_without}
use Rattle.lock_table.specs.Content.{set_hold}
use Rattle.lock_table.specs.Put.{set_at}
use Rattle.lock_world.specs.declared.events.Word.{Word}
use Rattle.lock_world.specs.declared.events.Word.TheVariants.{Strong}
use Rattle.lock_world.specs.SlotHolds.{relation_of, IsHeldIn, NoSlotInUse, IsSlotToGrant}
use Rattle.lock_world.specs.World.{World, MakesSteps, Loaded, word_in, WordExists}

-- Slots: a session takes the lock of its own fast-path slots, or of another's, and puts it back (fpInfoLock
-- in proc.h); with its own lock held it reads strong lock counters, and sets and clears modes in its slots.

-- Taking the lock of a session's slots, issued or not: its word shows that nobody holds it.
pub record MayTakeFast (w : World) (session owner : ℕ) : Type 0 where
  pub steps : MakesSteps w.numbers session
  pub exists : owner < w.numbers.limit
  pub free : IsHeldByNobody (w.words.fast owner)

-- A session that takes the lock of its own slots remembers them from then on as they show.
abbrev pub remembered_after_taking : (ℕ → ℕ → ℕ) → (ℕ → ℕ → ℕ) → ℕ → ℕ → ℕ → ℕ → ℕ
remembered_after_taking remembered slot session owner =
    if owner == session then set_at remembered session (slot owner) else remembered

-- the World with this word of the lock of a session's slots, which the session holds or not, and with the
-- counters read as 0 and the slots as remembered then
abbrev pub with_held_fast : World → ℕ → ℕ → ℕ → Bool → (ℕ → Option ℕ) → (ℕ → ℕ → ℕ) → World
with_held_fast w session owner word holds zero remembered = record {
  words = record (w.words) { fast = set_at w.words.fast owner word };
  contents = w.contents;
  sessions = record (w.sessions) {
    holds_fast = set_at w.sessions.holds_fast session (set_at (w.sessions.holds_fast session) owner holds);
    zero = zero;
    remembered = remembered;
  };
  numbers = w.numbers;
}

-- the World once the lock of a session's slots is held
abbrev pub after_taking_fast : World → ℕ → ℕ → World
after_taking_fast w session owner =
    with_held_fast w session owner (taken_word (w.words.fast owner)) true w.sessions.zero
    (remembered_after_taking w.sessions.remembered w.words.slot session owner)

-- The lock of a session's slots is taken, where that is lawful.
abbrev pub HappensTakingFast : World → ℕ → ℕ → World → Type 0
HappensTakingFast w session owner v = MayTakeFast w session owner × (v ≡ after_taking_fast w session owner)

-- Putting the lock of a session's slots. A counter read as 0 before permits no more slot to be set once its
-- own lock is put.
pub record MayPutFast (w : World) (session owner : ℕ) : Type 0 where
  pub steps : MakesSteps w.numbers session
  pub holding : w.sessions.holds_fast session owner ≡ true

-- the counters read as 0 once a lock of slots is put: none of a session that puts its own
abbrev pub zero_after_putting : (ℕ → Option ℕ) → ℕ → ℕ → ℕ → Option ℕ
zero_after_putting zero session owner = if owner == session then set_at zero session None else zero

-- the World once the lock of a session's slots is put
abbrev pub after_putting_fast : World → ℕ → ℕ → World
after_putting_fast w session owner =
    with_held_fast w session owner (put_word (w.words.fast owner)) false (zero_after_putting w.sessions.zero session owner) w.sessions.remembered

-- The lock of a session's slots is put, where that is lawful.
abbrev pub HappensPuttingFast : World → ℕ → ℕ → World → Type 0
HappensPuttingFast w session owner v = MayPutFast w session owner × (v ≡ after_putting_fast w session owner)

-- Loading a word, which shows this: it joins the trace.
pub record MayLoad (w : World) (session : ℕ) (word : Word) (shown : ℕ) : Type 0 where
  pub steps : MakesSteps w.numbers session
  pub exists : WordExists w.numbers.groups word
  pub is_shown : shown ≡ word_in w.words word

-- the World once a word is loaded: the trace has one entry more
abbrev pub after_loading : World → ℕ → Word → ℕ → World
after_loading w session word shown = record {
  words = w.words;
  contents = w.contents;
  sessions = record (w.sessions) { trace = set_at w.sessions.trace session (w.sessions.trace session ++ Loaded word shown ∷ []) };
  numbers = w.numbers;
}

-- Reading a strong lock counter: where it is 0, and the session holds the lock of its own slots, it may set
-- slots for objects of that index until it puts that lock (FastPathStrongRelationLocks->count in
-- LockAcquireExtended of lock.c).
abbrev pub zero_after_reading : (ℕ → Option ℕ) → (ℕ → ℕ → Bool) → ℕ → ℕ → ℕ → ℕ → Option ℕ
zero_after_reading zero holds_fast session index shown =
    if (shown == 0) && holds_fast session session then set_at zero session (Some index) else zero

-- the World once a strong lock counter is loaded, and kept where it is 0 and the lock of the own slots is
-- held
abbrev pub after_reading_counter : World → ℕ → ℕ → ℕ → World
after_reading_counter w session index shown = record {
  words = w.words;
  contents = w.contents;
  sessions = record (w.sessions) {
    zero = zero_after_reading w.sessions.zero w.sessions.holds_fast session index shown;
    trace = set_at w.sessions.trace session (w.sessions.trace session ++ Loaded (Strong index) shown ∷ []);
  };
  numbers = w.numbers;
}

-- Setting a mode in one of one's own slots (FastPathGrantRelationLock in lock.c): the mode on the object is
-- eligible for its own database, its counter was read as 0, and the slot is the one that such a grant takes.
pub record MaySetSlot (w : World) (session place : ℕ) (tag : Tag) (mode : Mode) : Type 0 where
  pub steps : MakesSteps w.numbers session
  pub holding : w.sessions.holds_fast session session ≡ true
  pub eligible : is_eligible_for (w.words.database session) tag mode ≡ true
  pub fits : relation_of tag < 2 ^ 32
  pub read_as_zero : w.sessions.zero session ≡ Some (index_of tag)
  pub no_wait : w.sessions.awaited session ≡ None
  pub new : w.sessions.own session tag mode ≡ false
  pub takes : IsSlotToGrant w.numbers.groups (w.words.slot session) (relation_of tag) place

-- the World once a mode is set in the session's slot
abbrev pub after_setting_slot : World → ℕ → ℕ → Tag → Mode → World
after_setting_slot w session place tag mode = record {
  words = record (w.words) {
    slot = set_at w.words.slot session
        (set_at (w.words.slot session) place (word_with (w.words.slot session place) (relation_of tag) mode));
  };
  contents = w.contents;
  sessions = record (w.sessions) {
    own = set_hold w.sessions.own session tag mode true;
    remembered = set_at w.sessions.remembered session
        (set_at (w.words.slot session) place (word_with (w.words.slot session place) (relation_of tag) mode));
  };
  numbers = w.numbers;
}

-- Clearing a mode in the slot of one's own that has it (FastPathUnGrantRelationLock in lock.c).
pub record MayClearSlot (w : World) (session place : ℕ) (tag : Tag) (mode : Mode) : Type 0 where
  pub steps : MakesSteps w.numbers session
  pub holding : w.sessions.holds_fast session session ≡ true
  pub held_in : IsHeldIn (w.words.database session) (w.words.slot session) tag mode place

-- the World once a mode is cleared in the session's slot
abbrev pub after_clearing_slot : World → ℕ → ℕ → Tag → Mode → World
after_clearing_slot w session place tag mode = record {
  words = record (w.words) {
    slot = set_at w.words.slot session
        (set_at (w.words.slot session) place (word_without (w.words.slot session place) mode));
  };
  contents = w.contents;
  sessions = record (w.sessions) {
    own = set_hold w.sessions.own session tag mode false;
    remembered = set_at w.sessions.remembered session
        (set_at (w.words.slot session) place (word_without (w.words.slot session place) mode));
  };
  numbers = w.numbers;
}

-- Storing one's own database with no slot in use: the first one (InitPostgres in postinit.c), or that of the
-- next one whom the session serves.
pub record MayStoreDatabase (w : World) (session : ℕ) : Type 0 where
  pub steps : MakesSteps w.numbers session
  pub unused : NoSlotInUse (w.words.slot session)

-- the World once the session's database is stored
abbrev pub after_storing_database : World → ℕ → ℕ → World
after_storing_database w session database = record {
  words = record (w.words) { database = set_at w.words.database session database };
  contents = w.contents;
  sessions = w.sessions;
  numbers = w.numbers;
}
