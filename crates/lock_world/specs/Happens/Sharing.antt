use Rattle.std.specs.Prelude.{◌≡◌, ℕ, ◌<◌, Bool, true, false}
use Rattle.lw_word.specs.LightweightWord.{IsFreeToShare, shared_word, unshared_word}
use Rattle.lock_table.specs.Put.{set_at}
use Rattle.lock_world.specs.World.{World, Numbers, MakesSteps}
use Rattle.lock_world.specs.Happens.Slots.{remembered_after_taking}

-- Sharing: a session holds a lightweight lock beside others (LW_SHARED in lwlock.h).

-- Sharing a word that shows this: nobody holds it exclusively, and the session does not share it yet.
pub record MayShare (numbers : Numbers) (word : ℕ) (shares : ℕ → ℕ → Bool) (session lock : ℕ) : Type 0 where
  pub steps : MakesSteps numbers session
  pub free : IsFreeToShare word
  pub new : shares session lock ≡ false

-- Giving back a word that the session shares.
pub record MayUnshare (numbers : Numbers) (shares : ℕ → ℕ → Bool) (session lock : ℕ) : Type 0 where
  pub steps : MakesSteps numbers session
  pub sharing : shares session lock ≡ true

-- the World with this word of a partition, which the session shares or not
abbrev pub with_shared_partition : World → ℕ → ℕ → ℕ → Bool → World
with_shared_partition w session partition word shares = record {
  words = record (w.words) { partition = set_at w.words.partition partition word };
  contents = w.contents;
  sessions = record (w.sessions) {
    shares_partition = set_at w.sessions.shares_partition session (set_at (w.sessions.shares_partition session) partition shares);
  };
  numbers = w.numbers;
}

-- A partition's word. Its content does not come with it.
abbrev pub after_sharing_partition : World → ℕ → ℕ → World
after_sharing_partition w session partition = with_shared_partition w session partition (shared_word (w.words.partition partition)) true

-- The word of a partition is shared, where that is lawful.
abbrev pub HappensSharingPartition : World → ℕ → ℕ → World → Type 0
HappensSharingPartition w session partition v =
    (partition < 16) × MayShare w.numbers (w.words.partition partition) w.sessions.shares_partition session partition
    × (v ≡ after_sharing_partition w session partition)

-- the World once the word of a partition is shared no more by the session
abbrev pub after_unsharing_partition : World → ℕ → ℕ → World
after_unsharing_partition w session partition = with_shared_partition w session partition (unshared_word (w.words.partition partition)) false

-- The word of a partition is given back, where that is lawful.
abbrev pub HappensUnsharingPartition : World → ℕ → ℕ → World → Type 0
HappensUnsharingPartition w session partition v =
    MayUnshare w.numbers w.sessions.shares_partition session partition
    × (v ≡ after_unsharing_partition w session partition)

-- the World with this word of the lock of a session's fast-path slots, which the session shares or not, and
-- with what it remembers of its slots
abbrev pub with_shared_fast : World → ℕ → ℕ → ℕ → Bool → (ℕ → ℕ → ℕ) → World
with_shared_fast w session owner word shares remembered = record {
  words = record (w.words) { fast = set_at w.words.fast owner word };
  contents = w.contents;
  sessions = record (w.sessions) {
    shares_fast = set_at w.sessions.shares_fast session (set_at (w.sessions.shares_fast session) owner shares);
    remembered = remembered;
  };
  numbers = w.numbers;
}

-- The word of the lock of a session's fast-path slots. While it is shared the slots stay as they show, so a
-- session that shares its own remembers them from then on so, as by taking it.
abbrev pub after_sharing_fast : World → ℕ → ℕ → World
after_sharing_fast w session owner =
    with_shared_fast w session owner (shared_word (w.words.fast owner)) true (remembered_after_taking w.sessions.remembered w.words.slot session owner)

-- The lock of a session's slots is shared, where that is lawful.
abbrev pub HappensSharingFast : World → ℕ → ℕ → World → Type 0
HappensSharingFast w session owner v =
    (owner < w.numbers.limit) × MayShare w.numbers (w.words.fast owner) w.sessions.shares_fast session owner
    × (v ≡ after_sharing_fast w session owner)

-- the World once the lock of a session's slots is shared no more by the session
abbrev pub after_unsharing_fast : World → ℕ → ℕ → World
after_unsharing_fast w session owner = with_shared_fast w session owner (unshared_word (w.words.fast owner)) false w.sessions.remembered

-- The lock of a session's slots is given back, where that is lawful.
abbrev pub HappensUnsharingFast : World → ℕ → ℕ → World → Type 0
HappensUnsharingFast w session owner v =
    MayUnshare w.numbers w.sessions.shares_fast session owner × (v ≡ after_unsharing_fast w session owner)
