use Rattle.std.specs.Prelude.{◌≡◌, ◌≢◌, ℕ, true, false, [], Option, Some, None, ◌⊎◌, ◌+◌, ◌<◌}
use Rattle.modes_core.specs.declared.modes.Mode.{Mode}
use Rattle.modes_core.specs.declared.tags.Tag.{Tag}
use Rattle.lock_world.specs.World.{World, MakesSteps}
use Rattle.lock_table.specs.Put.{set_at}

-- Seats: session numbers are issued and closed, and sessions are kept apart and go on.

-- Issuing a number: it is the lowest that was not given out.
pub record MayBeIssued (w : World) (session : ℕ) : Type 0 where
  pub next : session ≡ w.numbers.issued
  pub within : session < w.numbers.limit

-- the World once a number is issued and live
abbrev pub after_issuing : World → ℕ → World
after_issuing w session = record {
  words = w.words;
  contents = w.contents;
  sessions = w.sessions;
  numbers = record (w.numbers) { issued = session + 1; live = set_at w.numbers.live session true };
}

-- Going on by itself: another session keeps this one apart.
abbrev pub MayGoOn : World → ℕ → Type 0
MayGoOn w session = (joiner : ℕ) × (w.numbers.kept_by session ≡ Some joiner)

-- the World once a session that was kept apart makes steps of its own again
abbrev pub after_going_on : World → ℕ → World
after_going_on w session = record {
  words = w.words;
  contents = w.contents;
  sessions = w.sessions;
  numbers = record (w.numbers) { kept_by = set_at w.numbers.kept_by session None };
}

-- A seat is split, where that is lawful, in one of the two ways.
abbrev pub HappensSplitting : World → ℕ → World → Type 0
HappensSplitting w session v =
    (MayBeIssued w session × (v ≡ after_issuing w session)) ⊎ (MayGoOn w session × (v ≡ after_going_on w session))

-- Being kept apart: by another session that makes steps of its own, and with no word held, exclusively or
-- shared, since a session that is kept apart makes no step that would put it.
pub record MayBeKeptApart (w : World) (session joiner : ℕ) : Type 0 where
  pub steps : MakesSteps w.numbers session
  pub another : joiner ≢ session
  pub joiner_steps : MakesSteps w.numbers joiner
  pub no_word : (partition : ℕ) → w.sessions.holds_partition session partition ≡ false
  pub no_fast_word : (owner : ℕ) → w.sessions.holds_fast session owner ≡ false
  pub no_shared_word : (partition : ℕ) → w.sessions.shares_partition session partition ≡ false
  pub no_shared_fast_word : (owner : ℕ) → w.sessions.shares_fast session owner ≡ false

-- the World once a session is kept apart by another one
abbrev pub after_keeping_apart : World → ℕ → ℕ → World
after_keeping_apart w session joiner = record {
  words = w.words;
  contents = w.contents;
  sessions = w.sessions;
  numbers = record (w.numbers) { kept_by = set_at w.numbers.kept_by session (Some joiner) };
}

-- Closing: with no word held, exclusively or shared, no hold, no wait, nothing counted, no wait list in hand
-- nor one that the session stands in, nobody whom it took off a list and hasn't told, and no other session
-- kept apart.
pub record MayClose (w : World) (session : ℕ) : Type 0 where
  pub steps : MakesSteps w.numbers session
  pub no_word : (partition : ℕ) → w.sessions.holds_partition session partition ≡ false
  pub no_fast_word : (owner : ℕ) → w.sessions.holds_fast session owner ≡ false
  pub no_shared_word : (partition : ℕ) → w.sessions.shares_partition session partition ≡ false
  pub no_shared_fast_word : (owner : ℕ) → w.sessions.shares_fast session owner ≡ false
  pub no_hold : (tag : Tag) (mode : Mode) → w.sessions.own session tag mode ≡ false
  pub no_wait : w.sessions.awaited session ≡ None
  pub no_count : w.sessions.counted session ≡ []
  pub no_list : w.sessions.has_list session ≡ None
  pub no_stand : w.sessions.stands session ≡ None
  pub none_untold : (other : ℕ) → w.sessions.off session other ≡ false
  pub keeps_nobody : (other : ℕ) → w.numbers.kept_by other ≢ Some session

-- A closed session has an account with nothing in it: it remembers nothing of its slots, of which none is in
-- use, nobody whom it took off a list, and no step.
abbrev pub after_closing : World → ℕ → World
after_closing w session = record {
  words = w.words;
  contents = w.contents;
  sessions = record (w.sessions) {
    remembered = set_at w.sessions.remembered session (λ _. 0);
    off = set_at w.sessions.off session (λ _. false);
    trace = set_at w.sessions.trace session [];
  };
  numbers = record (w.numbers) { live = set_at w.numbers.live session false };
}

-- A seat is joined to another one, or a session closes, where that is lawful.
abbrev pub HappensJoining : World → ℕ → Option ℕ → World → Type 0
HappensJoining w session (Some joiner) v = MayBeKeptApart w session joiner × (v ≡ after_keeping_apart w session joiner)
HappensJoining w session None v = MayClose w session × (v ≡ after_closing w session)
