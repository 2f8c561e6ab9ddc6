use Rattle.std.specs.Prelude.{◌≡◌, ℕ, ◌<◌, true, Option, Some, None}
use Rattle.modes_core.specs.declared.modes.Mode.{Mode}
use Rattle.modes_core.specs.declared.tags.Tag.{Tag}
use Rattle.modes_core.specs.Tag.{partition_of}
use Rattle.lw_word.specs.SlotWord.{word_without}
use Rattle.lock_table.specs.declared.moves.Move.{Move}
use Rattle.lock_table.specs.declared.moves.Move.TheVariants.{Adopt}
use Rattle.lock_table.specs.Content.{add_hold}
use Rattle.lock_table.specs.Put.{set_at}
use Rattle.lock_world.specs.SlotHolds.{IsHeldIn}
use Rattle.lock_world.specs.Counted.{is_at}
use Rattle.lock_world.specs.World.{World, MakesSteps, recorded_in, is_unmarked}
use Rattle.lock_world.specs.Happens.Waits.{recording}

-- Transfers: with a strong lock counted and a session next on its way, the session moves that session's holds
-- on the object from the slot to the lock table, one mode a step, before it goes past it.

-- A partition in hand has no move recorded, or the adopt of this slot.
abbrev pub MayAdopt : Option Move → ℕ → ℕ → Type 0
MayAdopt None owner slot = Unit {0}
MayAdopt (Some done) owner slot = done ≡ Adopt owner slot

-- Moving a mode that a slot has to the content of the object's partition (a mode of the inner loop of
-- FastPathTransferRelationLocks in lock.c). Both locks are held, and the owner is next; that may be the
-- session itself.
pub record MayTransfer (w : World) (session owner place : ℕ) (tag : Tag) (mode strong : Mode) : Type 0 where
  pub steps : MakesSteps w.numbers session
  pub holding_slots : w.sessions.holds_fast session owner ≡ true
  pub holding : w.sessions.holds_partition session (partition_of tag) ≡ true
  pub exists : owner < w.numbers.limit
  pub next : is_at owner (w.sessions.counted session) tag strong ≡ true
  pub may_adopt : MayAdopt (recorded_in (w.contents.hand (partition_of tag))) owner place
  pub held_in : IsHeldIn (w.words.database owner) (w.words.slot owner) tag mode place

-- The mode is out of the slot and in the content by the one step, and the adopt stands recorded.
abbrev pub after_transferring : World → ℕ → ℕ → Tag → Mode → World
after_transferring w owner place tag mode = record {
  words = record (w.words) {
    slot = set_at w.words.slot owner (set_at (w.words.slot owner) place (word_without (w.words.slot owner place) mode));
  };
  contents = record {
    now = set_at w.contents.now (partition_of tag) (add_hold (w.contents.now (partition_of tag)) owner tag mode);
    hand = set_at w.contents.hand (partition_of tag)
        (recording (w.contents.hand (partition_of tag)) (Adopt owner place) (is_unmarked (w.contents.hand (partition_of tag))));
  };
  sessions = w.sessions;
  numbers = w.numbers;
}
