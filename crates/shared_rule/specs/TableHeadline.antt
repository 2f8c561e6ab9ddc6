use Rattle.std.specs.Prelude.{◌≡◌, ◌≢◌, ℕ, ◌*◌, ◌<◌, true, false, slice_index}
use mathlib.Core.Option.{some}
use lib.ListN.{get_elem?}
use Rattle.atomic_table.specs.Table.{State}
use Rattle.modes_core.specs.declared.modes.Mode.{Mode}
use Rattle.modes_core.specs.declared.tags.Tag.{Tag}
use Rattle.modes_core.specs.Conflict.{conflict}
use Rattle.modes_core.specs.Tag.{partition_of, relation_of, is_eligible_for}
use Rattle.lw_word.specs.LightweightWord.{IsHeldByNobody}
use Rattle.lw_word.specs.SlotWord.{shows}
use Rattle.lock_table.specs.Content.{Content}
use Rattle.lock_world.specs.declared.events.Word.TheVariants.{Partition, Database, Slot}
use Rattle.lock_world.specs.SlotHolds.{group_size}
use Rattle.shared_rule.specs.declared.rule.TableSizes.{TableSizes}
use Rattle.shared_rule.specs.declared.history.View.{View}
use Rattle.shared_rule.specs.declared.kept.Kept.{Kept}
use Rattle.shared_rule.specs.declared.kept.Kept.TheVariants as kept
use Rattle.shared_rule.specs.Layout.{index_of_word, content_shelf_of}

-- The headline of the table by what can be read in it alone: its words, and the contents that are at home.

-- A word of the session's slots shows the mode on the object, a relation of the database that the word of the
-- session's database shows.
pub record IsShownInSlot {T : Type 0} (sizes : TableSizes) (state : State (Kept T) (View T)) (session : ℕ) (tag : Tag)
    (mode : Mode) : Type 0 where
  pub slot : ℕ
  pub within : slot < group_size * sizes.groups
  pub eligible :
      is_eligible_for (slice_index state.words (index_of_word sizes.sessions (Database session))) tag mode ≡ true
  pub shown :
      shows (slice_index state.words (index_of_word sizes.sessions (Slot session slot))) (relation_of tag) mode ≡ true

-- The word of the object's partition shows that nobody holds it. So its content is at home, and the session's
-- hold is in it.
pub record IsShownAtHome {T : Type 0} (content : T → Content) (sizes : TableSizes) (state : State (Kept T) (View T))
    (session : ℕ) (tag : Tag) (mode : Mode) : Type 0 where
  pub part : T
  pub free : IsHeldByNobody (slice_index state.words (index_of_word sizes.sessions (Partition (partition_of tag))))
  pub there : get_elem? state.homes (content_shelf_of (partition_of tag)) ≡ some (some (kept.Part part))
  pub held : (content part).holds session tag mode ≡ true

-- The table shows that the session has the mode on the object.
pub data TableShows {T : Type 0} (content : T → Content) (sizes : TableSizes) (state : State (Kept T) (View T))
    (session : ℕ) (tag : Tag) (mode : Mode) : Type 0 where
  in_slot : IsShownInSlot sizes state session tag mode → TableShows content sizes state session tag mode
  at_home : IsShownAtHome content sizes state session tag mode → TableShows content sizes state session tag mode

-- By what the table shows, no two sessions have conflicting modes on one object.
abbrev pub NoTwoConflictAtTable : {T : Type 0} → (T → Content) → TableSizes → State (Kept T) (View T) → Type 0
NoTwoConflictAtTable content sizes state =
    (session other : ℕ) (tag : Tag) (mode its : Mode)
    → session ≢ other → session < sizes.sessions → other < sizes.sessions
    → TableShows content sizes state session tag mode → TableShows content sizes state other tag its
    → conflict mode its ≡ false
