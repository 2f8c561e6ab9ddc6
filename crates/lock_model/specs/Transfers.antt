use Rattle.std.specs.Prelude.{ℕ, Bool, true, ◌&&◌, nat_lt, Option, Some, None, slice_index_or}
use Rattle.std.specs.List.{list_any}
use Rattle.modes_core.specs.declared.modes.Mode.{Mode}
use Rattle.modes_core.specs.declared.tags.Tag.{Tag}
use Rattle.modes_core.specs.Tag.{is_eligible_for}
use Rattle.lw_word.specs.SlotWord.{shows}
use Rattle.lock_table.specs.declared.moves.Move.{Move}
use Rattle.lock_table.specs.declared.moves.Move.TheVariants.{Adopt}
use Rattle.lock_table.specs.MoveTests.{move_eq}
use Rattle.lock_world.specs.SlotHolds.{relation_of}
use Rattle.lock_model.specs.declared.machine.state.Machine.{Machine}
use Rattle.lock_model.specs.SlotLooks.{slots_at}
use Rattle.lock_model.specs.CountedLists.{holds_fast, is_by_at}

-- What the machine looks at before a mode is moved from a slot to a content.

-- whether no move is recorded, or the adopt of this slot
abbrev pub may_adopt : Option Move → ℕ → ℕ → Bool
may_adopt None owner slot = true
may_adopt (Some done) owner slot = move_eq done (Adopt owner slot)

-- whether the owner's slot shows that it holds the mode on the object
abbrev pub is_in_slot : Machine → ℕ → ℕ → Tag → Mode → Bool
is_in_slot machine owner place tag mode =
    (nat_lt place 128 && is_eligible_for (slice_index_or machine.fast_path.databases owner 0) tag mode)
    && shows (slice_index_or (slots_at machine owner) place 0) (relation_of tag) mode

-- whether the session may move the mode out of the owner's slot, where it has the partition in hand
abbrev pub may_transfer : Machine → ℕ → ℕ → ℕ → Tag → Mode → Mode → Bool
may_transfer machine session owner place tag mode strong =
    (holds_fast machine session owner && list_any (is_by_at session owner tag strong) machine.counted.items)
    && is_in_slot machine owner place tag mode
