use Rattle.std.specs.Prelude.{ℕ, Bool, false, not, ◌&&◌, ◌||◌, nat_lt, List, [], None, is_none, slice_index_or}
use Rattle.std.specs.List.{list_any}
use Rattle.modes_core.specs.declared.modes.Mode.{Mode}
use Rattle.modes_core.specs.declared.tags.Tag.{Tag}
use Rattle.modes_core.specs.Tag.{partition_of, index_of, is_eligible_for}
use Rattle.lw_word.specs.SlotWord.{in_use, shows}
use Rattle.lock_table.specs.Parts.{contents_in}
use Rattle.lock_world.specs.SlotHolds.{relation_of, slot_holds, may_use, is_slot_of}
use Rattle.lock_model.specs.declared.machine.state.Machine.{Machine}
use Rattle.lock_model.specs.Shows.{makes_steps, is_number}

-- What the machine looks at before a step on a session's fast-path slots.

-- the words of the session's slots
abbrev pub slots_at : Machine → ℕ → List ℕ
slots_at machine session = slice_index_or machine.fast_path.slots session []

-- whether the session's slots show the hold
abbrev pub slots_hold : Machine → ℕ → Tag → Mode → Bool
slots_hold machine session tag mode =
    slot_holds (slice_index_or machine.fast_path.databases session 0)
    (λ place. slice_index_or (slice_index_or machine.fast_path.slots session []) place 0) tag mode

-- whether the session may ask for the mode on the object: it waits for nothing, and hasn't the hold, in no
-- content and no slot
abbrev pub may_ask : Machine → ℕ → Tag → Mode → Bool
may_ask machine session tag mode =
    (is_none (slice_index_or machine.waits.awaited session None)
    && not ((contents_in machine.contents.parts.items (partition_of tag)).holds session tag mode))
    && not (slots_hold machine session tag mode)

-- whether the session makes steps, and holds the lock of its own slots
abbrev pub has_own_slots : Machine → ℕ → Bool
has_own_slots machine session =
    makes_steps machine session && slice_index_or (slice_index_or machine.locks.fast_holders session []) session false

-- whether a grant for the relation takes the slot, with this number of groups: it is of the relation's group,
-- and in use for the relation, or not in use and none is for it
abbrev pub is_slot_to_grant : ℕ → List ℕ → ℕ → ℕ → Bool
is_slot_to_grant groups slots relation place =
    may_use groups relation place
    && (is_slot_of (slice_index_or slots place 0) relation
    || (not (in_use (slice_index_or slots place 0)) && not (list_any (λ word. is_slot_of word relation) slots)))

-- whether the session may set the mode in the slot
abbrev pub may_set_slot : Machine → ℕ → ℕ → Tag → Mode → Bool
may_set_slot machine session place tag mode =
    ((((nat_lt place 128 && has_own_slots machine session)
    && is_eligible_for (slice_index_or machine.fast_path.databases session 0) tag mode)
    && is_number (index_of tag) (slice_index_or machine.fast_path.zeros session None))
    && may_ask machine session tag mode)
    && is_slot_to_grant machine.numbers.groups (slots_at machine session) (relation_of tag) place

-- whether the session may clear the mode in the slot
abbrev pub may_clear_slot : Machine → ℕ → ℕ → Tag → Mode → Bool
may_clear_slot machine session place tag mode =
    ((nat_lt place 128 && has_own_slots machine session)
    && is_eligible_for (slice_index_or machine.fast_path.databases session 0) tag mode)
    && shows (slice_index_or (slots_at machine session) place 0) (relation_of tag) mode

-- whether the session may store its database
abbrev pub may_store_database : Machine → ℕ → Bool
may_store_database machine session =
    makes_steps machine session && not (list_any in_use (slots_at machine session))
