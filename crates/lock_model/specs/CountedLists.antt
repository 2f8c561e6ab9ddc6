use Rattle.std.specs.Prelude.{ℕ, ◌+◌, Bool, false, not, ◌==◌, ◌&&◌, ◌||◌, nat_lt, [], None, count_by, slice_index_or, if◌then◌else◌}
use Rattle.std.specs.List.{list_any}
use Rattle.modes_core.specs.declared.modes.Mode.{Mode}
use Rattle.modes_core.specs.declared.modes.Mode.TheVariants.{AccessShare, RowShare, RowExclusive}
use Rattle.modes_core.specs.declared.tags.Tag.{Tag}
use Rattle.modes_core.specs.Tag.{index_of, is_strong_on, partition_of}
use Rattle.lock_table.specs.Parts.{contents_in}
use Rattle.lock_world.specs.Counted.{is_of}
use Rattle.lock_world.specs.Happens.Counters.{most_counted}
use Rattle.lock_model.specs.declared.machine.state.CountedBy.{CountedBy}
use Rattle.lock_model.specs.declared.machine.state.Machine.{Machine}
use Rattle.lock_model.specs.Shows.{counted_from, makes_steps, awaits}
use Rattle.lock_model.specs.SlotLooks.{slots_hold}

-- The list of all strong locks that sessions have counted, and what the machine looks at before a step on
-- counters.

-- whether a counted strong lock is the session's, for the mode on the object
abbrev pub is_by : ℕ → Tag → Mode → CountedBy → Bool
is_by session tag mode c = (c.session == session) && is_of tag mode (counted_from c)

-- whether a counted strong lock is the session's, for the mode on the object, and at this position
abbrev pub is_by_at : ℕ → ℕ → Tag → Mode → CountedBy → Bool
is_by_at session position tag mode c = (c.session == session) && (is_of tag mode (counted_from c) && (c.position == position))

-- a counted strong lock once it is past the owner too, if it is the session's and the owner is next
abbrev pub passed_by : ℕ → ℕ → Tag → Mode → CountedBy → CountedBy
passed_by session owner tag mode c = if is_by_at session owner tag mode c then record c { position = owner + 1 } else c

-- what a strong lock counter shows
abbrev pub counter : Machine → ℕ → ℕ
counter machine index = count_by (λ c. index_of c.tag == index) machine.counted.items

-- whether the session holds the lock of the owner's slots exclusively
abbrev pub holds_fast : Machine → ℕ → ℕ → Bool
holds_fast machine session owner = slice_index_or (slice_index_or machine.locks.fast_holders owner []) session false

-- whether the session may be granted the mode on the object, or await it: a strong one must be counted, and
-- past each session
abbrev pub counted_for : Machine → ℕ → Tag → Mode → Bool
counted_for machine session tag mode = not (is_strong_on tag mode) || list_any (is_by_at session 64 tag mode) machine.counted.items

-- whether the session may count the mode on the object
abbrev pub may_count : Machine → ℕ → Tag → Mode → Bool
may_count machine session tag mode =
    ((makes_steps machine session && is_strong_on tag mode) && not (list_any (is_by session tag mode) machine.counted.items))
    && nat_lt (count_by (λ c. c.session == session) machine.counted.items) most_counted

-- whether the session has the mode on the object, in a content or in a slot, or awaits it
abbrev pub has_or_awaits : Machine → ℕ → Tag → Mode → Bool
has_or_awaits machine session tag mode =
    (awaits (slice_index_or machine.waits.awaited session None) tag mode
    || (contents_in machine.contents.parts.items (partition_of tag)).holds session tag mode)
    || slots_hold machine session tag mode

-- whether the session may take back its counted lock of the mode on the object
abbrev pub may_uncount : Machine → ℕ → Tag → Mode → Bool
may_uncount machine session tag mode =
    (makes_steps machine session && list_any (is_by session tag mode) machine.counted.items) && not (has_or_awaits machine session tag mode)

-- whether the owner's slots show any mode on the object
abbrev pub slots_show : Machine → ℕ → Tag → Bool
slots_show machine owner tag =
    (slots_hold machine owner tag AccessShare || slots_hold machine owner tag RowShare) || slots_hold machine owner tag RowExclusive

-- whether the session may go past the owner
abbrev pub may_pass : Machine → ℕ → ℕ → Tag → Mode → Bool
may_pass machine session owner tag mode =
    ((makes_steps machine session && holds_fast machine session owner) && list_any (is_by_at session owner tag mode) machine.counted.items)
    && not (slots_show machine owner tag)

-- whether the session may load the strong lock counter, which shows this
abbrev pub may_load_counter : Machine → ℕ → ℕ → ℕ → Bool
may_load_counter machine session index shown = (makes_steps machine session && nat_lt index 1024) && (shown == counter machine index)

-- whether the session reads the strong lock counter as 0, and may set slots by that
abbrev pub reads_zero : Machine → ℕ → ℕ → ℕ → Bool
reads_zero machine session index shown =
    (may_load_counter machine session index shown && (shown == 0)) && holds_fast machine session session
