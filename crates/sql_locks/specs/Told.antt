use Rattle.std.specs.Prelude.{◌≡◌, ◌&&◌, Bool, true, false, List, Option, Some, None, if◌then◌else◌}
use Rattle.std.specs.List.{list_any}
use Rattle.modes_core.specs.declared.modes.Mode.{Mode}
use Rattle.modes_core.specs.declared.modes.Mode.TheVariants as mode
use Rattle.modes_core.specs.Mode.{mode_eq}
use Rattle.sql_locks.specs.declared.forms.Form.{Form}
use Rattle.sql_locks.specs.declared.forms.FormRow.{FormRow}
use Rattle.sql_locks.specs.declared.forms.Hop.{Hop}
use Rattle.sql_locks.specs.declared.forms.Hop.TheVariants.{Stay, Indexes, Table, Key, Default, Referred, Referring, Owned}
use Rattle.sql_locks.specs.declared.forms.Part.{Part}
use Rattle.sql_locks.specs.declared.forms.Start.{Start}
use Rattle.sql_locks.specs.declared.forms.Start.TheVariants.{Target, Other}

-- whether a last step stays where it is
abbrev pub stays : Hop → Bool
stays Stay = true
stays Indexes = false
stays Table = false
stays Key = false
stays Default = false
stays Referred = false
stays Referring = false
stays Owned = false

-- whether a path that begins at a relation and has this last step reaches the relation of a side itself
abbrev pub is_told : Start → Start → Hop → Bool
is_told Target Target hop = stays hop
is_told Target Other hop = false
is_told Other Target hop = false
is_told Other Other hop = stays hop

-- whether one of these parts has this mode on the relation of a side itself
abbrev pub has_told : Start → Mode → List Part → Bool
has_told side its parts = list_any (λ part. mode_eq part.mode its && is_told side part.path.start part.path.hop) parts

-- the strongest of the four weakest modes that these parts have on the relation of a side itself
abbrev pub strongest_below : Start → List Part → Option Mode
strongest_below side parts =
    if has_told side mode.ShareUpdateExclusive parts then Some mode.ShareUpdateExclusive
    else if has_told side mode.RowExclusive parts then Some mode.RowExclusive
    else if has_told side mode.RowShare parts then Some mode.RowShare
    else if has_told side mode.AccessShare parts then Some mode.AccessShare
    else None

-- the strongest mode that these parts have on the relation of a side itself
abbrev pub strongest_told : Start → List Part → Option Mode
strongest_told side parts =
    if has_told side mode.AccessExclusive parts then Some mode.AccessExclusive
    else if has_told side mode.Exclusive parts then Some mode.Exclusive
    else if has_told side mode.ShareRowExclusive parts then Some mode.ShareRowExclusive
    else if has_told side mode.Share parts then Some mode.Share
    else strongest_below side parts

-- A mode is the strongest that a form's row has on the relation of a side itself.
abbrev pub IsModeOf : Form → Start → Mode → Type 0
IsModeOf form side its = (row : FormRow) × (row.form ≡ form) × (strongest_told side row.parts.now ≡ Some its)
