use Rattle.std.specs.Prelude.{◌≡◌, ◌≢◌, ℕ, ◌<◌, Bool, false, true, ◌&&◌, ◌==◌, Option, Some, None, nat_lt, if◌then◌else◌}
use Rattle.std.specs.List.{list_any}
use Rattle.modes_core.specs.declared.modes.Mode.{Mode}
use Rattle.modes_core.specs.declared.tags.Tag.{Tag}
use Rattle.modes_core.specs.ModeSet.{set_has, all_modes}
use Rattle.lock_table.specs.Content.{Holds}
use Rattle.lock_records.specs.declared.holders.HolderRecord.{HolderRecord}

-- What was found of the holders in the way of a request: the session with the lowest number, other than this
-- one, that holds the object in a mode of the set, with the modes that it holds; or that there is none.
abbrev pub IsLowestHolder : Holds → ℕ → Tag → (Mode → Bool) → Option (ℕ × ℕ) → Type 0
IsLowestHolder holds session tag set None = (other : ℕ) (mode : Mode) → other ≢ session → holds other tag mode ≡ true → set mode ≡ false
IsLowestHolder holds session tag set (Some lowest) =
    (lowest.0 ≢ session) × ((m : Mode) → holds lowest.0 tag m ≡ set_has lowest.1 m)
    × ((mode : Mode) × (set_has lowest.1 mode ≡ true) × (set mode ≡ true))
    × ((other : ℕ) (mode : Mode) → other < lowest.0 → other ≢ session → holds other tag mode ≡ true → set mode ≡ false)

-- whether some mode is in both sets
abbrev pub meet : ℕ → ℕ → Bool
meet modes set = list_any (λ mode. set_has modes mode && set_has set mode) all_modes

-- the lower of the lowest session so far and another one, each with its modes
abbrev pub lower_of : Option (ℕ × ℕ) → ℕ → ℕ → Option (ℕ × ℕ)
lower_of None session modes = Some (session, modes)
lower_of (Some lowest) session modes = if nat_lt lowest.0 session then Some lowest else Some (session, modes)

-- the lowest session so far, with this record considered
abbrev pub considered_of : Option (ℕ × ℕ) → HolderRecord → ℕ → ℕ → Option (ℕ × ℕ)
considered_of lowest holder session set =
    if holder.session == session then lowest else (if meet holder.modes set then lower_of lowest holder.session holder.modes else lowest)
