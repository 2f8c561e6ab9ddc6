use Rattle.std.specs.Prelude.{ℕ, ◌&&◌, List, [], ◌∷◌, ◌++◌, zero, suc, slice_index_or, if◌then◌else◌}
use Rattle.modes_core.specs.declared.modes.Mode.{Mode}
use Rattle.modes_core.specs.declared.modes.Mode.TheVariants.{AccessShare, RowShare, RowExclusive}
use Rattle.modes_core.specs.declared.tags.Tag.TheVariants.{Relation}
use Rattle.modes_core.specs.Tag.{is_eligible_for}
use Rattle.lw_word.specs.SlotWord.{relation_in, has_mode}
use Rattle.lock_model.specs.declared.machine.plain.Hold.{Hold}
use Rattle.lock_model.specs.declared.machine.plain.Spot.TheVariants.{Slot}

-- What sessions' fast-path slots show, as entries of the plain list that a run answers with.

-- the first lists, one after another
unfoldable pub lists_below : {X : Type 0} → ℕ → (ℕ → List X) → List X
lists_below zero list = []
lists_below (suc limit) list = lists_below limit list ++ list limit

-- the hold that a slot shows in the mode, if it shows one
abbrev pub shown_hold : ℕ → ℕ → ℕ → ℕ → Mode → List Hold
shown_hold session database place word mode =
    if has_mode word mode && is_eligible_for database (Relation database (relation_in word)) mode
    then (record { session = session; tag = Relation database (relation_in word); mode = mode; spot = Slot place }) ∷ []
    else []

-- the holds that a slot shows: there are bits for three modes
abbrev pub slot_rows : ℕ → ℕ → ℕ → ℕ → List Hold
slot_rows session database place word =
    shown_hold session database place word AccessShare
    ++ (shown_hold session database place word RowShare ++ shown_hold session database place word RowExclusive)

-- the holds that a session's slots show, at all places for slots
abbrev pub session_rows : ℕ → ℕ → List ℕ → List Hold
session_rows session database slots = lists_below 128 (λ place. slot_rows session database place (slice_index_or slots place 0))

-- the holds that the slots of 64 sessions show
abbrev pub fast_path_rows : List ℕ → List (List ℕ) → List Hold
fast_path_rows databases slots =
    lists_below 64 (λ session. session_rows session (slice_index_or databases session 0) (slice_index_or slots session []))
