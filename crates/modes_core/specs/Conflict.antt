use Rattle.std.specs.Prelude.{ℕ, Bool, ◌==◌, List, [], ◌∷◌}
use Rattle.std.specs.List.{list_any}
use Rattle.modes_core.specs.declared.modes.Mode.{Mode}
use Rattle.modes_core.specs.declared.modes.Mode.TheVariants.{AccessShare, RowShare, RowExclusive, ShareUpdateExclusive, Share, ShareRowExclusive, Exclusive, AccessExclusive}
use Rattle.modes_core.specs.Mode.{number_of}

-- The conflict table: the numbers of the modes that a mode conflicts with.
abbrev pub conflicting_numbers : Mode → List ℕ
conflicting_numbers AccessShare = 8 ∷ []
conflicting_numbers RowShare = 7 ∷ 8 ∷ []
conflicting_numbers RowExclusive = 5 ∷ 6 ∷ 7 ∷ 8 ∷ []
conflicting_numbers ShareUpdateExclusive = 4 ∷ 5 ∷ 6 ∷ 7 ∷ 8 ∷ []
conflicting_numbers Share = 3 ∷ 4 ∷ 6 ∷ 7 ∷ 8 ∷ []
conflicting_numbers ShareRowExclusive = 3 ∷ 4 ∷ 5 ∷ 6 ∷ 7 ∷ 8 ∷ []
conflicting_numbers Exclusive = 2 ∷ 3 ∷ 4 ∷ 5 ∷ 6 ∷ 7 ∷ 8 ∷ []
conflicting_numbers AccessExclusive = 1 ∷ 2 ∷ 3 ∷ 4 ∷ 5 ∷ 6 ∷ 7 ∷ 8 ∷ []

-- whether two modes conflict
abbrev pub conflict : Mode → Mode → Bool
conflict m n = list_any (λ k. number_of n == k) (conflicting_numbers m)
