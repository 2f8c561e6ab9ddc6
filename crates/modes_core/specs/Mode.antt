use Rattle.std.specs.Prelude.{ℕ, Bool, ◌==◌, List, codes}
use Rattle.modes_core.specs.declared.modes.Mode.{Mode}
use Rattle.modes_core.specs.declared.modes.Mode.TheVariants.{AccessShare, RowShare, RowExclusive, ShareUpdateExclusive, Share, ShareRowExclusive, Exclusive, AccessExclusive}

-- PostgreSQL's number of a mode
abbrev pub number_of : Mode → ℕ
number_of AccessShare = 1
number_of RowShare = 2
number_of RowExclusive = 3
number_of ShareUpdateExclusive = 4
number_of Share = 5
number_of ShareRowExclusive = 6
number_of Exclusive = 7
number_of AccessExclusive = 8

-- PostgreSQL's name of a mode
abbrev pub name_of : Mode → List ℕ
name_of AccessShare = codes "AccessShareLock"
name_of RowShare = codes "RowShareLock"
name_of RowExclusive = codes "RowExclusiveLock"
name_of ShareUpdateExclusive = codes "ShareUpdateExclusiveLock"
name_of Share = codes "ShareLock"
name_of ShareRowExclusive = codes "ShareRowExclusiveLock"
name_of Exclusive = codes "ExclusiveLock"
name_of AccessExclusive = codes "AccessExclusiveLock"

-- whether two modes are the same one
abbrev pub mode_eq : Mode → Mode → Bool
mode_eq m n = number_of m == number_of n
