use Rattle.std.proofs.Common.{◌≡◌, All, take}
use Rattle.sql_statements.specs.Parting.{gathered}
use Rattle.sql_statements.specs.Statements.{said_of, IsPlaced}
use Rattle.sql_statements.proofs.statements.split_statements.Given as goal

abbrev pub invariant-loop-word : goal.invariant-loop-word
invariant-loop-word l =
    (gathered l.parted ≡ said_of (take l.word-index l.word-items)) × All IsPlaced l.parted.statements.items
