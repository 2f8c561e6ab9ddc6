use Rattle.std.specs.Prelude.{⊤}
use Rattle.sql_locks.proofs.word_lengths.rows_length.Given as goal

abbrev pub invariant-bytes : goal.invariant-bytes
invariant-bytes l = ⊤
