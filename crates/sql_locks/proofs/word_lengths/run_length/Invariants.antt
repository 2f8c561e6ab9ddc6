use Rattle.std.proofs.Common.{◌≡◌, true, take}
use Rattle.std.specs.List.{list_all}
use Rattle.sql_locks.specs.Text.{is_in_class}
use Rattle.sql_locks.proofs.word_lengths.run_length.Given as goal

abbrev pub invariant-loop-place : goal.invariant-loop-place
invariant-loop-place l = list_all (is_in_class l.class) (take l.place l.rest) ≡ true
