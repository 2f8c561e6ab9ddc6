use Rattle.std.proofs.Common.{◌≡◌, ◌++◌, [], take, drop}
use Rattle.sql_script.specs.Asked.{asked_behind}
use Rattle.sql_script.proofs.asked.asked_of.Given as goal

abbrev pub invariant-loop-place : goal.invariant-loop-place
invariant-loop-place l = l.asked.items ++ asked_behind (take l.place l.locks) (drop l.place l.locks) ≡ asked_behind [] l.locks
