use Rattle.std.proofs.Common.{take}
use Rattle.sql_locks.specs.Reach.{AreLocks}
use Rattle.sql_locks.proofs.locks.locks_of.Given as goal

abbrev pub invariant-loop-part : goal.invariant-loop-part
invariant-loop-part l = AreLocks l.links l.act (take l.part-index l.parts) l.locks.items
