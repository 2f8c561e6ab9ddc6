use Rattle.std.proofs.Common.{◌≡◌, ◌++◌, map, take, drop}
use Rattle.lock_model.specs.CountedLists.{passed_by}
use Rattle.lock_model.proofs.machine.counters.pass.Given as goal

abbrev pub invariant-loop-c : goal.invariant-loop-c
invariant-loop-c l = l.counted ≡ map (passed_by l.session l.owner l.tag l.mode) (take l.c-index l.initial.counted) ++ drop l.c-index l.initial.counted
