use Rattle.std.proofs.Common.{take}
use Rattle.lock_manager.proofs.Lemmas.Blocked.{BlockedSoFar}
use Rattle.lock_manager.proofs.blocked.append_blocked.Given as goal

abbrev pub invariant-loop-row : goal.invariant-loop-row
invariant-loop-row g l = BlockedSoFar (g.T.PartTable.content l.content) (take l.row-index l.row-items) l.fn.found.items l.found.items
