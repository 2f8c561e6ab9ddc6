use Rattle.std.proofs.Common.{ℕ, ◌<◌, get_or}
use Rattle.lock_script.specs.declared.sessions.Named.{Named}
use Rattle.lock_script.specs.Names.{NotAfter}
use Rattle.lock_script.proofs.sessions.ByName.place_of.Given as goal

abbrev pub invariant-loop-place : goal.invariant-loop-place
invariant-loop-place g l = (k : ℕ) (d : Named g.row.S.Denot) → k < l.place → NotAfter (get_or l.other-items k d).name.bytes l.name.bytes
