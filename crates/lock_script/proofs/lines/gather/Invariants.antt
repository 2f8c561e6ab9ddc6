use Rattle.std.proofs.Common.{◌≡◌, [], ◌∷◌, length}
use Rattle.std.specs.Io.KnownBytes.{prepend_known}
use Rattle.lock_script.proofs.Lemmas.Gathering.{Gathers}
use Rattle.lock_script.proofs.lines.gather.Given as goal

abbrev pub invariant-loop-at : goal.invariant-loop-at
invariant-loop-at g l = record {
  gathers : Gathers (prepend_known (l.first ∷ []) l.initial.source.left) l.source.left l.line.items l.next;
  as_long : length l.line.items ≡ l.at;
}
