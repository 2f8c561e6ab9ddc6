use Rattle.std.specs.Prelude.{◌≤◌}
use Rattle.std.specs.Io.KnownBytes.{Keeps}
use Rattle.lock_script.specs.Bytes.{most_reads}
use Rattle.lock_script.proofs.bytes.read_some.Given as goal

abbrev pub invariant-loop-made : goal.invariant-loop-made
invariant-loop-made g l = record {
  bytes : Keeps (g.R.Read.remaining l.initial.reader) (g.R.Read.remaining l.reader);
  counted : (l.initial.reads ≤ l.reads) × (l.reads ≤ most_reads);
  further : l.initial.reads ≤ l.made;
}
