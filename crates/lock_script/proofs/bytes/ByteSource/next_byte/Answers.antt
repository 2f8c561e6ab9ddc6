use Rattle.std.proofs.Common.{arith, ap}
use Rattle.lock_script.specs.Bytes.{ByteView}
use Rattle.lock_script.proofs.Lemmas.Known.{Consumes-next, Consumes-filled}
use Rattle.lock_script.proofs.bytes.ByteSource.next_byte.Goals as goal
use Rattle.lock_script.proofs.bytes.ByteSource.next_byte.Goals.{then-self+in_ok-read+else-read-eq0, else-self}

pub returns-clause-bytes : goal.returns-clause-bytes
returns-clause-bytes g c =
    elim c.if-self.branch [
      | then-self+in_ok-read+else-read-eq0 w ↦ rw w.self-inside-is (Consumes-filled _ (g.R.Read.remaining c.self.inside.reader) (g.R.Read.remaining w.read_some.new.reader) c.self.inside.buffer w.read_some.new.buffer c.self.inside.start c.self.inside.end w.in_ok-read.read (ap (λ (bytes : ByteView). bytes.left) c.self.view_is) w.if-self.true w.in_ok-read.ensures.bytes.0 (omega arith) w.in_ok-read.ensures.bound)
      | else-self w ↦ rw w.self-inside-is (Consumes-next _ (g.R.Read.remaining c.self.inside.reader) c.self.inside.buffer c.self.inside.start c.self.inside.end (ap (λ (bytes : ByteView). bytes.left) c.self.view_is) (omega arith) (omega arith))
    ]
