use Rattle.std.proofs.Common.{arith}
use Rattle.lock_table.proofs.Lemmas.Parts.{AreEmptyParts-push}
use Rattle.lock_table.proofs.parts.empty_parts.Goals as goal

pub loop-part-preserved : goal.loop-part-preserved
loop-part-preserved g c =
    record {
      empty = rw c.push_reserved.ensures.items (AreEmptyParts-push _ _ _ _ (c.requires.makes _ c.in_ok-new.ensures) c.loop-part.invariant.empty);
      number = omega (arith, c.push_reserved.ensures.len);
      room = omega (arith, c.push_reserved.ensures.capacity);
    }
