use Rattle.std.proofs.Common.{◌≡◌, vec_len, vec_capacity}
use Rattle.lock_table.specs.Parts.{AreEmptyParts}
use Rattle.lock_table.proofs.parts.empty_parts.Given as goal

abbrev pub invariant-loop-part : goal.invariant-loop-part
invariant-loop-part g l = record {
  empty : AreEmptyParts g.T.PartTable.content g.T.PartTable.begun l.parts.items;
  number : vec_len l.parts ≡ l._part;
  room : vec_capacity l.parts ≡ 16;
}
