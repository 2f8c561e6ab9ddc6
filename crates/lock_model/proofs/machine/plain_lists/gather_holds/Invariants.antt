use Rattle.std.proofs.Common.{ℕ, ◌<◌, ◌≡◌, take}
use Rattle.std.specs.List.{flat_map}
use Rattle.lock_table.specs.PartWaits.{EachOnce}
use Rattle.lock_table.specs.Parts.{part_at}
use Rattle.lock_model.specs.PlainLists.{table_holds_of}
use Rattle.lock_model.proofs.machine.plain_lists.gather_holds.Given as goal

abbrev pub invariant-loop-part : goal.invariant-loop-part
invariant-loop-part l =
    record {
      so_far : l.holds.items ≡ flat_map table_holds_of (take l.part-index l.parts);
      each_once : (p : ℕ) → p < l.part-index → EachOnce (part_at l.parts p).holds (part_at l.parts p).waits;
    }
