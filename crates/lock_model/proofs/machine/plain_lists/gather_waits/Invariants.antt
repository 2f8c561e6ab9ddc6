use Rattle.std.proofs.Common.{◌≡◌, take}
use Rattle.std.specs.List.{flat_map}
use Rattle.lock_model.proofs.Lemmas.PlainLists.{queued_waits_of}
use Rattle.lock_model.proofs.machine.plain_lists.gather_waits.Given as goal

abbrev pub invariant-loop-part : goal.invariant-loop-part
invariant-loop-part l = l.waits.items ≡ flat_map queued_waits_of (take l.part-index l.parts)
