use Rattle.std.proofs.Common.{refl, ap}
use Rattle.shared_rule.specs.Boards.{Stack}
use Rattle.shared_rule.proofs.Lemmas.AtRest.{rests-lists, released-rests}
use Rattle.shared_rule.proofs.one_thread.OneThreadBoard.sleep.Goals as goal

pub park_waiting-requires-clause-nothing_left : goal.park_waiting-requires-clause-nothing_left
park_waiting-requires-clause-nothing_left g c = record {
  no_lock = record {
    no_partition = λ part. ap (λ hand. hand part) c.requires.looked.no_partition;
    no_slots = c.requires.no_slots;
    no_shared_slots = c.requires.no_shared_slots;
  };
  no_lists_ = rests-lists g.T.PartTable.content c.args.self.now.rests;
  free = c.args.self.now.rests.idle.free;
  wakes_nobody = ap (λ (stack : Stack). stack.owed) c.requires.nothing_due;
}

pub invariant_of-self-clause-rests : goal.invariant_of-self-clause-rests
invariant_of-self-clause-rests g c = released-rests c.park_waiting.ensures.led refl c.park_waiting.ensures.shelves c.args.self.now.rests
