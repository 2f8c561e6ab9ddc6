use Rattle.std.proofs.Common.{not, sym, ap, ◌∙◌}
use Rattle.lock_table.proofs.Lemmas.Capacities.{not_above-then}
use Rattle.lock_table.proofs.Lemmas.Queues.{waits_there-mode}
use Rattle.wait_queue.proofs.Lemmas.Removal.{remove_wait-none}
use Rattle.wait_queue.proofs.removals.remove_waiter.Goals as goal

pub returns-in-None-clause-found : goal.returns-in-None-clause-found
returns-in-None-clause-found g c = ap not (waits_there-mode ((g.P.PartTable.content c.args.part.now).waits c.args.tag.now) c.args.session _ c.in-None.ensures.mode)

pub returns-in-None-clause-unchanged : goal.returns-in-None-clause-unchanged
returns-in-None-clause-unchanged g c =
    let before = g.P.PartTable.content c.args.part.now in
    c.in-None.ensures.content ∙ remove_wait-none before c.args.session c.args.tag.now (sym (waits_there-mode (before.waits c.args.tag.now) c.args.session _ c.in-None.ensures.mode))

pub returns-in-Some-clause-found : goal.returns-in-Some-clause-found
returns-in-Some-clause-found g c = ap not (waits_there-mode ((g.P.PartTable.content c.args.part.now).waits c.args.tag.now) c.args.session _ c.in-Some.ensures.mode)

pub returns-in-Some-clause-no_memory_taken : goal.returns-in-Some-clause-no_memory_taken
returns-in-Some-clause-no_memory_taken g c = not_above-then _ _ _ c.in-Some.ensures.no_memory_taken c.wake.ensures.no_memory_taken
