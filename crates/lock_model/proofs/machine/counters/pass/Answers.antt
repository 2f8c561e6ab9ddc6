use Rattle.lock_model.specs.CountedLists.{passed_by}
use Rattle.lock_model.proofs.Lemmas.CountedLists.{mapped_more}
use Rattle.lock_model.proofs.machine.counters.pass.Goals as goal

pub loop-c-preserved : goal.loop-c-preserved
loop-c-preserved c =
    mapped_more (passed_by c.args.session c.args.owner c.args.tag c.args.mode) c.args.counted.now c.loop-c.counted c.loop-c.c-index c.c-item.result c.passed.result
    c.loop-c-test.true c.loop-c.invariant c.passed.ensures
