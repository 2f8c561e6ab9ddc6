use Rattle.std.proofs.Common.{false, sym, arith}
use Rattle.lock_model.proofs.Lemmas.Follows.Partitions.{taken}
use Rattle.lock_model.proofs.Lemmas.Shows.Looks.{partition_word_from}
use Rattle.lock_model.proofs.Lemmas.Shows.Places.{get_or-one_value}
use Rattle.lock_model.proofs.machine.state.Machine.take_partition.Goals as goal

pub returns-in-Some : goal.returns-in-Some
returns-in-Some c = λ w safe shows.
    let now = c.args.self.now in
    rw c.set_held.ensures
    (taken now w safe shows c.args.session c.args.partition _ c.in-Some.word _ (sym c.if-makes_steps.ensures) (omega arith) (omega arith)
    (partition_word_from now w safe shows c.from-index.result c.args.partition c.index-self-index.result c.from-index.ensures (omega arith)) c.in-Some.ensures.answer (λ k. get_or-one_value 1024 false k))
