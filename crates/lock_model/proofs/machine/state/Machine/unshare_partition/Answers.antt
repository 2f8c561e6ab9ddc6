use Rattle.std.proofs.Common.{◌≡◌, sym, ◌∙◌, arith}
use Rattle.lock_model.proofs.Lemmas.Follows.Sharing.{unshared_partition}
use Rattle.lock_model.proofs.Lemmas.Shows.Looks.{partition_word_from}
use Rattle.lock_model.proofs.Lemmas.Shows.Places.{mark_read}
use Rattle.lock_model.proofs.machine.state.Machine.unshare_partition.Goals as goal

pub returns-then-self-index : goal.returns-then-self-index
returns-then-self-index c = λ w safe shows.
    let now = c.args.self.now in
    let place : c.from-index.result ≡ c.args.partition = c.from-index.ensures in
    let whose : c.from-whose.result ≡ c.args.session = c.from-whose.ensures ∙ c.number.ensures.value in
    rw (place, whose)
    (unshared_partition now w safe shows c.args.session c.args.partition _ c.put.result (sym c.if-makes_steps.ensures) (omega arith) (omega arith) (omega arith)
    (partition_word_from now w safe shows c.from-index.result c.args.partition c.index-self-index.result place (omega arith)) c.put.ensures
    (mark_read now.locks.partition_sharers _ _ _ _ _ place whose c.if-self-index.true))
