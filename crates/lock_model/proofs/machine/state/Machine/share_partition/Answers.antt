use Rattle.std.proofs.Common.{◌≡◌, sym, ◌∙◌, arith}
use Rattle.lock_model.proofs.Lemmas.Follows.Sharing.{shared_partition, not_shared_partition}
use Rattle.lock_model.proofs.Lemmas.Shows.Looks.{partition_word_from}
use Rattle.lock_model.proofs.Lemmas.Shows.Places.{mark_read}
use Rattle.lock_model.proofs.machine.state.Machine.share_partition.Goals as goal

pub returns-in-Some : goal.returns-in-Some
returns-in-Some c = λ w safe shows.
    let now = c.args.self.now in
    let place : c.from-index.result ≡ c.args.partition = c.from-index.ensures in
    let whose : c.from-whose.result ≡ c.args.session = c.from-whose.ensures ∙ c.number.ensures.value in
    rw (place, whose)
    (shared_partition now w safe shows c.args.session c.args.partition _ c.in-Some.word (sym c.if-makes_steps.ensures) (omega arith) (omega arith) (omega arith)
    (partition_word_from now w safe shows c.from-index.result c.args.partition c.index-self-index.result place (omega arith)) c.in-Some.ensures
    (mark_read now.locks.partition_sharers _ _ _ _ _ place whose c.if-not-self-index.true))

pub returns-in_default : goal.returns-in_default
returns-in_default c = λ w safe shows.
    let now = c.args.self.now in
    not_shared_partition now w safe shows c.args.session c.args.partition _
    (partition_word_from now w safe shows c.from-index.result c.args.partition c.index-self-index.result c.from-index.ensures (omega arith)) c.in_default.ensures
