use Rattle.std.proofs.Common.{◌≡◌, sym, ◌∙◌, arith}
use Rattle.lock_model.proofs.Lemmas.Follows.ListWords.{locked_partition_list}
use Rattle.lock_model.proofs.Lemmas.Shows.Looks.{partition_word_from}
use Rattle.lock_model.proofs.machine.state.Machine.lock_partition_list.Goals as goal

pub returns-in-Some : goal.returns-in-Some
returns-in-Some c = λ w safe shows.
    let now = c.args.self.now in
    let place : c.from-index.result ≡ c.args.partition = c.from-index.ensures in
    let whose : c.from.result ≡ c.args.session = c.from.ensures ∙ c.number.ensures.value in
    rw (place, whose)
    (locked_partition_list now w safe shows c.args.session c.args.partition _ c.in-Some.word (omega arith) (omega arith) (omega arith)
    (partition_word_from now w safe shows c.from-index.result c.args.partition c.index-self-index.result place (omega arith)) (sym c.if-may_lock_list.ensures) c.in-Some.ensures.answer)
