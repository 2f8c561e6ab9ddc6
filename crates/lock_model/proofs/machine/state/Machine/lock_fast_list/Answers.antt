use Rattle.std.proofs.Common.{◌≡◌, sym, ◌∙◌, arith}
use Rattle.lock_model.proofs.Lemmas.Follows.Beyond.{locking-beyond}
use Rattle.lock_model.proofs.Lemmas.Follows.ListWords.{locked_fast_list}
use Rattle.lock_model.proofs.Lemmas.Shows.Looks.{fast_word_from}
use Rattle.lock_model.proofs.machine.state.Machine.lock_fast_list.Goals as goal

pub returns-in-Some : goal.returns-in-Some
returns-in-Some c = λ w safe shows.
    let now = c.args.self.now in
    let place : c.from-index.result ≡ c.args.owner = c.from-index.ensures ∙ c.number-2.ensures.value in
    let lock : c.number-in-Some.result ≡ c.args.owner = c.number-in-Some.ensures.value in
    let whose : c.from.result ≡ c.args.session = c.from.ensures ∙ c.number-in-Some-2.ensures.value in
    rw (place, whose, lock)
    (locked_fast_list now w safe shows c.args.session c.args.owner _ c.in-Some.word (omega arith) (omega arith)
    (fast_word_from now w safe shows c.from-index.result c.args.owner c.index-self-index.result place (omega arith)) (sym c.if-may_lock_list.ensures) c.in-Some.ensures.answer)

pub returns-then-number-ge-USUAL_SESSIONS : goal.returns-then-number-ge-USUAL_SESSIONS
returns-then-number-ge-USUAL_SESSIONS c = λ w safe shows. locking-beyond c.args.self.now w safe shows c.args.session c.args.owner (omega arith)
