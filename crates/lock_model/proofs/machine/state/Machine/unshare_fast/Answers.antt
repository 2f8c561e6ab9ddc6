use Rattle.std.proofs.Common.{◌≡◌, sym, ◌∙◌, arith}
use Rattle.lock_model.proofs.Lemmas.Follows.Beyond.{unsharing-beyond}
use Rattle.lock_model.proofs.Lemmas.Follows.Sharing.{unshared_fast}
use Rattle.lock_model.proofs.Lemmas.Shows.Looks.{fast_word_from}
use Rattle.lock_model.proofs.Lemmas.Shows.Places.{mark_read}
use Rattle.lock_model.proofs.machine.state.Machine.unshare_fast.Goals as goal

pub returns-then-self-index : goal.returns-then-self-index
returns-then-self-index c = λ w safe shows.
    let now = c.args.self.now in
    let place : c.from-index.result ≡ c.args.owner = c.from-index.ensures ∙ c.number-2.ensures.value in
    let whose : c.from-whose.result ≡ c.args.session = c.from-whose.ensures ∙ c.number-3.ensures.value in
    rw (place, whose)
    (unshared_fast now w safe shows c.args.session c.args.owner _ c.put.result (sym c.if-makes_steps.ensures) (omega arith) (omega arith)
    (fast_word_from now w safe shows c.from-index.result c.args.owner c.index-self-index.result place (omega arith)) c.put.ensures
    (mark_read now.locks.fast_sharers _ _ _ _ _ place whose c.if-self-index.true))

pub returns-then-number-ge-USUAL_SESSIONS : goal.returns-then-number-ge-USUAL_SESSIONS
returns-then-number-ge-USUAL_SESSIONS c = λ w safe shows. unsharing-beyond c.args.self.now w safe shows c.args.session c.args.owner (omega arith)
