use Rattle.std.proofs.Common.{◌≡◌, sym, ◌∙◌, arith}
use Rattle.lock_model.proofs.Lemmas.Follows.Beyond.{sharing-beyond}
use Rattle.lock_model.proofs.Lemmas.Follows.Sharing.{shared_fast, not_shared_fast}
use Rattle.lock_model.proofs.Lemmas.Shows.Looks.{fast_word_from}
use Rattle.lock_model.proofs.Lemmas.Shows.Places.{mark_read}
use Rattle.lock_model.proofs.machine.state.Machine.share_fast.Goals as goal

pub returns-in-Some : goal.returns-in-Some
returns-in-Some c = λ w safe shows.
    let now = c.args.self.now in
    let place : c.from-index.result ≡ c.args.owner = c.from-index.ensures ∙ c.number-2.ensures.value in
    let whose : c.from-whose.result ≡ c.args.session = c.from-whose.ensures ∙ c.number-3.ensures.value in
    rw (place, whose)
    (shared_fast now w safe shows c.args.session c.args.owner _ c.in-Some.word (sym c.if-makes_steps.ensures) (omega arith) (omega arith)
    (fast_word_from now w safe shows c.from-index.result c.args.owner c.index-self-index.result place (omega arith)) c.in-Some.ensures
    (mark_read now.locks.fast_sharers _ _ _ _ _ place whose c.if-not-self-index.true))

pub returns-in_default : goal.returns-in_default
returns-in_default c = λ w safe shows.
    let now = c.args.self.now in
    not_shared_fast now w safe shows c.args.session c.args.owner _
    (fast_word_from now w safe shows c.from-index.result c.args.owner c.index-self-index.result (c.from-index.ensures ∙ c.number-2.ensures.value) (omega arith)) c.in_default.ensures

pub returns-then-number-ge-USUAL_SESSIONS : goal.returns-then-number-ge-USUAL_SESSIONS
returns-then-number-ge-USUAL_SESSIONS c = λ w safe shows. sharing-beyond c.args.self.now w safe shows c.args.session c.args.owner (omega arith)
