use Rattle.std.proofs.Common.{◌≡◌, sym, ◌∙◌, arith}
use Rattle.lock_model.proofs.Lemmas.Follows.Beyond.{taking-beyond}
use Rattle.lock_model.proofs.Lemmas.Follows.Slots.{taken_fast}
use Rattle.lock_model.proofs.Lemmas.Shows.Looks.{fast_word_from}
use Rattle.lock_model.proofs.machine.state.Machine.take_fast.Goals as goal

pub returns-in-Some : goal.returns-in-Some
returns-in-Some c = λ w safe shows.
    let now = c.args.self.now in
    let place : c.from-index.result ≡ c.args.owner = c.from-index.ensures ∙ c.number-2.ensures.value in
    let whose : c.from-whose.result ≡ c.args.session = c.from-whose.ensures ∙ c.number-3.ensures.value in
    rw (place, whose)
    (taken_fast now w safe shows c.args.session c.args.owner _ c.in-Some.word (sym c.if-makes_steps.ensures) (omega arith) (omega arith)
    (fast_word_from now w safe shows c.from-index.result c.args.owner c.index-self-index.result place (omega arith)) c.in-Some.ensures.answer)

pub returns-then-number-ge-USUAL_SESSIONS : goal.returns-then-number-ge-USUAL_SESSIONS
returns-then-number-ge-USUAL_SESSIONS c = λ w safe shows. taking-beyond c.args.self.now w safe shows c.args.session c.args.owner (omega arith)
