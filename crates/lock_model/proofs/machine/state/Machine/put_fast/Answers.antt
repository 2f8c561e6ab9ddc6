use Rattle.std.proofs.Common.{◌≡◌, ◌≢◌, sym, ◌∙◌, arith}
use Rattle.lock_table.specs.declared.moves.Move.TheVariants.{Keep}
use Rattle.lock_table.proofs.Lemmas.MoveTests.{move_eq-same}
use Rattle.lock_model.proofs.Lemmas.Follows.Beyond.{putting-beyond}
use Rattle.lock_model.proofs.Lemmas.Follows.Slots.{was_put_fast, was_put_own}
use Rattle.lock_model.proofs.Lemmas.Shows.Looks.{fast_word_from}
use Rattle.lock_model.proofs.Lemmas.Shows.Places.{mark_read}
use Rattle.lock_model.proofs.machine.state.Machine.put_fast.Goals as goal

pub returns-then-index-whose : goal.returns-then-index-whose
returns-then-index-whose c = λ w safe shows.
    let now = c.args.self.now in
    let place : c.from-index.result ≡ c.args.owner = c.from-index.ensures ∙ c.number-2.ensures.value in
    let whose : c.from-whose.result ≡ c.args.session = c.from-whose.ensures ∙ c.number-3.ensures.value in
    let kept : c.args.done ≡ Keep = move_eq-same c.args.done Keep (sym c.if-is_same.ensures) in
    rw (place, whose, kept)
    (was_put_own now w safe shows c.args.session c.args.owner _ c.put.result (sym c.if-makes_steps.ensures) (omega arith) (omega arith)
    (fast_word_from now w safe shows c.from-index.result c.args.owner c.index-self-index.result place (omega arith))
    (mark_read now.locks.fast_holders _ _ _ _ _ place whose c.if-self-index.true)
    c.put.ensures (sym place ∙ c.if-index-whose.true ∙ whose))

pub returns-else-index-whose : goal.returns-else-index-whose
returns-else-index-whose c = λ w safe shows.
    let now = c.args.self.now in
    let place : c.from-index.result ≡ c.args.owner = c.from-index.ensures ∙ c.number-2.ensures.value in
    let whose : c.from-whose.result ≡ c.args.session = c.from-whose.ensures ∙ c.number-3.ensures.value in
    let kept : c.args.done ≡ Keep = move_eq-same c.args.done Keep (sym c.if-is_same.ensures) in
    let other : c.args.owner ≢ c.args.session = λ same. c.if-index-whose.false (place ∙ same ∙ sym whose) in
    rw (place, whose, kept)
    (was_put_fast now w safe shows c.args.session c.args.owner _ c.put.result (sym c.if-makes_steps.ensures) (omega arith) (omega arith)
    (fast_word_from now w safe shows c.from-index.result c.args.owner c.index-self-index.result place (omega arith))
    (mark_read now.locks.fast_holders _ _ _ _ _ place whose c.if-self-index.true) c.put.ensures other)

pub returns-then-number-ge-USUAL_SESSIONS : goal.returns-then-number-ge-USUAL_SESSIONS
returns-then-number-ge-USUAL_SESSIONS c = λ w safe shows. putting-beyond c.args.self.now w safe shows c.args.session c.args.owner c.args.done (omega arith)
