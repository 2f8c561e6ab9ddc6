use Rattle.std.proofs.Common.{◌≡◌, ◌+◌, ◌*◌, sym, ap, ◌∙◌, arith}
use Rattle.lock_model.specs.ListWords.{has_list}
use Rattle.lock_model.proofs.Lemmas.Follows.Beyond.{unlocking-beyond}
use Rattle.lock_model.proofs.Lemmas.Follows.ListWords.{unlocked_fast_list}
use Rattle.lock_model.proofs.Lemmas.Shows.Looks.{fast_word_from}
use Rattle.lock_model.proofs.machine.state.Machine.unlock_fast_list.Goals as goal

pub returns-then-has_list : goal.returns-then-has_list
returns-then-has_list c = λ w safe shows.
    let now = c.args.self.now in
    let place : c.from-index.result ≡ c.args.owner = c.from-index.ensures ∙ c.number-2.ensures.value in
    let lock : c.number-3.result ≡ c.args.owner = c.number-3.ensures.value in
    let whose : c.from.result ≡ c.args.session = c.from.ensures ∙ c.number-then-has_list.ensures.value in
    rw (place, whose)
    (unlocked_fast_list now w safe shows c.args.session c.args.owner c.args.has_waiters c.args.release_ok _ c.unlocked.result (omega arith) (omega arith)
    (fast_word_from now w safe shows c.from-index.result c.args.owner c.index-self-index.result place (omega arith))
    (ap (λ n. has_list now c.args.session (2 * n + 1)) (sym lock) ∙ sym c.if-has_list.ensures) c.unlocked.ensures)

pub returns-then-number-ge-USUAL_SESSIONS : goal.returns-then-number-ge-USUAL_SESSIONS
returns-then-number-ge-USUAL_SESSIONS c = λ w safe shows. unlocking-beyond c.args.self.now w safe shows c.args.session c.args.owner c.args.has_waiters c.args.release_ok (omega arith)
