use Rattle.std.proofs.Common.{◌≡◌, ◌+◌, ◌*◌, sym, ap, ◌∙◌, arith}
use Rattle.std.proofs.lemmas.List.{get_or_default}
use Rattle.lw_word.specs.LockState.{word_of}
use Rattle.lock_world.specs.declared.events.Step.TheVariants.{SetHasWaiters}
use Rattle.lock_world.specs.declared.events.Word.TheVariants.{Fast}
use Rattle.lock_world.specs.WaitLists.{fast_lock}
use Rattle.lock_model.specs.ListWords.{has_list}
use Rattle.lock_model.proofs.Lemmas.Follows.Beyond.{has_waiters-beyond}
use Rattle.lock_model.proofs.Lemmas.Follows.Skipped.{skipped}
use Rattle.lock_model.proofs.Lemmas.Follows.ListWords.{has_waiters_in_fast, not_its_word, has_not}
use Rattle.lock_model.proofs.Lemmas.Shows.Looks.{fast_word_from}
use Rattle.lock_model.proofs.machine.state.Machine.set_fast_has_waiters.Goals as goal
use Rattle.lock_model.proofs.machine.state.Machine.set_fast_has_waiters.Goals.{else-has_list-via-then-has_list+else-shown-number, else-has_list-via-else-has_list}

pub returns-then-shown-number : goal.returns-then-shown-number
returns-then-shown-number c = λ w safe shows.
    let now = c.args.self.now in
    let place : c.from-index.result ≡ c.args.owner = c.from-index.ensures ∙ c.number-2.ensures.value in
    let lock : c.number-3.result ≡ c.args.owner = c.number-3.ensures.value in
    rw place
    (has_waiters_in_fast now w safe shows c.args.session c.args.owner c.args.shown _ c.set_has_waiters.result
    (ap (λ n. has_list now c.args.session (2 * n + 1)) (sym lock) ∙ sym c.if-has_list.ensures) (omega arith)
    (fast_word_from now w safe shows c.from-index.result c.args.owner c.index-self-index-then-shown-number.result place (omega arith))
    (c.if-shown-number.true ∙ c.number-then-has_list.ensures.value ∙ ap word_of (get_or_default now.words.fast c.from-index.result c.index-self-index.result c.index-self-index-then-shown-number.result (omega arith)))
    c.set_has_waiters.ensures.after)

pub returns-else-has_list : goal.returns-else-has_list
returns-else-has_list c = λ w safe shows.
    let now = c.args.self.now in
    let place : c.from-index.result ≡ c.args.owner = c.from-index.ensures ∙ c.number-2.ensures.value in
    let lock : c.number-3.result ≡ c.args.owner = c.number-3.ensures.value in
    skipped now w safe shows c.args.session (SetHasWaiters (Fast c.args.owner) c.args.shown)
    (λ lawful. elim c.else-has_list.branch [
      | else-has_list-via-then-has_list+else-shown-number b ↦
          not_its_word now w safe shows c.args.shown _ _ (fast_word_from now w safe shows c.from-index.result c.args.owner b.index-self-index.result place (omega arith))
          (λ is. b.if-shown-number.false (is ∙ sym b.number-then-has_list.ensures.value)) lawful.1.0.is_word
      | else-has_list-via-else-has_list b ↦
          has_not now w safe shows c.args.session (fast_lock c.args.owner)
          (ap (λ n. has_list now c.args.session (2 * n + 1)) (sym lock) ∙ sym b.if-has_list.ensures) lawful.1.0.has
    ])

pub returns-then-number-ge-USUAL_SESSIONS : goal.returns-then-number-ge-USUAL_SESSIONS
returns-then-number-ge-USUAL_SESSIONS c = λ w safe shows. has_waiters-beyond c.args.self.now w safe shows c.args.session c.args.owner c.args.shown (omega arith)
