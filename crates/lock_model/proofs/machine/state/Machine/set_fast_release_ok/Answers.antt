use Rattle.std.proofs.Common.{◌≡◌, sym, ap, ◌∙◌, arith}
use Rattle.std.proofs.lemmas.List.{get_or_default}
use Rattle.lw_word.specs.LockState.{word_of}
use Rattle.lock_world.specs.declared.events.Step.TheVariants.{SetReleaseOk}
use Rattle.lock_world.specs.declared.events.Word.TheVariants.{Fast}
use Rattle.lock_model.proofs.Lemmas.Follows.Beyond.{release_ok-beyond}
use Rattle.lock_model.proofs.Lemmas.Follows.Skipped.{skipped}
use Rattle.lock_model.proofs.Lemmas.Follows.ListWords.{release_ok_in_fast, not_its_word}
use Rattle.lock_model.proofs.Lemmas.Shows.Looks.{steps_not, fast_word_from}
use Rattle.lock_model.proofs.machine.state.Machine.set_fast_release_ok.Goals as goal
use Rattle.lock_model.proofs.machine.state.Machine.set_fast_release_ok.Goals.{else-makes_steps-via-then-makes_steps+else-shown-number, else-makes_steps-via-else-makes_steps}

pub returns-then-shown-number : goal.returns-then-shown-number
returns-then-shown-number c = λ w safe shows.
    let now = c.args.self.now in
    let place : c.from-index.result ≡ c.args.owner = c.from-index.ensures ∙ c.number-2.ensures.value in
    rw place
    (release_ok_in_fast now w safe shows c.args.session c.args.owner c.args.shown _ c.set_release_ok.result (sym c.if-makes_steps.ensures) (omega arith)
    (fast_word_from now w safe shows c.from-index.result c.args.owner c.index-self-index-then-shown-number.result place (omega arith))
    (c.if-shown-number.true ∙ c.number-then-makes_steps.ensures.value ∙ ap word_of (get_or_default now.words.fast c.from-index.result c.index-self-index.result c.index-self-index-then-shown-number.result (omega arith)))
    c.set_release_ok.ensures.after)

pub returns-else-makes_steps : goal.returns-else-makes_steps
returns-else-makes_steps c = λ w safe shows.
    let now = c.args.self.now in
    let place : c.from-index.result ≡ c.args.owner = c.from-index.ensures ∙ c.number-2.ensures.value in
    skipped now w safe shows c.args.session (SetReleaseOk (Fast c.args.owner) c.args.shown)
    (λ lawful. elim c.else-makes_steps.branch [
      | else-makes_steps-via-then-makes_steps+else-shown-number b ↦
          not_its_word now w safe shows c.args.shown _ _ (fast_word_from now w safe shows c.from-index.result c.args.owner b.index-self-index.result place (omega arith))
          (λ is. b.if-shown-number.false (is ∙ sym b.number-then-makes_steps.ensures.value)) lawful.1.1.is_word
      | else-makes_steps-via-else-makes_steps b ↦ steps_not now w safe shows c.args.session (sym b.if-makes_steps.ensures) lawful.1.1.steps
    ])

pub returns-then-number-ge-USUAL_SESSIONS : goal.returns-then-number-ge-USUAL_SESSIONS
returns-then-number-ge-USUAL_SESSIONS c = λ w safe shows. release_ok-beyond c.args.self.now w safe shows c.args.session c.args.owner c.args.shown (omega arith)
