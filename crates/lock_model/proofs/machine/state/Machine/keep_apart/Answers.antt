use Rattle.std.proofs.Common.{Some, ◌≡◌, ◌≢◌, ◌<◌, length, sym, ◌∙◌, arith}
use Rattle.lock_world.specs.declared.events.Step.TheVariants.{JoinSeat}
use Rattle.std.proofs.lemmas.Bool.{eqb-false, not-true, not-false, eqb-true}
use Rattle.lock_model.proofs.Lemmas.Follows.Beyond.{joining-beyond}
use Rattle.lock_model.proofs.Lemmas.Shows.Looks.{steps_not}
use Rattle.lock_model.proofs.Lemmas.Follows.Skipped.{skipped}
use Rattle.lock_model.proofs.Lemmas.Follows.Seats.{was_kept_apart, some_word, some_fast_word, some_shared_word}
use Rattle.lock_model.proofs.machine.state.Machine.keep_apart.Goals as goal
use Rattle.lock_model.proofs.machine.state.Machine.keep_apart.Goals.{else-makes_steps-via-then-makes_steps+then-ne+then-makes_steps-2+then-not-has_a_word+then-not-has_a_fast_word+else-not-shares_a_word, else-makes_steps-via-then-makes_steps+then-ne+then-makes_steps-2+then-not-has_a_word+else-not-has_a_fast_word, else-makes_steps-via-then-makes_steps+then-ne+then-makes_steps-2+else-not-has_a_word, else-makes_steps-via-then-makes_steps+then-ne+else-makes_steps-2, else-makes_steps-via-then-makes_steps+else-ne, else-makes_steps-via-else-makes_steps}

pub returns-then-not-shares_a_word : goal.returns-then-not-shares_a_word
returns-then-not-shares_a_word c = λ w safe shows.
    let now = c.args.self.now in
    let place : c.from.result ≡ c.args.session = c.from.ensures ∙ c.number-then-not-shares_a_word.ensures.value in
    let in_kept_by : c.args.session < length now.numbers.kept_by = omega arith in
    let another : c.args.joiner ≢ c.args.session = eqb-false c.args.joiner c.args.session (not-true _ (sym c.if-ne.ensures)) in
    rw place (was_kept_apart now w safe shows c.args.session c.args.joiner
    (sym c.if-makes_steps.ensures) another (sym c.if-makes_steps-2.ensures) (sym c.if-not-has_a_word.ensures) (sym c.if-not-has_a_fast_word.ensures) (sym c.if-not-shares_a_word.ensures) in_kept_by)

pub returns-else-makes_steps : goal.returns-else-makes_steps
returns-else-makes_steps c = λ w safe shows.
    let now = c.args.self.now in
    skipped now w safe shows c.args.session (JoinSeat (Some c.args.joiner))
    (λ lawful. elim c.else-makes_steps.branch [
      | else-makes_steps-via-then-makes_steps+then-ne+then-makes_steps-2+then-not-has_a_word+then-not-has_a_fast_word+else-not-shares_a_word b ↦
          some_shared_word now w safe shows c.args.session (sym b.if-not-shares_a_word.ensures) lawful.1.0.no_shared_word lawful.1.0.no_shared_fast_word
      | else-makes_steps-via-then-makes_steps+then-ne+then-makes_steps-2+then-not-has_a_word+else-not-has_a_fast_word b ↦
          some_fast_word now w safe shows c.args.session (sym b.if-not-has_a_fast_word.ensures) lawful.1.0.no_fast_word
      | else-makes_steps-via-then-makes_steps+then-ne+then-makes_steps-2+else-not-has_a_word b ↦
          some_word now w safe shows c.args.session (sym b.if-not-has_a_word.ensures) lawful.1.0.no_word
      | else-makes_steps-via-then-makes_steps+then-ne+else-makes_steps-2 b ↦
          steps_not now w safe shows c.args.joiner (sym b.if-makes_steps-2.ensures) lawful.1.0.joiner_steps
      | else-makes_steps-via-then-makes_steps+else-ne b ↦ lawful.1.0.another (eqb-true c.args.joiner c.args.session (not-false _ (sym b.if-ne.ensures)))
      | else-makes_steps-via-else-makes_steps b ↦
          steps_not now w safe shows c.args.session (sym b.if-makes_steps.ensures) lawful.1.0.steps
    ])

pub returns-then-number-ge-USUAL_SESSIONS : goal.returns-then-number-ge-USUAL_SESSIONS
returns-then-number-ge-USUAL_SESSIONS c = λ w safe shows. joining-beyond c.args.self.now w safe shows c.args.session c.args.joiner (omega arith)
