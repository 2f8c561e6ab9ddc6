use Rattle.std.proofs.Common.{◌≡◌, ◌<◌, length, get_or, sym, ap, ◌∙◌, arith}
use Rattle.lock_model.proofs.Lemmas.Follows.Waits.Asks.{was_seen, was_loaded, load_refused, load_of_another}
use Rattle.lock_model.proofs.machine.state.Machine.load_wait.Goals as goal
use Rattle.lock_model.proofs.machine.state.Machine.load_wait.Goals.{else-makes_steps-via-then-makes_steps+then-shown-self+else-shown-eq2, else-makes_steps-via-then-makes_steps+else-shown-self, else-makes_steps-via-else-makes_steps}

pub returns-then-shown-eq2 : goal.returns-then-shown-eq2
returns-then-shown-eq2 c = λ w safe shows.
    let now = c.args.self.now in
    let place : c.from-index.result ≡ c.args.session = c.from-index.ensures ∙ c.number.ensures.value in
    let in_seen : c.args.session < length now.waits.seen = omega arith in
    rw place
    (was_seen now w safe shows c.args.session c.args.shown (sym c.if-makes_steps.ensures) (c.if-shown-self.true ∙ ap (λ i. get_or now.words.waits i 0) place) c.if-shown-eq2.true in_seen)

pub returns-else-makes_steps : goal.returns-else-makes_steps
returns-else-makes_steps c = λ w safe shows.
    let now = c.args.self.now in
    let place : c.from-index.result ≡ c.args.session = c.from-index.ensures ∙ c.number.ensures.value in
    elim c.else-makes_steps.branch [
      | else-makes_steps-via-then-makes_steps+then-shown-self+else-shown-eq2 b ↦
          was_loaded now w safe shows c.args.session c.args.shown (sym b.if-makes_steps.ensures) (b.if-shown-self.true ∙ ap (λ i. get_or now.words.waits i 0) place) b.if-shown-eq2.false
      | else-makes_steps-via-then-makes_steps+else-shown-self b ↦
          load_of_another now w safe shows c.args.session c.args.shown (λ e. b.if-shown-self.false (e ∙ ap (λ i. get_or now.words.waits i 0) (sym place)))
      | else-makes_steps-via-else-makes_steps b ↦ load_refused now w safe shows c.args.session c.args.shown (sym b.if-makes_steps.ensures)
    ]
