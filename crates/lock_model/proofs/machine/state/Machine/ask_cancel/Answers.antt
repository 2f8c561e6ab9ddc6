use Rattle.std.proofs.Common.{◌≡◌, sym, ◌∙◌, arith}
use Rattle.lock_model.proofs.Lemmas.Follows.Waits.Asks.{was_asked, ask_refused}
use Rattle.lock_model.proofs.machine.state.Machine.ask_cancel.Goals as goal

pub returns-then-makes_steps : goal.returns-then-makes_steps
returns-then-makes_steps c = λ w safe shows.
    let now = c.args.self.now in
    let place : c.from-index.result ≡ c.args.other = c.from-index.ensures ∙ c.number.ensures.value in
    rw place (was_asked now w safe shows c.args.session c.args.other (sym c.if-makes_steps.ensures) (omega arith))

pub returns-else-makes_steps : goal.returns-else-makes_steps
returns-else-makes_steps c = λ w safe shows. ask_refused c.args.self.now w safe shows c.args.session c.args.other (sym c.if-makes_steps.ensures)
