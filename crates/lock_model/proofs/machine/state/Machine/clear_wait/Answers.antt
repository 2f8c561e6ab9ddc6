use Rattle.std.proofs.Common.{◌≡◌, false, None, get_or, sym, ap, ◌∙◌, arith}
use Rattle.lock_model.proofs.Lemmas.Follows.Waits.Clears.{clear_refused, clear_of_nothing, cleared_seen, cleared_gone, clear_too_early}
use Rattle.lock_model.proofs.machine.state.Machine.clear_wait.Goals as goal
use Rattle.lock_model.proofs.machine.state.Machine.clear_wait.Goals.{then-self-from-via-then-self-from, then-self-from-via-else-self-from+then-is_gone}

pub returns-then-not-makes_steps : goal.returns-then-not-makes_steps
returns-then-not-makes_steps c = λ w safe shows. clear_refused c.args.self.now w safe shows c.args.session c.args.leaving (sym c.if-not-makes_steps.ensures)

pub returns-in_default : goal.returns-in_default
returns-in_default c = λ w safe shows.
    let now = c.args.self.now in
    let place : c.from.result ≡ c.args.session = c.from.ensures ∙ c.number.ensures.value in
    clear_of_nothing now w safe shows c.args.session c.args.leaving (ap (λ i. get_or now.waits.awaited i None) (sym place) ∙ c.in_default.is)

pub returns-then-leaving : goal.returns-then-leaving
returns-then-leaving c = rw c.if-leaving.true c.leave_queue.ensures

pub returns-then-self-from : goal.returns-then-self-from
returns-then-self-from c = λ w safe shows.
    let now = c.args.self.now in
    let place : c.from.result ≡ c.args.session = c.from.ensures ∙ c.number.ensures.value in
    let again : c.from-else-leaving.result ≡ c.args.session = c.from-else-leaving.ensures ∙ c.number-else-leaving.ensures.value in
    let kept = ap (λ i. get_or now.waits.awaited i None) (sym place) ∙ c.in-Some.is in
    rw (c.if-leaving.false, c.end_wait.ensures)
    (elim c.then-self-from.branch [
      | then-self-from-via-then-self-from b ↦
          cleared_seen now w safe shows c.args.session c.in-Some.wait (sym c.if-not-makes_steps.ensures) kept (ap (λ i. get_or now.waits.seen i false) (sym again) ∙ b.if-self-from.true) (omega arith)
      | then-self-from-via-else-self-from+then-is_gone b ↦ cleared_gone now w safe shows c.args.session c.in-Some.wait kept (sym b.if-is_gone.ensures) (omega arith)
    ])

pub returns-else-is_gone : goal.returns-else-is_gone
returns-else-is_gone c = λ w safe shows.
    let now = c.args.self.now in
    let place : c.from.result ≡ c.args.session = c.from.ensures ∙ c.number.ensures.value in
    let again : c.from-else-leaving.result ≡ c.args.session = c.from-else-leaving.ensures ∙ c.number-else-leaving.ensures.value in
    rw c.if-leaving.false
    (clear_too_early now w safe shows c.args.session c.in-Some.wait (ap (λ i. get_or now.waits.awaited i None) (sym place) ∙ c.in-Some.is) (ap (λ i. get_or now.waits.seen i false) (sym again) ∙ c.if-self-from.false)
    (sym c.if-is_gone.ensures))
