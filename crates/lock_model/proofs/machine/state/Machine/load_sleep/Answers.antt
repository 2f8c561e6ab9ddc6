use Rattle.std.proofs.Common.{◌≡◌, sym, ◌∙◌, arith}
use Rattle.lock_model.proofs.Lemmas.Follows.Lists.{has_seen_none, has_seen_else}
use Rattle.lock_model.proofs.machine.state.Machine.load_sleep.Goals as goal

pub returns-then-sees_no_sleep : goal.returns-then-sees_no_sleep
returns-then-sees_no_sleep c = λ w safe shows.
    let now = c.args.self.now in
    let place : c.from-index.result ≡ c.args.session = c.from-index.ensures ∙ c.number.ensures.value in
    rw place (has_seen_none now w safe shows c.args.session c.args.shown (sym c.if-sees_no_sleep.ensures) (omega arith))

pub returns-else-sees_no_sleep : goal.returns-else-sees_no_sleep
returns-else-sees_no_sleep c = λ w safe shows. has_seen_else c.args.self.now w safe shows c.args.session c.args.shown (sym c.if-sees_no_sleep.ensures)
