use Rattle.std.proofs.Common.{◌≡◌, sym, ◌∙◌, arith}
use Rattle.lock_model.proofs.Lemmas.Follows.Beyond.{telling-beyond}
use Rattle.lock_model.proofs.Lemmas.Follows.Lists.{was_told, not_told}
use Rattle.lock_model.proofs.machine.state.Machine.tell.Goals as goal

pub returns-then-may_tell : goal.returns-then-may_tell
returns-then-may_tell c = λ w safe shows.
    let now = c.args.self.now in
    let whose : c.from-index.result ≡ c.args.session = c.from-index.ensures ∙ c.number-2.ensures.value in
    let place : c.from-whose.result ≡ c.args.other = c.from-whose.ensures ∙ c.number-3.ensures.value in
    rw (place, whose) (was_told now w safe shows c.args.session c.args.other (sym c.if-may_tell.ensures) (omega arith) (omega arith))

pub returns-else-may_tell : goal.returns-else-may_tell
returns-else-may_tell c = λ w safe shows. not_told c.args.self.now w safe shows c.args.session c.args.other (sym c.if-may_tell.ensures)

pub returns-then-number-ge-USUAL_SESSIONS : goal.returns-then-number-ge-USUAL_SESSIONS
returns-then-number-ge-USUAL_SESSIONS c = λ w safe shows. telling-beyond c.args.self.now w safe shows c.args.session c.args.other (omega arith)
