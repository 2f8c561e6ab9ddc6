use Rattle.std.proofs.Common.{◌≡◌, ◌≢◌, sym, ◌∙◌, arith}
use Rattle.std.proofs.lemmas.Bool.{eqb-true, eqb-false}
use Rattle.lock_model.specs.declared.machine.state.Lists.{Lists}
use Rattle.lock_model.proofs.Lemmas.Follows.Beyond.{taking_off-beyond}
use Rattle.lock_model.proofs.Lemmas.Follows.Lists.{was_taken_off, not_another, not_taken_off, taken_off_not_waiting}
use Rattle.lock_model.proofs.machine.state.Machine.take_off.Goals as goal

pub returns-then-waits_at : goal.returns-then-waits_at
returns-then-waits_at c = λ w safe shows.
    let now = c.args.self.now in
    let after : Lists = record (now.lists) { sleepers = c.take_out.new.sleepers } in
    let whose : c.from-index.result ≡ c.args.session = c.from-index.ensures ∙ c.number-2.ensures.value in
    let place : c.from-whose.result ≡ c.args.other = c.from-whose.ensures ∙ c.number-3.ensures.value in
    let apart : c.args.other ≢ c.args.session = eqb-false c.args.other c.args.session (sym c.if-eq.ensures) in
    rw (place, whose)
    (was_taken_off now w safe shows c.args.session c.args.other c.in-Some.lock after apart (sym c.list_to_change.ensures ∙ c.in-Some.is) (sym c.if-waits_at.ensures)
    (omega arith) (omega arith) c.take_out.ensures)

pub returns-then-eq : goal.returns-then-eq
returns-then-eq c = λ w safe shows. not_another c.args.self.now w safe shows c.args.session c.args.other (eqb-true c.args.other c.args.session (sym c.if-eq.ensures))

pub returns-in_default : goal.returns-in_default
returns-in_default c = λ w safe shows. not_taken_off c.args.self.now w safe shows c.args.session c.args.other (sym c.list_to_change.ensures ∙ c.in_default.is)

pub returns-else-waits_at : goal.returns-else-waits_at
returns-else-waits_at c = λ w safe shows.
    taken_off_not_waiting c.args.self.now w safe shows c.args.session c.args.other c.in-Some.lock (sym c.list_to_change.ensures ∙ c.in-Some.is) (sym c.if-waits_at.ensures)

pub returns-then-number-ge-USUAL_SESSIONS : goal.returns-then-number-ge-USUAL_SESSIONS
returns-then-number-ge-USUAL_SESSIONS c = λ w safe shows. taking_off-beyond c.args.self.now w safe shows c.args.session c.args.other (omega arith)
