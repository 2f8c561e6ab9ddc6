use Rattle.std.proofs.Common.{◌≡◌, sym, ◌∙◌, arith}
use Rattle.lock_model.specs.declared.machine.state.Lists.{Lists}
use Rattle.lock_model.proofs.Lemmas.Follows.Lists.{has_left, not_left, left_not_waiting}
use Rattle.lock_model.proofs.machine.state.Machine.leave_list.Goals as goal

pub returns-then-waits_at : goal.returns-then-waits_at
returns-then-waits_at c = λ w safe shows.
    let now = c.args.self.now in
    let after : Lists = record (now.lists) { sleepers = c.take_out.new.sleepers } in
    let place : c.from-index.result ≡ c.args.session = c.from-index.ensures ∙ c.number.ensures.value in
    rw place
    (has_left now w safe shows c.args.session c.in-Some.lock after (sym c.list_to_change.ensures ∙ c.in-Some.is) (sym c.if-waits_at.ensures) (omega arith) c.take_out.ensures)

pub returns-in_default : goal.returns-in_default
returns-in_default c = λ w safe shows. not_left c.args.self.now w safe shows c.args.session (sym c.list_to_change.ensures ∙ c.in_default.is)

pub returns-else-waits_at : goal.returns-else-waits_at
returns-else-waits_at c = λ w safe shows.
    left_not_waiting c.args.self.now w safe shows c.args.session c.in-Some.lock (sym c.list_to_change.ensures ∙ c.in-Some.is) (sym c.if-waits_at.ensures)
