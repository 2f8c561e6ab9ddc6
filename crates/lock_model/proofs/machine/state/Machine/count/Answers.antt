use Rattle.std.proofs.Common.{sym, arith}
use Rattle.lock_model.specs.declared.machine.state.Machine.{Machine}
use Rattle.lock_model.proofs.Lemmas.Follows.Counters.{was_counted, not_counted}
use Rattle.lock_model.proofs.machine.state.Machine.count.Goals as goal

pub returns-in_ok-push-clause-followed : goal.returns-in_ok-push-clause-followed
returns-in_ok-push-clause-followed c = λ w safe shows.
    let now = c.args.self.now in
    let after : Machine = record now { counted = c.push.new.self } in
    was_counted now w safe shows c.args.session c.args.tag c.args.mode after (sym c.if-may_count.ensures) (omega arith) c.in_ok-push.ensures.items

pub returns-else-may_count-clause-followed : goal.returns-else-may_count-clause-followed
returns-else-may_count-clause-followed c = λ w safe shows.
    not_counted c.args.self.now w safe shows c.args.session c.args.tag c.args.mode (sym c.if-may_count.ensures)
