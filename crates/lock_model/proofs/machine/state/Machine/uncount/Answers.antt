use Rattle.std.proofs.Common.{sym}
use Rattle.lock_model.specs.declared.machine.state.Machine.{Machine}
use Rattle.lock_model.proofs.Lemmas.Follows.Counters.{was_uncounted, not_uncounted}
use Rattle.lock_model.proofs.machine.state.Machine.uncount.Goals as goal

pub returns-then-may_uncount : goal.returns-then-may_uncount
returns-then-may_uncount c = λ w safe shows.
    let now = c.args.self.now in
    let after : Machine = record now { counted = c.uncounted.new.counted } in
    was_uncounted now w safe shows c.args.session c.args.tag c.args.mode after (sym c.if-may_uncount.ensures) c.uncounted.ensures

pub returns-else-may_uncount : goal.returns-else-may_uncount
returns-else-may_uncount c = λ w safe shows.
    not_uncounted c.args.self.now w safe shows c.args.session c.args.tag c.args.mode (sym c.if-may_uncount.ensures)
