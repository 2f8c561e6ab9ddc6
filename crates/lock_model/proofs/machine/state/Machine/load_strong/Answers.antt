use Rattle.std.proofs.Common.{◌≡◌, sym, ◌∙◌, arith}
use Rattle.lock_model.proofs.Lemmas.Follows.Counters.{has_read_zero, has_read_else}
use Rattle.lock_model.proofs.machine.state.Machine.load_strong.Goals as goal

pub returns-then-reads_zero : goal.returns-then-reads_zero
returns-then-reads_zero c = λ w safe shows.
    let whose : c.from.result ≡ c.args.session = c.from.ensures ∙ c.number.ensures.value in
    rw whose (has_read_zero c.args.self.now w safe shows c.args.session c.args.index c.args.shown (sym c.if-reads_zero.ensures) (omega arith))

pub returns-else-reads_zero : goal.returns-else-reads_zero
returns-else-reads_zero c = λ w safe shows.
    has_read_else c.args.self.now w safe shows c.args.session c.args.index c.args.shown (sym c.if-reads_zero.ensures)
