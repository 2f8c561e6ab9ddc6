use Rattle.std.proofs.Common.{◌≡◌, ◌<◌, length, get_or, is_some, sym, ap, ◌∙◌, arith}
use Rattle.lock_table.proofs.Lemmas.Lists.{some_at}
use Rattle.lock_model.proofs.Lemmas.Follows.Seats.{was_issued, went_on}
use Rattle.lock_model.proofs.machine.state.Machine.split_seat.Goals as goal

pub returns-then-number-self : goal.returns-then-number-self
returns-then-number-self c = λ w safe shows.
    let now = c.args.self.now in
    let place : c.from-index.result ≡ c.args.session = c.from-index.ensures ∙ c.number.ensures.value in
    let next : c.args.session ≡ now.numbers.issued = sym c.number-2.ensures.value ∙ c.if-number-self.true in
    let within : c.args.session < 64 = omega arith in
    let in_live : c.args.session < length now.numbers.live = omega arith in
    rw place (was_issued now w safe shows c.args.session next within in_live)

pub returns-then-is_some : goal.returns-then-is_some
returns-then-is_some c = λ w safe shows.
    let now = c.args.self.now in
    let place : c.from-index.result ≡ c.args.session = c.from-index.ensures ∙ c.number.ensures.value in
    let in_kept_by : c.args.session < length now.numbers.kept_by = omega arith in
    let joiner = some_at now.numbers.kept_by c.args.session c.index-self-index.result in_kept_by (ap (λ i. is_some (get_or now.numbers.kept_by i c.index-self-index.result)) (sym place) ∙ sym c.if-is_some.ensures) in
    rw place (went_on now w safe shows c.args.session joiner.0 joiner.1 in_kept_by)
