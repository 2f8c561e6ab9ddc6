use Rattle.std.proofs.Common.{◌≡◌, ◌<◌, ◌≤◌, ◌+◌, ◌*◌, sum, ◌∙◌, arith}
use Rattle.modes_core.specs.Mode.{number_of}
use Rattle.lock_records.specs.Tally.{counts_in, most_tallied}
use Rattle.lock_records.proofs.Lemmas.Tallies.{IsTally-set, counts-set, sum-small, mask-with}
use Rattle.lock_records.proofs.tally.Tally.raise.Goals as goal

pub overflow_add-self-2 : goal.overflow_add-self-2
overflow_add-self-2 c =
    let small : sum c.self.inside.by_mode ≤ 9 * most_tallied = sum-small c.self.inside.by_mode c.self.invariant.nine c.self.invariant.each in
    omega (arith, c.self.invariant.summed)

pub invariant_of-self : goal.invariant_of-self
invariant_of-self c =
    let same : c.from-number.result ≡ number_of c.args.mode = c.from-number.ensures ∙ c.number.ensures in
    let few : counts_in c.self.inside.by_mode c.args.mode < most_tallied = rw c.self.view_is c.requires in
    rw same
    (IsTally-set c.self.inside.by_mode c.self.inside.total c.self.inside.mask c.args.mode (counts_in c.self.inside.by_mode c.args.mode + 1) (c.self.inside.total + 1)
    c.with-self-inside.result c.self.invariant (omega arith) (omega arith)
    (mask-with c.self.inside.mask c.with-self-inside.result c.args.mode (counts_in c.self.inside.by_mode c.args.mode) c.with-self-inside.ensures))

pub returns : goal.returns
returns c =
    let same : c.from-number.result ≡ number_of c.args.mode = c.from-number.ensures ∙ c.number.ensures in
    rw (same, ← c.self.view_is) (counts-set c.self.inside.by_mode c.args.mode (counts_in c.self.inside.by_mode c.args.mode + 1) c.self.invariant.nine)
