use Rattle.std.proofs.Common.{◌≡◌, ◌≢◌, ◌<◌, ◌-◌, ◌∙◌, arith}
use Rattle.modes_core.specs.Mode.{number_of}
use Rattle.lock_records.specs.Tally.{counts_in}
use Rattle.lock_records.proofs.Lemmas.Tallies.{IsTally-set, counts-set, sum-least, mask-without, mask-same}
use Rattle.lock_records.proofs.tally.Tally.lower.Goals as goal

pub invariant_of-self : goal.invariant_of-self
invariant_of-self c =
    let same : c.from-number.result ≡ number_of c.args.mode = c.from-number.ensures ∙ c.number.ensures in
    let some : 0 < counts_in c.self.inside.by_mode c.args.mode = rw c.self.view_is c.requires in
    let least = sum-least c.self.inside.by_mode c.args.mode c.self.invariant.nine in
    let each = c.self.invariant.each (number_of c.args.mode) in
    let none : counts_in c.self.inside.by_mode c.args.mode - 1 ≡ 0 = rw same at c.if-left-eq0.true in
    rw same
    (IsTally-set c.self.inside.by_mode c.self.inside.total c.self.inside.mask c.args.mode (counts_in c.self.inside.by_mode c.args.mode - 1) (c.self.inside.total - 1)
    c.without-self-inside.result c.self.invariant (omega arith) (omega (arith, c.self.invariant.summed))
    (mask-without c.self.inside.mask c.without-self-inside.result c.args.mode (counts_in c.self.inside.by_mode c.args.mode - 1) none c.without-self-inside.ensures))

pub invariant_of-self-else-left-eq0 : goal.invariant_of-self-else-left-eq0
invariant_of-self-else-left-eq0 c =
    let same : c.from-number.result ≡ number_of c.args.mode = c.from-number.ensures ∙ c.number.ensures in
    let some : 0 < counts_in c.self.inside.by_mode c.args.mode = rw c.self.view_is c.requires in
    let least = sum-least c.self.inside.by_mode c.args.mode c.self.invariant.nine in
    let each = c.self.invariant.each (number_of c.args.mode) in
    let left : counts_in c.self.inside.by_mode c.args.mode - 1 ≢ 0 = rw same at c.if-left-eq0.false in
    rw same
    (IsTally-set c.self.inside.by_mode c.self.inside.total c.self.inside.mask c.args.mode (counts_in c.self.inside.by_mode c.args.mode - 1) (c.self.inside.total - 1)
    c.self.inside.mask c.self.invariant (omega arith) (omega (arith, c.self.invariant.summed))
    (mask-same c.self.inside.by_mode c.self.inside.total c.self.inside.mask c.args.mode (counts_in c.self.inside.by_mode c.args.mode - 1) c.self.invariant some left))

pub returns-then-left-eq0 : goal.returns-then-left-eq0
returns-then-left-eq0 c =
    let same : c.from-number.result ≡ number_of c.args.mode = c.from-number.ensures ∙ c.number.ensures in
    rw (same, ← c.self.view_is) (counts-set c.self.inside.by_mode c.args.mode (counts_in c.self.inside.by_mode c.args.mode - 1) c.self.invariant.nine)

pub returns-else-left-eq0 : goal.returns-else-left-eq0
returns-else-left-eq0 c =
    let same : c.from-number.result ≡ number_of c.args.mode = c.from-number.ensures ∙ c.number.ensures in
    rw (same, ← c.self.view_is) (counts-set c.self.inside.by_mode c.args.mode (counts_in c.self.inside.by_mode c.args.mode - 1) c.self.invariant.nine)
