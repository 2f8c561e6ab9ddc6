use Rattle.std.proofs.Common.{arith}
use Rattle.modes_core.specs.Mode.{number_of}
use Rattle.modes_core.proofs.Lemmas.Masks.{bit_cleared, number_of-within, IsModeMask-without}
use Rattle.modes_core.proofs.mode_sets.ModeSet.without.Goals as goal

pub invariant_of-result : goal.invariant_of-result
invariant_of-result c =
    let within = number_of-within c.args.mode in rw c.number.ensures (IsModeMask-without c.self.inside.mask _ within.0 within.1 c.self.invariant)

pub returns : goal.returns
returns c =
    let within = number_of-within c.args.mode in
    rw (c.number.ensures, ← c.self.view_is)
    (λ i other. bit_cleared c.self.inside.mask (number_of c.args.mode) (number_of other) (omega (arith, within.1)) (omega (arith, (number_of-within other).1)) i)
