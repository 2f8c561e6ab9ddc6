use Rattle.std.proofs.Common.{arith}
use Rattle.modes_core.proofs.Lemmas.Masks.{bit_test, number_of-within}
use Rattle.modes_core.proofs.mode_sets.ModeSet.has.Goals as goal

pub returns : goal.returns
returns c = let within = number_of-within c.args.mode in rw (c.number.ensures, ← c.self.view_is) (bit_test c.self.inside.mask _ (omega (arith, within.1)))
