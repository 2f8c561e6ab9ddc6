use Rattle.std.proofs.Common.{◌%◌, ◌^◌, ◌<◌, arith, sym}
use Rattle.lw_word.proofs.Lemmas.States.{number_is}
use Rattle.lw_word.proofs.words.LwWord.number.Goals as goal

pub returns-clause-value : goal.returns-clause-value
returns-clause-value c = sym (number_is c.self.inside.number c.args.self c.self.invariant c.self.view_is)

pub returns-clause-count : goal.returns-clause-count
returns-clause-count c = let below : c.self.inside.number % 2 ^ 24 < 2 ^ 24 = omega arith in rw (← c.self.view_is) below
