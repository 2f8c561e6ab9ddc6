use Rattle.lw_word.proofs.Lemmas.Bits.{bit_test}
use Rattle.lw_word.proofs.words.LwWord.is_exclusive.Goals as goal

pub returns : goal.returns
returns c = rw (← c.self.view_is) (bit_test c.self.inside.number 24)
