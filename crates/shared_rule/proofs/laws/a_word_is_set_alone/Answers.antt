use Rattle.shared_rule.proofs.Lemmas.Shown.{words-set}
use Rattle.shared_rule.proofs.laws.a_word_is_set_alone.Goals as goal

pub returns : goal.returns
returns c = λ sizes some table words word n shown exists. words-set sizes some table words word n shown exists
