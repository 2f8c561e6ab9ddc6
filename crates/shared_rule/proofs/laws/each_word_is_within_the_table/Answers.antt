use Rattle.shared_rule.proofs.Lemmas.Shown.{within}
use Rattle.shared_rule.proofs.laws.each_word_is_within_the_table.Goals as goal

pub returns : goal.returns
returns c = λ sizes some word exists. within sizes some word exists
