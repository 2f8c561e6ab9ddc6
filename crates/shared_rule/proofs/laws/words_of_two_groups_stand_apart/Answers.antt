use Rattle.shared_rule.proofs.Lemmas.Shown.{words-apart}
use Rattle.shared_rule.proofs.laws.words_of_two_groups_stand_apart.Goals as goal

pub returns : goal.returns
returns c = λ sizes word other here there apart. words-apart sizes word other here there apart
