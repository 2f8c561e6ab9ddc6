use Rattle.shared_rule.proofs.Lemmas.Shown.{one_index}
use Rattle.shared_rule.proofs.laws.no_two_words_share_an_index.Goals as goal

pub returns : goal.returns
returns c = λ sizes word other here there same. one_index sizes word other here there same
