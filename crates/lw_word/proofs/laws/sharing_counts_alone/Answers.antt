use Rattle.lw_word.proofs.Lemmas.Words.{shared_word-shared, shared_word-exclusive, unshared_word-shared, unshared_word-exclusive}
use Rattle.lw_word.proofs.laws.sharing_counts_alone.Goals as goal

pub returns-clause-shared : goal.returns-clause-shared
returns-clause-shared c = shared_word-shared

pub returns-clause-shared_rest : goal.returns-clause-shared_rest
returns-clause-shared_rest c = shared_word-exclusive

pub returns-clause-unshared : goal.returns-clause-unshared
returns-clause-unshared c = unshared_word-shared

pub returns-clause-unshared_rest : goal.returns-clause-unshared_rest
returns-clause-unshared_rest c = unshared_word-exclusive
