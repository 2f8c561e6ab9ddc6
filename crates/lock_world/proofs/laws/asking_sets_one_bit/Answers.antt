use Rattle.lock_world.proofs.Lemmas.Words.Wait.{asked_word-asked, asked_word-state, asked_word-sum}
use Rattle.lock_world.proofs.laws.asking_sets_one_bit.Goals as goal

pub returns-clause-asked : goal.returns-clause-asked
returns-clause-asked c =
    λ word. asked_word-asked word

pub returns-clause-same_state : goal.returns-clause-same_state
returns-clause-same_state c =
    λ word. asked_word-state word

pub returns-clause-sum : goal.returns-clause-sum
returns-clause-sum c =
    λ word. asked_word-sum word
