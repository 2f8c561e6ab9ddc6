use Rattle.lw_word.specs.Packing.{word_of-state_of}
use Rattle.lw_word.proofs.Lemmas.Words.{state_of-word_of, IsLightweightWord-word_of}
use Rattle.lw_word.proofs.laws.a_word_and_what_it_says_are_one.Goals as goal

pub returns-clause-number : goal.returns-clause-number
returns-clause-number c = word_of-state_of

pub returns-clause-said : goal.returns-clause-said
returns-clause-said c = state_of-word_of

pub returns-clause-valid : goal.returns-clause-valid
returns-clause-valid c = IsLightweightWord-word_of
