use Rattle.std.proofs.Common.{◌/◌, ◌%◌, ◌^◌}
use Rattle.lw_word.proofs.Lemmas.States.{IsFreeFor-exclusive, IsFreeFor-shared, bit_is_set}
use Rattle.lw_word.proofs.laws.the_record_says_what_the_bits_say.Goals as goal

pub returns-clause-free : goal.returns-clause-free
returns-clause-free c = IsFreeFor-exclusive

pub returns-clause-free_to_share : goal.returns-clause-free_to_share
returns-clause-free_to_share c = IsFreeFor-shared

pub returns-clause-held : goal.returns-clause-held
returns-clause-held c = λ word. bit_is_set (word / 2 ^ 24 % 2)

pub returns-clause-list_locked : goal.returns-clause-list_locked
returns-clause-list_locked c = λ word. bit_is_set (word / 2 ^ 28 % 2)

pub returns-clause-release_ok : goal.returns-clause-release_ok
returns-clause-release_ok c = λ word. bit_is_set (word / 2 ^ 29 % 2)

pub returns-clause-has_waiters : goal.returns-clause-has_waiters
returns-clause-has_waiters c = λ word. bit_is_set (word / 2 ^ 30 % 2)
