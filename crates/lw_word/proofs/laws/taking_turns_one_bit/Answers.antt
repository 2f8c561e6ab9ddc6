use Rattle.lw_word.proofs.Lemmas.Words.{taken_word-exclusive, taken_word-shared, taken_word-flags, put_word-free_to_share, put_word-shared, put_word-flags}
use Rattle.lw_word.proofs.laws.taking_turns_one_bit.Goals as goal

pub returns-clause-taken : goal.returns-clause-taken
returns-clause-taken c = taken_word-exclusive

pub returns-clause-taken_count : goal.returns-clause-taken_count
returns-clause-taken_count c = taken_word-shared

pub returns-clause-taken_flags : goal.returns-clause-taken_flags
returns-clause-taken_flags c = taken_word-flags

pub returns-clause-put : goal.returns-clause-put
returns-clause-put c = put_word-free_to_share

pub returns-clause-put_count : goal.returns-clause-put_count
returns-clause-put_count c = put_word-shared

pub returns-clause-put_flags : goal.returns-clause-put_flags
returns-clause-put_flags c = put_word-flags
