use Rattle.lw_word.proofs.Lemmas.Flags.{has_waiters_word-has_waiters, has_waiters_word-holders, has_waiters_word-list_locked, has_waiters_word-release_ok, list_locked_word-has_waiters, list_locked_word-holders, list_locked_word-locked, list_locked_word-release_ok, release_ok_word-has_waiters, release_ok_word-holders, release_ok_word-list_locked, release_ok_word-release_ok}
use Rattle.lw_word.proofs.laws.setting_a_flag_sets_it_alone.Goals as goal

pub returns-clause-list_locked : goal.returns-clause-list_locked
returns-clause-list_locked c = λ word. (list_locked_word-locked word, list_locked_word-holders word)

pub returns-clause-list_locked_release : goal.returns-clause-list_locked_release
returns-clause-list_locked_release c = list_locked_word-release_ok

pub returns-clause-list_locked_waiters : goal.returns-clause-list_locked_waiters
returns-clause-list_locked_waiters c = list_locked_word-has_waiters

pub returns-clause-release_ok : goal.returns-clause-release_ok
returns-clause-release_ok c = λ word. (release_ok_word-release_ok word, release_ok_word-holders word)

pub returns-clause-release_ok_list : goal.returns-clause-release_ok_list
returns-clause-release_ok_list c = release_ok_word-list_locked

pub returns-clause-release_ok_waiters : goal.returns-clause-release_ok_waiters
returns-clause-release_ok_waiters c = release_ok_word-has_waiters

pub returns-clause-has_waiters : goal.returns-clause-has_waiters
returns-clause-has_waiters c = λ word. (has_waiters_word-has_waiters word, has_waiters_word-holders word)

pub returns-clause-has_waiters_list : goal.returns-clause-has_waiters_list
returns-clause-has_waiters_list c = has_waiters_word-list_locked

pub returns-clause-has_waiters_release : goal.returns-clause-has_waiters_release
returns-clause-has_waiters_release c = has_waiters_word-release_ok
