use Rattle.lw_word.proofs.Lemmas.Flags.{list_unlocked_word-list_locked, list_unlocked_word-holders, list_unlocked_word-release_ok, list_unlocked_word-not_release_ok, list_unlocked_word-has_waiters, list_unlocked_word-no_waiters}
use Rattle.lw_word.proofs.laws.unlocking_clears_what_is_told.Goals as goal

pub returns-clause-list : goal.returns-clause-list
returns-clause-list c = list_unlocked_word-list_locked

pub returns-clause-holders : goal.returns-clause-holders
returns-clause-holders c = list_unlocked_word-holders

pub returns-clause-release_stays : goal.returns-clause-release_stays
returns-clause-release_stays c = list_unlocked_word-release_ok

pub returns-clause-release_goes : goal.returns-clause-release_goes
returns-clause-release_goes c = list_unlocked_word-not_release_ok

pub returns-clause-waiters_stay : goal.returns-clause-waiters_stay
returns-clause-waiters_stay c = list_unlocked_word-has_waiters

pub returns-clause-waiters_go : goal.returns-clause-waiters_go
returns-clause-waiters_go c = list_unlocked_word-no_waiters
