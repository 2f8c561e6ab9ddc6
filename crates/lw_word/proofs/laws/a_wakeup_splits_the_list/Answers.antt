use Rattle.lw_word.proofs.Lemmas.Waits.{wakeup-split, wakeup-somebody, wakeup-all_taken, wakeup-none_left}
use Rattle.lw_word.proofs.laws.a_wakeup_splits_the_list.Goals as goal

pub returns-clause-split : goal.returns-clause-split
returns-clause-split c = wakeup-split

pub returns-clause-somebody : goal.returns-clause-somebody
returns-clause-somebody c = wakeup-somebody

pub returns-clause-all_taken : goal.returns-clause-all_taken
returns-clause-all_taken c = wakeup-all_taken

pub returns-clause-none_left : goal.returns-clause-none_left
returns-clause-none_left c = wakeup-none_left
