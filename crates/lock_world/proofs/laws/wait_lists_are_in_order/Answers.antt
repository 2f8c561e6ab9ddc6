use Rattle.std.proofs.Common.{sym, subst}
use Rattle.lw_word.specs.LightweightWord.{IsListLocked}
use Rattle.lock_world.specs.WaitLists.{partition_lock, fast_lock}
use Rattle.lock_world.proofs.Lemmas.ListWords.{lock_word-partition, lock_word-fast}
use Rattle.lock_world.proofs.laws.wait_lists_are_in_order.Goals as goal

pub returns-clause-partition_locked : goal.returns-clause-partition_locked
returns-clause-partition_locked c =
    λ w safe p. let is = lock_word-partition w.words.partition w.words.fast p in (
      λ locked. (safe.lists.shown (partition_lock p)).shown_is_had (subst IsListLocked (sym is) locked),
      λ had. subst IsListLocked is ((safe.lists.shown (partition_lock p)).had_is_shown had.0 had.1),
    )

pub returns-clause-fast_locked : goal.returns-clause-fast_locked
returns-clause-fast_locked c =
    λ w safe o. let is = lock_word-fast w.words.partition w.words.fast o in (
      λ locked. (safe.lists.shown (fast_lock o)).shown_is_had (subst IsListLocked (sym is) locked),
      λ had. subst IsListLocked is ((safe.lists.shown (fast_lock o)).had_is_shown had.0 had.1),
    )

pub returns-clause-in_one_hand : goal.returns-clause-in_one_hand
returns-clause-in_one_hand c = λ w safe lock s k. (safe.lists.shown lock).by_one s k

pub returns-clause-named : goal.returns-clause-named
returns-clause-named c = λ w safe lock s there. (safe.lists.sleepers.named lock s there, safe.lists.sleepers.waiting lock s there)

pub returns-clause-once : goal.returns-clause-once
returns-clause-once c = λ w safe lock s. safe.lists.sleepers.once lock s

pub returns-clause-idle : goal.returns-clause-idle
returns-clause-idle c = λ w safe s none. safe.lists.sleepers.idle s none

pub returns-clause-taken_off : goal.returns-clause-taken_off
returns-clause-taken_off c = λ w safe s k off. safe.lists.sleepers.taken_off s k off
