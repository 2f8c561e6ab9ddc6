use Rattle.std.proofs.Common.{length}
use Rattle.sql_locks.proofs.Lemmas.Words.{IsRead}
use Rattle.sql_locks.proofs.words.split_words.Given as goal

abbrev pub invariant-loop-rest : goal.invariant-loop-rest
invariant-loop-rest l = IsRead l.text l.words.items l.rest l.line

abbrev pub decreases-loop-rest : goal.decreases-loop-rest
decreases-loop-rest l = length l.rest
