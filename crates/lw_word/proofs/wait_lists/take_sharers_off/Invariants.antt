use Rattle.std.proofs.Common.{◌≡◌, ◌≤◌}
use Rattle.std.specs.Vec.{vec_len, vec_capacity}
use Rattle.lw_word.specs.declared.wait_lists.TheConstants.{MOST_TAKEN_OFF}
use Rattle.lw_word.proofs.Lemmas.SharersInPlace.{TakesInPlace}
use Rattle.lw_word.proofs.wait_lists.take_sharers_off.Given as goal

abbrev pub invariant-loop-index : goal.invariant-loop-index
invariant-loop-index l = record {
  so_far : TakesInPlace MOST_TAKEN_OFF l.fn.waiters.items l.waiters.items l.taken.items l.kept l.index;
  behind : l.kept ≤ l.index;
  len : vec_len l.waiters ≡ vec_len l.fn.waiters;
  capacity : vec_capacity l.waiters ≡ vec_capacity l.fn.waiters;
}
