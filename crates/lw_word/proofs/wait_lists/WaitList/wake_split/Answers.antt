use Rattle.std.proofs.Common.{arith}
use Rattle.lw_word.specs.declared.wait_lists.TheConstants.{MOST_TAKEN_OFF}
use Rattle.lw_word.proofs.Lemmas.Waits.{EachStandsOnce-without, EachStandsOnce-rest}
use Rattle.lw_word.proofs.wait_lists.WaitList.wake_split.Goals as goal

pub invariant_of-self : goal.invariant_of-self
invariant_of-self c =
    rw c.take_sharers_off-taken.ensures.left (
      EachStandsOnce-without c.self.inside.room MOST_TAKEN_OFF c.self.inside.waiters.items c.self.invariant.0,
      omega (arith, c.take_sharers_off-taken.ensures.capacity, c.self.invariant.1),
    )

pub invariant_of-self-else-is_shared : goal.invariant_of-self-else-is_shared
invariant_of-self-else-is_shared c =
    rw c.remove.ensures.items (
      EachStandsOnce-rest c.self.inside.room c.self.inside.waiters.items c.self.invariant.0,
      omega (arith, c.remove.ensures.capacity, c.self.invariant.1),
    )
