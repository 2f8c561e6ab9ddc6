use Rattle.std.proofs.Common.{◌≡◌, ℕ, List, Some, refl}
use Rattle.lock_table.specs.declared.moves.Move.{Move}
use Rattle.lock_table.specs.Content.{Wait, Content}
use Rattle.lock_table.specs.Moves.{Moves, FitsOwn, IsInPartition}
use Rattle.lock_world.specs.Account.{Account}
use Rattle.lock_world.specs.AccountLaw.{MayMoveBy}
use Rattle.lock_world.specs.Counted.{IsCountedFor}
use Rattle.shared_rule.proofs.Lemmas.Episodes.{fresh_hand}

-- A session may make a move in a partition that it has in hand as it came.
pub may_make :
    (limit number : ℕ) (a : Account) (p : ℕ) (taken put : Content) (done : Move) (granted : List Wait) → a.hand p ≡ Some (fresh_hand taken)
    → IsInPartition p done → FitsOwn (λ _. a.own) a.awaited number done → IsCountedFor limit a.fast.counted done
    → Moves taken number done granted put → MayMoveBy limit number a p (fresh_hand taken) done granted put
may_make limit number a p taken put done granted here object fits counted moved =
    record { in_hand = here; unrecorded = refl; object = object; fits = fits; counted = counted; moved = moved }
