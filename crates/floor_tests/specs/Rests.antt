use Rattle.std.specs.Prelude.{◌≡◌}
use Rattle.lock_world.specs.Account.{Account}
use Rattle.shared_rule.specs.Boards.{Seated, Stack, nothing_due}
use Rattle.shared_rule.specs.Seats.{MayCloseBy}

-- What a test says of a board that it lends to a function, by the account, the stack and the seat that the
-- board has.

module _ {B : Type 0} (view : B → Account) (stack : B → Stack) where
  -- The session of the board has nothing, and nothing to do yet.
  pub record Rests (board : B) : Type 0 where
    pub idle : MayCloseBy (view board)
    pub none_due : stack board ≡ nothing_due

  -- The session has nothing again, and sits where it sat before.
  pub record RestsAgain (seat : B → Seated) (old new : B) : Type 0 where
    pub rests : Rests new
    pub same : seat new ≡ seat old
