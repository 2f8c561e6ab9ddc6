use Rattle.std.specs.Prelude.{ℕ, [], ◌∷◌, ◌++◌}
use Rattle.lock_table.specs.declared.moves.Move.{Move}
use Rattle.lock_table.specs.Content.{Content}
use Rattle.lock_world.specs.World.{Took, Episode}
use Rattle.lock_world.specs.Account.{Account}
use Rattle.lock_world.specs.AccountSteps.{own_moved}

-- What an episode makes of an account: the partition was taken with the one content and put with the other,
-- after this move. In between nothing else was recorded.
abbrev pub account_episode : Account → ℕ → Content → Content → Move → Account
account_episode a part taken put done = record a {
  own = own_moved a.own done;
  trace = a.trace ++ Took part taken ∷ Episode part taken put ∷ [];
}
