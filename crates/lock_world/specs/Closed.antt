use Rattle.std.specs.Prelude.{ℕ, false, [], None}
use Rattle.lock_world.specs.Account.{Account}

-- the account of a session that has nothing and knows nothing, but for the database that its word shows
abbrev pub empty_account : ℕ → Account
empty_account database = record {
  own = λ _ _. false;
  awaited = None;
  seen = false;
  hand = λ _. None;
  shares = λ _. false;
  fast = record { slots = λ _. None; shared_slots = λ _. None; database = database; remembered = λ _. 0; zero = None; counted = [] };
  lists = record { in_hand = None; stands = None; off = λ _. false };
  trace = [];
}
