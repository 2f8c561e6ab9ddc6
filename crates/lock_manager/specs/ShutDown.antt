use Rattle.std.specs.Prelude.{◌≡◌, ℕ, ◌+◌, ◌==◌, List, [], ◌∷◌, ◌++◌, length, count_by}
use Rattle.lock_world.specs.WaitWord.{wait_state}
use Rattle.lock_world.specs.World.{TraceEntry, AskedToCancel}
use Rattle.lock_world.specs.Account.{Account}

-- All sessions are asked to cancel their waits, as the session's trace has it.

-- the steps of asking the sessions from this one on, whose wait words showed these words before
abbrev pub asking_steps : ℕ → List ℕ → List TraceEntry
asking_steps session [] = []
asking_steps session (shown ∷ words) = AskedToCancel session shown ∷ asking_steps (session + 1) words

-- Each session that there can be is asked once, in rising order, and the answer is how many of them waited.
pub record AsksAll (limit : ℕ) (a : Account) (answer : ℕ) (b : Account) : Type 0 where
  pub words : List ℕ
  pub all : length words ≡ limit
  pub waited : answer ≡ count_by (λ shown. wait_state shown == 1) words
  pub account : b ≡ record a { trace = a.trace ++ asking_steps 0 words }
