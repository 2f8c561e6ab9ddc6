use Rattle.std.specs.Prelude.{ℕ, ◌==◌, List, [], ◌∷◌, ◌++◌, if◌then◌else◌}
use Rattle.lock_world.specs.WaitWord.{wait_state}
use Rattle.shared_rule.specs.declared.history.Mark.{Mark}
use Rattle.shared_rule.specs.declared.history.Mark.TheVariants.{MarkedGranted, OfWords}
use Rattle.shared_rule.specs.declared.history.WordMark.{WordMark}
use Rattle.shared_rule.specs.declared.history.WordMark.TheVariants.{Asked, CalledWaiter}
use Rattle.shared_rule.specs.declared.history.History.{History}

-- Whom a session has to wake, of those who wait for a lock of the table: each as often as it came to owe it,
-- the first one first. Its history tells.

-- one more
abbrev pub owing : List ℕ → ℕ → List ℕ
owing owed other = owed ++ other ∷ []

-- one that was asked to cancel, where its wait word showed that it waits
abbrev pub asking : List ℕ → ℕ → ℕ → List ℕ
asking owed other shown = if wait_state shown == 1 then owing owed other else owed

-- one that was woken: it is owed one wake less
abbrev pub waking : List ℕ → ℕ → List ℕ
waking [] other = []
waking (first ∷ others) other = if first == other then others else first ∷ waking others other

-- what a step that tells of no content, or a call, makes of those whom a session has to wake
abbrev pub owed_words : List ℕ → WordMark → List ℕ
owed_words owed (Asked other shown) = asking owed other shown
owed_words owed (CalledWaiter other) = waking owed other
owed_words owed mark = owed

module _ {T : Type 0} where
  -- what a step, or a call, makes of those whom a session has to wake
  abbrev pub owed_noted : List ℕ → Mark T → List ℕ
  owed_noted owed (MarkedGranted part other done woken now) = owing owed other
  owed_noted owed (OfWords mark) = owed_words owed mark
  owed_noted owed mark = owed

  -- what these steps tell, the last one first
  abbrev pub owed_told : List (Mark T) → List ℕ
  owed_told [] = []
  owed_told (mark ∷ marks) = owed_noted (owed_told marks) mark

  -- whom the session has to wake that makes its steps with the seat
  abbrev pub first_owed : List (History T) → List ℕ
  first_owed [] = []
  first_owed (history ∷ others) = owed_told history.marks
