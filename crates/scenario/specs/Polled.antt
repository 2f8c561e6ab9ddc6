use Rattle.std.specs.Prelude.{◌≡◌, ◌⊎◌, List, [], ◌∷◌}
use Rattle.lock_script.specs.declared.names.Names.{Names}
use Rattle.lock_script.specs.declared.sessions.Named.{Named}
use Rattle.lock_script.specs.Names.{PutsIn}
use Rattle.scenario.specs.Heard.{Heard, Told}
use Rattle.scenario.specs.declared.answers.Said.{Said}

-- A pass over those who wait.

module _ {S W : Type 0} (looks_on : W → W → Type 0) (goes_on : W → Said → S → Type 0) where
  -- Each of these who wait is polled once, in the order in which they stand. One that waits on is among those
  -- that stay; one that goes on rests from then on, and its news is heard.
  abbrev pub PollsEach :
      Names → List (Named W) → List (Named S) → List Heard → List (Named W) → List (Named S) → Type 0
  PollsEach names [] resting heard stay now = (heard ≡ []) × (stay ≡ []) × (now ≡ resting)
  PollsEach names (one ∷ others) resting heard stay now =
      ((after : W) × looks_on one.session after × (later : List (Named W)) × (stay ≡ record { name = one.name; session = after } ∷ later)
      × PollsEach names others resting heard later now)
      ⊎ ((told : Said) × (after : S) × goes_on one.session told after × (next : List (Named S))
      × PutsIn resting (record { name = one.name; session = after }) next
      × (later : List Heard) × (heard ≡ Told names one.name told ∷ later) × PollsEach names others next later stay now)
