use Rattle.std.proofs.Common.{◌≡◌, ◌≢◌, ℕ, ap, ◌∙◌, arith}
use Rattle.lock_world.specs.WaitWord.{wait_state}
use Rattle.lock_world.proofs.Lemmas.Wakes.Reasons.{has-reason}
use Rattle.lock_world.proofs.Lemmas.Wakes.Runs.{keeps-well, well-waits}
use Rattle.lock_world.proofs.wake_laws.every_waiter_has_a_reason.Goals as goal

-- A word that shows granted is not one that shows waiting.
granted-changed : (word shown : ℕ) → wait_state shown ≡ 1 → wait_state word ≡ 2 → word ≢ shown
granted-changed word shown waits granted same = let one : wait_state word ≡ 1 = ap wait_state same ∙ waits in omega (arith, one, granted)

pub returns-clause-reason : goal.returns-clause-reason
returns-clause-reason c = λ w safe s wait is home. has-reason w safe s wait is home

pub returns-clause-called : goal.returns-clause-called
returns-clause-called c = λ limit groups turns v d run s shown parked granted.
    let f = well-waits v d (keeps-well limit groups turns v d run) s shown parked (granted-changed (v.words.wait s) shown parked.parks_on granted) in
    (f.0, f.1, f.2)
