use Rattle.std.proofs.Common.{◌≡◌, ℕ, ◌+◌, ◌<◌, ◌≤◌, ◌⊎◌, List, length}
use Rattle.modes_core.specs.Sessions.{most_sessions}
use Rattle.lock_records.specs.Holders.{IsIn, IsChain, IsHolderAt}
use Rattle.lock_records.proofs.holders.above_holders.Given as goal

abbrev pub invariant-loop-step : goal.invariant-loop-step
invariant-loop-step l =
    (left : List ℕ) × IsChain l.slots.slots l.tag l.at left × (length left + l._step ≡ l._step-end) × (l.above ≤ most_sessions)
    × ((k session : ℕ) → IsHolderAt l.slots.slots session l.tag k → IsIn k left ⊎ (session < l.above))
