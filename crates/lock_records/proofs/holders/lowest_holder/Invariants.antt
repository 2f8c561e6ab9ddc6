use Rattle.std.proofs.Common.{◌≡◌, ℕ, ◌+◌, List, length}
use Rattle.lock_records.specs.Holders.{IsChain}
use Rattle.lock_records.proofs.Lemmas.Lowest.{LowestBut}
use Rattle.lock_records.proofs.holders.lowest_holder.Given as goal

abbrev pub invariant-loop-step : goal.invariant-loop-step
invariant-loop-step l =
    (left : List ℕ) × IsChain l.slots.slots l.tag l.at left × (length left + l._step ≡ l._step-end)
    × LowestBut l.slots.slots l.session l.tag l.set left l.lowest
