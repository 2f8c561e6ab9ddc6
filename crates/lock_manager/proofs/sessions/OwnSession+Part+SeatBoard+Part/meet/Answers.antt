use Rattle.std.proofs.Common.{ap}
use Rattle.lock_manager.proofs.Lemmas.Rest.Entries.{entries-apart}
use Rattle.lock_manager.proofs.sessions.OwnSession+Part+SeatBoard+Part.meet.Goals as goal

pub returns-clause-told : goal.returns-clause-told
returns-clause-told c =
    let own = ap (λ s. s.owned.entries) c.self.view_is in
    let its = ap (λ s. s.owned.entries) c.other.view_is in
    rw (← own, ← its) (entries-apart _ _ _ _ _ _ _ _ _ _ _ _ _ _ c.self.invariant.0 c.other.invariant.0 c.meet-board.ensures.told)
