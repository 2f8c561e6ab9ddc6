use Rattle.std.proofs.Common.{refl, inl, inr}
use Rattle.local_locks.proofs.slots.slots_left.Goals as goal

pub returns-then-notes-eq0 : goal.returns-then-notes-eq0
returns-then-notes-eq0 c = inr (inr c.if-notes-eq0.true)

pub returns-then-place-slots : goal.returns-then-place-slots
returns-then-place-slots c = inr (inl (refl, c.if-place-slots.true))

pub returns : goal.returns
returns c = inl refl
