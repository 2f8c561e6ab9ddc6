use Rattle.modes_core.proofs.Lemmas.Masks.{masks_meet}
use Rattle.modes_core.proofs.mode_sets.ModeSet.meets.Goals as goal

pub returns : goal.returns
returns c = rw (← c.self.view_is, ← c.other.view_is) (masks_meet c.self.inside.mask c.other.inside.mask c.self.invariant)
