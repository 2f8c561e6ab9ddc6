use Rattle.std.proofs.Common.{Option, Some, None}
use Rattle.std.specs.Option.{IfNone}
use Rattle.std.proofs.lemmas.Option.{IfSome_then}
use Rattle.modes_core.proofs.Lemmas.Masks.{lowest_in, lowest_below, lowest_none}
use Rattle.modes_core.proofs.mode_sets.ModeSet.lowest_in_both.Goals as goal

none_then : {X P Q : Type 0} (o : Option X) → IfNone o P → (P → Q) → IfNone o Q
none_then None p then = then p
none_then (Some x) p then = p

pub returns-clause-in_both : goal.returns-clause-in_both
returns-clause-in_both c =
    rw (← c.self.view_is, ← c.other.view_is)
    (IfSome_then c.from_number.result c.from_number.ensures.found (λ mode e. lowest_in c.self.inside.mask c.other.inside.mask c.self.invariant mode e))

pub returns-clause-lowest : goal.returns-clause-lowest
returns-clause-lowest c =
    rw (← c.self.view_is, ← c.other.view_is)
    (IfSome_then c.from_number.result c.from_number.ensures.found (λ mode e lower below. lowest_below c.self.inside.mask c.other.inside.mask c.self.invariant mode lower e below))

pub returns-clause-none : goal.returns-clause-none
returns-clause-none c =
    rw (← c.self.view_is, ← c.other.view_is)
    (none_then c.from_number.result c.from_number.ensures.unknown (λ unknown. lowest_none c.self.inside.mask c.other.inside.mask c.self.invariant unknown))
