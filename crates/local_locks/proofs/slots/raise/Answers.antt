use Rattle.std.proofs.Common.{ap, ◌∙◌}
use Rattle.std.proofs.lemmas.List.{get_or_default}
use Rattle.local_locks.specs.Owned.{raised}
use Rattle.local_locks.specs.Slots.{entry_at}
use Rattle.local_locks.proofs.Lemmas.OpenSlots.{opened-held, raised-held}
use Rattle.local_locks.proofs.slots.raise.Goals as goal

pub returns-clause-slots : goal.returns-clause-slots
returns-clause-slots c =
    opened-held c.args.slots.now.items c.args.place c.raise.new.self (raised c.args.owner (entry_at c.args.slots.now.items c.args.place))
    (c.raise.ensures ∙ ap (raised c.args.owner) (c.index_mut.ensures.value ∙ get_or_default c.args.slots.now.items c.args.place c.index_mut.result.now _ c.requires.within))
    (raised-held c.args.owner (entry_at c.args.slots.now.items c.args.place))
