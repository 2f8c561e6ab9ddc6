use Rattle.std.proofs.Common.{ap, ◌∙◌}
use Rattle.std.proofs.lemmas.List.{get_or_default}
use Rattle.local_locks.specs.Owned.{lowered}
use Rattle.local_locks.specs.Slots.{entry_at}
use Rattle.local_locks.proofs.Lemmas.OpenSlots.{opened-held, lowered-held}
use Rattle.local_locks.proofs.slots.lower.Goals as goal

pub returns-clause-slots : goal.returns-clause-slots
returns-clause-slots c =
    opened-held c.args.slots.now.items c.args.place c.lower.new.self (lowered c.args.owner (entry_at c.args.slots.now.items c.args.place))
    (c.lower.ensures ∙ ap (lowered c.args.owner) (c.index_mut.ensures.value ∙ get_or_default c.args.slots.now.items c.args.place c.index_mut.result.now _ c.requires.within))
    (lowered-held c.args.owner (entry_at c.args.slots.now.items c.args.place) c.requires.some c.requires.more)
