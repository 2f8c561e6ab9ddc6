use Rattle.std.proofs.Common.{take, set, sym, ap, subst, ◌∙◌}
use Rattle.local_locks.specs.Slots.{IsCut, IsIndexed, IsTakenOut, opened, entry_in, entry_at}
use Rattle.local_locks.proofs.Lemmas.Indexes.{noted_some}
use Rattle.local_locks.proofs.Lemmas.OpenSlots.{length-opened, opened-set, opened-take}
use Rattle.local_locks.proofs.Lemmas.SlotSteps.{leaves}
use Rattle.local_locks.proofs.slots.take_out.Goals as goal

pub remove-requires : goal.remove-requires
remove-requires c =
    noted_some (opened c.args.slots.now.items) c.args.index.now c.requires.indexed c.args.place c.args.hash (entry_at c.args.slots.now.items c.args.place) c.requires.there c.requires.hashed

left : (c : goal.After-truncate) → IsTakenOut c.args.slots.now.items c.truncate.new.self.items c.args.place × IsIndexed (opened c.truncate.new.self.items) c.remove.new.self
left c =
    let es = c.args.slots.now.items in
    let used = c.slots_left-used.result in
    let number = c.len.ensures ∙ (c.args.slots.now.ok.0 ∙ sym (length-opened es)) in
    leaves es c.truncate.new.self.items c.args.index.now c.remove.new.self c.args.hash c.len-2.result c.args.place used
    c.requires.indexed c.requires.there c.requires.hashed c.remove.ensures.notes c.len-2.ensures
    (subst (λ slots. IsCut slots c.len-2.result c.args.place used) number c.slots_left-used.ensures)
    (ap opened c.truncate.ensures.items
    ∙ (opened-take used (set es c.args.place c.clear.new.self)
    ∙ ap (take used) (opened-set es c.args.place c.clear.new.self ∙ ap (λ o. set (opened es) c.args.place o) (ap entry_in c.clear.ensures))))

pub returns-clause-taken : goal.returns-clause-taken
returns-clause-taken c = (left c).0

pub returns-clause-indexed : goal.returns-clause-indexed
returns-clause-indexed c = (left c).1
