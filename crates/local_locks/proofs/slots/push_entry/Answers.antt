use Rattle.std.proofs.Common.{◌≡◌, ◌++◌, ◌∷◌, [], sym, ap, ◌∙◌, subst, length, arith}
use Rattle.local_locks.specs.Slots.{Slots, IsIndexed, opened}
use Rattle.local_locks.proofs.Lemmas.Indexes.{noted_within, pushed-indexed}
use Rattle.local_locks.proofs.Lemmas.OpenSlots.{length-opened, opened-push, entry_in-held}
use Rattle.local_locks.proofs.slots.push_entry.Goals as goal

pub returns-clause-indexed : goal.returns-clause-indexed
returns-clause-indexed c =
    let items = c.push_reserved.ensures.items in
    let are = ap opened items ∙ (opened-push c.args.slots.now.items c.args.entry ∙ ap (λ o. opened c.args.slots.now.items ++ o ∷ []) (entry_in-held c.args.entry c.requires.held)) in
    let last : c.len-place.result ≡ length (opened c.args.slots.now.items) = c.len-place.ensures ∙ (c.args.slots.now.ok.0 ∙ sym (length-opened c.args.slots.now.items)) in
    subst (λ (s : Slots). IsIndexed s c.insert_last.new.self) (sym are)
    (pushed-indexed (opened c.args.slots.now.items) c.args.index.now c.insert_last.new.self c.len-place.result c.args.hash c.args.entry c.requires.indexed c.requires.absent c.requires.hashed last c.insert_last.ensures.notes)

pub insert_last-requires-clause-last : goal.insert_last-requires-clause-last
insert_last-requires-clause-last c = λ h p some.
    omega (arith, noted_within (opened c.args.slots.now.items) c.args.index.now c.requires.indexed p h some, c.len-place.ensures, c.args.slots.now.ok.0, length-opened c.args.slots.now.items)
