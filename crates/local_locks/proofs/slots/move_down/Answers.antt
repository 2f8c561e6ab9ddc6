use Rattle.std.proofs.Common.{◌≡◌, ◌≢◌, ◌<◌, Some, None, length, set, ap, ◌∙◌, inl, inr, arith}
use Rattle.std.proofs.lemmas.Bool.{cases_eq}
use Rattle.std.proofs.lemmas.List.{length-set}
use Rattle.local_locks.specs.Slots.{Slots, opened, slot_at, present, entry_in}
use Rattle.local_locks.proofs.Lemmas.Slots.{present-move, slot_at-set, slot_at-set_other, slot_at-within}
use Rattle.local_locks.proofs.Lemmas.OpenSlots.{opened-set, opened_some, entry_in-held}
use Rattle.local_locks.specs.Levels.{had}
use Rattle.local_locks.proofs.Lemmas.Rows.{had-move}
use Rattle.local_locks.proofs.slots.move_down.Goals as goal

-- the slots after the move
slots_are : (c : goal.After-slots-2-1) → opened (set (set c.args.slots.now.items c.args.place c.clear.new.self) c.args.to c.args.entry) ≡ set (set (opened c.args.slots.now.items) c.args.place None) c.args.to (Some c.args.entry)
slots_are c =
    let held = (opened_some c.args.slots.now.items c.args.place c.args.entry c.requires.there).2 in
    opened-set (set c.args.slots.now.items c.args.place c.clear.new.self) c.args.to c.args.entry
    ∙ ((λ i. set (opened-set c.args.slots.now.items c.args.place c.clear.new.self i) c.args.to (entry_in-held c.args.entry held i))
    ∙ ap (λ o. set (set (opened c.args.slots.now.items) c.args.place o) c.args.to (Some c.args.entry)) (ap entry_in c.clear.ensures))

within : (c : goal.After-slots-2-1) → c.args.to < length (set (opened c.args.slots.now.items) c.args.place None)
within c = omega (arith, length-set (opened c.args.slots.now.items) c.args.place None, slot_at-within (opened c.args.slots.now.items) c.args.place c.args.entry c.requires.there, c.requires.down)

pub returns-clause-entries : goal.returns-clause-entries
returns-clause-entries c = ap present (slots_are c) ∙ present-move (opened c.args.slots.now.items) c.args.to c.args.place c.args.entry c.requires.there c.requires.down c.requires.empty

pub returns-clause-here : goal.returns-clause-here
returns-clause-here c = ap (λ (s : Slots). slot_at s c.args.to) (slots_are c) ∙ slot_at-set (set (opened c.args.slots.now.items) c.args.place None) c.args.to (Some c.args.entry) (within c)

pub returns-clause-empty : goal.returns-clause-empty
returns-clause-empty c = λ k after upto.
    let apart : k ≢ c.args.to = omega arith in
    ap (λ (s : Slots). slot_at s k) (slots_are c)
    ∙ (slot_at-set_other (set (opened c.args.slots.now.items) c.args.place None) c.args.to k (Some c.args.entry) apart
    ∙ elim (cases_eq k c.args.place) [
      | inl same ↦ ap (slot_at (set (opened c.args.slots.now.items) c.args.place None)) same ∙ slot_at-set (opened c.args.slots.now.items) c.args.place None (slot_at-within (opened c.args.slots.now.items) c.args.place c.args.entry c.requires.there)
      | inr other ↦ slot_at-set_other (opened c.args.slots.now.items) c.args.place k None other ∙ c.requires.empty k (omega arith) (omega (arith, other))
    ])

pub returns-clause-before : goal.returns-clause-before
returns-clause-before c = λ k before.
    let apart : k ≢ c.args.to = omega arith in
    let other : k ≢ c.args.place = omega (arith, c.requires.down) in
    ap (λ (s : Slots). slot_at s k) (slots_are c)
    ∙ (slot_at-set_other (set (opened c.args.slots.now.items) c.args.place None) c.args.to k (Some c.args.entry) apart
    ∙ slot_at-set_other (opened c.args.slots.now.items) c.args.place k None other)

pub returns-clause-behind : goal.returns-clause-behind
returns-clause-behind c = λ k behind.
    let apart : k ≢ c.args.to = omega (arith, c.requires.down) in
    let other : k ≢ c.args.place = omega arith in
    ap (λ (s : Slots). slot_at s k) (slots_are c)
    ∙ (slot_at-set_other (set (opened c.args.slots.now.items) c.args.place None) c.args.to k (Some c.args.entry) apart
    ∙ slot_at-set_other (opened c.args.slots.now.items) c.args.place k None other)

pub returns-clause-told : goal.returns-clause-told
returns-clause-told c = λ level lists left here others.
    ap (λ (s : Slots). had level s left) (slots_are c)
    ∙ had-move level (opened c.args.slots.now.items) lists left c.args.to c.args.place c.args.entry c.requires.there c.requires.down c.requires.empty here others
