use Rattle.std.proofs.Common.{◌≡◌, None, length, set, ap, ◌∙◌, arith}
use Rattle.std.specs.Option.{option_map}
use Rattle.std.proofs.lemmas.List.{get_or_default, length-set}
use Rattle.local_locks.specs.declared.records.Entry.{Entry}
use Rattle.local_locks.specs.Slots.{Slots, opened, slot_at, present, entry_at, entry_in, key_hash}
use Rattle.local_locks.proofs.Lemmas.Indexes.{indexed-left}
use Rattle.local_locks.proofs.Lemmas.OpenSlots.{opened-set, opened_some}
use Rattle.local_locks.proofs.Lemmas.SlotSteps.{taken-out}
use Rattle.local_locks.proofs.slots.take_ended.Goals as goal

-- the slots with this one emptied
slots_are : (c : goal.After-slots-1) → opened (set c.args.slots.now.items c.args.place c.clear.new.self) ≡ set (opened c.args.slots.now.items) c.args.place None
slots_are c = opened-set c.args.slots.now.items c.args.place c.clear.new.self ∙ ap (λ o. set (opened c.args.slots.now.items) c.args.place o) (ap entry_in c.clear.ensures)

pub returns-then-notes-len-clause-taken : goal.returns-then-notes-len-clause-taken
returns-then-notes-len-clause-taken c =
    let es = c.args.slots.now.items in
    taken-out es (set es c.args.place c.clear.new.self) c.args.index.now c.args.place c.requires.indexed c.requires.there
    (λ k. ap (λ (s : Slots). slot_at s k) (slots_are c)) (ap present (slots_are c)) (omega (arith, length-set es c.args.place c.clear.new.self))

pub returns-then-notes-len-clause-indexed : goal.returns-then-notes-len-clause-indexed
returns-then-notes-len-clause-indexed c =
    let es = c.args.slots.now.items in
    let taken = returns-then-notes-len-clause-taken c in
    indexed-left (opened es) (opened (set es c.args.place c.clear.new.self)) c.args.index.now c.args.place c.requires.indexed
    (ap (λ (s : Slots). length s) (slots_are c) ∙ length-set (opened es) c.args.place None)
    (ap (option_map (λ y. (y.tag, y.mode))) taken.gone) (λ k apart. ap (option_map (λ y. (y.tag, y.mode))) (taken.others k apart))

pub take_out-requires-clause-hashed : goal.take_out-requires-clause-hashed
take_out-requires-clause-hashed c =
    let es = c.args.slots.now.items in
    let within = (opened_some es c.args.place (entry_at es c.args.place) c.requires.there).0 in
    c.key_hash-hash.ensures ∙ ap (λ (x : Entry). key_hash x.tag x.mode) (c.index-slot.ensures ∙ get_or_default es c.args.place c.index-slot.result.now _ within)
