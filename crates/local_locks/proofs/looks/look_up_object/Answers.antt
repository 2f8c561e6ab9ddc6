use Rattle.std.proofs.Common.{◌<◌, sym, ◌∙◌, length, of_calls, arith}
use Rattle.local_locks.specs.Slots.{opened, entry_at, is_held_as}
use Rattle.local_locks.proofs.Lemmas.Indexes.{noted_within}
use Rattle.local_locks.proofs.Lemmas.OpenSlots.{length-opened, slot_at-opened, entry_in-held}
use Rattle.local_locks.proofs.Lemmas.Looks.{place_of, missing_of, held_parts}
use Rattle.local_locks.proofs.looks.look_up_object.Goals as goal

pub find-requires : goal.find-requires
find-requires c = λ p some.
    let within : p < length c.args.slots.now = omega (arith, noted_within (opened c.args.slots.now) c.args.index.now c.requires p c.key_hash-hash.result some, length-opened c.args.slots.now) in
    search (of_calls, within)

pub returns-in-Some : goal.returns-in-Some
returns-in-Some c =
    let es = c.args.slots.now in
    let held = held_parts c.args.tag.now c.args.mode (entry_at es c.in-Some.place) (sym {b = is_held_as c.args.tag.now c.args.mode (entry_at es c.in-Some.place)} (c.in-Some.ensures {u = tt}).found.1) in
    place_of es c.args.index.now c.requires c.args.tag.now c.args.mode c.in-Some.place
    (slot_at-opened es c.in-Some.place ∙ entry_in-held (entry_at es c.in-Some.place) held.1) held.0

pub returns-in-None : goal.returns-in-None
returns-in-None c =
    missing_of c.args.slots.now c.args.index.now c.requires c.args.tag.now c.args.mode c.key_hash-hash.result c.key_hash-hash.ensures
    (λ p some. sym ((c.in-None.ensures {u = tt}).absent p some))
