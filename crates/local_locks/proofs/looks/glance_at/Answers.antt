use Rattle.std.proofs.Common.{◌<◌, sym, ap, ◌∙◌, length, arith}
use Rattle.std.proofs.lemmas.List.{get_or_default}
use Rattle.local_locks.specs.Owned.{is_of}
use Rattle.local_locks.specs.Slots.{opened}
use Rattle.local_locks.proofs.Lemmas.Indexes.{noted_within}
use Rattle.local_locks.proofs.Lemmas.OpenSlots.{length-opened}
use Rattle.local_locks.proofs.Lemmas.Looks.{missing_of}
use Rattle.local_locks.proofs.looks.glance_at.Goals as goal

pub bounds-slots-place : goal.bounds-slots-place
bounds-slots-place c =
    omega (arith, noted_within (opened c.args.slots.now) c.args.index.now c.requires c.in-Some.place (c.in-Some.ensures {u = tt}).0 (c.in-Some.ensures {u = tt}).1, length-opened c.args.slots.now)

pub returns-in-None : goal.returns-in-None
returns-in-None c =
    missing_of c.args.slots.now c.args.index.now c.requires c.args.tag.now c.args.mode c.key_hash.result c.key_hash.ensures
    (λ place some. absurd (omega (arith, c.in-None.ensures {u = tt} place, some)))

pub returns-then-is_of : goal.returns-then-is_of
returns-then-is_of c =
    let es = c.args.slots.now in
    let within : c.in-Some.place < length es = omega (arith, noted_within (opened es) c.args.index.now c.requires c.in-Some.place (c.in-Some.ensures {u = tt}).0 (c.in-Some.ensures {u = tt}).1, length-opened es) in (
      within,
      ap (is_of c.args.tag.now c.args.mode) (sym (get_or_default es c.in-Some.place _ _ within)) ∙ (sym c.is_of.ensures ∙ c.if-is_of.true),
    )
