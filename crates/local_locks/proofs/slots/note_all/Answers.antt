use Rattle.std.proofs.Common.{◌<◌, length, refl, ap, ◌∙◌, inl, inr, arith}
use Rattle.std.proofs.lemmas.Bool.{cases_lt}
use Rattle.std.proofs.lemmas.List.{get_or_default, length-take}
use Rattle.local_locks.specs.Slots.{opened, key_hash}
use Rattle.local_locks.proofs.Lemmas.Indexes.{indexed-nil}
use Rattle.local_locks.proofs.Lemmas.SlotSteps.{noted-next}
use Rattle.local_locks.proofs.slots.note_all.Goals as goal

pub insert_last-requires-clause-last : goal.insert_last-requires-clause-last
insert_last-requires-clause-last c = λ h p some.
    elim (cases_lt p c.loop-place.place) [
      | inl before ↦ before
      | inr past ↦ absurd (omega (arith, c.loop-place.invariant.indexed.within h p (omega (arith, length-take c.loop-place.place (opened c.args.slots.now))), some))
    ]

pub loop-place-init : goal.loop-place-init
loop-place-init c = record { indexed = indexed-nil c.args.index.now c.requires.empty; room = refl }

pub loop-place-preserved : goal.loop-place-preserved
loop-place-preserved c =
    let es = c.args.slots.now in
    let within : c.loop-place.place < length es = omega (arith, c.loop-place-test.true) in
    record {
      indexed = noted-next es c.loop-place.index c.insert_last.new.self c.loop-place.place c.key_hash.result c.requires.full c.requires.once c.loop-place.invariant.indexed within
          (c.key_hash.ensures ∙ ap (λ x. key_hash x.tag x.mode) (get_or_default es c.loop-place.place _ _ within)) c.insert_last.ensures.notes;
      room = c.insert_last.ensures.room ∙ c.loop-place.invariant.room;
    }
