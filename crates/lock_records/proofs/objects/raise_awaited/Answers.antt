use Rattle.std.proofs.Common.{ap, ◌∙◌, refl}
use Rattle.std.specs.Prelude.{option_map}
use Rattle.lock_records.specs.declared.locks.LockRecord.{LockRecord}
use Rattle.lock_records.proofs.Lemmas.Indexes.{same-lock}
use Rattle.lock_records.proofs.Lemmas.Relocked.{relocked-set, room-set}
use Rattle.lock_records.proofs.objects.raise_awaited.Goals as goal

pub returns-clause-lock : goal.returns-clause-lock
returns-clause-lock c =
    let there = c.requires.there in
    let on = ap (λ (l : LockRecord). l.tag) (same-lock c.args.locks.now.slots c.args.place _ _ c.index_mut-lock.ensures.value there.there) ∙ there.on in
    (relocked-set c.args.locks.now.slots c.args.tag.now c.args.place c.index_mut-lock.result.now _ c.index_mut-lock.ensures.value on on, refl, refl, c.raise.ensures)

pub returns-clause-room : goal.returns-clause-room
returns-clause-room c = λ room. room-set c.args.locks.now.slots c.args.place c.index_mut-lock.result.now _ c.args.locks.now.capacity c.index_mut-lock.ensures.value room

pub returns-clause-noted : goal.returns-clause-noted
returns-clause-noted c =
    let there = c.requires.there in
    let on = ap (λ (l : LockRecord). l.tag) (same-lock c.args.locks.now.slots c.args.place _ _ c.index_mut-lock.ensures.value there.there) ∙ there.on in
    ap (option_map (λ (l : LockRecord). l.queue)) (relocked-set c.args.locks.now.slots c.args.tag.now c.args.place c.index_mut-lock.result.now _ c.index_mut-lock.ensures.value on on).is.there
