use Rattle.std.proofs.Common.{◌≡◌, ap, ◌∙◌, inr, arith, subst}
use Rattle.place_index.specs.Notes.{IsOneMore}
use Rattle.lock_records.specs.declared.locks.LockRecord.{LockRecord}
use Rattle.lock_records.specs.Locks.{note_times}
use Rattle.lock_records.proofs.Lemmas.Indexes.{noted-made, same-locks, same-lock, nothing-there}
use Rattle.lock_records.proofs.locks.make_lock.Goals as goal

pub insert-requires-clause-free : goal.insert-requires-clause-free
insert-requires-clause-free c = λ h.
    c.requires.noted.noted c.insert_reserved-place.result h ∙ ap (λ slot. note_times slot h) c.insert_reserved-place.ensures.was_vacant

pub returns-clause-noted : goal.returns-clause-noted
returns-clause-noted c =
    noted-made c.args.locks.now.slots c.insert_reserved-place.new.self.slots c.args.index.now c.insert.new.self c.args.tag.now c.insert_reserved-place.result c.new.result
    c.requires.noted c.insert_reserved-place.ensures.was_vacant c.requires.absent c.insert_reserved-place.ensures.updates.changed c.new.ensures.on c.insert_reserved-place.ensures.updates.others
    (subst (λ key. IsOneMore c.args.index.now c.insert.new.self key c.insert_reserved-place.result) c.key_of.ensures c.insert.ensures.notes)
    (omega (arith, c.insert_reserved-place.ensures.key)) c.insert.ensures.room

pub returns-clause-made : goal.returns-clause-made
returns-clause-made c = record {
  at = record { lock = c.new.result; there = c.insert_reserved-place.ensures.updates.changed; on = c.new.ensures.on };
  was = inr (c.new.ensures, c.requires.absent);
  same =
      same-locks c.args.locks.now.slots c.insert_reserved-place.new.self.slots c.args.tag.now c.insert_reserved-place.result
      (λ l there. nothing-there c.args.locks.now.slots c.insert_reserved-place.result (l.tag ≡ c.args.tag.now) l c.insert_reserved-place.ensures.was_vacant there)
      (λ l there. ap (λ (x : LockRecord). x.tag) (same-lock c.insert_reserved-place.new.self.slots c.insert_reserved-place.result _ _ there c.insert_reserved-place.ensures.updates.changed) ∙ c.new.ensures.on)
      c.insert_reserved-place.ensures.updates.others;
}
