use Rattle.std.proofs.Common.{◌≡◌, ap, ◌∙◌, arith, subst}
use Rattle.place_index.specs.Notes.{IsOneMore}
use Rattle.lock_records.specs.declared.locks.LockRecord.{LockRecord}
use Rattle.lock_records.proofs.Lemmas.Indexes.{noted-at, noted-dropped, gone-dropped, same-locks, same-lock, nothing-there}
use Rattle.lock_records.proofs.locks.drop_lock.Goals as goal

pub overflow_cast-place : goal.overflow_cast-place
overflow_cast-place c =
    let within = c.requires.noted.within c.args.tag.now c.args.place c.requires.there in
    omega (arith, within, c.places-places.ensures.is, c.places-places.ensures.few)

pub remove-requires-2 : goal.remove-requires-2
remove-requires-2 c =
    let once = noted-at c.args.locks.now.slots c.args.index.now c.args.tag.now c.args.place c.requires.noted c.requires.there in
    rw c.key_of.ensures (omega arith)

pub returns-clause-noted : goal.returns-clause-noted
returns-clause-noted c =
    noted-dropped c.args.locks.now.slots c.remove.new.self.slots c.args.index.now c.remove-2.new.self c.args.tag.now c.args.place c.requires.noted c.requires.there
    c.remove.ensures.updates.changed c.remove.ensures.updates.others
    (subst (λ key. IsOneMore c.remove-2.new.self c.args.index.now key c.args.place) c.key_of.ensures c.remove-2.ensures.notes) c.remove-2.ensures.room

pub returns-clause-gone : goal.returns-clause-gone
returns-clause-gone c =
    gone-dropped c.args.locks.now.slots c.remove.new.self.slots c.args.index.now c.args.tag.now c.args.place c.requires.noted c.requires.there
    c.remove.ensures.updates.changed c.remove.ensures.updates.others

pub returns-clause-places : goal.returns-clause-places
returns-clause-places c =
    let within = c.requires.noted.within c.args.tag.now c.args.place c.requires.there in
    omega (arith, within, c.remove.ensures.key_is_next, c.remove-2.ensures.room)

pub returns-clause-same : goal.returns-clause-same
returns-clause-same c =
    let there = c.requires.there in
    same-locks c.args.locks.now.slots c.remove.new.self.slots c.args.tag.now c.args.place
    (λ l is. ap (λ (x : LockRecord). x.tag) (same-lock c.args.locks.now.slots c.args.place _ _ is there.there) ∙ there.on)
    (λ l is. nothing-there c.remove.new.self.slots c.args.place (l.tag ≡ c.args.tag.now) l c.remove.ensures.updates.changed is)
    c.remove.ensures.updates.others
