use Rattle.std.proofs.Common.{inl}
use Rattle.lock_records.proofs.Lemmas.Indexes.{same-itself}
use Rattle.lock_records.proofs.locks.find_or_make_lock.Goals as goal

pub returns-in-Some-clause-made : goal.returns-in-Some-clause-made
returns-in-Some-clause-made c =
    let found = (c.in-Some.ensures {u = tt}).found in
    record { at = found; was = inl found.there; same = same-itself c.args.locks.now.slots c.args.tag.now }

pub make_lock-requires-clause-absent : goal.make_lock-requires-clause-absent
make_lock-requires-clause-absent c = c.requires.absent c.if-absent.true
