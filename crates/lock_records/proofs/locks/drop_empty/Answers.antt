use Rattle.std.proofs.Common.{refl, inl, inr, subst}
use Rattle.lock_records.specs.Locks.{IsIdle, IsCounting}
use Rattle.lock_records.proofs.Lemmas.Indexes.{same-lock, same-itself}
use Rattle.lock_records.proofs.locks.drop_empty.Goals as goal

pub index-requires : goal.index-requires
index-requires c = let there = c.requires.there in rw there.there refl

pub returns-then-is_empty-clause-dropped : goal.returns-then-is_empty-clause-dropped
returns-then-is_empty-clause-dropped c = record {
  same = c.drop_lock.ensures.same;
  either = inr (c.drop_lock.ensures.gone, λ i. subst IsIdle (same-lock c.args.locks.now.slots c.args.place _ i.lock c.index.ensures i.there) (c.is_empty.ensures.nothing c.if-is_empty.true));
}

pub returns-else-is_empty-clause-dropped : goal.returns-else-is_empty-clause-dropped
returns-else-is_empty-clause-dropped c = record {
  same = same-itself c.args.locks.now.slots c.args.tag.now;
  either = inl (refl, λ i. subst IsCounting (same-lock c.args.locks.now.slots c.args.place _ i.lock c.index.ensures i.there) (c.is_empty.ensures.something c.if-is_empty.false));
}
