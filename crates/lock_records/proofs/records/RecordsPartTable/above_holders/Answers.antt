use Rattle.std.proofs.Common.{subst}
use Rattle.lock_records.specs.declared.locks.LockRecord.{LockRecord}
use Rattle.lock_records.specs.Holders.{IsHolderChain}
use Rattle.lock_records.proofs.Lemmas.Indexes.{same-lock}
use Rattle.lock_records.proofs.Lemmas.Parts.{nothing-held}
use Rattle.lock_records.proofs.records.RecordsPartTable.above_holders.Goals as goal

pub above_holders-requires-clause-chain : goal.above_holders-requires-clause-chain
above_holders-requires-clause-chain c =
    let i = (c.in-Some.ensures {u = tt}).found in
    subst (λ (l : LockRecord). IsHolderChain c.self.inside.holders.slots c.args.tag.now l.holders.first l.holders.count)
    (same-lock c.self.inside.locks.slots c.in-Some.place i.lock c.index.result.now i.there c.index.ensures) ((c.self.invariant.objects c.args.tag.now).lock c.in-Some.place i).held.chain

pub above_holders-requires-clause-are : goal.above_holders-requires-clause-are
above_holders-requires-clause-are c = (c.self.invariant.objects c.args.tag.now).are

pub returns-in-Some-clause-above : goal.returns-in-Some-clause-above
returns-in-Some-clause-above c = rw (← c.self.view_is) (λ few session mode past. c.above_holders.ensures.above session mode past)

pub returns-in-None-clause-above : goal.returns-in-None-clause-above
returns-in-None-clause-above c =
    let absent = (c.in-None.ensures {u = tt}).absent in
    rw (← c.self.view_is)
    (λ few session mode past. nothing-held c.self.inside.locks.slots c.self.inside.holders.slots c.self.inside.queues.slots session c.args.tag.now mode c.self.invariant.objects absent)
