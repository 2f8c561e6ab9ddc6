use Rattle.std.proofs.Common.{sym, ap, ◌∙◌, subst}
use Rattle.modes_core.specs.ModeSet.{set_has}
use Rattle.lock_records.specs.declared.holders.HolderRecord.{HolderRecord}
use Rattle.lock_records.specs.declared.locks.LockRecord.{LockRecord}
use Rattle.lock_records.specs.Holders.{IsHolderChain}
use Rattle.lock_records.proofs.Lemmas.Held.{holds-at, holds-none, same-holder}
use Rattle.lock_records.proofs.Lemmas.Indexes.{same-lock}
use Rattle.lock_records.proofs.Lemmas.Parts.{nothing-held}
use Rattle.lock_records.proofs.records.RecordsPartTable.held.Goals as goal

pub returns-in_default : goal.returns-in_default
returns-in_default c =
    rw (← c.self.view_is)
    (c.empty.ensures ∙ (λ i m. sym (nothing-held c.self.inside.locks.slots c.self.inside.holders.slots c.self.inside.queues.slots c.args.session c.args.tag.now m c.self.invariant.objects (c.in_default.ensures {u = tt}).absent) i))

pub find_holder-requires : goal.find_holder-requires
find_holder-requires c =
    let i = (c.in-Some.ensures {u = tt}).found in
    subst (λ (l : LockRecord). IsHolderChain c.self.inside.holders.slots c.args.tag.now l.holders.first l.holders.count)
    (same-lock c.self.inside.locks.slots c.in-Some.place i.lock c.index.result.now i.there c.index.ensures) ((c.self.invariant.objects c.args.tag.now).lock c.in-Some.place i).held.chain

pub returns-in-Some-find_holder : goal.returns-in-Some-find_holder
returns-in-Some-find_holder c =
    let found = (c.in-Some-find_holder.ensures {u = tt}).found in
    let same = same-holder c.self.inside.holders.slots c.in-Some-find_holder.holder found.holder c.index-in-Some-find_holder.result.now found.there c.index-in-Some-find_holder.ensures in
    rw (← c.self.view_is)
    (λ i m. (ap (λ (h : HolderRecord). set_has h.modes m) (sym same)
    ∙ sym (holds-at c.self.inside.holders.slots c.args.session c.args.tag.now c.in-Some-find_holder.holder (c.self.invariant.objects c.args.tag.now).are found m)) i)

pub returns-in-None : goal.returns-in-None
returns-in-None c =
    rw (← c.self.view_is)
    (c.empty-in-None.ensures ∙ (λ i m. sym (holds-none c.self.inside.holders.slots c.args.session c.args.tag.now (c.in-None.ensures {u = tt}).absent m) i))
