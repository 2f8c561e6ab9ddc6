use Rattle.std.proofs.Common.{refl, ap, ◌∙◌, subst}
use Rattle.std.proofs.lemmas.Bool.{both_ways}
use Rattle.lock_records.specs.Holders.{holds_in}
use Rattle.lock_records.specs.Objects.{IsHeldLock}
use Rattle.lock_records.specs.View.{RecordView}
use Rattle.lock_records.proofs.Lemmas.Indexes.{same-lock}
use Rattle.lock_records.proofs.Lemmas.Parts.{nothing-held}
use Rattle.lock_records.proofs.records.RecordsPartTable.conflict_of_begun.Goals as goal

pub returns-then-self : goal.returns-then-self
returns-then-self c = λ other n another has.
    let begun = ap (λ (part : RecordView). part.begun) c.self.view_is ∙ c.requires.begun in
    absurd (both_ways _ (nothing-held c.self.inside.locks.slots c.self.inside.holders.slots c.self.inside.queues.slots other c.args.tag.now n c.self.invariant.objects (c.self.invariant.absent c.if-self.true _ begun))
    (ap (λ (part : RecordView). holds_in part.holders other c.args.tag.now n) c.self.view_is ∙ has))

pub index-requires : goal.index-requires
index-requires c =
    let begun = ap (λ (part : RecordView). part.begun) c.self.view_is ∙ c.requires.begun in
    let there = c.self.invariant.known c.if-not-self.false _ begun in
    rw there.there refl

pub holder_in_the_way-requires-clause-held : goal.holder_in_the_way-requires-clause-held
holder_in_the_way-requires-clause-held c =
    let begun = ap (λ (part : RecordView). part.begun) c.self.view_is ∙ c.requires.begun in
    let i = c.self.invariant.known c.if-not-self.false _ begun in
    subst (IsHeldLock c.self.inside.holders.slots c.args.tag.now)
    (same-lock c.self.inside.locks.slots c.self.inside.hint i.lock c.index.result.now i.there c.index.ensures)
    ((c.self.invariant.objects c.args.tag.now).lock c.self.inside.hint i).held
