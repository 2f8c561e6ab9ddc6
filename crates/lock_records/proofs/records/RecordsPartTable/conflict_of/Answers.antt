use Rattle.std.proofs.Common.{ap, ◌∙◌}
use Rattle.std.proofs.lemmas.Bool.{both_ways}
use Rattle.lock_records.specs.Holders.{holds_in}
use Rattle.lock_records.specs.View.{RecordView}
use Rattle.lock_records.proofs.Lemmas.Parts.{nothing-held}
use Rattle.lock_records.proofs.records.RecordsPartTable.conflict_of.Goals as goal

pub holder_in_the_way-requires-clause-held : goal.holder_in_the_way-requires-clause-held
holder_in_the_way-requires-clause-held c =
    let its = (c.in-Some.ensures {u = tt}).found in
    ((c.self.invariant.objects c.args.tag.now).lock its.place (record { lock = c.in-Some.lock.now; there = its.there; on = its.on })).held

pub returns-in-None : goal.returns-in-None
returns-in-None c = λ other n another has.
    absurd (both_ways _ (nothing-held c.self.inside.locks.slots c.self.inside.holders.slots c.self.inside.queues.slots other c.args.tag.now n c.self.invariant.objects (c.in-None.ensures {u = tt}).absent)
    (ap (λ (part : RecordView). holds_in part.holders other c.args.tag.now n) c.self.view_is ∙ has))
