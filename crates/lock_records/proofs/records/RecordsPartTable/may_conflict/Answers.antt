use Rattle.std.proofs.Common.{List, sym, ap, ◌∙◌}
use Rattle.std.proofs.lemmas.Bool.{both_ways}
use Rattle.lock_table.specs.Content.{Wait}
use Rattle.lock_table.specs.Queue.{some_awaits_conflict}
use Rattle.lock_records.specs.Objects.{IsLock}
use Rattle.lock_records.specs.Queues.{queue_on}
use Rattle.lock_records.specs.Holders.{holds_in}
use Rattle.lock_records.specs.View.{RecordView}
use Rattle.lock_records.proofs.Lemmas.Objects.{no-wait}
use Rattle.lock_records.proofs.Lemmas.Parts.{nothing-held}
use Rattle.lock_records.proofs.Lemmas.Queues.{none-awaits}
use Rattle.lock_records.proofs.Lemmas.Relocked.{nobody-holds}
use Rattle.lock_records.proofs.records.RecordsPartTable.may_conflict.Goals as goal
use Rattle.lock_records.proofs.records.RecordsPartTable.may_conflict.Goals.{In-Some}

right : (c : In-Some) → IsLock c.self.inside.holders.slots (queue_on c.self.inside.queues.slots c.args.tag.now) c.args.tag.now c.in-Some.lock.now
right c =
    let its = (c.in-Some.ensures {u = tt}).found in
    (c.self.invariant.objects c.args.tag.now).lock its.place (record { lock = c.in-Some.lock.now; there = its.there; on = its.on })

pub returns-in-Some-clause-awaited : goal.returns-in-Some-clause-awaited
returns-in-Some-clause-awaited c = λ not_met.
    let is = right (goal.at.returns-in-Some-clause-awaited c).In-Some in
    rw (← c.self.view_is)
    (none-awaits (queue_on c.self.inside.queues.slots c.args.tag.now) c.args.mode (λ its hit. sym (is.awaited its) ∙ c.may_conflict.ensures.awaited not_met its hit))

pub returns-in-Some-clause-held : goal.returns-in-Some-clause-held
returns-in-Some-clause-held c = λ not_met session other its another has.
    let is = right (goal.at.returns-in-Some-clause-held c).In-Some in
    nobody-holds c.self.inside.holders.slots c.args.tag.now c.in-Some.lock.now.granted c.args.mode (c.self.invariant.objects c.args.tag.now).are is.held.granted
    (c.may_conflict.ensures.granted not_met) other its (ap (λ (part : RecordView). holds_in part.holders other c.args.tag.now its) c.self.view_is ∙ has)

pub returns-in-None-clause-awaited : goal.returns-in-None-clause-awaited
returns-in-None-clause-awaited c = λ not_met.
    rw (← c.self.view_is)
    (ap (λ (queue : List Wait). some_awaits_conflict queue c.args.mode)
    (no-wait c.self.inside.locks.slots c.self.inside.holders.slots (queue_on c.self.inside.queues.slots c.args.tag.now) c.args.tag.now (c.self.invariant.objects c.args.tag.now) (c.in-None.ensures {u = tt}).absent))

pub returns-in-None-clause-held : goal.returns-in-None-clause-held
returns-in-None-clause-held c = λ not_met session other its another has.
    absurd (both_ways _ (nothing-held c.self.inside.locks.slots c.self.inside.holders.slots c.self.inside.queues.slots other c.args.tag.now its c.self.invariant.objects (c.in-None.ensures {u = tt}).absent)
    (ap (λ (part : RecordView). holds_in part.holders other c.args.tag.now its) c.self.view_is ∙ has))
