use Rattle.std.proofs.Common.{◌<◌, ◌+◌, ◌==◌, not, ap, ◌∙◌, subst, arith, arith}
use Rattle.lock_records.specs.Queues.{queue_on}
use Rattle.lock_records.specs.Tally.{counts_in}
use Rattle.lock_records.specs.Counting.{total_of, granted_of}
use Rattle.lock_records.specs.Holders.{holds_in}
use Rattle.lock_records.specs.Objects.{IsLock}
use Rattle.lock_records.proofs.Lemmas.Counts.{total-same, totals, total-some}
use Rattle.lock_records.proofs.Lemmas.Indexes.{same-lock}
use Rattle.lock_records.proofs.Lemmas.Objects.{no-wait}
use Rattle.lock_records.proofs.Lemmas.Parts.{nothing-held}
use Rattle.lock_records.proofs.records.Records.counts.Goals as goal
use Rattle.lock_records.proofs.records.Records.counts.Goals.{After-index}

right : (c : After-index) → IsLock c.self.inside.holders.slots (queue_on c.self.inside.queues.slots c.args.tag.now) c.args.tag.now c.index.result.now
right c =
    let i = (c.in-Some.ensures {u = tt}).found in
    subst (IsLock c.self.inside.holders.slots (queue_on c.self.inside.queues.slots c.args.tag.now) c.args.tag.now)
    (same-lock c.self.inside.locks.slots c.in-Some.place i.lock c.index.result.now i.there c.index.ensures) ((c.self.invariant.objects c.args.tag.now).lock c.in-Some.place i)

pub returns-in-Some-clause-found : goal.returns-in-Some-clause-found
returns-in-Some-clause-found c =
    let is = right (goal.at.returns-in-Some-clause-found c).After-index in
    let counts = c.counts_of.ensures in
    rw (← c.self.view_is) (record {
      granted = λ m. counts.granted m ∙ is.held.granted m;
      requested = λ m. let a = counts.requested m in let b = is.held.granted m in let d = is.awaited m in omega arith;
      granted_total = counts.granted_total ∙ total-same (counts_in c.index.result.now.granted) (granted_of (holds_in c.self.inside.holders.slots) c.args.tag.now) is.held.granted;
      requested_total =
          counts.requested_total ∙ totals c.self.inside.holders.slots (queue_on c.self.inside.queues.slots c.args.tag.now) c.args.tag.now c.index.result.now is;
      grant_mask = λ m. counts.grant_mask m ∙ ap (λ n. not (n == 0)) (is.held.granted m);
      wait_mask = λ m. counts.wait_mask m ∙ ap (λ n. not (n == 0)) (is.awaited m);
    })

pub returns-in-Some-clause-used : goal.returns-in-Some-clause-used
returns-in-Some-clause-used c =
    let is = right (goal.at.returns-in-Some-clause-used c).After-index in
    let object = c.self.invariant.objects c.args.tag.now in
    let some : 0 < total_of (counts_in c.index.result.now.granted) + total_of (counts_in c.index.result.now.awaited) =
    total-some c.self.inside.holders.slots (queue_on c.self.inside.queues.slots c.args.tag.now) c.args.tag.now c.index.result.now is object.are (object.used c.in-Some.place (c.in-Some.ensures {u = tt}).found) in
    rw c.counts_of.ensures.requested_total some

pub returns-in-None-clause-absent : goal.returns-in-None-clause-absent
returns-in-None-clause-absent c =
    let absent = (c.in-None.ensures {u = tt}).absent in
    rw (← c.self.view_is) (record {
      not_held = λ s m. nothing-held c.self.inside.locks.slots c.self.inside.holders.slots c.self.inside.queues.slots s c.args.tag.now m c.self.invariant.objects absent;
      not_awaited = no-wait c.self.inside.locks.slots c.self.inside.holders.slots (queue_on c.self.inside.queues.slots c.args.tag.now) c.args.tag.now (c.self.invariant.objects c.args.tag.now) absent;
    })
