use Rattle.std.proofs.Common.{◌≡◌, length, slice_get, sym, ap, ◌∙◌, arith}
use Rattle.lock_records.specs.Queues.{queue_on}
use Rattle.lock_records.proofs.Lemmas.QueueRecords.{nobody-waits}
use Rattle.lock_records.proofs.records.RecordsPartTable.waiter.Goals as goal

pub returns-then-waiting-eq0-clause-wait : goal.returns-then-waiting-eq0-clause-wait
returns-then-waiting-eq0-clause-wait c =
    let nobody = nobody-waits c.self.inside.queues.slots c.args.tag.now (sym c.waiting.ensures ∙ c.if-waiting-eq0.true) in
    rw (← c.self.view_is) (ap (λ waits. slice_get waits c.args.place) (sym nobody))

pub returns-then-waiting-eq0-clause-countable : goal.returns-then-waiting-eq0-clause-countable
returns-then-waiting-eq0-clause-countable c =
    let none : length (queue_on c.self.inside.queues.slots c.args.tag.now) ≡ 0 = ap length (nobody-waits c.self.inside.queues.slots c.args.tag.now (sym c.waiting.ensures ∙ c.if-waiting-eq0.true)) in
    rw (← c.self.view_is) (omega (arith, none))
