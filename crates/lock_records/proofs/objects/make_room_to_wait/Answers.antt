use Rattle.std.proofs.Common.{sym, ◌∙◌}
use Rattle.lock_records.proofs.Lemmas.QueueRecords.{nobody-waits}
use Rattle.lock_records.proofs.Lemmas.QueueWrites.{queues-unchanged}
use Rattle.lock_records.proofs.objects.make_room_to_wait.Goals as goal

pub returns-then-waiting-eq0-clause-room : goal.returns-then-waiting-eq0-clause-room
returns-then-waiting-eq0-clause-room c = λ some.
    absurd (some (nobody-waits c.args.queues.now.slots c.args.tag.now (sym c.waiting.ensures ∙ c.if-waiting-eq0.true)))

pub returns-then-waiting-eq0-clause-same : goal.returns-then-waiting-eq0-clause-same
returns-then-waiting-eq0-clause-same c = queues-unchanged c.args.queues.now
