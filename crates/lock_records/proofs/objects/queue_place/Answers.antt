use Rattle.std.proofs.Common.{sym, ◌∙◌}
use Rattle.lock_records.specs.Queues.{queue_on}
use Rattle.lock_records.proofs.Lemmas.Queues.{queue-empty}
use Rattle.lock_records.proofs.objects.queue_place.Goals as goal

pub returns-then-is_empty-clause-absent : goal.returns-then-is_empty-clause-absent
returns-then-is_empty-clause-absent c =
    queue-empty (queue_on c.args.queues.now.slots c.args.tag.now) (λ mode. sym (c.requires mode) ∙ c.is_empty.ensures.nothing c.if-is_empty.true mode)
