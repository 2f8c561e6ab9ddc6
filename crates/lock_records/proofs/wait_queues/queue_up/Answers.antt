use Rattle.lock_records.proofs.wait_queues.queue_up.Goals as goal

pub insert-requires-clause-there : goal.insert-requires-clause-there
insert-requires-clause-there c = c.requires.there c.in-Some.at c.in-Some.is
