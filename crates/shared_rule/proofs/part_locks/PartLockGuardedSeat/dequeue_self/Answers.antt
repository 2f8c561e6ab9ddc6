use Rattle.lw_word.specs.declared.words.LwMode.TheVariants.{Exclusive}
use Rattle.shared_rule.specs.declared.lw_locks.LwLock.TheVariants.{OfPart}
use Rattle.shared_rule.specs.Waiting.{sought_of}
use Rattle.shared_rule.proofs.Lemmas.Waiting.{part-left, won-owed}
use Rattle.shared_rule.proofs.part_locks.PartLockGuardedSeat.dequeue_self.Goals as goal

pub returns : goal.returns
returns g c = λ first got has.
    let lock = c.args.self.now in
    part-left g.T.PartTable.content
    (sought_of lock.words.now.key lock.words.now.table_id lock.number (OfPart lock.part) Exclusive)
    first c.args.seat.now c.dequeue_self.new.seat c.dequeue_self.ensures.led c.dequeue_self.ensures.shelves
    g.T.PartTable.begun lock.words.now.key.sessions lock.part got has

pub dequeue_self-requires-clause-wakes_nobody : goal.dequeue_self-requires-clause-wakes_nobody
dequeue_self-requires-clause-wakes_nobody g c =
    let lock = c.args.self.now in
    won-owed g.T.PartTable.content (sought_of lock.words.now.key lock.words.now.table_id lock.number (OfPart lock.part) Exclusive)
    c.requires.0 c.args.seat.now _ (λ at after wins. wins.led.owed) c.requires.2
