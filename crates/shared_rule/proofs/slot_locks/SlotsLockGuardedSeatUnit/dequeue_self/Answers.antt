use Rattle.shared_rule.specs.declared.lw_locks.LwLock.TheVariants.{OfSlots}
use Rattle.shared_rule.specs.Waiting.{sought_of}
use Rattle.shared_rule.proofs.Lemmas.Waiting.{slots-left, won-owed}
use Rattle.shared_rule.proofs.slot_locks.SlotsLockGuardedSeatUnit.dequeue_self.Goals as goal

pub returns : goal.returns
returns g c = λ first got has.
    let lock = c.args.self.now in
    slots-left g.T.PartTable.content
    (sought_of lock.words.now.key lock.words.now.table_id lock.number (OfSlots lock.owner) lock.mode)
    first c.args.seat.now c.dequeue_self.new.seat c.dequeue_self.ensures.led c.dequeue_self.ensures.shelves
    lock.words.now.key.groups lock.mode lock.owner has

pub dequeue_self-requires-clause-wakes_nobody : goal.dequeue_self-requires-clause-wakes_nobody
dequeue_self-requires-clause-wakes_nobody g c =
    let lock = c.args.self.now in
    won-owed g.T.PartTable.content (sought_of lock.words.now.key lock.words.now.table_id lock.number (OfSlots lock.owner) lock.mode)
    c.requires.0 c.args.seat.now _ (λ at after wins. wins.led.owed) c.requires.2
