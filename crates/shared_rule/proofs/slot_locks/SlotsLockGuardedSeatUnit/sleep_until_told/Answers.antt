use Rattle.shared_rule.specs.declared.lw_locks.LwLock.TheVariants.{OfSlots}
use Rattle.shared_rule.specs.Waiting.{sought_of}
use Rattle.shared_rule.proofs.Lemmas.Waiting.{lost-owed, lost-latest}
use Rattle.shared_rule.proofs.slot_locks.SlotsLockGuardedSeatUnit.sleep_until_told.Goals as goal

pub sleep_for-requires-clause-latest : goal.sleep_for-requires-clause-latest
sleep_for-requires-clause-latest g c =
    let lock = c.args.self.now in
    lost-latest g.T.PartTable.content (sought_of lock.words.now.key lock.words.now.table_id lock.number (OfSlots lock.owner) lock.mode)
    c.requires.0 c.args.seat.now c.requires.1

pub sleep_for-requires-clause-wakes_nobody : goal.sleep_for-requires-clause-wakes_nobody
sleep_for-requires-clause-wakes_nobody g c =
    let lock = c.args.self.now in
    lost-owed g.T.PartTable.content (sought_of lock.words.now.key lock.words.now.table_id lock.number (OfSlots lock.owner) lock.mode)
    c.requires.0 c.args.seat.now c.requires.1
