use Rattle.lock_world.specs.SafeWorld.{tabled}
use Rattle.lock_world.proofs.Lemmas.FromSafe.{entry-stands, stands-once, stands-in_one_queue}
use Rattle.lock_world.proofs.laws.a_session_waits_once.Goals as goal

pub returns-clause-recorded : goal.returns-clause-recorded
returns-clause-recorded c =
    λ w safe p i t entry at.
    let found = entry-stands (tabled w) safe.but_slots p i t entry at in
    (found.0, (found.1.wait, found.1.is_wait, found.1.on, found.1.is_entry))

pub returns-clause-once : goal.returns-clause-once
returns-clause-once c =
    λ w safe p s t.
    stands-once (tabled w) safe.but_slots p s t

pub returns-clause-in_one_queue : goal.returns-clause-in_one_queue
returns-clause-in_one_queue c =
    λ w safe p q s t o there its.
    stands-in_one_queue (tabled w) safe.but_slots p q s t o there its
