use Rattle.lock_world.proofs.laws.one_hand_at_a_time.Goals as goal

pub returns : goal.returns
returns c =
    λ w safe p s o has its.
    (safe.but_slots.table.promise.words p).by_one s o has its
