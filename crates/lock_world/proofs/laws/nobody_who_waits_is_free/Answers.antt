use Rattle.lock_world.proofs.laws.nobody_who_waits_is_free.Goals as goal

pub returns : goal.returns
returns c =
    λ w safe p t.
    safe.but_slots.table.promise.none_free p t
