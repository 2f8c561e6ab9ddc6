use Rattle.lock_world.proofs.laws.lightweight_words_show_who_holds_them.Goals as goal

pub returns-clause-partition_shared : goal.returns-clause-partition_shared
returns-clause-partition_shared c =
    λ w safe p. (safe.but_slots.table.promise.words p).shared

pub returns-clause-partition_never_both : goal.returns-clause-partition_never_both
returns-clause-partition_never_both c =
    λ w safe p s o held. (safe.but_slots.table.promise.words p).never_both s o held

pub returns-clause-fast_exclusive : goal.returns-clause-fast_exclusive
returns-clause-fast_exclusive c =
    λ w safe o.
    (λ shown. (safe.but_slots.locks.fast_words o).shown_is_held shown, λ held. (safe.but_slots.locks.fast_words o).held_is_shown held.0 held.1)

pub returns-clause-fast_by_one : goal.returns-clause-fast_by_one
returns-clause-fast_by_one c =
    λ w safe o s k held its. (safe.but_slots.locks.fast_words o).by_one s k held its

pub returns-clause-fast_shared : goal.returns-clause-fast_shared
returns-clause-fast_shared c =
    λ w safe o. (safe.but_slots.locks.fast_words o).shared

pub returns-clause-fast_never_both : goal.returns-clause-fast_never_both
returns-clause-fast_never_both c =
    λ w safe o s k held. (safe.but_slots.locks.fast_words o).never_both s k held
