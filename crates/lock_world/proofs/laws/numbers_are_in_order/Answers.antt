use Rattle.lock_world.proofs.laws.numbers_are_in_order.Goals as goal

pub returns-clause-new : goal.returns-clause-new
returns-clause-new c =
    λ w safe s past. safe.but_slots.traces.new s past

pub returns-clause-kept_apart : goal.returns-clause-kept_apart
returns-clause-kept_apart c =
    λ w safe s joiner kept. (safe.but_slots.table.carriers.numbers.kept_is_live s joiner kept, safe.but_slots.table.carriers.numbers.joiner_is_live s joiner kept)
