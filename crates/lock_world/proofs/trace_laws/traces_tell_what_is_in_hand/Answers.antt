use Rattle.lock_world.proofs.trace_laws.traces_tell_what_is_in_hand.Goals as goal

pub returns : goal.returns
returns c =
    λ w safe s p. safe.but_slots.traces.in_hand s p
