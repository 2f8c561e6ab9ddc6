use Rattle.lock_world.proofs.Lemmas.FromSafeWorld.{permitted-none}
use Rattle.lock_world.proofs.laws.a_counter_read_as_zero_is_a_permission.Goals as goal

pub returns-clause-lock_is_held : goal.returns-clause-lock_is_held
returns-clause-lock_is_held c =
    λ w safe s index read. safe.zero.holds s index read

pub returns-clause-nobody_is_past : goal.returns-clause-nobody_is_past
returns-clause-nobody_is_past c =
    λ w safe s o t read. safe.zero.nobody_is_past s o t read

pub returns-clause-nobody_strong : goal.returns-clause-nobody_strong
returns-clause-nobody_strong c =
    λ w safe s k t m read strong.
    permitted-none w safe s k t m read strong
