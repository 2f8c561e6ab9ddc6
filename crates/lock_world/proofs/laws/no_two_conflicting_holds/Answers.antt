use Rattle.lock_world.proofs.Lemmas.FromSafeWorld.{no_conflict-own_world, no_conflict-slot_content}
use Rattle.lock_world.proofs.laws.no_two_conflicting_holds.Goals as goal

pub returns-clause-in_contents : goal.returns-clause-in_contents
returns-clause-in_contents c =
    λ w safe p s k t m n apart has its.
    safe.but_slots.table.promise.no_conflict p s k t m n apart has its

pub returns-clause-slot_and_content : goal.returns-clause-slot_and_content
returns-clause-slot_and_content c =
    λ w safe p s k t m n shown its.
    no_conflict-slot_content w safe p s k t m n shown its

pub returns-clause-own : goal.returns-clause-own
returns-clause-own c =
    λ w safe s k t m n apart has its.
    no_conflict-own_world w safe s k t m n apart has its
