use Rattle.std.proofs.Common.{◌≤◌, subst, arith}
use Rattle.modes_core.specs.Sessions.{most_sessions}
use Rattle.lock_world.specs.World.{opening}
use Rattle.lock_world.proofs.Lemmas.SafeWorld.Opening.{opening-safe}
use Rattle.shared_rule.specs.Tells.{AreTold, steps_of}
use Rattle.lock_manager.proofs.Lemmas.OwnMoments.{comes-at, goes-at}
use Rattle.lock_manager.proofs.list_laws.what_a_session_comes_to_own_has_its_moment.Goals as goal

pub returns-clause-comes : goal.returns-clause-comes
returns-clause-comes g c =
    λ sizes state rule history stands later between earlier tag mode parts none has.
    let few : sizes.sessions ≤ most_sessions = rule.shown.few in
    comes-at _ (opening sizes.sessions sizes.groups) (opening-safe sizes.sessions sizes.groups (omega (arith, few))) rule.events rule.world rule.run history.number later between earlier
    (subst (λ marks. AreTold history.number marks (steps_of history.number rule.events)) parts (rule.steps.at_seat history stands)) tag mode none has

pub returns-clause-goes : goal.returns-clause-goes
returns-clause-goes g c =
    λ sizes state rule history stands later between earlier tag mode parts has gone.
    let few : sizes.sessions ≤ most_sessions = rule.shown.few in
    goes-at _ (opening sizes.sessions sizes.groups) (opening-safe sizes.sessions sizes.groups (omega (arith, few))) rule.events rule.world rule.run history.number later between earlier
    (subst (λ marks. AreTold history.number marks (steps_of history.number rule.events)) parts (rule.steps.at_seat history stands)) tag mode has gone
