use Rattle.std.proofs.Common.{◌≤◌, subst, arith}
use Rattle.modes_core.specs.Sessions.{most_sessions}
use Rattle.lock_world.specs.World.{opening}
use Rattle.lock_world.proofs.Lemmas.SafeWorld.Opening.{opening-safe}
use Rattle.shared_rule.specs.Tells.{AreTold, steps_of}
use Rattle.lock_manager.proofs.Lemmas.ListMoments.{moment}
use Rattle.lock_manager.proofs.list_laws.each_step_of_a_history_has_its_moment.Goals as goal

pub returns : goal.returns
returns g c =
    λ sizes state rule history stands newer older mark parts.
    let few : sizes.sessions ≤ most_sessions = rule.shown.few in
    moment (opening sizes.sessions sizes.groups) (opening-safe sizes.sessions sizes.groups (omega (arith, few))) rule.events rule.world rule.run history.number mark older newer
    (subst (λ marks. AreTold history.number marks (steps_of history.number rule.events)) parts (rule.steps.at_seat history stands))
