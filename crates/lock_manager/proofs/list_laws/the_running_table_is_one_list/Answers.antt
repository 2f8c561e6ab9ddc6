use Rattle.std.proofs.Common.{◌≤◌, ◌∙◌, subst, arith}
use Rattle.std.proofs.lemmas.Bool.{or_left}
use Rattle.modes_core.specs.Sessions.{most_sessions}
use Rattle.lock_world.specs.World.{opening}
use Rattle.lock_world.proofs.Lemmas.Headline.{headline}
use Rattle.lock_world.proofs.Lemmas.SafeWorld.Opening.{opening-safe}
use Rattle.one_list.specs.OneList.{IsRunOfList}
use Rattle.one_list.proofs.Lemmas.SafeLists.{safe-list}
use Rattle.one_list.proofs.Lemmas.Runs.{opening-list, through}
use Rattle.shared_rule.proofs.Lemmas.Told.{leads-runs}
use Rattle.lock_manager.proofs.list_laws.the_running_table_is_one_list.Goals as goal

pub returns : goal.returns
returns g c =
    λ sizes state rule.
    let few : sizes.sessions ≤ most_sessions = rule.shown.few in
    let run = leads-runs (opening sizes.sessions sizes.groups) rule.events rule.world rule.run in (
      run,
      subst (λ list. IsRunOfList list rule.events run.0) (opening-list sizes.sessions sizes.groups)
          (through (opening sizes.sessions sizes.groups) rule.events run.0 (opening-safe sizes.sessions sizes.groups (omega (arith, few))) run.1),
      safe-list rule.world rule.safe,
      λ session tag mode own. (headline rule.world rule.safe).own_or_granted session tag mode ∙ or_left (rule.world.sessions.own session tag mode) _ own,
    )
