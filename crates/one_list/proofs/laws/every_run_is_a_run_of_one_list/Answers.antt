use Rattle.std.proofs.Common.{subst}
use Rattle.lock_world.specs.World.{opening}
use Rattle.lock_world.proofs.Lemmas.SafeWorld.Opening.{opening-safe}
use Rattle.one_list.specs.OneList.{IsRunOfList}
use Rattle.one_list.proofs.Lemmas.Runs.{opening-list, through}
use Rattle.one_list.proofs.laws.every_run_is_a_run_of_one_list.Goals as goal

pub returns-clause-opening : goal.returns-clause-opening
returns-clause-opening c = λ limit groups. opening-list limit groups

pub returns-clause-run : goal.returns-clause-run
returns-clause-run c =
    λ limit groups events worlds few run.
    subst (λ list. IsRunOfList list events worlds) (opening-list limit groups) (through (opening limit groups) events worlds (opening-safe limit groups few) run)
