use Rattle.std.proofs.Common.{subst}
use Rattle.lock_world.specs.World.{opening}
use Rattle.lock_world.specs.Tallies.{OwnStand}
use Rattle.lock_world.specs.Account.{account}
use Rattle.lock_world.proofs.Lemmas.SafeWorld.Opening.{opening-safe}
use Rattle.lock_world.proofs.Lemmas.SafeWorld.Runs.{Runs-safe}
use Rattle.lock_world.proofs.Lemmas.Remembered.{remembered-once, groups-of_run}
use Rattle.lock_world.proofs.Lemmas.OwnStand.{own-stand, shows-left}
use Rattle.lock_world.proofs.laws.own_holds_are_in_slots_or_contents.Goals as goal

pub returns-clause-stand : goal.returns-clause-stand
returns-clause-stand c =
    λ limit groups events w session few run no_wait.
    let its = remembered-once limit groups events w few run session in
    subst (λ n. OwnStand n session (account w session) w.contents.now) (groups-of_run limit groups events w run)
    (own-stand w (Runs-safe (opening limit groups) events w (opening-safe limit groups few) run) session its.0 its.1 no_wait)

pub returns-clause-as_many_groups : goal.returns-clause-as_many_groups
returns-clause-as_many_groups c =
    λ limit groups events w run. groups-of_run limit groups events w run

pub returns-clause-shows : goal.returns-clause-shows
returns-clause-shows c =
    λ limit groups events w session place few run within.
    shows-left w (Runs-safe (opening limit groups) events w (opening-safe limit groups few) run) session (remembered-once limit groups events w few run session).0 place within
