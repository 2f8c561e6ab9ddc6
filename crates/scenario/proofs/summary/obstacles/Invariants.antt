use Rattle.std.proofs.Common.{◌≡◌, take}
use Rattle.std.specs.Prelude.{map}
use Rattle.scenario.specs.Summaries.{obstacle_in, shown_obstacle}
use Rattle.scenario.proofs.summary.obstacles.Given as goal

abbrev pub invariant-found : goal.invariant-found
invariant-found l = map shown_obstacle l.behind.items ≡ map (obstacle_in l.names) (take l.blocker-index l.found)
