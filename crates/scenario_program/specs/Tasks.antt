use Rattle.std.specs.Prelude.{◌≤◌}
use Rattle.lock_manager.specs.declared.config.Config.{Config}
use Rattle.lock_hammer.specs.declared.size.Hammer.{Hammer}
use Rattle.scenario_program.specs.declared.arguments.Task.{Task}
use Rattle.scenario_program.specs.declared.arguments.Task.TheVariants as task

-- Each session has 1 to 8 groups of fast-path slots.
pub record HasSlotGroups (config : Config) : Type 0 where
  pub some_groups : 1 ≤ config.slot_groups
  pub few_groups : config.slot_groups ≤ 8

-- P of the configuration, where the words ask for a run, orders or a shell
abbrev pub OfRun : Task → (Config → Type 0) → Type 0
OfRun (task.Run config style) P = P config
OfRun (task.Orders config options hints) P = P config
OfRun (task.Shell config reuse) P = P config
OfRun task.Sql P = Unit {0}
OfRun (task.Hammer hammer) P = Unit {0}
OfRun task.Modes P = Unit {0}
OfRun task.Man P = Unit {0}

-- P of the numbers, where the words ask for a hammer
abbrev pub OfHammer : Task → (Hammer → Type 0) → Type 0
OfHammer (task.Run config style) P = Unit {0}
OfHammer (task.Orders config options hints) P = Unit {0}
OfHammer (task.Shell config reuse) P = Unit {0}
OfHammer task.Sql P = Unit {0}
OfHammer (task.Hammer hammer) P = P hammer
OfHammer task.Modes P = Unit {0}
OfHammer task.Man P = Unit {0}
