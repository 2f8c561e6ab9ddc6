use Rattle.lock_world.proofs.Lemmas.Wakes.Runs.{turn-nobody, keeps-well, well-owed}
use Rattle.lock_world.proofs.wake_laws.no_sleeper_is_forgotten.Goals as goal

pub returns-clause-each_turn : goal.returns-clause-each_turn
returns-clause-each_turn c = λ w v b turn safe nobody h. turn-nobody w v b turn safe nobody h

pub returns-clause-nobody : goal.returns-clause-nobody
returns-clause-nobody c = λ limit groups turns v d run. (keeps-well limit groups turns v d run).nobody

pub returns-clause-owed : goal.returns-clause-owed
returns-clause-owed c = λ limit groups turns v d run s lock asleep. well-owed v d (keeps-well limit groups turns v d run) s lock asleep

pub returns-clause-only_live : goal.returns-clause-only_live
returns-clause-only_live c = λ limit groups turns v d run. (keeps-well limit groups turns v d run).only
