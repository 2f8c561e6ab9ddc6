use Rattle.lock_manager.proofs.Lemmas.Quiet.{quiet-waited}
use Rattle.lock_manager.proofs.waiting.lock.Goals as goal

pub returns-in-Ok-clause-quiet : goal.returns-in-Ok-clause-quiet
returns-in-Ok-clause-quiet g c = quiet-waited _ _ _ _ _ _ _ _ c.acquire.ensures.quiet c.wait.ensures.quiet

pub returns-in-Err-wait-clause-quiet : goal.returns-in-Err-wait-clause-quiet
returns-in-Err-wait-clause-quiet g c = quiet-waited _ _ _ _ _ _ _ _ c.acquire.ensures.quiet c.wait.ensures.quiet
