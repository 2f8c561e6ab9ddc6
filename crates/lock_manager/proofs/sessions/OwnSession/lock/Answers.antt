use Rattle.std.proofs.Common.{rules}
use Rattle.lock_manager.proofs.Lemmas.Quiet.{quiet-waited}
use Rattle.lock_manager.proofs.sessions.OwnSession.lock.Goals as goal

pub returns-in-Granted-wait-clause-asked : goal.returns-in-Granted-wait-clause-asked
returns-in-Granted-wait-clause-asked g c = record {
  answers = search rules;
  entry_room_first = search rules;
  quiet = quiet-waited _ _ _ _ _ _ _ _ c.in-Queued.ensures.asked.quiet c.in-Granted-wait.ensures.quiet;
  untouched = search rules;
  no_memory = search rules;
  same_entries = search rules;
  levels = search rules;
}

pub returns-in-Refused-wait-clause-asked : goal.returns-in-Refused-wait-clause-asked
returns-in-Refused-wait-clause-asked g c = record {
  answers = search rules;
  entry_room_first = search rules;
  quiet = quiet-waited _ _ _ _ _ _ _ _ c.in-Queued.ensures.asked.quiet c.in-Refused-wait.ensures.quiet;
  untouched = search rules;
  no_memory = search rules;
  same_entries = search rules;
  levels = search rules;
}
