use Rattle.std.proofs.Common.{◌≡◌, take}
use Rattle.sql_script.specs.Awaited.{awaited_by}
use Rattle.sql_script.proofs.awaited.awaited_of.Given as goal

abbrev pub invariant-loop-session : goal.invariant-loop-session
invariant-loop-session l = l.tags.items ≡ awaited_by l.database l.awaits l.locks (take l.session-index l.sessions)
