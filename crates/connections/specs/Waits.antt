use Rattle.lock_manager.specs.declared.waiting_sessions.Started.{Started}
use Rattle.lock_manager.specs.declared.waiting_sessions.Started.TheVariants as started
use Rattle.lock_manager.specs.declared.waiting_sessions.Polled.{Polled}
use Rattle.lock_manager.specs.declared.waiting_sessions.Polled.TheVariants as polled

-- Answers with which a connection comes back, as answers with what the connection has.

-- how an acquire began, with what each kind of connection has in its place
abbrev pub started_with : {C W S V : Type 0} → (C → S) → (W → V) → Started C W → Started S V
started_with session waiting (started.Granted its) = started.Granted (session its)
started_with session waiting (started.AlreadyHeld its) = started.AlreadyHeld (session its)
started_with session waiting (started.Queued its) = started.Queued (waiting its)
started_with session waiting (started.Refused its refusal) = started.Refused (session its) refusal

-- what a connection that waits finds when it looks, with what each kind of connection has in its place
abbrev pub polled_with : {C W S V : Type 0} → (C → S) → (W → V) → Polled C W → Polled S V
polled_with session waiting (polled.Granted its) = polled.Granted (session its)
polled_with session waiting (polled.Still its) = polled.Still (waiting its)
polled_with session waiting (polled.CancelAsked its) = polled.CancelAsked (waiting its)
