use Rattle.std.specs.Prelude.{ℕ, Result, Ok, Err}
use Rattle.modes_core.specs.declared.modes.Mode.{Mode}
use Rattle.modes_core.specs.declared.tags.Tag.{Tag}
use Rattle.modes_core.specs.declared.refusals.Refusal.{Refusal}
use Rattle.lock_table.specs.declared.answering.Answer.TheVariants as answer
use Rattle.lock_table.specs.Content.{Content}
use Rattle.wait_queue.specs.declared.requests.Kind.{Kind}
use Rattle.wait_queue.specs.declared.requests.Decision.{Decision}
use Rattle.wait_queue.specs.declared.requests.Decision.TheVariants as decision
use Rattle.wait_queue.specs.Decide.{AnswerIs, RefusedFor}

-- By these holds and queues a request of this kind is answered so: granted, queued at its place, or refused
-- for what is in its way, by name.
abbrev pub IsAnsweredSo : Kind → Content → ℕ → Tag → Mode → Result Decision Refusal → Type 0
IsAnsweredSo kind list session tag mode (Ok decision.Granted) = AnswerIs kind list session tag mode answer.Granted
IsAnsweredSo kind list session tag mode (Ok decision.Queued) =
    (place : ℕ) × AnswerIs kind list session tag mode (answer.Queued place)
IsAnsweredSo kind list session tag mode (Err refusal) = RefusedFor kind list session tag mode refusal
