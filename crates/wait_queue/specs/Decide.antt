use Rattle.std.specs.Prelude.{◌≡◌, ℕ, Some, None}
use Rattle.modes_core.specs.declared.modes.Mode.{Mode}
use Rattle.modes_core.specs.declared.tags.Tag.{Tag}
use Rattle.modes_core.specs.declared.refusals.Refusal.{Refusal}
use Rattle.modes_core.specs.declared.refusals.Refusal.TheVariants.{Conflict, SimpleDeadlock, NoMemory}
use Rattle.lock_table.specs.declared.answering.Answer.{Answer}
use Rattle.lock_table.specs.declared.answering.Answer.TheVariants as answer
use Rattle.lock_table.specs.Clash.{ClashIs}
use Rattle.lock_table.specs.Content.{Content, add_hold}
use Rattle.lock_table.specs.Queue.{WaitingAnswer, add_wait}
use Rattle.wait_queue.specs.declared.requests.Kind.{Kind}
use Rattle.wait_queue.specs.declared.requests.Kind.TheVariants.{Conditional, Waiting}
use Rattle.wait_queue.specs.declared.requests.Decision.{Decision}
use Rattle.wait_queue.specs.declared.requests.Decision.TheVariants.{Granted, Queued}

-- The answer to a request of this kind: a conditional one is granted where it clashes with nothing, and else
-- refused.
abbrev pub AnswerIs : Kind → Content → ℕ → Tag → Mode → Answer → Type 0
AnswerIs Conditional content session tag mode answer.Granted = ClashIs content session tag mode None
AnswerIs Conditional content session tag mode _ = ⊥
AnswerIs Waiting content session tag mode answer = WaitingAnswer content session tag mode answer

-- What was decided is the answer, and the content after it has one more hold, or one more wait at its place.
abbrev pub IsDecided : Kind → Content → ℕ → Tag → Mode → Decision → Content → Type 0
IsDecided kind before session tag mode Granted after =
    AnswerIs kind before session tag mode answer.Granted × (after ≡ add_hold before session tag mode)
IsDecided kind before session tag mode Queued after =
    (place : ℕ) × AnswerIs kind before session tag mode (answer.Queued place) × (after ≡ add_wait before session tag mode place)

-- A conditional request is refused with what it clashes with, one that may wait by its answer; or memory ran
-- out.
abbrev pub RefusedFor : Kind → Content → ℕ → Tag → Mode → Refusal → Type 0
RefusedFor Conditional content session tag mode (Conflict other its how) =
    ClashIs content session tag mode (Some (record { session = other; mode = its; how = how }))
RefusedFor Waiting content session tag mode (SimpleDeadlock other) = WaitingAnswer content session tag mode (answer.SimpleDeadlock other)
RefusedFor kind content session tag mode NoMemory = Unit {0}
RefusedFor kind content session tag mode _ = ⊥

-- Room comes first: a refusal for what is in the way comes only where there was room for the request.
abbrev pub IsAfterRoom : Type 0 → Refusal → Type 0
IsAfterRoom room (Conflict other its how) = room
IsAfterRoom room (SimpleDeadlock other) = room
IsAfterRoom room _ = Unit {0}
