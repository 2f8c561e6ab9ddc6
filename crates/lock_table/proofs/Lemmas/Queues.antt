use Rattle.std.proofs.Common.{◌≡◌, ℕ, ◌≤◌, List, ◌∷◌, length, length-append, Option, Some, None, ap, ◌∙◌, refl, inl, inr, arith}
use Rattle.std.specs.Prelude.{◌==◌, is_some, option_map}
use Rattle.modes_core.specs.declared.modes.Mode.{Mode}
use Rattle.modes_core.specs.declared.tags.Tag.{Tag}
use Rattle.lock_table.specs.declared.answering.Answer.TheVariants.{Granted, Queued}
use Rattle.lock_table.specs.declared.answering.Clash.{Clash}
use Rattle.lock_table.specs.Content.{Wait, Content}
use Rattle.lock_table.specs.Clash.{NoConflictingHolder, ClashIs, ClashAfterWaiters, first_waiter}
use Rattle.lock_table.specs.Queue.{AnswerByPlace, WaitingAnswer, WaitingAnswerAt, waits_there, wait_in}
use Rattle.lock_table.proofs.Lemmas.Find.{is_some-find, is_some-option_map}

-- Where a request clashes with nothing, no holder is in its way.
no_clash-no_holder : (waiter : Option Wait) (c : Content) (s : ℕ) (t : Tag) (m : Mode) → ClashAfterWaiters waiter c s t m None → NoConflictingHolder c.holds s t m
no_clash-no_holder None c s t m none = none
no_clash-no_holder (Some w) c s t m e = absurd (cc)

-- A grant by the place of a request is free beside the holders.
by_place-no_holder : (c : Content) (s : ℕ) (t : Tag) (m : Mode) → AnswerByPlace c s t m Granted → NoConflictingHolder c.holds s t m
by_place-no_holder c s t m (inl last) = let e = last.1 in absurd (cc)
by_place-no_holder c s t m (inr found) = found.4.1.beside_holders

-- What is granted conflicts with no other session's hold.
pub granted-no_holder : (c : Content) (s : ℕ) (t : Tag) (m : Mode) → WaitingAnswer c s t m Granted → NoConflictingHolder c.holds s t m
granted-no_holder c s t m answer = at answer.0 answer.1 answer.2 where
  at : (clash : Option Clash) → ClashIs c s t m clash → WaitingAnswerAt clash c s t m Granted → NoConflictingHolder c.holds s t m
  at None is e = no_clash-no_holder (first_waiter (c.waits t) m) c s t m is
  at (Some clash) is found = by_place-no_holder c s t m found

-- What clashes with nothing is granted, also if it may wait.
pub no_clash-granted : (c : Content) (s : ℕ) (t : Tag) (m : Mode) → ClashIs c s t m None → WaitingAnswer c s t m Granted
no_clash-granted c s t m none = (None, none, refl)

-- The place that is answered lies in the queue, or at its end.
by_place-within : (c : Content) (s : ℕ) (t : Tag) (m : Mode) (n : ℕ) → AnswerByPlace c s t m (Queued n) → n ≤ length (c.waits t)
by_place-within c s t m n (inl last) = let e = last.1 in let same : n ≡ length (c.waits t) = cc in omega arith
by_place-within c s t m n (inr found) =
    let place : n ≡ length found.0 = found.4.2 in
    let sum = ap length found.3.parts ∙ length-append found.0 (found.1 ∷ found.2) in
    omega (arith, place, sum)

pub queued-within : (c : Content) (s : ℕ) (t : Tag) (m : Mode) (n : ℕ) → WaitingAnswer c s t m (Queued n) → n ≤ length (c.waits t)
queued-within c s t m n answer = at answer.0 answer.2 where
  at : (clash : Option Clash) → WaitingAnswerAt clash c s t m (Queued n) → n ≤ length (c.waits t)
  at None e = absurd (cc)
  at (Some clash) found = by_place-within c s t m n found

-- A session waits in a queue exactly where its wait there has a mode.
pub waits_there-mode : (queue : List Wait) (session : ℕ) (mode : Option Mode) → mode ≡ option_map (λ wait. wait.mode) (wait_in queue session) → is_some mode ≡ waits_there queue session
waits_there-mode queue session mode is =
    ap is_some is ∙ is_some-option_map (λ wait. wait.mode) (wait_in queue session) ∙ is_some-find (λ wait. wait.session == session) queue
