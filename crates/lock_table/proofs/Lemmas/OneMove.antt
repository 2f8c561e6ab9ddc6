use Rattle.std.proofs.Common.{◌≡◌, ℕ, List, [], sym, ap, ◌∙◌, inl, inr}
use Rattle.std.proofs.lemmas.Bool.{cases_Bool, MatchBool-at_true, MatchBool-at_false}
use Rattle.modes_core.specs.declared.modes.Mode.{Mode}
use Rattle.modes_core.specs.declared.tags.Tag.{Tag}
use Rattle.lock_table.specs.declared.moves.Move.{Move}
use Rattle.lock_table.specs.declared.moves.Move.TheVariants.{Keep, Grant, Join, Release, Leave, Adopt}
use Rattle.lock_table.specs.Content.{Wait, Content, remove_hold}
use Rattle.lock_table.specs.declared.answering.Answer.TheVariants.{Queued}
use Rattle.lock_table.specs.Queue.{WaitingAnswer, some_awaits_conflict, Wakes, add_wait, remove_wait}
use Rattle.lock_table.specs.Moves.{Moves, WakesFor}
use Rattle.lock_table.proofs.Lemmas.QueueLaws.{one_wakes}
use Rattle.lock_table.proofs.Lemmas.OneAnswer.{waiting_answer-one}

-- What a release wakes, if it wakes anybody, is one list, and leads to one content.
one_woken : (m : Mode) (before : Content) (t : Tag) (granted granted' : List Wait) (after after' : Content) → WakesFor m before t granted after → WakesFor m before t granted' after' → (granted ≡ granted') × (after ≡ after')
one_woken m before t granted granted' after after' one two =
    elim (cases_Bool (some_awaits_conflict (before.waits t) m)) [
      | inl wakes ↦ one_wakes before t granted granted' after after'
          (MatchBool-at_true (Wakes before t granted after) ((granted ≡ []) × (after ≡ before)) wakes one)
          (MatchBool-at_true (Wakes before t granted' after') ((granted' ≡ []) × (after' ≡ before)) wakes two)
      | inr none ↦
          let first = MatchBool-at_false (Wakes before t granted after) ((granted ≡ []) × (after ≡ before)) none one in
          let second = MatchBool-at_false (Wakes before t granted' after') ((granted' ≡ []) × (after' ≡ before)) none two in
          (first.0 ∙ sym second.0, first.1 ∙ sym second.1)
    ]

-- A request that is to wait joins at one place.
one_joined : (before : Content) (s : ℕ) (t : Tag) (m : Mode) (place other : ℕ) → WaitingAnswer before s t m (Queued place) → WaitingAnswer before s t m (Queued other) → place ≡ other
one_joined before s t m place other one two = let same : Queued place ≡ Queued other = waiting_answer-one before s t m (Queued place) (Queued other) one two in cc

-- A move leads to one content, and grants one list of waits.
pub one_moved : (before : Content) (s : ℕ) (done : Move) (granted granted' : List Wait) (after after' : Content) → Moves before s done granted after → Moves before s done granted' after' → (granted ≡ granted') × (after ≡ after')
one_moved before s Keep granted granted' after after' one two = (one.0 ∙ sym two.0, one.1 ∙ sym two.1)
one_moved before s (Grant t m) granted granted' after after' one two = (one.1 ∙ sym two.1, one.2 ∙ sym two.2)
one_moved before s (Join t m) granted granted' after after' one two =
    (one.2 ∙ sym two.2, one.3 ∙ ap (add_wait before s t m) (one_joined before s t m one.0 two.0 one.1 two.1) ∙ sym two.3)
one_moved before s (Release t m) granted granted' after after' one two = one_woken m (remove_hold before s t m) t granted granted' after after' one.1 two.1
one_moved before s (Leave t) granted granted' after after' one two = one_wakes (remove_wait before s t) t granted granted' after after' one.1 two.1
one_moved before s (Adopt k i) granted granted' after after' one two = absurd one
