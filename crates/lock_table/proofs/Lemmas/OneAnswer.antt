use Rattle.std.proofs.Common.{◌≡◌, ℕ, Bool, true, false, ◌||◌, List, [], ◌∷◌, ◌++◌, Option, Some, None, refl, sym, ap, ◌∙◌, subst, inl, inr}
use Rattle.std.specs.List.{list_any}
use Rattle.std.proofs.lemmas.Bool.{both_ways, or_parts}
use Rattle.std.proofs.lemmas.List.Folds.{list_any-append}
use Rattle.modes_core.specs.declared.modes.Mode.{Mode}
use Rattle.modes_core.specs.declared.tags.Tag.{Tag}
use Rattle.lock_table.specs.Content.{Holds, Wait, Content}
use Rattle.lock_table.specs.declared.answering.Clash.{Clash}
use Rattle.lock_table.specs.declared.answering.Answer.{Answer}
use Rattle.lock_table.specs.declared.answering.Answer.TheVariants.{Granted, Queued, SimpleDeadlock}
use Rattle.lock_table.specs.Clash.{ClashIs, first_waiter}
use Rattle.lock_table.specs.Queue.{conflicts_with_some, IsFirstAgainst, AnswerAtWaiter, AnswerByPlace, WaitingAnswer, WaitingAnswerAt}
use Rattle.lock_table.proofs.Lemmas.QueueLaws.{clash-not_free, no_clash-free}

-- A list has one first element that passes, and one list of those before it.
pub one_first : {X : Type 0} (p : X → Bool) (front front' : List X) (x x' : X) (back back' : List X) → front ++ x ∷ back ≡ front' ++ x' ∷ back'
    → list_any p front ≡ false → list_any p front' ≡ false → p x ≡ true → p x' ≡ true → (front ≡ front') × (x ≡ x')
one_first p [] [] x x' back back' parts none none' passes passes' = let same : x ≡ x' = cc in (refl, same)
one_first p [] (y ∷ front') x x' back back' parts none none' passes passes' =
    let same : x ≡ y = cc in
    absurd (both_ways (p y) (or_parts (p y) (list_any p front') none').0 (ap p (sym same) ∙ passes))
one_first p (y ∷ front) [] x x' back back' parts none none' passes passes' =
    let same : y ≡ x' = cc in
    absurd (both_ways (p y) (or_parts (p y) (list_any p front) none).0 (ap p same ∙ passes'))
one_first p (y ∷ front) (z ∷ front') x x' back back' parts none none' passes passes' =
    let same : y ≡ z = cc in
    let behind : front ++ x ∷ back ≡ front' ++ x' ∷ back' = cc in
    let rest = one_first p front front' x x' back back' behind (or_parts (p y) (list_any p front) none).1 (or_parts (p z) (list_any p front') none').1 passes passes' in
    (ap (λ h. h ∷ front) same ∙ ap (λ l. z ∷ l) rest.0, rest.1)

-- A queue with a first waiter against the set has some waiter against it.
first-not_none : (set : Mode → Bool) (queue ahead : List Wait) (waiter : Wait) (behind : List Wait) → IsFirstAgainst set queue ahead waiter behind
    → list_any (λ wait. conflicts_with_some wait.mode set) queue ≡ false → ⊥
first-not_none set queue ahead waiter behind first none =
    both_ways (list_any against queue) none
    (ap (list_any against) first.parts ∙ list_any-append against ahead (waiter ∷ behind)
    ∙ ap (λ b. b || (against waiter || list_any against behind)) first.passed ∙ ap (λ b. b || list_any against behind) first.met) where
      against : Wait → Bool
      against wait = conflicts_with_some wait.mode set

-- There is one answer to a request that meets this waiter.
one_answer-at : (holds : Holds) (s : ℕ) (t : Tag) (m : Mode) (ahead : List Wait) (w : Wait) (one two : Answer) → AnswerAtWaiter holds s t m ahead w one → AnswerAtWaiter holds s t m ahead w two → one ≡ two
one_answer-at holds s t m ahead w (SimpleDeadlock k) (SimpleDeadlock l) first second = ap SimpleDeadlock (first.1 ∙ sym second.1)
one_answer-at holds s t m ahead w (SimpleDeadlock k) Granted first second = absurd (both_ways (conflicts_with_some m w.held) second.0 first.0)
one_answer-at holds s t m ahead w (SimpleDeadlock k) (Queued n) first second = absurd (both_ways (conflicts_with_some m w.held) second.0 first.0)
one_answer-at holds s t m ahead w Granted (SimpleDeadlock l) first second = absurd (both_ways (conflicts_with_some m w.held) first.0 second.0)
one_answer-at holds s t m ahead w Granted Granted first second = refl
one_answer-at holds s t m ahead w Granted (Queued n) first second = absurd (second.1 first.1)
one_answer-at holds s t m ahead w (Queued n) (SimpleDeadlock l) first second = absurd (both_ways (conflicts_with_some m w.held) first.0 second.0)
one_answer-at holds s t m ahead w (Queued n) Granted first second = absurd (first.1 second.1)
one_answer-at holds s t m ahead w (Queued n) (Queued o) first second = ap Queued (first.2 ∙ sym second.2)

-- There is one answer by the place of a request.
by_place-one : (c : Content) (s : ℕ) (t : Tag) (m : Mode) (one two : Answer) → AnswerByPlace c s t m one → AnswerByPlace c s t m two → one ≡ two
by_place-one c s t m one two (inl first) (inl second) = first.1 ∙ sym second.1
by_place-one c s t m one two (inl first) (inr second) = absurd (first-not_none (c.holds s t) (c.waits t) second.0 second.1 second.2 second.3 first.0)
by_place-one c s t m one two (inr first) (inl second) = absurd (first-not_none (c.holds s t) (c.waits t) first.0 first.1 first.2 first.3 second.0)
by_place-one c s t m one two (inr first) (inr second) =
    let same = one_first (λ wait. conflicts_with_some wait.mode (c.holds s t)) first.0 second.0 first.1 second.1 first.2 second.2 (sym first.3.parts ∙ second.3.parts)
    first.3.passed second.3.passed first.3.met second.3.met in
    one_answer-at c.holds s t m second.0 second.1 one two
    (subst (λ w. AnswerAtWaiter c.holds s t m second.0 w one) same.1 (subst (λ ahead. AnswerAtWaiter c.holds s t m ahead first.1 one) same.0 first.4)) second.4

-- There is one answer to a request that may wait.
pub waiting_answer-one : (c : Content) (s : ℕ) (t : Tag) (m : Mode) (answer other : Answer) → WaitingAnswer c s t m answer → WaitingAnswer c s t m other → answer ≡ other
waiting_answer-one c s t m answer other one two = at one.0 two.0 one.1 two.1 one.2 two.2 where
  apart : (clash : Clash) → ClashIs c s t m None → ClashIs c s t m (Some clash) → ⊥
  apart clash none some =
      let free = no_clash-free (first_waiter (c.waits t) m) c s t m refl none in
      clash-not_free (first_waiter (c.waits t) m) c s t m clash refl some (record { beside_holders = free.0; behind_waiters = free.1 })

  at : (clash its : Option Clash) → ClashIs c s t m clash → ClashIs c s t m its → WaitingAnswerAt clash c s t m answer → WaitingAnswerAt its c s t m other → answer ≡ other
  at None None is its_is first second = first ∙ sym second
  at None (Some its) is its_is first second = absurd (apart its is its_is)
  at (Some clash) None is its_is first second = absurd (apart clash its_is is)
  at (Some clash) (Some its) is its_is first second = by_place-one c s t m answer other first second
