use Rattle.std.proofs.Common.{◌≡◌, ◌≢◌, ◌⊎◌, ℕ, Bool, true, false, ◌||◌, ◌&&◌, ◌==◌, List, [], ◌∷◌, ◌++◌, take, drop, refl, sym, ap, subst, ◌∙◌, inl, inr}
use Rattle.std.specs.Prelude.{filter}
use Rattle.std.specs.List.{list_any}
use Rattle.std.proofs.lemmas.Bool.{cases_eq, eq-eqb, ne_eqb, cond-true, cond-false, both_ways}
use Rattle.std.proofs.lemmas.List.{take-append-drop}
use Rattle.std.proofs.lemmas.List.Elements.{filter-append}
use Rattle.modes_core.specs.declared.modes.Mode.{Mode}
use Rattle.modes_core.specs.Mode.{mode_eq}
use Rattle.lock_table.specs.Content.{Wait}
use Rattle.lock_table.specs.Queue.{joined, waits_there, awaits_mode, queue_without, IsSplitOf}

-- A session's waits in a queue.

abbrev pub of_session : ℕ → List Wait → List Wait
of_session k queue = filter (λ wait. wait.session == k) queue

pub of-its : (k : ℕ) (w : Wait) (queue : List Wait) → w.session ≡ k → of_session k (w ∷ queue) ≡ w ∷ of_session k queue
of-its k w queue its = cond-true (w.session == k) (w ∷ of_session k queue) (of_session k queue) (eq-eqb w.session k its)

pub of-other : (k : ℕ) (w : Wait) (queue : List Wait) → w.session ≢ k → of_session k (w ∷ queue) ≡ of_session k queue
of-other k w queue other = cond-false (w.session == k) (w ∷ of_session k queue) (of_session k queue) (ne_eqb w.session k other)

any-of : (k : ℕ) (q : Wait → Bool) (queue : List Wait) → list_any (λ w. (w.session == k) && q w) queue ≡ list_any q (of_session k queue)
any-of k q [] = refl
any-of k q (w ∷ queue) =
    elim (cases_eq w.session k) [
      | inl its ↦ rw (eq-eqb w.session k its) (ap (λ b. q w || b) (any-of k q queue))
      | inr other ↦ rw (ne_eqb w.session k other) (any-of k q queue)
    ]

pub awaits-of : (k : ℕ) (m : Mode) (queue : List Wait) → awaits_mode queue k m ≡ list_any (λ w. mode_eq w.mode m) (of_session k queue)
awaits-of k m queue = any-of k (λ w. mode_eq w.mode m) queue

there-of : (k : ℕ) (queue : List Wait) → waits_there queue k ≡ list_any (λ w. true) (of_session k queue)
there-of k queue = (λ i. list_any (λ w. sym (and-true (w.session == k)) i) queue) ∙ any-of k (λ w. true) queue where
  and-true : (b : Bool) → (b && true) ≡ b
  and-true true = refl
  and-true false = refl

-- A session with no wait there doesn't wait there, and one with a wait there does.
pub none-there : (k : ℕ) (queue : List Wait) → of_session k queue ≡ [] → waits_there queue k ≡ false
none-there k queue none = there-of k queue ∙ ap (list_any (λ w. true)) none

pub one-there : (k : ℕ) (queue others : List Wait) (w : Wait) → of_session k queue ≡ w ∷ others → waits_there queue k ≡ true
one-there k queue others w one = there-of k queue ∙ ap (list_any (λ w. true)) one

-- Where a session waits, it has a wait.
pub there-some : (k : ℕ) (queue : List Wait) → waits_there queue k ≡ true → of_session k queue ≡ [] → ⊥
there-some k queue there none = both_ways (waits_there queue k) (none-there k queue none) there

-- The waits of a session in a queue that was split are split likewise.
pub split-of : (k : ℕ) (queue granted left : List Wait) → IsSplitOf queue granted left → IsSplitOf (of_session k queue) (of_session k granted) (of_session k left)
split-of k [] granted left split = (ap (of_session k) split.0, ap (of_session k) split.1)
split-of k (w ∷ queue) granted left (inl goes) =
    elim (cases_eq w.session k) [
      | inl its ↦ subst (λ l. IsSplitOf l (of_session k granted) (of_session k left)) (sym (of-its k w queue its))
          (inl (of_session k goes.0, ap (of_session k) goes.1 ∙ of-its k w goes.0 its, split-of k queue goes.0 left goes.2))
      | inr other ↦ subst (λ l. IsSplitOf l (of_session k granted) (of_session k left)) (sym (of-other k w queue other))
          (subst (λ l. IsSplitOf (of_session k queue) l (of_session k left)) (sym (ap (of_session k) goes.1 ∙ of-other k w goes.0 other)) (split-of k queue goes.0 left goes.2))
    ]
split-of k (w ∷ queue) granted left (inr stays) =
    elim (cases_eq w.session k) [
      | inl its ↦ subst (λ l. IsSplitOf l (of_session k granted) (of_session k left)) (sym (of-its k w queue its))
          (inr (of_session k stays.0, ap (of_session k) stays.1 ∙ of-its k w stays.0 its, split-of k queue granted stays.0 stays.2))
      | inr other ↦ subst (λ l. IsSplitOf l (of_session k granted) (of_session k left)) (sym (of-other k w queue other))
          (subst (λ l. IsSplitOf (of_session k queue) (of_session k granted) l) (sym (ap (of_session k) stays.1 ∙ of-other k w stays.0 other)) (split-of k queue granted stays.0 stays.2))
    ]

-- A session that has no wait in the queue has none in either part.
pub split-none : (k : ℕ) (queue granted left : List Wait) → IsSplitOf queue granted left → of_session k queue ≡ [] → (of_session k granted ≡ []) × (of_session k left ≡ [])
split-none k queue granted left split none = subst (λ l. IsSplitOf l (of_session k granted) (of_session k left)) none (split-of k queue granted left split)

-- One that has one wait in it has that one in one part, and none in the other.
pub split-one : (k : ℕ) (queue granted left : List Wait) (w : Wait) → IsSplitOf queue granted left → of_session k queue ≡ w ∷ [] →
    ((of_session k granted ≡ w ∷ []) × (of_session k left ≡ [])) ⊎ ((of_session k granted ≡ []) × (of_session k left ≡ w ∷ []))
split-one k queue granted left w split one = at (subst (λ l. IsSplitOf l (of_session k granted) (of_session k left)) one (split-of k queue granted left split)) where
  at : IsSplitOf (w ∷ []) (of_session k granted) (of_session k left) → ((of_session k granted ≡ w ∷ []) × (of_session k left ≡ [])) ⊎ ((of_session k granted ≡ []) × (of_session k left ≡ w ∷ []))
  at (inl goes) = inl (goes.1 ∙ ap (λ others. w ∷ others) goes.2.0, goes.2.1)
  at (inr stays) = inr (stays.2.0, stays.1 ∙ ap (λ others. w ∷ others) stays.2.1)

-- Who is in a part is in the queue.
pub granted-there : (k : ℕ) (queue granted left : List Wait) → IsSplitOf queue granted left → of_session k queue ≡ [] → waits_there granted k ≡ false
granted-there k queue granted left split none = none-there k granted (split-none k queue granted left split none).0

-- A queue that another session joins.
pub joined-other : (k n : ℕ) (w : Wait) (queue : List Wait) → w.session ≢ k → of_session k (joined n w queue) ≡ of_session k queue
joined-other k n w queue other =
    filter-append (λ wait. wait.session == k) (take n queue) (w ∷ drop n queue) ∙ ap (λ l. of_session k (take n queue) ++ l) (of-other k w (drop n queue) other)
    ∙ sym (filter-append (λ wait. wait.session == k) (take n queue) (drop n queue)) ∙ ap (of_session k) (take-append-drop n queue)

both_none : (xs ys : List Wait) → xs ++ ys ≡ [] → (xs ≡ []) × (ys ≡ [])
both_none [] ys e = (refl, e)
both_none (x ∷ xs) ys e = absurd (cc)

-- A queue that a session with no wait in it joins has its one wait then.
pub joined-its : (k n : ℕ) (w : Wait) (queue : List Wait) → w.session ≡ k → of_session k queue ≡ [] → of_session k (joined n w queue) ≡ w ∷ []
joined-its k n w queue its none =
    let parts = both_none (of_session k (take n queue)) (of_session k (drop n queue))
    (sym (filter-append (λ wait. wait.session == k) (take n queue) (drop n queue)) ∙ ap (of_session k) (take-append-drop n queue) ∙ none) in
    filter-append (λ wait. wait.session == k) (take n queue) (w ∷ drop n queue) ∙ ap (λ l. l ++ of_session k (w ∷ drop n queue)) parts.0
    ∙ of-its k w (drop n queue) its ∙ ap (λ l. w ∷ l) parts.1

-- The queue without a session's wait.
pub without-its : (s : ℕ) (queue : List Wait) → of_session s (queue_without queue s) ≡ []
without-its s [] = refl
without-its s (w ∷ queue) =
    elim (cases_eq w.session s) [
      | inl its ↦ rw (eq-eqb w.session s its) (without-its s queue)
      | inr other ↦ rw (ne_eqb w.session s other) (of-other s w (queue_without queue s) other ∙ without-its s queue)
    ]

pub without-other : (k s : ℕ) (queue : List Wait) → k ≢ s → of_session k (queue_without queue s) ≡ of_session k queue
without-other k s [] apart = refl
without-other k s (w ∷ queue) apart =
    elim (cases_eq w.session s) [
      | inl its ↦ rw (eq-eqb w.session s its) (without-other k s queue apart ∙ sym (of-other k w queue (λ e. apart (sym e ∙ its))))
      | inr other ↦ rw (ne_eqb w.session s other) (elim (cases_eq w.session k) [
        | inl its ↦ of-its k w (queue_without queue s) its ∙ ap (λ l. w ∷ l) (without-other k s queue apart) ∙ sym (of-its k w queue its)
        | inr another ↦ of-other k w (queue_without queue s) another ∙ without-other k s queue apart ∙ sym (of-other k w queue another)
      ])
    ]
