use Rattle.std.proofs.Common.{◌≡◌, ℕ, zero, suc, ◌+◌, ◌<◌, ◌≤◌, true, List, [], ◌∷◌, ◌++◌, length, filter, take, drop, set, get_or, arith, refl, sym, ap, ◌∙◌}
use Rattle.std.proofs.lemmas.List.{append_assoc, append-nil, drop_all, drop_more, drop-set-lt, take_more_set, length_push}
use Rattle.std.proofs.lemmas.Bool.{cond-true, cond-false, false_from_ne_true}
use Rattle.lw_word.specs.declared.wait_lists.LwWaiter.{LwWaiter}
use Rattle.lw_word.specs.WaitList.{wants_to_share, without_sharers}

-- A loop over a list of waiters that takes off those who want to share, some at most, and moves all others
-- forward.

-- It has taken off these, and may take off `more` of them; those whom it leaves stand in the first places,
-- and from its own place on the list is as it was.
pub record TakesInPlace (many : ℕ) (waiters now taken : List LwWaiter) (kept place : ℕ) : Type 0 where
  pub more : ℕ
  pub sum : length taken + more ≡ many
  pub takes : take many (filter wants_to_share waiters) ≡ taken ++ take more (filter wants_to_share (drop place now))
  pub leaves : without_sharers many waiters ≡ take kept now ++ without_sharers more (drop place now)
  pub behind : kept ≤ place

pub takes-start : (many : ℕ) (waiters : List LwWaiter) → TakesInPlace many waiters waiters [] 0 0
takes-start many waiters = record { more = many; sum = omega arith; takes = refl; leaves = refl; behind = omega arith }

module _ (many : ℕ) (waiters now taken : List LwWaiter) (kept place : ℕ) (so_far : TakesInPlace many waiters now taken kept place) where
  -- One that wants to share is taken off, where more may be.
  pub takes-one : (waiter : LwWaiter) → place < length now → waiter ≡ get_or now place waiter → wants_to_share waiter ≡ true → length taken < many
      → TakesInPlace many waiters now (taken ++ waiter ∷ []) kept (place + 1)
  takes-one waiter within its shares fewer = at so_far.more so_far.sum so_far.takes so_far.leaves where
    later : List LwWaiter
    later = drop (place + 1) now

    next : drop place now ≡ waiter ∷ later
    next = drop_more now place waiter within ∙ ap (λ w. w ∷ later) (sym its)

    at : (more : ℕ) → length taken + more ≡ many → take many (filter wants_to_share waiters) ≡ taken ++ take more (filter wants_to_share (drop place now))
        → without_sharers many waiters ≡ take kept now ++ without_sharers more (drop place now) → TakesInPlace many waiters now (taken ++ waiter ∷ []) kept (place + 1)
    at zero sum takes leaves = absurd (omega (arith, sum, fewer))
    at (suc more) sum takes leaves = record {
      more = more;
      sum = let longer : length (taken ++ waiter ∷ []) ≡ length taken + 1 = length_push taken waiter in omega (arith, longer, sum);
      takes = takes ∙ ap (λ ws. taken ++ take (suc more) (filter wants_to_share ws)) next
          ∙ ap (λ ws. taken ++ take (suc more) ws) (cond-true (wants_to_share waiter) (waiter ∷ filter wants_to_share later) (filter wants_to_share later) shares)
          ∙ sym (append_assoc taken (waiter ∷ []) (take more (filter wants_to_share later)));
      leaves = leaves ∙ ap (λ ws. take kept now ++ without_sharers (suc more) ws) next
          ∙ ap (λ ws. take kept now ++ ws) (cond-true (wants_to_share waiter) (without_sharers more later) (waiter ∷ without_sharers (suc more) later) shares);
      behind = omega (arith, so_far.behind);
    }

  -- Any other is left, and moves forward.
  pub leaves-one : (waiter : LwWaiter) → place < length now → waiter ≡ get_or now place waiter → ((wants_to_share waiter ≡ true) → many ≤ length taken)
      → TakesInPlace many waiters (set now kept waiter) taken (kept + 1) (place + 1)
  leaves-one waiter within its stays = record {
    more = so_far.more;
    sum = so_far.sum;
    takes = so_far.takes ∙ ap (λ ws. taken ++ take so_far.more (filter wants_to_share ws)) next ∙ ap (λ ws. taken ++ ws) (others so_far.more so_far.sum)
        ∙ ap (λ ws. taken ++ take so_far.more (filter wants_to_share ws)) (sym after);
    leaves = so_far.leaves ∙ ap (λ ws. take kept now ++ without_sharers so_far.more ws) next ∙ ap (λ ws. take kept now ++ ws) (left so_far.more so_far.sum)
        ∙ sym (append_assoc (take kept now) (waiter ∷ []) (without_sharers so_far.more later))
        ∙ ap (λ ws. ws ++ without_sharers so_far.more later) (sym (take_more_set now kept waiter (omega (arith, so_far.behind, within))))
        ∙ ap (λ ws. take (kept + 1) (set now kept waiter) ++ without_sharers so_far.more ws) (sym after);
    behind = omega (arith, so_far.behind);
  } where
    later : List LwWaiter
    later = drop (place + 1) now

    next : drop place now ≡ waiter ∷ later
    next = drop_more now place waiter within ∙ ap (λ w. w ∷ later) (sym its)

    after : drop (place + 1) (set now kept waiter) ≡ later
    after = drop-set-lt (place + 1) now kept waiter (omega (arith, so_far.behind))

    others : (more : ℕ) → length taken + more ≡ many → take more (filter wants_to_share (waiter ∷ later)) ≡ take more (filter wants_to_share later)
    others zero sum = refl
    others (suc more) sum =
        ap (take (suc more)) (cond-false (wants_to_share waiter) (waiter ∷ filter wants_to_share later) (filter wants_to_share later)
        (false_from_ne_true (wants_to_share waiter) (λ shares. let full = stays shares in omega (arith, full, sum))))

    left : (more : ℕ) → length taken + more ≡ many → without_sharers more (waiter ∷ later) ≡ waiter ∷ without_sharers more later
    left zero sum = refl
    left (suc more) sum =
        cond-false (wants_to_share waiter) (without_sharers more later) (waiter ∷ without_sharers (suc more) later)
        (false_from_ne_true (wants_to_share waiter) (λ shares. let full = stays shares in omega (arith, full, sum)))

  -- At its end all are taken off, and all left, who are to be.
  pub takes-all : length now ≤ place → (take many (filter wants_to_share waiters) ≡ taken) × (without_sharers many waiters ≡ take kept now)
  takes-all over = (
    so_far.takes ∙ ap (λ ws. taken ++ take so_far.more (filter wants_to_share ws)) none ∙ ap (λ ws. taken ++ ws) (none-taken so_far.more) ∙ append-nil taken,
    so_far.leaves ∙ ap (λ ws. take kept now ++ without_sharers so_far.more ws) none ∙ ap (λ ws. take kept now ++ ws) (none-left so_far.more) ∙ append-nil (take kept now),
  ) where
    none : drop place now ≡ []
    none = drop_all place now over

    none-taken : (more : ℕ) → ◌≡◌ {A = List LwWaiter} (take more []) []
    none-taken zero = refl
    none-taken (suc more) = refl

    none-left : (more : ℕ) → without_sharers more [] ≡ []
    none-left zero = refl
    none-left (suc more) = refl
