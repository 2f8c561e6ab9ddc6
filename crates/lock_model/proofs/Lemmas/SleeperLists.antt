use Rattle.std.proofs.Common.{◌≡◌, ◌≢◌, ℕ, true, false, not, ◌&&◌, ◌||◌, List, [], ◌∷◌, ◌++◌, map, sym, ap, ◌∙◌, refl, inl, inr}
use Rattle.std.specs.Prelude.{◌==◌, filter}
use Rattle.std.specs.List.{list_any}
use Rattle.std.proofs.lemmas.Bool.{cases_Bool, cond-true, cond-false, and_parts, not-false, eqb-true, eq-eqb, ne_eqb}
use Rattle.std.proofs.lemmas.List.{map-append, append-nil}
use Rattle.std.proofs.lemmas.List.Elements.{filter-append}
use Rattle.lw_word.specs.declared.wait_lists.LwWaiter.{LwWaiter}
use Rattle.lw_word.specs.WaitList.{is_of, stands_in, without}
use Rattle.lock_model.specs.declared.machine.state.Sleeper.{Sleeper}
use Rattle.lock_model.specs.Shows.{waiters_of}
use Rattle.lock_model.specs.SleeperLists.{is_at}

-- The wait list of one lock, read in the list of all who wait for any.

-- An entry of the lock is the first of its list,
kept : (l : ℕ) (e : Sleeper) (list : List Sleeper) → e.lock == l ≡ true → waiters_of l (e ∷ list) ≡ e.waiter ∷ waiters_of l list
kept l e list its = ap (map (λ (x : Sleeper). x.waiter)) (cond-true (e.lock == l) (e ∷ filter (λ x. x.lock == l) list) (filter (λ x. x.lock == l) list) its)

-- and one of another lock is not in it.
left_out : (l : ℕ) (e : Sleeper) (list : List Sleeper) → e.lock == l ≡ false → waiters_of l (e ∷ list) ≡ waiters_of l list
left_out l e list other = ap (map (λ (x : Sleeper). x.waiter)) (cond-false (e.lock == l) (e ∷ filter (λ x. x.lock == l) list) (filter (λ x. x.lock == l) list) other)

pushed : (l : ℕ) (list : List Sleeper) (e : Sleeper) → waiters_of l (list ++ e ∷ []) ≡ waiters_of l list ++ waiters_of l (e ∷ [])
pushed l list e =
    ap (map (λ (x : Sleeper). x.waiter)) (filter-append (λ x. x.lock == l) list (e ∷ []))
    ∙ map-append (λ (x : Sleeper). x.waiter) (filter (λ x. x.lock == l) list) (filter (λ x. x.lock == l) (e ∷ []))

-- Who is in a lock's list is found among all sleepers.
pub stands_in-waiters : (l s : ℕ) (list : List Sleeper) → list_any (is_at l s) list ≡ stands_in s (waiters_of l list)
stands_in-waiters l s [] = refl
stands_in-waiters l s (e ∷ list) =
    elim (cases_Bool (e.lock == l)) [
      | inl its ↦
          ap (λ b. (b && is_of s e.waiter) || list_any (is_at l s) list) its
          ∙ ap (λ b. is_of s e.waiter || b) (stands_in-waiters l s list)
          ∙ ap (stands_in s) (sym (kept l e list its))
      | inr other ↦
          ap (λ b. (b && is_of s e.waiter) || list_any (is_at l s) list) other
          ∙ stands_in-waiters l s list
          ∙ ap (stands_in s) (sym (left_out l e list other))
    ]

-- One more waits: its lock has it last, and no other lock has it.
pub waiters_of-push : (l : ℕ) (list : List Sleeper) (e : Sleeper) → e.lock ≡ l → waiters_of l (list ++ e ∷ []) ≡ waiters_of l list ++ e.waiter ∷ []
waiters_of-push l list e its = pushed l list e ∙ ap (λ last. waiters_of l list ++ last) (kept l e [] (eq-eqb e.lock l its))

pub waiters_of-push_else : (l : ℕ) (list : List Sleeper) (e : Sleeper) → e.lock ≢ l → waiters_of l (list ++ e ∷ []) ≡ waiters_of l list
waiters_of-push_else l list e other = pushed l list e ∙ ap (λ last. waiters_of l list ++ last) (left_out l e [] (ne_eqb e.lock l other)) ∙ append-nil (waiters_of l list)

-- A session that is taken out of a lock's list is out of that list, and still in any other that it was in.
pub waiters_of-without : (l s : ℕ) (list : List Sleeper) → waiters_of l (filter (λ e. not (is_at l s e)) list) ≡ without s (waiters_of l list)
waiters_of-without l s [] = refl
waiters_of-without l s (e ∷ list) =
    let keep = λ (x : Sleeper). not (is_at l s x) in
    let stay = λ (x : LwWaiter). not (is_of s x) in
    elim (cases_Bool (e.lock == l)) [
      | inl its ↦ elim (cases_Bool (is_of s e.waiter)) [
        | inl goes ↦
            let out : keep e ≡ false = ap (λ b. not (b && is_of s e.waiter)) its ∙ ap not goes in
            ap (waiters_of l) (cond-false (keep e) (e ∷ filter keep list) (filter keep list) out)
            ∙ waiters_of-without l s list
            ∙ sym (cond-false (stay e.waiter) (e.waiter ∷ without s (waiters_of l list)) (without s (waiters_of l list)) (ap not goes))
            ∙ ap (without s) (sym (kept l e list its))
        | inr another ↦
            let stays : keep e ≡ true = ap (λ b. not (b && is_of s e.waiter)) its ∙ ap not another in
            ap (waiters_of l) (cond-true (keep e) (e ∷ filter keep list) (filter keep list) stays)
            ∙ kept l e (filter keep list) its
            ∙ ap (λ own. e.waiter ∷ own) (waiters_of-without l s list)
            ∙ sym (cond-true (stay e.waiter) (e.waiter ∷ without s (waiters_of l list)) (without s (waiters_of l list)) (ap not another))
            ∙ ap (without s) (sym (kept l e list its))
      ]
      | inr other ↦
          let stays : keep e ≡ true = ap (λ b. not (b && is_of s e.waiter)) other in
          ap (waiters_of l) (cond-true (keep e) (e ∷ filter keep list) (filter keep list) stays)
          ∙ left_out l e (filter keep list) other
          ∙ waiters_of-without l s list
          ∙ ap (without s) (sym (left_out l e list other))
    ]

pub waiters_of-without_else : (l k s : ℕ) (list : List Sleeper) → k ≢ l → waiters_of k (filter (λ e. not (is_at l s e)) list) ≡ waiters_of k list
waiters_of-without_else l k s [] another = refl
waiters_of-without_else l k s (e ∷ list) another =
    let keep = λ (x : Sleeper). not (is_at l s x) in
    elim (cases_Bool (keep e)) [
      | inl stays ↦
          ap (waiters_of k) (cond-true (keep e) (e ∷ filter keep list) (filter keep list) stays)
          ∙ (elim (cases_Bool (e.lock == k)) [
            | inl its ↦ kept k e (filter keep list) its ∙ ap (λ own. e.waiter ∷ own) (waiters_of-without_else l k s list another) ∙ sym (kept k e list its)
            | inr other ↦ left_out k e (filter keep list) other ∙ waiters_of-without_else l k s list another ∙ sym (left_out k e list other)
          ])
      | inr goes ↦
          let its : e.lock ≡ l = eqb-true e.lock l (and_parts (e.lock == l) (is_of s e.waiter) (not-false _ goes)).0 in
          ap (waiters_of k) (cond-false (keep e) (e ∷ filter keep list) (filter keep list) goes)
          ∙ waiters_of-without_else l k s list another
          ∙ sym (left_out k e list (ne_eqb e.lock k (λ same. another (sym same ∙ its))))
    ]
