use Rattle.std.proofs.Common.{◌≡◌, ◌≢◌, ℕ, ◌<◌, Bool, false, not, List, [], ◌∷◌, ◌++◌, length, get_or, Option, None, refl, sym, ap, ◌∙◌, subst, inl, inr}
use Rattle.std.specs.Prelude.{filter, replicate}
use Rattle.std.proofs.Math.ListN.{set, length-set}
use Rattle.std.proofs.lemmas.Bool.{cases_eq}
use Rattle.std.proofs.lemmas.List.{get_or-set_same, get_or-set_other, length-replicate}
use Rattle.lock_model.proofs.Lemmas.Shows.Places.{get_or-one_value}
use Rattle.lw_word.specs.declared.wait_lists.LwWaiter.{LwWaiter}
use Rattle.lw_word.specs.WaitList.{without}
use Rattle.lock_table.specs.Put.{set_at}
use Rattle.lock_table.proofs.Lemmas.Put.{set_at-here, set_at-else, written-at}
use Rattle.lock_model.specs.declared.machine.state.Lists.{Lists}
use Rattle.lock_model.specs.Shows.{ShowsLists, waiters_of}
use Rattle.lock_model.specs.SleeperLists.{is_at}
use Rattle.lock_model.proofs.Lemmas.Shows.Changes.{get_or-set_at}
use Rattle.lock_model.proofs.Lemmas.SleeperLists.{waiters_of-push, waiters_of-push_else, waiters_of-without, waiters_of-without_else}

-- What the machine shows of wait lists and sleep words once one place of them was written.

module _ (shown : Lists) (words : ℕ → ℕ) (lists : ℕ → List LwWaiter) (have stand : ℕ → Option ℕ) (taken : ℕ → ℕ → Bool) (shows : ShowsLists shown words lists have stand taken) where
  -- A sleep word.
  pub sleep-set : (s a : ℕ) → s < 64 → ShowsLists (record shown { sleep = set shown.sleep s a }) (set_at words s a) lists have stand taken
  sleep-set s a below = record {
    sixty_four = length-set shown.sleep s a ∙ shows.sixty_four;
    sixty_four_have = shows.sixty_four_have;
    sixty_four_stand = shows.sixty_four_stand;
    sixty_four_off = shows.sixty_four_off;
    each_off = shows.each_off;
    sleep = λ k. get_or-set_at shown.sleep s a 0 words (subst (λ n. s < n) (sym shows.sixty_four) below) shows.sleep k;
    list = shows.list;
    has_list = shows.has_list;
    stands = shows.stands;
    off = shows.off;
  }

  -- The list that a session is in.
  pub stands-set : (s : ℕ) (a : Option ℕ) → s < 64 → ShowsLists (record shown { stands = set shown.stands s a }) words lists have (set_at stand s a) taken
  stands-set s a below = record {
    sixty_four = shows.sixty_four;
    sixty_four_have = shows.sixty_four_have;
    sixty_four_stand = length-set shown.stands s a ∙ shows.sixty_four_stand;
    sixty_four_off = shows.sixty_four_off;
    each_off = shows.each_off;
    sleep = shows.sleep;
    list = shows.list;
    has_list = shows.has_list;
    stands = λ k. get_or-set_at shown.stands s a None stand (subst (λ n. s < n) (sym shows.sixty_four_stand) below) shows.stands k;
    off = shows.off;
  }

  -- Whom a session has to wake.
  off-row : (s : ℕ) (row : List Bool) (its : ℕ → Bool) → s < 64 → length row ≡ 64 → ((j : ℕ) → get_or row j false ≡ its j)
      → ShowsLists (record shown { off = set shown.off s row }) words lists have stand (set_at taken s its)
  off-row s row its below sixty_four_in written = record {
    sixty_four = shows.sixty_four;
    sixty_four_have = shows.sixty_four_have;
    sixty_four_stand = shows.sixty_four_stand;
    sixty_four_off = length-set shown.off s row ∙ shows.sixty_four_off;
    each_off = λ k within. elim (cases_eq k s) [
      | inl is ↦ ap (λ i. length (get_or (set shown.off s row) i [])) is ∙ ap length (get_or-set_same shown.off s row [] in_off) ∙ sixty_four_in
      | inr other ↦ ap length (get_or-set_other shown.off s k row [] other) ∙ shows.each_off k within
    ];
    sleep = shows.sleep;
    list = shows.list;
    has_list = shows.has_list;
    stands = shows.stands;
    off = λ k. written-at (λ own its. (j : ℕ) → get_or own j false ≡ its j) shown.off s row [] taken its in_off written k (shows.off k);
  } where
    in_off : s < length shown.off
    in_off = subst (λ n. s < n) (sym shows.sixty_four_off) below

  -- Whether the session has another one to wake.
  pub off-set : (s o : ℕ) (b : Bool) → s < 64 → o < 64
      → ShowsLists (record shown { off = set shown.off s (set (get_or shown.off s []) o b) }) words lists have stand (set_at taken s (set_at (taken s) o b))
  off-set s o b below exists =
      off-row s (set (get_or shown.off s []) o b) (set_at (taken s) o b) below (length-set (get_or shown.off s []) o b ∙ shows.each_off s below)
      (get_or-set_at (get_or shown.off s []) o b false (taken s) (subst (λ n. o < n) (sym (shows.each_off s below)) exists) (shows.off s))

  -- The session has nobody to wake any more.
  pub off-emptied : (s : ℕ) → s < 64 → ShowsLists (record shown { off = set shown.off s (replicate 64 false) }) words lists have stand (set_at taken s (λ _. false))
  off-emptied s below = off-row s (replicate 64 false) (λ _. false) below (length-replicate {A = Bool} 64 false) (get_or-one_value 64 false)

  -- The wait list of one lock.
  list-changed : (after : Lists) (l : ℕ) (its : List LwWaiter) → waiters_of l after.sleepers.items ≡ its
      → ((k : ℕ) → k ≢ l → waiters_of k after.sleepers.items ≡ waiters_of k shown.sleepers.items)
      → ShowsLists (record shown { sleepers = after.sleepers }) words (set_at lists l its) have stand taken
  list-changed after l its is others = record {
    sixty_four = shows.sixty_four;
    sixty_four_have = shows.sixty_four_have;
    sixty_four_stand = shows.sixty_four_stand;
    sixty_four_off = shows.sixty_four_off;
    each_off = shows.each_off;
    sleep = shows.sleep;
    list = λ k. elim (cases_eq k l) [
      | inl same ↦ ap (λ j. waiters_of j after.sleepers.items) same ∙ is ∙ sym (set_at-here lists l its k same)
      | inr other ↦ others k other ∙ shows.list k ∙ sym (set_at-else lists l its k other)
    ];
    has_list = shows.has_list;
    stands = shows.stands;
    off = shows.off;
  }

  -- One more waits for the lock, after all others.
  pub list-joined : (after : Lists) (l : ℕ) (waiter : LwWaiter) → after.sleepers.items ≡ shown.sleepers.items ++ record { lock = l; waiter = waiter } ∷ []
      → ShowsLists (record shown { sleepers = after.sleepers }) words (set_at lists l (lists l ++ waiter ∷ [])) have stand taken
  list-joined after l waiter is =
      list-changed after l (lists l ++ waiter ∷ [])
      (ap (waiters_of l) is ∙ waiters_of-push l shown.sleepers.items (record { lock = l; waiter = waiter }) refl ∙ ap (λ own. own ++ waiter ∷ []) (shows.list l))
      (λ k other. ap (waiters_of k) is ∙ waiters_of-push_else k shown.sleepers.items (record { lock = l; waiter = waiter }) (λ e. other (sym e)))

  -- A session waits for it no more.
  pub list-left : (after : Lists) (l s : ℕ) → after.sleepers.items ≡ filter (λ e. not (is_at l s e)) shown.sleepers.items
      → ShowsLists (record shown { sleepers = after.sleepers }) words (set_at lists l (without s (lists l))) have stand taken
  list-left after l s is =
      list-changed after l (without s (lists l))
      (ap (waiters_of l) is ∙ waiters_of-without l s shown.sleepers.items ∙ ap (without s) (shows.list l))
      (λ k other. ap (waiters_of k) is ∙ waiters_of-without_else l k s shown.sleepers.items other)

-- A sleep word and the list that its session is in.
pub sleep-stands-set : (shown : Lists) (words : ℕ → ℕ) (lists : ℕ → List LwWaiter) (have stand : ℕ → Option ℕ) (taken : ℕ → ℕ → Bool) → ShowsLists shown words lists have stand taken
    → (s a : ℕ) (b : Option ℕ) → s < 64
    → ShowsLists (record shown { sleep = set shown.sleep s a; stands = set shown.stands s b }) (set_at words s a) lists have (set_at stand s b) taken
sleep-stands-set shown words lists have stand taken shows s a b below =
    stands-set (record shown { sleep = set shown.sleep s a }) (set_at words s a) lists have stand taken
    (sleep-set shown words lists have stand taken shows s a below) s b below

-- A sleep word, and whether a session has its session to wake.
pub sleep-off-set : (shown : Lists) (words : ℕ → ℕ) (lists : ℕ → List LwWaiter) (have stand : ℕ → Option ℕ) (taken : ℕ → ℕ → Bool) → ShowsLists shown words lists have stand taken
    → (s o a : ℕ) (b : Bool) → s < 64 → o < 64
    → ShowsLists (record shown { sleep = set shown.sleep o a; off = set shown.off s (set (get_or shown.off s []) o b) }) (set_at words o a) lists have stand (set_at taken s (set_at (taken s) o b))
sleep-off-set shown words lists have stand taken shows s o a b below exists =
    off-set (record shown { sleep = set shown.sleep o a }) (set_at words o a) lists have stand taken
    (sleep-set shown words lists have stand taken shows o a exists) s o b below exists
