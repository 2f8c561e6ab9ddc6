use Rattle.std.proofs.Common.{◌≡◌, ◌≢◌, ℕ, ◌+◌, ◌*◌, ◌/◌, ◌%◌, ◌^◌, Bool, Option, Some, None, refl, sym, ap, ◌∙◌, subst, inl, inr, arith}
use Rattle.std.specs.Prelude.{◌==◌}
use Rattle.std.proofs.lemmas.Bool.{cases_eq, cond-true, cond-false, eq-eqb, ne_eqb}
use Rattle.lw_word.specs.LightweightWord.{list_locked_word, FlagsStay}
use Rattle.lw_word.proofs.Lemmas.Flags.{list_locked_word-locked}
use Rattle.lw_word.proofs.Lemmas.Words.{flags-list_locked}
use Rattle.lock_table.specs.Put.{set_at}
use Rattle.lock_table.proofs.Lemmas.Put.{set_at-here, set_at-else, set_at-each}
use Rattle.lock_world.specs.WaitLists.{partition_lock, fast_lock, lock_word, ShowsList, Sleepers, ListsAreSafe}

-- Words of lightweight locks by the locks' numbers, and what they show of wait lists.

module _ (partition fast : ℕ → ℕ) where
  pub even-word : (lock : ℕ) → lock % 2 ≡ 0 → lock_word partition fast lock ≡ partition (lock / 2)
  even-word lock even = cond-true (lock % 2 == 0) (partition (lock / 2)) (fast (lock / 2)) (eq-eqb (lock % 2) 0 even)

  pub odd-word : (lock : ℕ) → lock % 2 ≢ 0 → lock_word partition fast lock ≡ fast (lock / 2)
  odd-word lock odd = cond-false (lock % 2 == 0) (partition (lock / 2)) (fast (lock / 2)) (ne_eqb (lock % 2) 0 odd)

  -- The word of a partition's lock, and of a fast-path lock.
  pub lock_word-partition : (p : ℕ) → lock_word partition fast (partition_lock p) ≡ partition p
  lock_word-partition p = even-word (2 * p) (omega arith) ∙ ap partition (let half : 2 * p / 2 ≡ p = omega arith in half)

  pub lock_word-fast : (o : ℕ) → lock_word partition fast (fast_lock o) ≡ fast o
  lock_word-fast o = odd-word (2 * o + 1) (λ even. omega (arith, even)) ∙ ap fast (let half : (2 * o + 1) / 2 ≡ o = omega arith in half)

-- One word is set.
pub lock_word-set_partition : (partition fast : ℕ → ℕ) (p n : ℕ) → lock_word (set_at partition p n) fast ≡ set_at (lock_word partition fast) (partition_lock p) n
lock_word-set_partition partition fast p n = λ i lock. at lock i where
  at : (lock : ℕ) → lock_word (set_at partition p n) fast lock ≡ set_at (lock_word partition fast) (partition_lock p) n lock
  at lock =
      elim (cases_eq lock (partition_lock p)) [
        | inl same ↦
            ap (lock_word (set_at partition p n) fast) same ∙ lock_word-partition (set_at partition p n) fast p ∙ set_at-here partition p n p refl
            ∙ sym (set_at-here (lock_word partition fast) (partition_lock p) n lock same)
        | inr other ↦ elim (cases_eq (lock % 2) 0) [
          | inl even ↦
              even-word (set_at partition p n) fast lock even
              ∙ set_at-else partition p n (lock / 2) (λ half. other (let e : lock / 2 ≡ p = half in omega (arith, e, even)))
              ∙ sym (even-word partition fast lock even)
              ∙ sym (set_at-else (lock_word partition fast) (partition_lock p) n lock other)
          | inr odd ↦
              odd-word (set_at partition p n) fast lock odd ∙ sym (odd-word partition fast lock odd)
              ∙ sym (set_at-else (lock_word partition fast) (partition_lock p) n lock other)
        ]
      ]

pub lock_word-set_fast : (partition fast : ℕ → ℕ) (o n : ℕ) → lock_word partition (set_at fast o n) ≡ set_at (lock_word partition fast) (fast_lock o) n
lock_word-set_fast partition fast o n = λ i lock. at lock i where
  at : (lock : ℕ) → lock_word partition (set_at fast o n) lock ≡ set_at (lock_word partition fast) (fast_lock o) n lock
  at lock =
      elim (cases_eq lock (fast_lock o)) [
        | inl same ↦
            ap (lock_word partition (set_at fast o n)) same ∙ lock_word-fast partition (set_at fast o n) o ∙ set_at-here fast o n o refl
            ∙ sym (set_at-here (lock_word partition fast) (fast_lock o) n lock same)
        | inr other ↦ elim (cases_eq (lock % 2) 0) [
          | inl even ↦
              even-word partition (set_at fast o n) lock even ∙ sym (even-word partition fast lock even)
              ∙ sym (set_at-else (lock_word partition fast) (fast_lock o) n lock other)
          | inr odd ↦
              odd-word partition (set_at fast o n) lock odd
              ∙ set_at-else fast o n (lock / 2) (λ half. other (let e : lock / 2 ≡ o = half in omega (arith, e, odd)))
              ∙ sym (odd-word partition fast lock odd)
              ∙ sym (set_at-else (lock_word partition fast) (fast_lock o) n lock other)
        ]
      ]

-- All words show the lists.
abbrev pub ListsAreShown : (ℕ → ℕ) → (ℕ → Option ℕ) → Type 0
ListsAreShown word has_list = (lock : ℕ) → ShowsList (word lock) lock has_list

ShowsList-same : (old new lock : ℕ) (has : ℕ → Option ℕ) → new / 2 ^ 28 % 2 ≡ old / 2 ^ 28 % 2 → ShowsList old lock has → ShowsList new lock has
ShowsList-same old new lock has same shows = record {
  had_is_shown = λ k had. same ∙ shows.had_is_shown k had;
  shown_is_had = λ locked. shows.shown_is_had (sym same ∙ locked);
  by_one = shows.by_one;
}

module _ (word : ℕ → ℕ) (lock n : ℕ) (has : ℕ → Option ℕ) (shown : ListsAreShown word has) where
  -- A word changes, and not whether its list is locked.
  pub shown-kept : n / 2 ^ 28 % 2 ≡ word lock / 2 ^ 28 % 2 → ListsAreShown (set_at word lock n) has
  shown-kept same = set_at-each (λ l x. ShowsList x l has) word lock n (ShowsList-same (word lock) n lock has same (shown lock)) (λ l _. shown l)

  -- Who has another list has it still, and nobody else, where a session that had none, or this one, changes.
  module _ (s : ℕ) (its : Option ℕ) (was : (l : ℕ) → l ≢ lock → has s ≡ Some l → ⊥) (is : (l : ℕ) → l ≢ lock → its ≡ Some l → ⊥) where
    abbrev has' : ℕ → Option ℕ
    has' = set_at has s its

    has_before : (k l : ℕ) → l ≢ lock → has' k ≡ Some l → has k ≡ Some l
    has_before k l other had =
        elim (cases_eq k s) [
          | inl same ↦ absurd (is l other (sym (set_at-here has s its k same) ∙ had))
          | inr another ↦ sym (set_at-else has s its k another) ∙ had
        ]

    has_after : (k l : ℕ) → l ≢ lock → has k ≡ Some l → has' k ≡ Some l
    has_after k l other had =
        elim (cases_eq k s) [
          | inl same ↦ absurd (was l other (ap has (sym same) ∙ had))
          | inr another ↦ set_at-else has s its k another ∙ had
        ]

    others-shown : ShowsList n lock has' → ListsAreShown (set_at word lock n) has'
    others-shown here = set_at-each (λ l x. ShowsList x l has') word lock n here (λ l other. record {
      had_is_shown = λ k had. (shown l).had_is_shown k (has_before k l other had);
      shown_is_had = λ locked. let found = (shown l).shown_is_had locked in (found.0, has_after found.0 l other found.1);
      by_one = λ j k had its. (shown l).by_one j k (has_before j l other had) (has_before k l other its);
    })

-- A list that nobody has is locked.
pub shown-locked :
    (word : ℕ → ℕ) (lock s : ℕ) (has : ℕ → Option ℕ) → ListsAreShown word has → word lock / 2 ^ 28 % 2 ≡ 0 → has s ≡ None
    → ListsAreShown (set_at word lock (list_locked_word (word lock))) (set_at has s (Some lock))
shown-locked word lock s has shown unlocked none =
    others-shown word lock (list_locked_word (word lock)) has shown s (Some lock)
    (λ l other had. let e : None ≡ Some l = sym none ∙ had in absurd (cc)) (λ l other its. other (let e : lock ≡ l = cc in sym e))
    (record {
      had_is_shown = λ k had. list_locked_word-locked (word lock);
      shown_is_had = λ locked. (s, set_at-here has s (Some lock) s refl);
      by_one = λ j k had its. is_s j had ∙ sym (is_s k its);
    }) where
      is_s : (k : ℕ) → set_at has s (Some lock) k ≡ Some lock → k ≡ s
      is_s k had =
          elim (cases_eq k s) [
            | inl same ↦ same
            | inr another ↦
                let set : word lock / 2 ^ 28 % 2 ≡ 1 = (shown lock).had_is_shown k (sym (set_at-else has s (Some lock) k another) ∙ had) in
                absurd (omega (arith, set, unlocked))
          ]

-- A list is unlocked by the one who has it.
pub shown-unlocked :
    (word : ℕ → ℕ) (lock s n : ℕ) (has : ℕ → Option ℕ) → ListsAreShown word has → n / 2 ^ 28 % 2 ≡ 0 → has s ≡ Some lock
    → ListsAreShown (set_at word lock n) (set_at has s None)
shown-unlocked word lock s n has shown unlocked mine =
    others-shown word lock n has shown s None
    (λ l other had. other (let e : Some lock ≡ Some l = sym mine ∙ had in let same : lock ≡ l = cc in sym same)) (λ l other its. absurd (cc))
    (record {
      had_is_shown = λ k had. absurd (nobody k had);
      shown_is_had = λ locked. let set : n / 2 ^ 28 % 2 ≡ 1 = locked in absurd (omega (arith, set, unlocked));
      by_one = λ j k had its. absurd (nobody j had);
    }) where
      nobody : (k : ℕ) → set_at has s None k ≡ Some lock → ⊥
      nobody k had =
          elim (cases_eq k s) [
            | inl same ↦ let e : None ≡ Some lock = sym (set_at-here has s None k same) ∙ had in absurd (cc)
            | inr another ↦ another ((shown lock).by_one k s (sym (set_at-else has s None k another) ∙ had) mine)
          ]

-- What is safe of wait lists stays so where a word changes and its flags stay.
module _ (partition fast : ℕ → ℕ) (s : Sleepers) (has : ℕ → Option ℕ) (live : ℕ → Bool) (lists : ListsAreSafe partition fast s has live) where
  pub with_shown : (partition' fast' : ℕ → ℕ) → ListsAreShown (lock_word partition' fast') has → ListsAreSafe partition' fast' s has live
  with_shown partition' fast' shown = record { shown = shown; sleepers = lists.sleepers; no_list = lists.no_list; no_stand = lists.no_stand }

  pub kept-partition : (p n : ℕ) → n / 2 ^ 28 % 2 ≡ partition p / 2 ^ 28 % 2 → ListsAreSafe (set_at partition p n) fast s has live
  kept-partition p n same =
      with_shown (set_at partition p n) fast (subst (λ word. ListsAreShown word has) (sym (lock_word-set_partition partition fast p n))
      (shown-kept (lock_word partition fast) (partition_lock p) n has lists.shown (same ∙ ap (λ x. x / 2 ^ 28 % 2) (sym (lock_word-partition partition fast p)))))

  pub kept-fast : (o n : ℕ) → n / 2 ^ 28 % 2 ≡ fast o / 2 ^ 28 % 2 → ListsAreSafe partition (set_at fast o n) s has live
  kept-fast o n same =
      with_shown partition (set_at fast o n) (subst (λ word. ListsAreShown word has) (sym (lock_word-set_fast partition fast o n))
      (shown-kept (lock_word partition fast) (fast_lock o) n has lists.shown (same ∙ ap (λ x. x / 2 ^ 28 % 2) (sym (lock_word-fast partition fast o)))))

  pub flags-partition : (p n : ℕ) → FlagsStay (partition p) n → ListsAreSafe (set_at partition p n) fast s has live
  flags-partition p n stay = kept-partition p n (ap (λ x. x % 2) (flags-list_locked (partition p) n stay))

  pub flags-fast : (o n : ℕ) → FlagsStay (fast o) n → ListsAreSafe partition (set_at fast o n) s has live
  flags-fast o n stay = kept-fast o n (ap (λ x. x % 2) (flags-list_locked (fast o) n stay))
