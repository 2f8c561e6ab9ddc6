use Rattle.std.proofs.Common.{◌≡◌, ℕ, ◌<◌, Bool, true, false, List, [], length, get_or, refl, sym, ap, ◌∙◌, subst, inl, inr, arith}
use Rattle.std.specs.Prelude.{replicate}
use Rattle.std.proofs.Math.ListN.{set, length-set}
use Rattle.std.proofs.lemmas.Bool.{cases_eq, cases_lt, both_ways, false_from_ne_true}
use Rattle.std.proofs.lemmas.List.{get_or-set_same, get_or-set_other, get_or-replicate, get_or_past, length-replicate}
use Rattle.lock_table.specs.Put.{set_at}
use Rattle.lock_table.proofs.Lemmas.Lists.{any_found, found_within}
use Rattle.lock_table.proofs.Lemmas.Put.{column-here, column-else, written-at}
use Rattle.lock_model.specs.Shows.{ShowsMarks, has_a_mark}
use Rattle.lock_model.proofs.Lemmas.Shows.Places.{get_or-one_value}

-- The marks of who has which lightweight locks.

-- Where no mark is set nobody has a lock.
pub no_marks : (locks : ℕ) (marks : List (List Bool)) → marks ≡ replicate locks (replicate 64 false) → ShowsMarks marks locks (λ s lock. false)
no_marks locks marks is = record {
  as_many = ap length is ∙ length-replicate {A = List Bool} locks (replicate 64 false);
  sixty_four = λ lock within. ap (λ list. length (get_or list lock [])) is ∙ ap length (get_or-replicate locks lock (replicate 64 false) [] within) ∙ length-replicate {A = Bool} 64 false;
  mark = λ s lock. ap (λ list. get_or (get_or list lock []) s false) is ∙ none s lock;
} where
  none : (s lock : ℕ) → get_or (get_or (replicate locks (replicate 64 false)) lock []) s false ≡ false
  none s lock =
      elim (cases_lt lock locks) [
        | inl within ↦ ap (λ row. get_or row s false) (get_or-replicate locks lock (replicate 64 false) [] within) ∙ get_or-one_value 64 false s
        | inr past ↦ ap (λ row. get_or row s false) (get_or_past (replicate locks (replicate 64 false)) lock [] (let e = length-replicate {A = List Bool} locks (replicate 64 false) in omega (arith, e)))
      ]

-- One mark is written.
pub marks-set : (marks : List (List Bool)) (locks : ℕ) (has : ℕ → ℕ → Bool) (s lock : ℕ) (b : Bool) → ShowsMarks marks locks has → s < 64 → lock < locks
    → ShowsMarks (set marks lock (set (get_or marks lock []) s b)) locks (set_at has s (set_at (has s) lock b))
marks-set marks locks has s lock b shows below within = record {
  as_many = length-set marks lock row ∙ shows.as_many;
  sixty_four = λ k exists. elim (cases_eq k lock) [
    | inl same ↦ ap (λ i. length (get_or (set marks lock row) i [])) same ∙ ap length here ∙ length-set (get_or marks lock []) s b ∙ shows.sixty_four lock within
    | inr other ↦ ap length (get_or-set_other marks lock k row [] other) ∙ shows.sixty_four k exists
  ];
  mark = λ k j. elim (cases_eq j lock) [
    | inl same ↦
        ap (λ i. get_or (get_or (set marks lock row) i []) k false) same ∙ ap (λ list. get_or list k false) here
        ∙ written-at (λ own its. own ≡ its) (get_or marks lock []) s b false (λ i. has i lock) b in_row refl k (shows.mark k lock)
        ∙ sym (ap (λ q. set_at has s (set_at (has s) lock b) k q) same ∙ column-here has s lock b lock refl k)
    | inr other ↦
        ap (λ list. get_or list k false) (get_or-set_other marks lock j row [] other) ∙ shows.mark k j ∙ sym (column-else has s lock b j other k)
  ];
} where
  row : List Bool
  row = set (get_or marks lock []) s b

  in_marks : lock < length marks
  in_marks = subst (λ n. lock < n) (sym shows.as_many) within

  in_row : s < length (get_or marks lock [])
  in_row = subst (λ n. s < n) (sym (shows.sixty_four lock within)) below

  here : get_or (set marks lock row) lock [] ≡ row
  here = get_or-set_same marks lock row [] in_marks

-- What a look through all marks of a session shows.
pub no_mark : (marks : List (List Bool)) (locks : ℕ) (has : ℕ → ℕ → Bool) (s : ℕ) → ShowsMarks marks locks has → has_a_mark s marks ≡ false → (lock : ℕ) → has s lock ≡ false
no_mark marks locks has s shows none lock = false_from_ne_true _ (λ its.
    both_ways (has_a_mark s marks) none (found_within (λ of_lock. get_or of_lock s false) marks lock [] refl (shows.mark s lock ∙ its)))

pub some_mark : (marks : List (List Bool)) (locks : ℕ) (has : ℕ → ℕ → Bool) (s : ℕ) → ShowsMarks marks locks has → has_a_mark s marks ≡ true → ((lock : ℕ) → has s lock ≡ false) → ⊥
some_mark marks locks has s shows any none =
    let found = any_found (λ of_lock. get_or of_lock s false) marks any in
    both_ways (has s found.0) (none found.0) (sym (shows.mark s found.0) ∙ ap (λ of_lock. get_or of_lock s false) (found.3 []) ∙ found.4)
