use Rattle.std.proofs.Common.{◌≡◌, ◌≢◌, ℕ, true, false, not, List, [], ◌∷◌, ◌++◌, refl, sym, ap, ◌∙◌, inl, inr}
use Rattle.std.proofs.lemmas.Bool.{cases_eq, cases_Bool, both_ways, false≢true, false_from_ne_true, eqb-true, eq-eqb, ne_eqb, or_cases, or_left, or_right, cond-true, cond-false}
use Rattle.lw_word.specs.declared.wait_lists.LwWaiter.{LwWaiter}
use Rattle.lw_word.specs.WaitList.{is_of, stands_in, without}
use Rattle.lock_table.specs.Put.{set_at}
use Rattle.lock_table.proofs.Lemmas.Put.{set_at-here, set_at-else}
use Rattle.lock_world.proofs.Lemmas.WaitLists.{stands-joined, stands-left}

-- Who stands in a list after a step on it.

not-joined : (k : ℕ) (xs : List LwWaiter) (x : LwWaiter) → k ≢ x.session → stands_in k xs ≡ false → stands_in k (xs ++ x ∷ []) ≡ false
not-joined k xs x other none = false_from_ne_true (stands_in k (xs ++ x ∷ [])) (λ there. elim (stands-joined k xs x there) [
  | inl was ↦ both_ways (stands_in k xs) none was
  | inr same ↦ other same
])

still-joined : (k : ℕ) (xs : List LwWaiter) (x : LwWaiter) → stands_in k xs ≡ true → stands_in k (xs ++ x ∷ []) ≡ true
still-joined k [] x there = absurd (false≢true there)
still-joined k (y ∷ xs) x there = elim (or_cases (is_of k y) (stands_in k xs) there) [
  | inl its ↦ or_left (is_of k y) (stands_in k (xs ++ x ∷ [])) its
  | inr later ↦ or_right (is_of k y) (stands_in k (xs ++ x ∷ [])) (still-joined k xs x later)
]

pub joined : (xs : List LwWaiter) (x : LwWaiter) → stands_in x.session (xs ++ x ∷ []) ≡ true
joined [] x = or_left (is_of x.session x) false (eq-eqb x.session x.session refl)
joined (y ∷ xs) x = or_right (is_of x.session y) (stands_in x.session (xs ++ x ∷ [])) (joined xs x)

pub gone : (s : ℕ) (xs : List LwWaiter) → stands_in s (without s xs) ≡ false
gone s xs = false_from_ne_true (stands_in s (without s xs)) (λ there. (stands-left s s xs there).1 refl)

left : (k s : ℕ) (xs : List LwWaiter) → k ≢ s → stands_in k xs ≡ true → stands_in k (without s xs) ≡ true
left k s [] other there = absurd (false≢true there)
left k s (x ∷ xs) other there = elim (or_cases (is_of k x) (stands_in k xs) there) [
  | inl its ↦
      let stays : is_of s x ≡ false = ne_eqb s x.session (λ same. other (eqb-true k x.session its ∙ sym same)) in
      ap (stands_in k) (cond-true (not (is_of s x)) (x ∷ without s xs) (without s xs) (ap not stays)) ∙ or_left (is_of k x) (stands_in k (without s xs)) its
  | inr later ↦ elim (cases_Bool (is_of s x)) [
    | inl his ↦ ap (stands_in k) (cond-false (not (is_of s x)) (x ∷ without s xs) (without s xs) (ap not his)) ∙ left k s xs other later
    | inr stays ↦ ap (stands_in k) (cond-true (not (is_of s x)) (x ∷ without s xs) (without s xs) (ap not stays))
        ∙ or_right (is_of k x) (stands_in k (without s xs)) (left k s xs other later)
  ]
]

pub no-list : (k : ℕ) (xs : List LwWaiter) → stands_in k xs ≡ true → xs ≢ []
no-list k xs there none = false≢true (ap (stands_in k) (sym none) ∙ there)

-- Of all lists, where one is joined.
module _ (list : ℕ → List LwWaiter) (lock : ℕ) (x : LwWaiter) where
  abbrev pub lists-joined : ℕ → List LwWaiter
  lists-joined = set_at list lock (list lock ++ x ∷ [])

  pub here-joined : stands_in x.session (lists-joined lock) ≡ true
  here-joined = ap (stands_in x.session) (set_at-here list lock (list lock ++ x ∷ []) lock refl) ∙ joined (list lock) x

  pub grown : (k l : ℕ) → stands_in k (list l) ≡ true → stands_in k (lists-joined l) ≡ true
  grown k l there = elim (cases_eq l lock) [
    | inl same ↦ ap (stands_in k) (set_at-here list lock (list lock ++ x ∷ []) l same) ∙ still-joined k (list lock) x (ap (λ j. stands_in k (list j)) (sym same) ∙ there)
    | inr away ↦ ap (stands_in k) (set_at-else list lock (list lock ++ x ∷ []) l away) ∙ there
  ]

  pub not_in : (k l : ℕ) → k ≢ x.session → stands_in k (list l) ≡ false → stands_in k (lists-joined l) ≡ false
  not_in k l other none = elim (cases_eq l lock) [
    | inl same ↦ ap (stands_in k) (set_at-here list lock (list lock ++ x ∷ []) l same) ∙ not-joined k (list lock) x other (ap (λ j. stands_in k (list j)) (sym same) ∙ none)
    | inr away ↦ ap (stands_in k) (set_at-else list lock (list lock ++ x ∷ []) l away) ∙ none
  ]

  pub was_in : (k l : ℕ) → k ≢ x.session → stands_in k (lists-joined l) ≡ true → stands_in k (list l) ≡ true
  was_in k l other there = elim (cases_eq l lock) [
    | inl same ↦ elim (stands-joined k (list lock) x (ap (stands_in k) (sym (set_at-here list lock (list lock ++ x ∷ []) l same)) ∙ there)) [
      | inl stays ↦ ap (λ j. stands_in k (list j)) same ∙ stays
      | inr it ↦ absurd (other it)
    ]
    | inr away ↦ ap (stands_in k) (sym (set_at-else list lock (list lock ++ x ∷ []) l away)) ∙ there
  ]

-- Of all lists, where one is left.
module _ (list : ℕ → List LwWaiter) (lock o : ℕ) where
  abbrev pub lists-left : ℕ → List LwWaiter
  lists-left = set_at list lock (without o (list lock))

  pub not_here_left : stands_in o (lists-left lock) ≡ false
  not_here_left = ap (stands_in o) (set_at-here list lock (without o (list lock)) lock refl) ∙ gone o (list lock)

  pub was_in_left : (k l : ℕ) → stands_in k (lists-left l) ≡ true → stands_in k (list l) ≡ true
  was_in_left k l is = elim (cases_eq l lock) [
    | inl same ↦ ap (λ j. stands_in k (list j)) same ∙ (stands-left k o (list lock) (ap (stands_in k) (sym (set_at-here list lock (without o (list lock)) l same)) ∙ is)).0
    | inr away ↦ ap (stands_in k) (sym (set_at-else list lock (without o (list lock)) l away)) ∙ is
  ]

  pub not_in_left : (k l : ℕ) → stands_in k (list l) ≡ false → stands_in k (lists-left l) ≡ false
  not_in_left k l none = false_from_ne_true (stands_in k (lists-left l)) (λ is. both_ways (stands_in k (list l)) none (was_in_left k l is))

  pub still_in : (k l : ℕ) → k ≢ o → stands_in k (list l) ≡ true → stands_in k (lists-left l) ≡ true
  still_in k l other is = elim (cases_eq l lock) [
    | inl same ↦ ap (stands_in k) (set_at-here list lock (without o (list lock)) l same) ∙ left k o (list lock) other (ap (λ j. stands_in k (list j)) (sym same) ∙ is)
    | inr away ↦ ap (stands_in k) (set_at-else list lock (without o (list lock)) l away) ∙ is
  ]
