use Rattle.std.proofs.Common.{◌≡◌, ◌≢◌, ◌⊎◌, ◌||◌, ℕ, ◌+◌, ◌≤◌, Bool, true, false, not, cond, List, [], ◌∷◌, ◌++◌, Some, None, refl, sym, ap, ◌∙◌, inl, inr, arith}
use Rattle.std.proofs.lemmas.Bool.{cases_eq, cases_Bool, both_ways, false≢true, false_from_ne_true, eqb-true, eq-eqb, ne_eqb, or_cases, or_left, or_right, cond-true, cond-false}
use Rattle.lw_word.specs.declared.wait_lists.LwWaiter.{LwWaiter}
use Rattle.lw_word.specs.WaitList.{is_of, stands_in, times_in, without}
use Rattle.lock_table.specs.Put.{set_at}
use Rattle.lock_table.proofs.Lemmas.Put.{set_at-here, set_at-else, set_at-each, row-else}
use Rattle.lock_world.specs.WaitLists.{Sleepers, SleepersAreInOrder, after_joining, after_leaving_list, after_taking_off, after_telling, after_seeing_none}
use Rattle.lock_table.proofs.Lemmas.HoldLists.{count_by-filter}
use Rattle.lock_world.proofs.Lemmas.Counters.Lists.{any-filter, count-cons, count-push}

-- Each step on a wait list leaves the sleepers in order.

-- Who stands behind a list that somebody joined: who stood there, or the one who joined.
pub stands-joined : (k : ℕ) (xs : List LwWaiter) (x : LwWaiter) → stands_in k (xs ++ x ∷ []) ≡ true → (stands_in k xs ≡ true) ⊎ (k ≡ x.session)
stands-joined k [] x there = elim (cases_Bool (is_of k x)) [
  | inl its ↦ inr (eqb-true k x.session its)
  | inr other ↦ absurd (both_ways false refl (sym (ap (λ b. b || false) other) ∙ there))
]
stands-joined k (y ∷ xs) x there = elim (or_cases (is_of k y) (stands_in k (xs ++ x ∷ [])) there) [
  | inl its ↦ inl (or_left (is_of k y) (stands_in k xs) its)
  | inr later ↦ elim (stands-joined k xs x later) [
    | inl was ↦ inl (or_right (is_of k y) (stands_in k xs) was)
    | inr same ↦ inr same
  ]
]

-- Who is left behind a list without somebody: who stood there, and not that one.
pub stands-left : (k s : ℕ) (xs : List LwWaiter) → stands_in k (without s xs) ≡ true → (stands_in k xs ≡ true) × (k ≢ s)
stands-left k s xs there = (any-filter (λ x. not (is_of s x)) (is_of k) xs there, λ same. none xs (ap (λ j. stands_in j (without s xs)) (sym same) ∙ there)) where
  none : (xs : List LwWaiter) → stands_in s (without s xs) ≡ true → ⊥
  none [] there = false≢true there
  none (x ∷ xs) there = elim (cases_Bool (is_of s x)) [
    | inl its ↦ none xs (ap (stands_in s) (sym (cond-false (not (is_of s x)) (x ∷ without s xs) (without s xs) (ap not its))) ∙ there)
    | inr other ↦ none xs (ap (λ b. b || stands_in s (without s xs)) (sym other)
        ∙ ap (stands_in s) (sym (cond-true (not (is_of s x)) (x ∷ without s xs) (without s xs) (ap not other))) ∙ there)
  ]

-- Nobody stands more often there than before.
times-left : (k s : ℕ) (xs : List LwWaiter) → times_in k (without s xs) ≤ times_in k xs
times-left k s xs = count_by-filter (is_of k) (λ x. not (is_of s x)) xs

-- Who does not stand in a list is not counted there.
times-none : (k : ℕ) (xs : List LwWaiter) → stands_in k xs ≡ false → times_in k xs ≡ 0
times-none k [] none = refl
times-none k (x ∷ xs) none = elim (cases_Bool (is_of k x)) [
  | inl its ↦ absurd (both_ways _ none (or_left (is_of k x) (stands_in k xs) its))
  | inr other ↦
      let rest = times-none k xs (sym (ap (λ b. b || stands_in k xs) other) ∙ none) in
      count-cons (is_of k) x xs ∙ (λ i. cond (other i) 1 0 + rest i)
]

-- Joining a list, with a sleep word of 0.
pub joining_list-safe : (s : Sleepers) (lock : ℕ) (x : LwWaiter) → SleepersAreInOrder s → s.sleep x.session ≡ 0 → SleepersAreInOrder (after_joining s lock x)
joining_list-safe s lock x order idle = record {
  named = λ l k there. elim (cases_eq k x.session) [
    | inl same ↦ set_at-here s.stands x.session (Some lock) k same ∙ ap Some (sym (its l k same there))
    | inr other ↦ set_at-else s.stands x.session (Some lock) k other ∙ order.named l k (was l k other there)
  ];
  waiting = λ l k there. elim (cases_eq k x.session) [
    | inl same ↦ set_at-here s.sleep x.session 1 k same
    | inr other ↦ set_at-else s.sleep x.session 1 k other ∙ order.waiting l k (was l k other there)
  ];
  once = λ l k. set_at-each (λ _ xs. times_in k xs ≤ 1) s.list lock joined (once k) (λ l _. order.once l k) l;
  idle = λ k none. elim (cases_eq k x.session) [
    | inl same ↦ let some : Some lock ≡ None = sym (set_at-here s.stands x.session (Some lock) k same) ∙ none in absurd (cc)
    | inr other ↦ set_at-else s.sleep x.session 1 k other ∙ order.idle k (sym (set_at-else s.stands x.session (Some lock) k other) ∙ none)
  ];
  taken_off = λ j k off. set_at-else s.sleep x.session 1 k (λ same. let none : s.sleep k ≡ 0 = ap s.sleep same ∙ idle in let two = order.taken_off j k off in omega (arith, none, two)) ∙ order.taken_off j k off;
  by_one = order.by_one;
} where
  joined : List LwWaiter
  joined = s.list lock ++ x ∷ []

  not_there : (l : ℕ) → stands_in x.session (s.list l) ≡ false
  not_there l = false_from_ne_true _ (λ there. let one = order.waiting l x.session there in omega (arith, one, idle))

  its : (l k : ℕ) → k ≡ x.session → stands_in k (set_at s.list lock joined l) ≡ true → l ≡ lock
  its l k same there = elim (cases_eq l lock) [
    | inl at_it ↦ at_it
    | inr away ↦ absurd (both_ways _ (not_there l) (ap (λ j. stands_in j (s.list l)) (sym same) ∙ ap (stands_in k) (sym (set_at-else s.list lock joined l away)) ∙ there))
  ]

  was : (l k : ℕ) → k ≢ x.session → stands_in k (set_at s.list lock joined l) ≡ true → stands_in k (s.list l) ≡ true
  was l k other there = elim (cases_eq l lock) [
    | inl at_it ↦ elim (stands-joined k (s.list lock) x (ap (stands_in k) (sym (set_at-here s.list lock joined l at_it)) ∙ there)) [
      | inl stood ↦ ap (λ i. stands_in k (s.list i)) at_it ∙ stood
      | inr same ↦ absurd (other same)
    ]
    | inr away ↦ ap (stands_in k) (sym (set_at-else s.list lock joined l away)) ∙ there
  ]

  once : (k : ℕ) → times_in k joined ≤ 1
  once k =
      let sum = count-push (is_of k) (s.list lock) x in
      elim (cases_eq k x.session) [
        | inl same ↦
            let none : times_in k (s.list lock) ≡ 0 = times-none k (s.list lock) (ap (λ j. stands_in j (s.list lock)) same ∙ not_there lock) in
            let one : ◌≡◌ {A = ℕ} (cond (is_of k x) 1 0) 1 = cond-true (is_of k x) 1 0 (eq-eqb k x.session same) in
            omega (arith, sum, none, one)
        | inr other ↦
            let before = order.once lock k in
            let none : ◌≡◌ {A = ℕ} (cond (is_of k x) 1 0) 0 = cond-false (is_of k x) 1 0 (ne_eqb k x.session other) in
            omega (arith, sum, before, none)
      ]

-- What a list without somebody leaves of all lists.
module _ (s : Sleepers) (lock gone : ℕ) (order : SleepersAreInOrder s) where
  abbrev lists : ℕ → List LwWaiter
  lists = set_at s.list lock (without gone (s.list lock))

  still : (l k : ℕ) → stands_in k (lists l) ≡ true → stands_in k (s.list l) ≡ true
  still l k there = elim (cases_eq l lock) [
    | inl at_it ↦ ap (λ i. stands_in k (s.list i)) at_it ∙ (stands-left k gone (s.list lock) (ap (stands_in k) (sym (set_at-here s.list lock _ l at_it)) ∙ there)).0
    | inr away ↦ ap (stands_in k) (sym (set_at-else s.list lock _ l away)) ∙ there
  ]

  once-left : (l k : ℕ) → times_in k (lists l) ≤ 1
  once-left l k = set_at-each (λ _ xs. times_in k xs ≤ 1) s.list lock (without gone (s.list lock))
      (let less = times-left k gone (s.list lock) in let before = order.once lock k in omega (arith, less, before)) (λ l _. order.once l k) l

  -- Whoever stood in this list stands in none without it.
  not_gone : stands_in gone (s.list lock) ≡ true → (l k : ℕ) → stands_in k (lists l) ≡ true → k ≢ gone
  not_gone stood l k there same = elim (cases_eq l lock) [
    | inl at_it ↦ (stands-left k gone (s.list lock) (ap (stands_in k) (sym (set_at-here s.list lock _ l at_it)) ∙ there)).1 same
    | inr away ↦
        let here = order.named lock gone stood in
        let else_where : s.stands gone ≡ Some l = ap s.stands (sym same) ∙ order.named l k (still l k there) in
        away (let e : Some lock ≡ Some l = sym here ∙ else_where in let same_lock : lock ≡ l = cc in sym same_lock)
  ]

-- Leaving the list.
pub leaving_list-safe : (s : Sleepers) (lock k : ℕ) → SleepersAreInOrder s → stands_in k (s.list lock) ≡ true → SleepersAreInOrder (after_leaving_list s lock k)
leaving_list-safe s lock k order stood = record {
  named = λ l j there. set_at-else s.stands k None j (not_gone s lock k order stood l j there) ∙ order.named l j (still s lock k order l j there);
  waiting = λ l j there. set_at-else s.sleep k 0 j (not_gone s lock k order stood l j there) ∙ order.waiting l j (still s lock k order l j there);
  once = once-left s lock k order;
  idle = λ j none. elim (cases_eq j k) [
    | inl same ↦ set_at-here s.sleep k 0 j same
    | inr other ↦ set_at-else s.sleep k 0 j other ∙ order.idle j (sym (set_at-else s.stands k None j other) ∙ none)
  ];
  taken_off = λ i j off. set_at-else s.sleep k 0 j (λ same. let one : s.sleep j ≡ 1 = ap s.sleep same ∙ order.waiting lock k stood in let two = order.taken_off i j off in omega (arith, one, two)) ∙ order.taken_off i j off;
  by_one = order.by_one;
}

-- Taking another session off the list.
pub taking_off-safe : (s : Sleepers) (lock i k : ℕ) → SleepersAreInOrder s → stands_in k (s.list lock) ≡ true → SleepersAreInOrder (after_taking_off s lock i k)
taking_off-safe s lock i k order stood = record {
  named = λ l j there. order.named l j (still s lock k order l j there);
  waiting = λ l j there. set_at-else s.sleep k 2 j (not_gone s lock k order stood l j there) ∙ order.waiting l j (still s lock k order l j there);
  once = once-left s lock k order;
  idle = λ j none. elim (cases_eq j k) [
    | inl same ↦ let some : Some lock ≡ None = sym (order.named lock k stood) ∙ ap s.stands (sym same) ∙ none in absurd (cc)
    | inr other ↦ set_at-else s.sleep k 2 j other ∙ order.idle j none
  ];
  taken_off = λ h j off. elim (cases_eq j k) [
    | inl same ↦ set_at-here s.sleep k 2 j same
    | inr other ↦ set_at-else s.sleep k 2 j other ∙ order.taken_off h j (was h j other off)
  ];
  by_one = λ h g j off its. elim (cases_eq j k) [
    | inl same ↦ new h j same off ∙ sym (new g j same its)
    | inr other ↦ order.by_one h g j (was h j other off) (was g j other its)
  ];
} where
  offs : ℕ → ℕ → Bool
  offs = set_at s.off i (set_at (s.off i) k true)

  was : (h j : ℕ) → j ≢ k → offs h j ≡ true → s.off h j ≡ true
  was h j other off = elim (cases_eq h i) [
    | inl same ↦ ap (λ g. s.off g j) same ∙ sym (set_at-else (s.off i) k true j other) ∙ ap (λ row. row j) (sym (set_at-here s.off i (set_at (s.off i) k true) h same)) ∙ off
    | inr away ↦ sym (row-else s.off i k true h j away) ∙ off
  ]

  new : (h j : ℕ) → j ≡ k → offs h j ≡ true → h ≡ i
  new h j same off = elim (cases_eq h i) [
    | inl its ↦ its
    | inr away ↦
        let before : s.off h k ≡ true = ap (s.off h) (sym same) ∙ sym (row-else s.off i k true h j away) ∙ off in
        let two = order.taken_off h k before in let one = order.waiting lock k stood in absurd (omega (arith, two, one))
  ]

-- Telling one of those taken off.
pub telling-safe : (s : Sleepers) (i k : ℕ) → SleepersAreInOrder s → s.off i k ≡ true → SleepersAreInOrder (after_telling s i k)
telling-safe s i k order mine = record {
  named = order.named;
  waiting = λ l j there. set_at-else s.sleep k 0 j (λ same. let one = order.waiting l j there in let two : s.sleep j ≡ 2 = ap s.sleep same ∙ order.taken_off i k mine in omega (arith, one, two)) ∙ order.waiting l j there;
  once = order.once;
  idle = λ j none. elim (cases_eq j k) [
    | inl same ↦ set_at-here s.sleep k 0 j same
    | inr other ↦ set_at-else s.sleep k 0 j other ∙ order.idle j none
  ];
  taken_off = λ h j off. set_at-else s.sleep k 0 j (told h j off) ∙ order.taken_off h j (was h j off);
  by_one = λ h g j off its. order.by_one h g j (was h j off) (was g j its);
} where
  offs : ℕ → ℕ → Bool
  offs = set_at s.off i (set_at (s.off i) k false)

  was : (h j : ℕ) → offs h j ≡ true → s.off h j ≡ true
  was h j off = elim (cases_eq h i) [
    | inl same ↦ elim (cases_eq j k) [
      | inl it ↦ absurd (both_ways false refl (sym (ap (λ row. row j) (set_at-here s.off i (set_at (s.off i) k false) h same) ∙ set_at-here (s.off i) k false j it) ∙ off))
      | inr other ↦ ap (λ g. s.off g j) same ∙ sym (set_at-else (s.off i) k false j other) ∙ ap (λ row. row j) (sym (set_at-here s.off i (set_at (s.off i) k false) h same)) ∙ off
    ]
    | inr away ↦ sym (row-else s.off i k false h j away) ∙ off
  ]

  told : (h j : ℕ) → offs h j ≡ true → j ≢ k
  told h j off same =
      let by : h ≡ i = order.by_one h i k (ap (s.off h) (sym same) ∙ was h j off) mine in
      both_ways (offs h j) (ap (λ row. row j) (set_at-here s.off i (set_at (s.off i) k false) h by) ∙ set_at-here (s.off i) k false j same) off

-- A session that closes tells nobody more: whom it took off is no more its to tell.
pub forgetting-safe : (s : Sleepers) (k : ℕ) → SleepersAreInOrder s → SleepersAreInOrder (record s { off = set_at s.off k (λ _. false) })
forgetting-safe s k safe = record {
  named = safe.named;
  waiting = safe.waiting;
  once = safe.once;
  idle = safe.idle;
  taken_off = λ i o off. safe.taken_off i o (was i o off);
  by_one = λ i j o off its. safe.by_one i j o (was i o off) (was j o its);
} where
  was : (i o : ℕ) → set_at s.off k (λ _. false) i o ≡ true → s.off i o ≡ true
  was i o = set_at-each (λ i row. row o ≡ true → s.off i o ≡ true) s.off k (λ _. false) (λ e. absurd (false≢true e)) (λ _ _ e. e) i

-- Seeing that one's sleep word shows 0.
pub seeing_none-safe : (s : Sleepers) (k : ℕ) → SleepersAreInOrder s → s.sleep k ≡ 0 → SleepersAreInOrder (after_seeing_none s k)
seeing_none-safe s k order zero = record {
  named = λ l j there. set_at-else s.stands k None j (λ same. let one = order.waiting l j there in let none : s.sleep j ≡ 0 = ap s.sleep same ∙ zero in omega (arith, one, none)) ∙ order.named l j there;
  waiting = order.waiting;
  once = order.once;
  idle = λ j none. elim (cases_eq j k) [
    | inl same ↦ ap s.sleep same ∙ zero
    | inr other ↦ order.idle j (sym (set_at-else s.stands k None j other) ∙ none)
  ];
  taken_off = order.taken_off;
  by_one = order.by_one;
}
