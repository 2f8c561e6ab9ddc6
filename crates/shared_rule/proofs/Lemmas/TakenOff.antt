use Rattle.std.proofs.Common.{◌≡◌, ℕ, zero, suc, ◌<◌, ◌≤◌, Bool, true, false, not, cond, ◌||◌, List, [], ◌∷◌, ◌++◌, filter, take, count_by, Some, None}
use Rattle.std.proofs.Common.{refl, sym, ap, ◌∙◌, subst, inl, inr, arith}
use Rattle.std.specs.Prelude.{if◌then◌else◌}
use Rattle.std.proofs.lemmas.Bool.{cases_eq, cases_Bool, both_ways, false_from_ne_true, eq-eqb, ne_eqb, or_cases, or_left, or_right, cond-true, cond-false}
use Rattle.std.specs.List.{list_any}
use Rattle.std.proofs.lemmas.List.{append_assoc}
use Rattle.lw_word.specs.declared.wait_lists.LwWaiter.{LwWaiter}
use Rattle.lw_word.specs.WaitList.{is_of, stands_in, times_in, without, wants_to_share, without_sharers, taken_off, left_waiting}
use Rattle.lw_word.specs.declared.wait_lists.TheConstants.{MOST_TAKEN_OFF}
use Rattle.lock_table.specs.Put.{set_at}
use Rattle.lock_table.proofs.Lemmas.Put.{set_at-here, set_at-else}
use Rattle.lock_table.proofs.Lemmas.HoldLists.{count_by-filter}
use Rattle.lock_world.specs.Account.{Account}
use Rattle.lock_world.proofs.Lemmas.Counters.Lists.{any-filter, count-cons}
use Rattle.shared_rule.specs.LwLocks.{no_lists}
use Rattle.shared_rule.specs.Wakeups.{all_taken_off, all_told, MayTakeAllOff, MayTellAll}

-- Taking off one after the other those whom a wakeup names leaves those whom it leaves, and telling each of
-- them leaves nobody to tell.

-- Whoever stands in a list is counted there, and whoever is not counted is missed by nobody.
some-counted : (k : ℕ) (ws : List LwWaiter) → stands_in k ws ≡ true → 0 < times_in k ws
some-counted k [] there = absurd (both_ways false refl there)
some-counted k (w ∷ ws) there =
    let sum = count-cons (is_of k) w ws in
    elim (or_cases (is_of k w) (stands_in k ws) there) [
      | inl its ↦ let one : ◌≡◌ {A = ℕ} (cond (is_of k w) 1 0) 1 = cond-true (is_of k w) 1 0 its in omega (arith, sum, one)
      | inr later ↦ let more = some-counted k ws later in omega (arith, sum, more)
    ]

absent : (k : ℕ) (ws : List LwWaiter) → times_in k ws ≡ 0 → without k ws ≡ ws
absent k [] none = refl
absent k (w ∷ ws) none =
    let sum = count-cons (is_of k) w ws in
    elim (cases_Bool (is_of k w)) [
      | inl its ↦ let one : ◌≡◌ {A = ℕ} (cond (is_of k w) 1 0) 1 = cond-true (is_of k w) 1 0 its in absurd (omega (arith, sum, one, none))
      | inr other ↦
          let rest : times_in k ws ≡ 0 = omega (arith, sum, none) in
          cond-true (not (is_of k w)) (w ∷ without k ws) (without k ws) (ap not other) ∙ ap (λ l. w ∷ l) (absent k ws rest)
    ]

pub left-alone : (k : ℕ) (ws : List LwWaiter) → stands_in k ws ≡ false → without k ws ≡ ws
left-alone k [] missing = refl
left-alone k (w ∷ ws) missing =
    let other : is_of k w ≡ false = false_from_ne_true (is_of k w) (λ its. both_ways (stands_in k (w ∷ ws)) missing (or_left (is_of k w) (stands_in k ws) its)) in
    let rest : stands_in k ws ≡ false = false_from_ne_true (stands_in k ws) (λ there. both_ways (stands_in k (w ∷ ws)) missing (or_right (is_of k w) (stands_in k ws) there)) in
    cond-true (not (is_of k w)) (w ∷ without k ws) (without k ws) (ap not other) ∙ ap (λ l. w ∷ l) (left-alone k ws rest)

-- One that stands in the middle of a list,
present : (ks : List LwWaiter) (w : LwWaiter) (ws : List LwWaiter) → stands_in w.session (ks ++ w ∷ ws) ≡ true
present [] w ws = or_left (is_of w.session w) (stands_in w.session ws) (eq-eqb w.session w.session refl)
present (k ∷ ks) w ws = or_right (is_of w.session k) (stands_in w.session (ks ++ w ∷ ws)) (present ks w ws)

-- and once, leaves the others.
between : (ks : List LwWaiter) (w : LwWaiter) (ws : List LwWaiter) → times_in w.session (ks ++ w ∷ ws) ≤ 1
    → without w.session (ks ++ w ∷ ws) ≡ ks ++ ws
between [] w ws once =
    let sum = count-cons (is_of w.session) w ws in
    let its : is_of w.session w ≡ true = eq-eqb w.session w.session refl in
    let one : ◌≡◌ {A = ℕ} (cond (is_of w.session w) 1 0) 1 = cond-true (is_of w.session w) 1 0 its in
    let rest : times_in w.session ws ≡ 0 = omega (arith, sum, one, once) in
    cond-false (not (is_of w.session w)) (w ∷ without w.session ws) (without w.session ws) (ap not its)
    ∙ absent w.session ws rest
between (k ∷ ks) w ws once =
    let sum = count-cons (is_of w.session) k (ks ++ w ∷ ws) in
    let some = some-counted w.session (ks ++ w ∷ ws) (present ks w ws) in
    elim (cases_Bool (is_of w.session k)) [
      | inl its ↦ let one : ◌≡◌ {A = ℕ} (cond (is_of w.session k) 1 0) 1 = cond-true (is_of w.session k) 1 0 its in
          absurd (omega (arith, sum, one, some, once))
      | inr other ↦
          let rest : times_in w.session (ks ++ w ∷ ws) ≤ 1 = omega (arith, sum, once) in
          cond-true (not (is_of w.session k)) (k ∷ without w.session (ks ++ w ∷ ws)) (without w.session (ks ++ w ∷ ws)) (ap not other)
          ∙ ap (λ l. k ∷ l) (between ks w ws rest)
    ]

-- Without it nobody is counted more often.
fewer : (k : ℕ) (ks : List LwWaiter) (w : LwWaiter) (ws : List LwWaiter) → times_in k (ks ++ ws) ≤ times_in k (ks ++ w ∷ ws)
fewer k [] w ws = let sum = count-cons (is_of k) w ws in omega (arith, sum)
fewer k (j ∷ ks) w ws =
    let sum = count-cons (is_of k) j (ks ++ ws) in
    let longer = count-cons (is_of k) j (ks ++ w ∷ ws) in
    let less = fewer k ks w ws in
    omega (arith, sum, longer, less)

-- These are taken off the list, each standing there when its turn comes, and leave those.
abbrev Leaves : List LwWaiter → List LwWaiter → List LwWaiter → Type 0
Leaves [] ws left = ws ≡ left
Leaves (t ∷ ts) ws left = (stands_in t.session ws ≡ true) × Leaves ts (without t.session ws) left

leaves-sharing : (many : ℕ) (ks xs : List LwWaiter) → ((k : ℕ) → times_in k (ks ++ xs) ≤ 1)
    → Leaves (take many (filter wants_to_share xs)) (ks ++ xs) (ks ++ without_sharers many xs)
leaves-sharing zero ks xs once = refl
leaves-sharing (suc many) ks [] once = refl
leaves-sharing (suc many) ks (x ∷ xs) once = elim (cases_Bool (wants_to_share x)) [
  | inl shares ↦
      let taken : take (suc many) (filter wants_to_share (x ∷ xs)) ≡ x ∷ take many (filter wants_to_share xs) =
      ap (take (suc many)) (cond-true (wants_to_share x) (x ∷ filter wants_to_share xs) (filter wants_to_share xs) shares) in
      let left : without_sharers (suc many) (x ∷ xs) ≡ without_sharers many xs =
      cond-true (wants_to_share x) (without_sharers many xs) (x ∷ without_sharers (suc many) xs) shares in
      let rest : Leaves (take many (filter wants_to_share xs)) (ks ++ xs) (ks ++ without_sharers many xs) =
      leaves-sharing many ks xs (λ k. let less = fewer k ks x xs in let was = once k in omega (arith, less, was)) in
      subst (λ l. Leaves l (ks ++ x ∷ xs) (ks ++ without_sharers (suc many) (x ∷ xs))) (sym taken) (
        present ks x xs,
        subst (λ l. Leaves (take many (filter wants_to_share xs)) l (ks ++ without_sharers (suc many) (x ∷ xs))) (sym (between ks x xs (once x.session)))
            (subst (λ l. Leaves (take many (filter wants_to_share xs)) (ks ++ xs) (ks ++ l)) (sym left) rest),
      )
  | inr alone ↦
      let taken : take (suc many) (filter wants_to_share (x ∷ xs)) ≡ take (suc many) (filter wants_to_share xs) =
      ap (take (suc many)) (cond-false (wants_to_share x) (x ∷ filter wants_to_share xs) (filter wants_to_share xs) alone) in
      let left : without_sharers (suc many) (x ∷ xs) ≡ x ∷ without_sharers (suc many) xs =
      cond-false (wants_to_share x) (without_sharers many xs) (x ∷ without_sharers (suc many) xs) alone in
      let whole : (ks ++ x ∷ []) ++ xs ≡ ks ++ x ∷ xs = append_assoc ks (x ∷ []) xs in
      let ends : (ks ++ x ∷ []) ++ without_sharers (suc many) xs ≡ ks ++ x ∷ without_sharers (suc many) xs = append_assoc ks (x ∷ []) (without_sharers (suc many) xs) in
      let rest : Leaves (take (suc many) (filter wants_to_share xs)) ((ks ++ x ∷ []) ++ xs) ((ks ++ x ∷ []) ++ without_sharers (suc many) xs) =
      leaves-sharing (suc many) (ks ++ x ∷ []) xs (λ k. subst (λ l. times_in k l ≤ 1) (sym whole) (once k)) in
      subst (λ l. Leaves l (ks ++ x ∷ xs) (ks ++ without_sharers (suc many) (x ∷ xs))) (sym taken)
      (subst (λ l. Leaves (take (suc many) (filter wants_to_share xs)) (ks ++ x ∷ xs) (ks ++ l)) (sym left)
      (subst (λ l. Leaves (take (suc many) (filter wants_to_share xs)) l (ks ++ x ∷ without_sharers (suc many) xs)) whole
      (subst (λ l. Leaves (take (suc many) (filter wants_to_share xs)) ((ks ++ x ∷ []) ++ xs) l) ends rest)))
]

leaves-taken : (ws : List LwWaiter) → ((k : ℕ) → times_in k ws ≤ 1) → Leaves (taken_off ws) ws (left_waiting ws)
leaves-taken [] once = refl
leaves-taken (first ∷ others) once = at (wants_to_share first) where
  at : (shares : Bool) → Leaves (if shares then take MOST_TAKEN_OFF (filter wants_to_share (first ∷ others)) else first ∷ []) (first ∷ others)
      (if shares then without_sharers MOST_TAKEN_OFF (first ∷ others) else others)
  at true = leaves-sharing MOST_TAKEN_OFF [] (first ∷ others) once
  at false = (present [] first others, between [] first others (once first.session))

-- What is taken off stood there, and no more often.
any-take : (test : LwWaiter → Bool) (many : ℕ) (ws : List LwWaiter) → list_any test (take many ws) ≡ true → list_any test ws ≡ true
any-take test zero ws there = absurd (both_ways false refl there)
any-take test (suc many) [] there = there
any-take test (suc many) (w ∷ ws) there = elim (or_cases (test w) (list_any test (take many ws)) there) [
  | inl its ↦ or_left (test w) (list_any test ws) its
  | inr later ↦ or_right (test w) (list_any test ws) (any-take test many ws later)
]

fewer-taken : (test : LwWaiter → Bool) (many : ℕ) (ws : List LwWaiter) → count_by test (take many ws) ≤ count_by test ws
fewer-taken test zero ws = omega arith
fewer-taken test (suc many) [] = omega arith
fewer-taken test (suc many) (w ∷ ws) =
    let sum = count-cons test w ws in
    let its = count-cons test w (take many ws) in
    let less = fewer-taken test many ws in
    omega (arith, sum, its, less)

pub taken-stood : (k : ℕ) (ws : List LwWaiter) → stands_in k (taken_off ws) ≡ true → stands_in k ws ≡ true
taken-stood k [] there = there
taken-stood k (first ∷ others) there = at (wants_to_share first) there where
  at : (shares : Bool) → stands_in k (if shares then take MOST_TAKEN_OFF (filter wants_to_share (first ∷ others)) else first ∷ []) ≡ true
      → stands_in k (first ∷ others) ≡ true
  at true there = any-filter wants_to_share (is_of k) (first ∷ others) (any-take (is_of k) MOST_TAKEN_OFF (filter wants_to_share (first ∷ others)) there)
  at false there = elim (or_cases (is_of k first) false there) [
    | inl its ↦ or_left (is_of k first) (stands_in k others) its
    | inr never ↦ absurd (both_ways false refl never)
  ]

taken-once : (k : ℕ) (ws : List LwWaiter) → times_in k ws ≤ 1 → times_in k (taken_off ws) ≤ 1
taken-once k [] once = once
taken-once k (first ∷ others) once = at (wants_to_share first) where
  at : (shares : Bool) → times_in k (if shares then take MOST_TAKEN_OFF (filter wants_to_share (first ∷ others)) else first ∷ []) ≤ 1
  at true =
      let some = fewer-taken (is_of k) MOST_TAKEN_OFF (filter wants_to_share (first ∷ others)) in
      let less = count_by-filter (is_of k) wants_to_share (first ∷ others) in
      omega (arith, some, less, once)
  at false =
      let sum = count-cons (is_of k) first others in
      let its = count-cons (is_of k) first [] in
      omega (arith, sum, its, once)

-- The account with a list in hand, and these to be told.
abbrev pub with_list : Account → ℕ → List LwWaiter → (ℕ → Bool) → Account
with_list a lock waiters off =
    record a { lists = record { in_hand = Some (record { lock = lock; waiters = waiters }); stands = None; off = off } }

abbrev pub to_tell : Account → (ℕ → Bool) → Account
to_tell a off = record a { lists = record { in_hand = None; stands = None; off = off } }

abbrev off_with : (ℕ → Bool) → List LwWaiter → ℕ → Bool
off_with off [] = off
off_with off (t ∷ ts) = off_with (set_at off t.session true) ts

off-all : (ts : List LwWaiter) (off : ℕ → Bool) (k : ℕ) → off_with off ts k ≡ (off k || stands_in k ts)
off-all [] off k = none (off k) where
  none : (b : Bool) → b ≡ (b || false)
  none true = refl
  none false = refl
off-all (t ∷ ts) off k = off-all ts (set_at off t.session true) k ∙ elim (cases_eq k t.session) [
  | inl same ↦
      ap (λ b. b || stands_in k ts) (set_at-here off t.session true k same)
      ∙ sym (or_right (off k) (is_of k t || stands_in k ts) (or_left (is_of k t) (stands_in k ts) (eq-eqb k t.session same)))
  | inr other ↦
      ap (λ b. b || stands_in k ts) (set_at-else off t.session true k other)
      ∙ sym (ap (λ b. off k || (b || stands_in k ts)) (ne_eqb k t.session other))
]

-- Taking off,
taking : (number : ℕ) (a : Account) (lock : ℕ) (ts ws left : List LwWaiter) (off : ℕ → Bool) → Leaves ts ws left
    → stands_in number ts ≡ false
    → MayTakeAllOff number (with_list a lock ws off) ts
    × (all_taken_off (with_list a lock ws off) ts ≡ with_list a lock left (off_with off ts))
taking number a lock [] ws left off leaves others = (tt, ap (λ l. with_list a lock l off) leaves)
taking number a lock (t ∷ ts) ws left off leaves others =
    let next = taking number a lock ts (without t.session ws) left (set_at off t.session true) leaves.1
    (false_from_ne_true (stands_in number ts) (λ there. both_ways (stands_in number (t ∷ ts)) others (or_right (is_of number t) (stands_in number ts) there))) in (
      (
        (
          record { lock = lock; waiters = ws },
          record {
            another = λ same. both_ways (stands_in number (t ∷ ts)) others (or_left (is_of number t) (stands_in number ts) (eq-eqb number t.session (sym same)));
            in_hand = refl;
            stands = leaves.0;
          },
        ),
        next.0,
      ),
      next.1,
    )

-- and telling.
telling : (a : Account) (ts : List LwWaiter) → ((k : ℕ) → times_in k ts ≤ 1)
    → MayTellAll (to_tell a (λ k. stands_in k ts)) ts × (all_told (to_tell a (λ k. stands_in k ts)) ts ≡ record a { lists = no_lists })
telling a [] once = (tt, refl)
telling a (t ∷ ts) once =
    let next = telling a ts (λ k. let sum = count-cons (is_of k) t ts in let was = once k in omega (arith, sum, was)) in
    let rest : ◌≡◌ {A = ℕ → Bool} (λ k. stands_in k ts) (set_at (λ k. stands_in k (t ∷ ts)) t.session false) = λ i k. at k i in (
      (
        record { taken_off = or_left (is_of t.session t) (stands_in t.session ts) (eq-eqb t.session t.session refl) },
        subst (λ off. MayTellAll (to_tell a off) ts) rest next.0,
      ),
      subst (λ off. all_told (to_tell a off) ts ≡ record a { lists = no_lists }) rest next.1,
    ) where
      at : (k : ℕ) → stands_in k ts ≡ set_at (λ j. stands_in j (t ∷ ts)) t.session false k
      at k = elim (cases_eq k t.session) [
        | inl same ↦
            false_from_ne_true (stands_in k ts) (λ there.
            let some = some-counted k ts there in
            let sum = count-cons (is_of k) t ts in
            let one : ◌≡◌ {A = ℕ} (cond (is_of k t) 1 0) 1 = cond-true (is_of k t) 1 0 (eq-eqb k t.session same) in
            let was = once k in
            omega (arith, some, sum, one, was))
            ∙ sym (set_at-here (λ j. stands_in j (t ∷ ts)) t.session false k same)
        | inr other ↦
            sym (ap (λ b. b || stands_in k ts) (ne_eqb k t.session other))
            ∙ sym (set_at-else (λ j. stands_in j (t ∷ ts)) t.session false k other)
      ]

module _ (number : ℕ) (a : Account) (lock : ℕ) (ws : List LwWaiter) (once : (k : ℕ) → times_in k ws ≤ 1)
    (other : stands_in number ws ≡ false) where
  not_taken : stands_in number (taken_off ws) ≡ false
  not_taken = false_from_ne_true (stands_in number (taken_off ws)) (λ there.
      both_ways (stands_in number ws) other (taken-stood number ws there))

  taken_of_list :
      MayTakeAllOff number (with_list a lock ws (λ _. false)) (taken_off ws)
      × (all_taken_off (with_list a lock ws (λ _. false)) (taken_off ws)
      ≡ with_list a lock (left_waiting ws) (off_with (λ _. false) (taken_off ws)))
  taken_of_list = taking number a lock (taken_off ws) ws (left_waiting ws) (λ _. false) (leaves-taken ws once) not_taken

  -- Whoever has the list in hand, and does not stand there, may take off all whom the wakeup names;
  pub may_take-off : MayTakeAllOff number (with_list a lock ws (λ _. false)) (taken_off ws)
  may_take-off = taken_of_list.0

  -- then those whom it leaves stand there,
  pub left-waiting : all_taken_off (with_list a lock ws (λ _. false)) (taken_off ws)
      ≡ with_list a lock (left_waiting ws) (λ k. stands_in k (taken_off ws))
  left-waiting = taken_of_list.1
      ∙ ap (with_list a lock (left_waiting ws)) (λ i k. off-all (taken_off ws) (λ _. false) k i)

  -- and once each is told, nobody is to be told.
  pub may_tell-all : MayTellAll (to_tell a (λ k. stands_in k (taken_off ws))) (taken_off ws)
  may_tell-all = (telling a (taken_off ws) (λ k. taken-once k ws (once k))).0

  pub all-told : all_told (to_tell a (λ k. stands_in k (taken_off ws))) (taken_off ws) ≡ record a { lists = no_lists }
  all-told = (telling a (taken_off ws) (λ k. taken-once k ws (once k))).1
