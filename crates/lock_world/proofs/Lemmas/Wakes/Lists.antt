use Rattle.std.proofs.Common.{◌≡◌, ◌≢◌, ℕ, ◌/◌, ◌%◌, ◌^◌, ◌<◌, true, false, [], ◌∷◌, ◌++◌, Some, None, refl, sym, ap, ◌∙◌, subst, inl, inr, arith}
use Rattle.std.proofs.lemmas.Bool.{cases_eq, both_ways}
use Rattle.lw_word.specs.declared.wait_lists.LwWaiter.{LwWaiter}
use Rattle.lw_word.specs.LightweightWord.{HasWaiters}
use Rattle.lw_word.specs.WaitList.{stands_in, without}
use Rattle.lock_table.specs.Put.{set_at}
use Rattle.lock_table.proofs.Lemmas.Put.{set_at-here, set_at-else, set_at-each, row-else}
use Rattle.lock_world.specs.Wakes.Waking.{Waking, HasOkToSet, has_it, must_look, has_its_list, must_try, must_set_ok, NobodyIsForgotten, NoneOr}
use Rattle.lock_world.specs.Wakes.Events.{list_joined, list_left, waiter_taken_off, waiter_told, told_seen}
use Rattle.lock_world.proofs.Lemmas.Wakes.Readings.{not-none, one-lock, none_or-same, row-here, row-away, row-more, row-less, owes-by, ok-same}
use Rattle.lock_world.proofs.Lemmas.Wakes.Standing.{lists-joined, here-joined, grown, not_in, was_in, lists-left, not_here_left, was_in_left, not_in_left, still_in, no-list}

-- Steps on the list in hand, and telling those who were taken off it: nobody is forgotten.

-- Joining it, with has-waiters set.
pub joining-nobody :
    (w : Waking) (lock : ℕ) (x : LwWaiter) → NobodyIsForgotten w → w.has_list x.session ≡ Some lock → w.owes_release_ok x.session ≡ None
    → w.flagged x.session ≡ true → w.sleepers.sleep x.session ≡ 0 → NoneOr (w.tries x.session) lock → NobodyIsForgotten (list_joined w lock x)
joining-nobody w lock x safe in_hand no_ok flagged idle tried = record {
  shown = λ l some. elim (cases_eq l lock) [
    | inl same ↦ ap (λ j. w.word j / 2 ^ 30 % 2) same ∙ safe.flag_stays x.session lock in_hand flagged
    | inr away ↦ safe.shown l (some_before l away some)
  ];
  owed = λ l some. elim (cases_eq l lock) [
    | inl same ↦ (x.session, has_its_list (in_hand ∙ ap Some (sym same)))
    | inr away ↦ let o = safe.owed l (some_before l away some) in owes-by w (list_joined w lock x) l (o.0)
        (λ h. (o.0, has_it h)) (λ d. (o.0, must_look d)) (λ h. (o.0, has_its_list h))
        (λ t. (o.0, must_try (set_at-else w.tries x.session (Some lock) (o.0) (λ same. away (none_or-same (w.tries x.session) lock l tried (ap w.tries (sym same) ∙ t))) ∙ t)))
        (λ ok. (o.0, must_set_ok (again l (o.0) ok))) (o.1)
  ];
  release_ok = λ l clear. let f = safe.release_ok l clear in (f.0, again l (f.0) (f.1));
  flag_stays = safe.flag_stays;
  in_list = λ l k there. elim (cases_eq k x.session) [
    | inl same ↦ elim (cases_eq l lock) [
      | inl it ↦ set_at-here w.owes_release_ok x.session (Some lock) k same ∙ ap Some (sym it)
      | inr away ↦ absurd (not-none (w.owes_release_ok x.session) l no_ok
          (ap w.owes_release_ok (sym same) ∙ safe.in_list l k (ap (stands_in k) (sym (elsewhere l away)) ∙ there)))
    ]
    | inr other ↦ set_at-else w.owes_release_ok x.session (Some lock) k other ∙ safe.in_list l k (was_in w.sleepers.list lock x k l other there)
  ];
  of_hand = λ k o l has off. again l o (safe.of_hand k o l has off);
  waits = λ k one. elim (cases_eq k x.session) [
    | inl same ↦ (lock, ap (λ j. stands_in j (lists-joined w.sleepers.list lock x lock)) same ∙ here-joined w.sleepers.list lock x)
    | inr other ↦ let f = safe.waits k (sym (set_at-else w.sleepers.sleep x.session 1 k other) ∙ one) in (f.0, grown w.sleepers.list lock x k (f.0) (f.1))
  ];
  told = λ k two. elim (cases_eq k x.session) [
    | inl same ↦ let one : set_at w.sleepers.sleep x.session 1 k ≡ 1 = set_at-here w.sleepers.sleep x.session 1 k same in absurd (omega (arith, one, two))
    | inr other ↦ safe.told k (sym (set_at-else w.sleepers.sleep x.session 1 k other) ∙ two)
  ];
  few = λ k. set_at-each (λ _ n. n < 3) w.sleepers.sleep x.session 1 (omega arith) (λ j _. safe.few j) k;
} where
  elsewhere : (l : ℕ) → l ≢ lock → lists-joined w.sleepers.list lock x l ≡ w.sleepers.list l
  elsewhere l away = set_at-else w.sleepers.list lock (w.sleepers.list lock ++ x ∷ []) l away

  some_before : (l : ℕ) → l ≢ lock → lists-joined w.sleepers.list lock x l ≢ [] → w.sleepers.list l ≢ []
  some_before l away some none = some (elsewhere l away ∙ none)

  again : (l k : ℕ) → HasOkToSet w l k → HasOkToSet (list_joined w lock x) l k
  again l k ok =
      let other : k ≢ x.session = λ same. not-none (w.owes_release_ok x.session) l no_ok (ap w.owes_release_ok (sym same) ∙ ok.owes) in
      record { owes = set_at-else w.owes_release_ok x.session (Some lock) k other ∙ ok.owes; off_list = not_in w.sleepers.list lock x k l other ok.off_list }

-- A session that stands in a list goes off it.
module _ (w : Waking) (lock o : ℕ) (safe : NobodyIsForgotten w) (there : stands_in o (w.sleepers.list lock) ≡ true) where
  not_there_now : (l : ℕ) → stands_in o (lists-left w.sleepers.list lock o l) ≡ true → ⊥
  not_there_now l is = elim (cases_eq l lock) [
    | inl same ↦ both_ways (stands_in o (lists-left w.sleepers.list lock o l)) (ap (λ j. stands_in o (lists-left w.sleepers.list lock o j)) same ∙ not_here_left w.sleepers.list lock o) is
    | inr away ↦ away (one-lock (w.owes_release_ok o) l lock (safe.in_list l o (was_in_left w.sleepers.list lock o o l is)) (safe.in_list lock o there))
  ]

  some_before_left : (l : ℕ) → l ≢ lock → lists-left w.sleepers.list lock o l ≢ [] → w.sleepers.list l ≢ []
  some_before_left l away some none = some (set_at-else w.sleepers.list lock (without o (w.sleepers.list lock)) l away ∙ none)

  shown_left : (l : ℕ) → lists-left w.sleepers.list lock o l ≢ [] → HasWaiters (w.word l)
  shown_left l some = elim (cases_eq l lock) [
    | inl same ↦ safe.shown l (no-list o (w.sleepers.list l) (ap (λ j. stands_in o (w.sleepers.list j)) same ∙ there))
    | inr away ↦ safe.shown l (some_before_left l away some)
  ]

  -- Nobody off the list is the one that stood there.
  another : (l k : ℕ) → HasOkToSet w l k → k ≢ o
  another l k ok same =
      let its : l ≡ lock = one-lock (w.owes_release_ok o) l lock (ap w.owes_release_ok (sym same) ∙ ok.owes) (safe.in_list lock o there) in
      both_ways (stands_in k (w.sleepers.list l)) ok.off_list (ap (λ j. stands_in j (w.sleepers.list l)) same ∙ ap (λ j. stands_in o (w.sleepers.list j)) its ∙ there)

  -- Leaving the list in hand.
  pub leaving-nobody : w.has_list o ≡ Some lock → NobodyIsForgotten (list_left w lock o)
  leaving-nobody in_hand = record {
    shown = shown_left;
    owed = λ l some. elim (cases_eq l lock) [
      | inl same ↦ (o, has_its_list (in_hand ∙ ap Some (sym same)))
      | inr away ↦ let f = safe.owed l (some_before_left l away some) in owes-by w (list_left w lock o) l (f.0)
          (λ h. (f.0, has_it h)) (λ d. (f.0, must_look d)) (λ h. (f.0, has_its_list h)) (λ t. (f.0, must_try t)) (λ ok. (f.0, must_set_ok (again l (f.0) ok))) (f.1)
    ];
    release_ok = λ l clear. let f = safe.release_ok l clear in (f.0, again l (f.0) (f.1));
    flag_stays = safe.flag_stays;
    in_list = λ l k is.
        set_at-else w.owes_release_ok o None k (λ same. not_there_now l (ap (λ j. stands_in j (lists-left w.sleepers.list lock o l)) (sym same) ∙ is))
        ∙ safe.in_list l k (was_in_left w.sleepers.list lock o k l is);
    of_hand = λ h k l has off. again l k (safe.of_hand h k l has off);
    waits = λ k one. elim (cases_eq k o) [
      | inl same ↦ let none : set_at w.sleepers.sleep o 0 k ≡ 0 = set_at-here w.sleepers.sleep o 0 k same in absurd (omega (arith, none, one))
      | inr other ↦ let f = safe.waits k (sym (set_at-else w.sleepers.sleep o 0 k other) ∙ one) in (f.0, still_in w.sleepers.list lock o k (f.0) other (f.1))
    ];
    told = λ k two. elim (cases_eq k o) [
      | inl same ↦ let none : set_at w.sleepers.sleep o 0 k ≡ 0 = set_at-here w.sleepers.sleep o 0 k same in absurd (omega (arith, none, two))
      | inr other ↦ safe.told k (sym (set_at-else w.sleepers.sleep o 0 k other) ∙ two)
    ];
    few = λ k. set_at-each (λ _ n. n < 3) w.sleepers.sleep o 0 (omega arith) (λ j _. safe.few j) k;
  } where
    again : (l k : ℕ) → HasOkToSet w l k → HasOkToSet (list_left w lock o) l k
    again l k ok = record {
      owes = set_at-else w.owes_release_ok o None k (another l k ok) ∙ ok.owes;
      off_list = not_in_left w.sleepers.list lock o k l ok.off_list;
    }

  -- Taking another session off it.
  pub taking_off-nobody : (s : ℕ) → w.has_list s ≡ Some lock → NobodyIsForgotten (waiter_taken_off w lock s o)
  taking_off-nobody s in_hand = record {
    shown = shown_left;
    owed = λ l some. elim (cases_eq l lock) [
      | inl same ↦ (s, has_its_list (in_hand ∙ ap Some (sym same)))
      | inr away ↦ let f = safe.owed l (some_before_left l away some) in owes-by w (waiter_taken_off w lock s o) l (f.0)
          (λ h. (f.0, has_it h)) (λ d. (f.0, must_look d)) (λ h. (f.0, has_its_list h)) (λ t. (f.0, must_try t)) (λ ok. (f.0, must_set_ok (again l (f.0) ok))) (f.1)
    ];
    release_ok = λ l clear. let f = safe.release_ok l clear in (f.0, again l (f.0) (f.1));
    flag_stays = safe.flag_stays;
    in_list = λ l k is. safe.in_list l k (was_in_left w.sleepers.list lock o k l is);
    of_hand = λ h k l has off. elim (cases_eq k o) [
      | inr other ↦ again l k (safe.of_hand h k l has (sym (row-away w.sleepers.off s o true h k other) ∙ off))
      | inl same ↦ elim (cases_eq h s) [
        | inl mine ↦
            let its : l ≡ lock = one-lock (w.has_list s) l lock (ap w.has_list (sym mine) ∙ has) in_hand in
            subst (λ j. HasOkToSet (waiter_taken_off w lock s o) l j) (sym same) (subst (λ j. HasOkToSet (waiter_taken_off w lock s o) j o) (sym its) new)
        | inr another_hand ↦ again l k (safe.of_hand h k l has (sym (row-else w.sleepers.off s o true h k another_hand) ∙ off))
      ]
    ];
    waits = λ k one. elim (cases_eq k o) [
      | inl same ↦ let two : set_at w.sleepers.sleep o 2 k ≡ 2 = set_at-here w.sleepers.sleep o 2 k same in absurd (omega (arith, two, one))
      | inr other ↦ let f = safe.waits k (sym (set_at-else w.sleepers.sleep o 2 k other) ∙ one) in (f.0, still_in w.sleepers.list lock o k (f.0) other (f.1))
    ];
    told = λ k two. elim (cases_eq k o) [
      | inl same ↦ (s, ap (set_at w.sleepers.off s (set_at (w.sleepers.off s) o true) s) same ∙ row-here w.sleepers.off s o true)
      | inr other ↦ let f = safe.told k (sym (set_at-else w.sleepers.sleep o 2 k other) ∙ two) in (f.0, row-more w.sleepers.off s o (f.0) k (f.1))
    ];
    few = λ k. set_at-each (λ _ n. n < 3) w.sleepers.sleep o 2 (omega arith) (λ j _. safe.few j) k;
  } where
    again : (l k : ℕ) → HasOkToSet w l k → HasOkToSet (waiter_taken_off w lock s o) l k
    again l k ok = record { owes = ok.owes; off_list = not_in_left w.sleepers.list lock o k l ok.off_list }

    new : HasOkToSet (waiter_taken_off w lock s o) lock o
    new = record { owes = safe.in_list lock o there; off_list = not_here_left w.sleepers.list lock o }

-- Telling one that was taken off.
pub telling-nobody : (w : Waking) (s o : ℕ) → NobodyIsForgotten w → NobodyIsForgotten (waiter_told w s o)
telling-nobody w s o safe = record {
  shown = safe.shown;
  owed = λ l some. let f = safe.owed l some in owes-by w (waiter_told w s o) l (f.0)
      (λ h. (f.0, has_it h)) (λ d. (f.0, must_look d)) (λ h. (f.0, has_its_list h)) (λ t. (f.0, must_try t)) (λ ok. (f.0, must_set_ok (again l (f.0) ok))) (f.1);
  release_ok = λ l clear. let f = safe.release_ok l clear in (f.0, again l (f.0) (f.1));
  flag_stays = safe.flag_stays;
  in_list = safe.in_list;
  of_hand = λ h k l has off. again l k (safe.of_hand h k l has (row-less w.sleepers.off s o h k off));
  waits = λ k one. elim (cases_eq k o) [
    | inl same ↦ let none : set_at w.sleepers.sleep o 0 k ≡ 0 = set_at-here w.sleepers.sleep o 0 k same in absurd (omega (arith, none, one))
    | inr other ↦ safe.waits k (sym (set_at-else w.sleepers.sleep o 0 k other) ∙ one)
  ];
  told = λ k two. elim (cases_eq k o) [
    | inl same ↦ let none : set_at w.sleepers.sleep o 0 k ≡ 0 = set_at-here w.sleepers.sleep o 0 k same in absurd (omega (arith, none, two))
    | inr other ↦ let f = safe.told k (sym (set_at-else w.sleepers.sleep o 0 k other) ∙ two) in (f.0, row-away w.sleepers.off s o false (f.0) k other ∙ f.1)
  ];
  few = λ k. set_at-each (λ _ n. n < 3) w.sleepers.sleep o 0 (omega arith) (λ j _. safe.few j) k;
} where
  again : (l k : ℕ) → HasOkToSet w l k → HasOkToSet (waiter_told w s o) l k
  again l k ok = ok-same w (waiter_told w s o) l k refl refl ok

-- Seeing that one was told.
pub seeing_told-nobody : (w : Waking) (s : ℕ) → NobodyIsForgotten w → NobodyIsForgotten (told_seen w s)
seeing_told-nobody w s safe = record {
  shown = safe.shown;
  owed = λ l some. let f = safe.owed l some in owes-by w (told_seen w s) l (f.0)
      (λ h. (f.0, has_it h)) (λ d. (f.0, must_look d)) (λ h. (f.0, has_its_list h)) (λ t. (f.0, must_try t)) (λ ok. (f.0, must_set_ok (again l (f.0) ok))) (f.1);
  release_ok = λ l clear. let f = safe.release_ok l clear in (f.0, again l (f.0) (f.1));
  flag_stays = safe.flag_stays;
  in_list = safe.in_list;
  of_hand = λ h k l has off. again l k (safe.of_hand h k l has off);
  waits = safe.waits;
  told = safe.told;
  few = safe.few;
} where
  again : (l k : ℕ) → HasOkToSet w l k → HasOkToSet (told_seen w s) l k
  again l k ok = ok-same w (told_seen w s) l k refl refl ok
