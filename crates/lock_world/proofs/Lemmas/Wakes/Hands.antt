use Rattle.std.proofs.Common.{◌≡◌, ◌≢◌, ◌⊎◌, ℕ, ◌/◌, ◌%◌, ◌^◌, true, false, [], Some, None, refl, sym, ap, ◌∙◌, subst, inl, inr, arith}
use Rattle.std.proofs.lemmas.Bool.{cases_eq, both_ways}
use Rattle.lw_word.specs.LightweightWord.{IsReleaseOk, HasWaiters}
use Rattle.lw_word.specs.WaitList.{stands_in}
use Rattle.lock_table.specs.Put.{set_at}
use Rattle.lock_table.proofs.Lemmas.Put.{set_at-here, set_at-else}
use Rattle.lock_world.specs.WaitLists.{SleepersAreInOrder}
use Rattle.lock_world.specs.Wakes.Waking.{Waking, HasOkToSet, has_it, must_look, has_its_list, must_try, must_set_ok, IsOwed, NobodyIsForgotten, TellsNobody, NoneOr, IsLeftWell, nobody_waits, took_off, still_has, tries_next}
use Rattle.lock_world.specs.Wakes.Events.{list_unlocked, release_ok_set, release_ok_set_in_hand}
use Rattle.lock_world.proofs.Lemmas.Wakes.Readings.{none-some, not-none, one-lock, none_or-same, not-set, bit-kept, owes-by, ok-same}

-- Unlocking a list that is left well, and setting release-ok: nobody is forgotten.

-- The list was in one hand alone.
module _ (w : Waking) (s lock n : ℕ) (safe : NobodyIsForgotten w) (in_hand : w.has_list s ≡ Some lock)
    (by_one : (k : ℕ) → w.has_list k ≡ Some lock → k ≡ s) where
  pub unlocking-nobody :
      (w.sleepers.list lock ≢ [] → HasWaiters (w.word lock) → HasWaiters n)
      → (IsReleaseOk (w.word lock) → IsReleaseOk n) ⊎ ((other : ℕ) × (w.sleepers.off s other ≡ true))
      → IsLeftWell w lock s → NobodyIsForgotten (list_unlocked w s lock n)
  unlocking-nobody waiters release left = record {
    shown = λ l some. elim (cases_eq l lock) [
      | inl same ↦ ap (λ x. x / 2 ^ 30 % 2) (set_at-here w.word lock n l same)
          ∙ waiters (λ e. some (ap w.sleepers.list same ∙ e)) (ap (λ j. w.word j / 2 ^ 30 % 2) (sym same) ∙ safe.shown l some)
      | inr away ↦ ap (λ x. x / 2 ^ 30 % 2) (set_at-else w.word lock n l away) ∙ safe.shown l some
    ];
    owed = λ l some. elim (cases_eq l lock) [
      | inl same ↦ subst (IsOwed (list_unlocked w s lock n)) (sym same) (well left (λ e. some (ap w.sleepers.list same ∙ e)))
      | inr away ↦ let o = safe.owed l some in owes-by w (list_unlocked w s lock n) l (o.0)
          (λ h. (o.0, has_it h)) (λ d. (o.0, must_look d)) (λ h. (o.0, has_its_list (had l (o.0) away h)))
          (λ t. (o.0, must_try t)) (λ ok. (o.0, must_set_ok (again l (o.0) ok))) (o.1)
    ];
    release_ok = λ l clear. elim (cases_eq l lock) [
      | inl same ↦ subst (λ j. (k : ℕ) × HasOkToSet (list_unlocked w s lock n) j k) (sym same)
          (cleared release (λ ok. clear (ap (λ x. x / 2 ^ 29 % 2) (set_at-here w.word lock n l same) ∙ ok)))
      | inr away ↦
          let f = safe.release_ok l (λ was. clear (ap (λ x. x / 2 ^ 29 % 2) (set_at-else w.word lock n l away) ∙ was)) in
          (f.0, again l (f.0) (f.1))
    ];
    flag_stays = λ k l has flagged.
        let had_it : w.has_list k ≡ Some l = not-set w.has_list s k l has in
        let other : k ≢ s = λ same. none-some l (sym (set_at-here w.has_list s None k same) ∙ has) in
        ap (λ x. x / 2 ^ 30 % 2) (set_at-else w.word lock n l (λ same. other (by_one k (had_it ∙ ap Some same)))) ∙ safe.flag_stays k l had_it flagged;
    in_list = safe.in_list;
    of_hand = λ k o l has off. again l o (safe.of_hand k o l (not-set w.has_list s k l has) off);
    waits = safe.waits;
    told = safe.told;
    few = safe.few;
  } where
    again : (l k : ℕ) → HasOkToSet w l k → HasOkToSet (list_unlocked w s lock n) l k
    again l k ok = ok-same w (list_unlocked w s lock n) l k refl refl ok

    had : (l k : ℕ) → l ≢ lock → w.has_list k ≡ Some l → set_at w.has_list s None k ≡ Some l
    had l k away h = elim (cases_eq k s) [
      | inl same ↦ absurd (away (one-lock (w.has_list s) l lock (ap w.has_list (sym same) ∙ h) in_hand))
      | inr other ↦ set_at-else w.has_list s None k other ∙ h
    ]

    taken : (o : ℕ) → w.sleepers.off s o ≡ true → HasOkToSet (list_unlocked w s lock n) lock o
    taken o off = again lock o (safe.of_hand s o lock in_hand off)

    well : IsLeftWell w lock s → w.sleepers.list lock ≢ [] → IsOwed (list_unlocked w s lock n) lock
    well (nobody_waits none) some = absurd (some none)
    well (took_off o off) some = (o, must_set_ok (taken o off))
    well (still_has has) some = (s, has_it has)
    well (tries_next tries) some = (s, must_try tries)

    cleared : (IsReleaseOk (w.word lock) → IsReleaseOk n) ⊎ ((other : ℕ) × (w.sleepers.off s other ≡ true)) → (IsReleaseOk n → ⊥)
        → (k : ℕ) × HasOkToSet (list_unlocked w s lock n) lock k
    cleared (inl stays) clear = let f = safe.release_ok lock (λ was. clear (stays was)) in (f.0, again lock (f.0) (f.1))
    cleared (inr off) clear = (off.0, taken (off.0) (off.1))

module _ (w : Waking) (s lock n : ℕ) (safe : NobodyIsForgotten w) (owes : w.owes_release_ok s ≡ Some lock)
    (set : IsReleaseOk n) (waiters : HasWaiters (w.word lock) → HasWaiters n) where
  -- What is owed of release-ok by all but this session.
  still_owes : (k l : ℕ) → k ≢ s → w.owes_release_ok k ≡ Some l → set_at w.owes_release_ok s None k ≡ Some l
  still_owes k l other is = set_at-else w.owes_release_ok s None k other ∙ is

  -- Where release-ok is clear in some word yet, another owes it there.
  another : (l k : ℕ) → HasOkToSet w l k → (IsReleaseOk (set_at w.word lock n l) → ⊥) → k ≢ s
  another l k ok clear same =
      let its : l ≡ lock = one-lock (w.owes_release_ok s) l lock (ap w.owes_release_ok (sym same) ∙ ok.owes) owes in
      clear (ap (λ x. x / 2 ^ 29 % 2) (set_at-here w.word lock n l its) ∙ set)

  -- A session that was told sets release-ok, and attempts the lock next.
  pub setting_ok-nobody :
      SleepersAreInOrder w.sleepers → w.sleepers.stands s ≡ None → NoneOr (w.tries s) lock → NobodyIsForgotten (release_ok_set w s lock n)
  setting_ok-nobody order no_stand tried = record {
    shown = λ l some. bit-kept 30 w.word lock n waiters l (safe.shown l some);
    owed = λ l some. let o = safe.owed l some in owes-by w (release_ok_set w s lock n) l (o.0)
        (λ h. (o.0, has_it h)) (λ d. (o.0, must_look d)) (λ h. (o.0, has_its_list h)) (tries l (o.0)) (sets l (o.0)) (o.1);
    release_ok = λ l clear.
        let f = safe.release_ok l (λ was. clear (bit-kept 29 w.word lock n (λ _. set) l was)) in
        (f.0, record { owes = still_owes (f.0) l (another l (f.0) (f.1) clear) (f.1).owes; off_list = (f.1).off_list });
    flag_stays = λ k l has flagged. bit-kept 30 w.word lock n waiters l (safe.flag_stays k l has flagged);
    in_list = λ l k there.
        still_owes k l (λ same. not-none (w.sleepers.stands s) l no_stand (ap w.sleepers.stands (sym same) ∙ order.named l k there)) (safe.in_list l k there);
    of_hand = λ k o l has off. let f = safe.of_hand k o l has off in
        record { owes = still_owes o l (λ same. still k (ap (w.sleepers.off k) (sym same) ∙ off)) f.owes; off_list = f.off_list };
    waits = safe.waits;
    told = safe.told;
    few = safe.few;
  } where
    still : (k : ℕ) → w.sleepers.off k s ≡ true → ⊥
    still k off = let two = order.taken_off k s off in let none = order.idle s no_stand in omega (arith, two, none)

    tries : (l k : ℕ) → w.tries k ≡ Some l → IsOwed (release_ok_set w s lock n) l
    tries l k t = elim (cases_eq k s) [
      | inl same ↦ (s, must_try (set_at-here w.tries s (Some lock) s refl ∙ ap Some (sym (none_or-same (w.tries s) lock l tried (ap w.tries (sym same) ∙ t)))))
      | inr other ↦ (k, must_try (set_at-else w.tries s (Some lock) k other ∙ t))
    ]

    sets : (l k : ℕ) → HasOkToSet w l k → IsOwed (release_ok_set w s lock n) l
    sets l k ok = elim (cases_eq k s) [
      | inl same ↦ (s, must_try (set_at-here w.tries s (Some lock) s refl ∙ ap Some (one-lock (w.owes_release_ok s) lock l owes (ap w.owes_release_ok (sym same) ∙ ok.owes))))
      | inr other ↦ (k, must_set_ok (record { owes = still_owes k l other ok.owes; off_list = ok.off_list }))
    ]

  -- A session that has won the lock and finds itself off its list sets release-ok with the list in hand.
  pub setting_ok_in_hand-nobody :
      w.has_list s ≡ Some lock → ((k : ℕ) → w.has_list k ≡ Some lock → k ≡ s) → TellsNobody w.sleepers.off s
      → stands_in s (w.sleepers.list lock) ≡ false → NobodyIsForgotten (release_ok_set_in_hand w s lock n)
  setting_ok_in_hand-nobody in_hand by_one tells_none gone = record {
    shown = λ l some. bit-kept 30 w.word lock n waiters l (safe.shown l some);
    owed = λ l some. let o = safe.owed l some in owes-by w (release_ok_set_in_hand w s lock n) l (o.0)
        (λ h. (o.0, has_it h)) (λ d. (o.0, must_look d)) (λ h. (o.0, has_its_list h)) (λ t. (o.0, must_try t)) (sets l (o.0)) (o.1);
    release_ok = λ l clear.
        let f = safe.release_ok l (λ was. clear (bit-kept 29 w.word lock n (λ _. set) l was)) in
        (f.0, record { owes = still_owes (f.0) l (another l (f.0) (f.1) clear) (f.1).owes; off_list = (f.1).off_list });
    flag_stays = λ k l has flagged. bit-kept 30 w.word lock n waiters l (safe.flag_stays k l has flagged);
    in_list = λ l k there. still_owes k l (λ same. not_there l k same there) (safe.in_list l k there);
    of_hand = λ k o l has off. let f = safe.of_hand k o l has off in
        record {
          owes = still_owes o l (λ same. not_off k l has (ap w.owes_release_ok (sym same) ∙ f.owes) (ap (w.sleepers.off k) (sym same) ∙ off)) f.owes;
          off_list = f.off_list;
        };
    waits = safe.waits;
    told = safe.told;
    few = safe.few;
  } where
    not_there : (l k : ℕ) → k ≡ s → stands_in k (w.sleepers.list l) ≡ true → ⊥
    not_there l k same there =
        let mine : stands_in s (w.sleepers.list l) ≡ true = ap (λ j. stands_in j (w.sleepers.list l)) (sym same) ∙ there in
        let its : l ≡ lock = one-lock (w.owes_release_ok s) l lock (safe.in_list l s mine) owes in
        both_ways (stands_in s (w.sleepers.list lock)) gone (ap (λ j. stands_in s (w.sleepers.list j)) (sym its) ∙ mine)

    not_off : (k l : ℕ) → w.has_list k ≡ Some l → w.owes_release_ok s ≡ Some l → w.sleepers.off k s ≡ true → ⊥
    not_off k l has mine off =
        let its : l ≡ lock = one-lock (w.owes_release_ok s) l lock mine owes in
        let same : k ≡ s = by_one k (has ∙ ap Some its) in
        both_ways (w.sleepers.off s s) (tells_none s) (ap (λ j. w.sleepers.off j s) (sym same) ∙ off)

    sets : (l k : ℕ) → HasOkToSet w l k → IsOwed (release_ok_set_in_hand w s lock n) l
    sets l k ok = elim (cases_eq k s) [
      | inl same ↦ (s, has_its_list (in_hand ∙ ap Some (one-lock (w.owes_release_ok s) lock l owes (ap w.owes_release_ok (sym same) ∙ ok.owes))))
      | inr other ↦ (k, must_set_ok (record { owes = still_owes k l other ok.owes; off_list = ok.off_list }))
    ]
