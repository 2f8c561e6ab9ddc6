use Rattle.std.proofs.Common.{◌≡◌, ◌≢◌, ◌⊎◌, ℕ, ◌/◌, ◌%◌, ◌^◌, ◌<◌, Bool, true, false, [], Option, Some, None, refl, sym, ap, ◌∙◌, subst, inl, inr}
use Rattle.std.proofs.lemmas.Bool.{cases_eq, both_ways}
use Rattle.lw_word.specs.LightweightWord.{IsHeldByNobody, IsListLocked, IsReleaseOk, HasWaiters}
use Rattle.lw_word.specs.WaitList.{stands_in}
use Rattle.lock_table.specs.Put.{set_at}
use Rattle.lock_table.proofs.Lemmas.Put.{set_at-here, set_at-else}
use Rattle.lock_world.specs.WaitLists.{ShowsList}
use Rattle.lock_world.specs.Wakes.Waking.{Waking, HasLock, IsHeld, HasOkToSet, has_it, must_look, has_its_list, must_try, must_set_ok, IsOwed, NobodyIsForgotten, TellsNobody, NoneOr}
use Rattle.lock_world.specs.Wakes.Events.{WakeFlagsStay, lock_taken, lock_put, list_locked, list_seen_locked, word_flagged, has_waiters_set, held_seen}
use Rattle.lock_world.proofs.Lemmas.Wakes.Readings.{one-lock, none_or-same, bit-kept, some-kept, owes-by, ok-same}

-- Steps that leave the lists, and what is owed of release-ok: nobody is forgotten by them where each list is
-- owed after them.

pub nobody-by :
    (w v : Waking) → NobodyIsForgotten w → v.sleepers ≡ w.sleepers → v.owes_release_ok ≡ w.owes_release_ok
    → ((l : ℕ) → HasWaiters (w.word l) → HasWaiters (v.word l)) → ((l : ℕ) → IsReleaseOk (w.word l) → IsReleaseOk (v.word l))
    → ((l : ℕ) → w.sleepers.list l ≢ [] → IsOwed v l)
    → ((k l : ℕ) → v.has_list k ≡ Some l → v.flagged k ≡ true → ((w.has_list k ≡ Some l) × (w.flagged k ≡ true)) ⊎ HasWaiters (v.word l))
    → ((k l : ℕ) → v.has_list k ≡ Some l → TellsNobody w.sleepers.off k ⊎ (w.has_list k ≡ Some l))
    → NobodyIsForgotten v
nobody-by w v safe lists owes waiters release owed flags hands = record {
  shown = λ l some. waiters l (safe.shown l (λ none. some (list l ∙ none)));
  owed = λ l some. owed l (λ none. some (list l ∙ none));
  release_ok = λ l clear. let f = safe.release_ok l (λ was. clear (release l was)) in (f.0, again l (f.0) (f.1));
  flag_stays = λ k l has flagged. elim (flags k l has flagged) [
    | inl was ↦ waiters l (safe.flag_stays k l was.0 was.1)
    | inr set ↦ set
  ];
  in_list = λ l k there. ap (λ g. g k) owes ∙ safe.in_list l k (ap (stands_in k) (sym (list l)) ∙ there);
  of_hand = λ k o l has off. let was_off : w.sleepers.off k o ≡ true = ap (λ a. a.off k o) (sym lists) ∙ off in
      elim (hands k l has) [
        | inl none ↦ absurd (both_ways (w.sleepers.off k o) (none o) was_off)
        | inr had ↦ again l o (safe.of_hand k o l had was_off)
      ];
  waits = λ k one. let f = safe.waits k (ap (λ a. a.sleep k) (sym lists) ∙ one) in (f.0, ap (stands_in k) (list (f.0)) ∙ f.1);
  told = λ k two. let f = safe.told k (ap (λ a. a.sleep k) (sym lists) ∙ two) in (f.0, ap (λ a. a.off (f.0) k) lists ∙ f.1);
  few = λ k. subst (λ a. a.sleep k < 3) (sym lists) (safe.few k);
} where
  list : (l : ℕ) → v.sleepers.list l ≡ w.sleepers.list l
  list l = ap (λ a. a.list l) lists

  again : (l k : ℕ) → HasOkToSet w l k → HasOkToSet v l k
  again l k ok = ok-same w v l k (ap (λ g. g k) owes) (list l) ok

-- The two flags of one word stay, and so of all words.
pub waiters-stay : (word : ℕ → ℕ) (lock n : ℕ) → WakeFlagsStay (word lock) n → (l : ℕ) → HasWaiters (word l) → HasWaiters (set_at word lock n l)
waiters-stay word lock n stay l = bit-kept 30 word lock n (λ was. stay.has_waiters ∙ was) l

pub release-stays : (word : ℕ → ℕ) (lock n : ℕ) → WakeFlagsStay (word lock) n → (l : ℕ) → IsReleaseOk (word l) → IsReleaseOk (set_at word lock n l)
release-stays word lock n stay l = bit-kept 29 word lock n (λ was. stay.release_ok ∙ was) l

-- Taking or sharing a lock: who has it owes, in place of who was to attempt it.
pub taking-nobody :
    (w : Waking) (s lock n : ℕ) (holds shares : ℕ → ℕ → Bool) → NobodyIsForgotten w → WakeFlagsStay (w.word lock) n → NoneOr (w.tries s) lock
    → ((k l : ℕ) → HasLock w k l → HasLock (lock_taken w s lock n holds shares) k l) → HasLock (lock_taken w s lock n holds shares) s lock
    → NobodyIsForgotten (lock_taken w s lock n holds shares)
taking-nobody w s lock n holds shares safe stay tried more has =
    nobody-by w v safe refl refl (waiters-stay w.word lock n stay) (release-stays w.word lock n stay)
    (λ l some. let o = safe.owed l some in owes-by w v l (o.0)
    (λ h. (o.0, has_it (more (o.0) l h))) (λ d. (o.0, must_look d)) (λ h. (o.0, has_its_list h)) (tries l (o.0))
    (λ ok. (o.0, must_set_ok (ok-same w v l (o.0) refl refl ok))) (o.1))
    (λ k l has flagged. inl (has, flagged)) (λ k l has. inr has) where
      v : Waking
      v = lock_taken w s lock n holds shares

      tries : (l k : ℕ) → w.tries k ≡ Some l → IsOwed (lock_taken w s lock n holds shares) l
      tries l k t = elim (cases_eq k s) [
        | inl same ↦ (s, has_it (subst (HasLock (lock_taken w s lock n holds shares) s) (sym (none_or-same (w.tries s) lock l tried (ap w.tries (sym same) ∙ t))) has))
        | inr other ↦ (k, must_try (set_at-else w.tries s None k other ∙ t))
      ]

-- Putting a lock: where somebody waits, another has it yet, or release-ok is clear, or a look is due.
pub putting-nobody :
    (w : Waking) (s lock n : ℕ) (due : Option ℕ) (holds shares : ℕ → ℕ → Bool) → NobodyIsForgotten w → WakeFlagsStay (w.word lock) n
    → w.due s ≡ None → (IsHeldByNobody n → HasWaiters n → IsReleaseOk n → due ≡ Some lock)
    → ((k l : ℕ) → l ≢ lock → HasLock w k l → HasLock (lock_put w s lock n due holds shares) k l)
    → ((IsHeldByNobody n → ⊥) → IsHeld (lock_put w s lock n due holds shares) lock)
    → NobodyIsForgotten (lock_put w s lock n due holds shares)
putting-nobody w s lock n due holds shares safe stay none looks others held =
    nobody-by w (lock_put w s lock n due holds shares) safe refl refl (waiters-stay w.word lock n stay) (release-stays w.word lock n stay)
    (λ l some. elim (cases_eq l lock) [
      | inl same ↦ subst (IsOwed (lock_put w s lock n due holds shares)) (sym same) (here (λ e. some (ap w.sleepers.list same ∙ e)))
      | inr away ↦ let o = safe.owed l some in owes-by w (lock_put w s lock n due holds shares) l (o.0)
          (λ h. (o.0, has_it (others (o.0) l away h))) (λ d. (o.0, must_look (some-kept w.due s due (o.0) l none d))) (λ h. (o.0, has_its_list h))
          (λ t. (o.0, must_try t)) (λ ok. (o.0, must_set_ok (ok-same w (lock_put w s lock n due holds shares) l (o.0) refl refl ok))) (o.1)
    ])
    (λ k l has flagged. inl (has, flagged)) (λ k l has. inr has) where
      here : w.sleepers.list lock ≢ [] → IsOwed (lock_put w s lock n due holds shares) lock
      here some = elim (cases_eq (n % 2 ^ 25) 0) [
        | inr not_free ↦ let h = held not_free in (h.0, has_it (h.1))
        | inl free ↦ elim (cases_eq (n / 2 ^ 29 % 2) 1) [
          | inl ok ↦ (s, must_look (set_at-here w.due s due s refl ∙ looks free (stay.has_waiters ∙ safe.shown lock some) ok))
          | inr clear ↦ let f = safe.release_ok lock (λ was. clear (stay.release_ok ∙ was)) in
              (f.0, must_set_ok (ok-same w (lock_put w s lock n due holds shares) lock (f.0) refl refl (f.1)))
        ]
      ]

-- Locking a list that is not locked: the hand that has it owes, in place of who was to look at it.
pub locking-nobody :
    (w : Waking) (s lock n : ℕ) → NobodyIsForgotten w → WakeFlagsStay (w.word lock) n → NoneOr (w.due s) lock → w.has_list s ≡ None
    → TellsNobody w.sleepers.off s → NobodyIsForgotten (list_locked w s lock n)
locking-nobody w s lock n safe stay due no_list tells_none =
    nobody-by w (list_locked w s lock n) safe refl refl (waiters-stay w.word lock n stay) (release-stays w.word lock n stay)
    (λ l some. let o = safe.owed l some in owes-by w (list_locked w s lock n) l (o.0)
    (λ h. (o.0, has_it h)) (looks l (o.0)) (λ h. (o.0, has_its_list (some-kept w.has_list s (Some lock) (o.0) l no_list h)))
    (λ t. (o.0, must_try t)) (λ ok. (o.0, must_set_ok (ok-same w (list_locked w s lock n) l (o.0) refl refl ok))) (o.1))
    flags hands where
      looks : (l k : ℕ) → w.due k ≡ Some l → IsOwed (list_locked w s lock n) l
      looks l k d = elim (cases_eq k s) [
        | inl same ↦
            let its : l ≡ lock = none_or-same (w.due s) lock l due (ap w.due (sym same) ∙ d) in
            (s, has_its_list (set_at-here w.has_list s (Some lock) s refl ∙ ap Some (sym its)))
        | inr other ↦ (k, must_look (set_at-else w.due s None k other ∙ d))
      ]

      flags : (k l : ℕ) → set_at w.has_list s (Some lock) k ≡ Some l → set_at w.flagged s false k ≡ true
          → ((w.has_list k ≡ Some l) × (w.flagged k ≡ true)) ⊎ HasWaiters (set_at w.word lock n l)
      flags k l has flagged = elim (cases_eq k s) [
        | inl same ↦ absurd (both_ways (set_at w.flagged s false k) (set_at-here w.flagged s false k same) flagged)
        | inr other ↦ inl (sym (set_at-else w.has_list s (Some lock) k other) ∙ has, sym (set_at-else w.flagged s false k other) ∙ flagged)
      ]

      hands : (k l : ℕ) → set_at w.has_list s (Some lock) k ≡ Some l → TellsNobody w.sleepers.off k ⊎ (w.has_list k ≡ Some l)
      hands k l has = elim (cases_eq k s) [
        | inl same ↦ inl (subst (TellsNobody w.sleepers.off) (sym same) tells_none)
        | inr other ↦ inr (sym (set_at-else w.has_list s (Some lock) k other) ∙ has)
      ]

-- Seeing a list locked: whoever has it owes.
pub seeing_locked-nobody :
    (w : Waking) (s lock : ℕ) → NobodyIsForgotten w → NoneOr (w.due s) lock → ShowsList (w.word lock) lock w.has_list → IsListLocked (w.word lock)
    → NobodyIsForgotten (list_seen_locked w s)
seeing_locked-nobody w s lock safe due shows locked =
    nobody-by w (list_seen_locked w s) safe refl refl (λ l was. was) (λ l was. was)
    (λ l some. let o = safe.owed l some in owes-by w (list_seen_locked w s) l (o.0)
    (λ h. (o.0, has_it h)) (looks l (o.0)) (λ h. (o.0, has_its_list h)) (λ t. (o.0, must_try t))
    (λ ok. (o.0, must_set_ok (ok-same w (list_seen_locked w s) l (o.0) refl refl ok))) (o.1))
    (λ k l has flagged. inl (has, flagged)) (λ k l has. inr has) where
      looks : (l k : ℕ) → w.due k ≡ Some l → IsOwed (list_seen_locked w s) l
      looks l k d = elim (cases_eq k s) [
        | inl same ↦
            let its : l ≡ lock = none_or-same (w.due s) lock l due (ap w.due (sym same) ∙ d) in
            let has = shows.shown_is_had locked in
            (has.0, has_its_list (has.1 ∙ ap Some (sym its)))
        | inr other ↦ (k, must_look (set_at-else w.due s None k other ∙ d))
      ]

-- Seeing that the lock is held: whoever has it owes.
pub seeing_held-nobody : (w : Waking) (s lock : ℕ) → NobodyIsForgotten w → NoneOr (w.tries s) lock → IsHeld w lock → NobodyIsForgotten (held_seen w s)
seeing_held-nobody w s lock safe tried held =
    nobody-by w (held_seen w s) safe refl refl (λ l was. was) (λ l was. was)
    (λ l some. let o = safe.owed l some in owes-by w (held_seen w s) l (o.0)
    (λ h. (o.0, has_it h)) (λ d. (o.0, must_look d)) (λ h. (o.0, has_its_list h)) (tries l (o.0))
    (λ ok. (o.0, must_set_ok (ok-same w (held_seen w s) l (o.0) refl refl ok))) (o.1))
    (λ k l has flagged. inl (has, flagged)) (λ k l has. inr has) where
      tries : (l k : ℕ) → w.tries k ≡ Some l → IsOwed (held_seen w s) l
      tries l k t = elim (cases_eq k s) [
        | inl same ↦ subst (IsOwed (held_seen w s)) (sym (none_or-same (w.tries s) lock l tried (ap w.tries (sym same) ∙ t))) (held.0, has_it (held.1))
        | inr other ↦ (k, must_try (set_at-else w.tries s None k other ∙ t))
      ]

-- Setting flags in a word, has-waiters with the list in hand among them.
pub flagging-nobody :
    (w : Waking) (lock n : ℕ) → NobodyIsForgotten w → (HasWaiters (w.word lock) → HasWaiters n) → (IsReleaseOk (w.word lock) → IsReleaseOk n)
    → NobodyIsForgotten (word_flagged w lock n)
flagging-nobody w lock n safe waiters release =
    nobody-by w (word_flagged w lock n) safe refl refl (bit-kept 30 w.word lock n waiters) (bit-kept 29 w.word lock n release)
    (λ l some. let o = safe.owed l some in owes-by w (word_flagged w lock n) l (o.0)
    (λ h. (o.0, has_it h)) (λ d. (o.0, must_look d)) (λ h. (o.0, has_its_list h)) (λ t. (o.0, must_try t))
    (λ ok. (o.0, must_set_ok (ok-same w (word_flagged w lock n) l (o.0) refl refl ok))) (o.1))
    (λ k l has flagged. inl (has, flagged)) (λ k l has. inr has)

pub showing_waiters-nobody :
    (w : Waking) (s lock n : ℕ) → NobodyIsForgotten w → w.has_list s ≡ Some lock → HasWaiters n → (IsReleaseOk (w.word lock) → IsReleaseOk n)
    → NobodyIsForgotten (has_waiters_set w s lock n)
showing_waiters-nobody w s lock n safe in_hand set release =
    nobody-by w (has_waiters_set w s lock n) safe refl refl (bit-kept 30 w.word lock n (λ _. set)) (bit-kept 29 w.word lock n release)
    (λ l some. let o = safe.owed l some in owes-by w (has_waiters_set w s lock n) l (o.0)
    (λ h. (o.0, has_it h)) (λ d. (o.0, must_look d)) (λ h. (o.0, has_its_list h)) (λ t. (o.0, must_try t))
    (λ ok. (o.0, must_set_ok (ok-same w (has_waiters_set w s lock n) l (o.0) refl refl ok))) (o.1))
    flags (λ k l has. inr has) where
      flags : (k l : ℕ) → w.has_list k ≡ Some l → set_at w.flagged s true k ≡ true
          → ((w.has_list k ≡ Some l) × (w.flagged k ≡ true)) ⊎ HasWaiters (set_at w.word lock n l)
      flags k l has flagged = elim (cases_eq k s) [
        | inl same ↦
            let its : l ≡ lock = one-lock (w.has_list s) l lock (ap w.has_list (sym same) ∙ has) in_hand in
            inr (ap (λ x. x / 2 ^ 30 % 2) (set_at-here w.word lock n l its) ∙ set)
        | inr other ↦ inl (has, sym (set_at-else w.flagged s true k other) ∙ flagged)
      ]
