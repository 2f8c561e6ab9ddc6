use Rattle.std.proofs.Common.{zero, suc, ◌≡◌, ◌≢◌, ◌⊎◌, ◌||◌, ◌&&◌, ℕ, ◌+◌, ◌<◌, Bool, true, false, not, List, [], ◌∷◌, ◌++◌, length, Option, Some, None, refl, sym, ap, ◌∙◌, subst, inl, inr, arith}
use Rattle.std.specs.Prelude.{◌==◌, slice_get}
use Rattle.std.specs.List.{list_any}
use Rattle.std.proofs.lemmas.Bool.{cases_eq, cases_Bool, both_ways, false≢true, false_from_ne_true, eqb-true, and_from, and_parts}
use Rattle.std.proofs.lemmas.List.{append_assoc, length-append}
use Rattle.std.proofs.lemmas.Option.{slice_get_read}
use Rattle.std.proofs.Math.Seq.{get_or-append_seam}
use Rattle.modes_core.specs.declared.modes.Mode.{Mode}
use Rattle.modes_core.specs.declared.tags.Tag.{Tag}
use Rattle.modes_core.specs.Conflict.{conflict}
use Rattle.modes_core.specs.ModeSet.{all_modes}
use Rattle.modes_core.specs.Tag.{partition_of}
use Rattle.modes_core.proofs.Lemmas.Conflicts.{each_mode}
use Rattle.lock_table.specs.Content.{Holds, Wait, Content}
use Rattle.lock_table.specs.OwnWait.{OwnWait, entry_of}
use Rattle.lock_table.specs.Queue.{IsFree, NoneFreeBehind, some_awaits_conflict, waits_there}
use Rattle.lock_world.specs.World.{World}
use Rattle.lock_world.specs.WaitWord.{wait_state}
use Rattle.lock_world.specs.SafeWorld.{SafeWorld, tabled}
use Rattle.lock_world.proofs.Lemmas.FromSafe.{placed, entry-stands, waiting-stands, spent-not_held}
use Rattle.lock_world.proofs.Lemmas.FromSafeWorld.{live-within}
use Rattle.lock_world.specs.Wakes.Reasons.{HasReason}

-- A session that waits in a queue is behind a holder, or behind one that waits before it.

not-not : (b : Bool) → not (not b) ≡ true → b ≡ true
not-not true it = refl
not-not false it = absurd (false≢true it)

not-true : (b : Bool) → not b ≡ true → b ≡ true → ⊥
not-true true it is = false≢true it
not-true false it is = false≢true is

-- A session below the limit holds the object in a mode in conflict, or none does.
module _ (holds : ℕ → Mode → Bool) (s : ℕ) (mode : Mode) where
  abbrev in_the_way : ℕ → Mode → Bool
  in_the_way k its = holds k its && conflict mode its

  holder : (limit : ℕ)
      → ((k : ℕ) × (its : Mode) × (k ≢ s) × (holds k its ≡ true) × (conflict mode its ≡ true))
      ⊎ ((k : ℕ) (its : Mode) → k < limit → k ≢ s → holds k its ≡ true → conflict mode its ≡ false)
  holder zero = inr (λ k its below other has. absurd (omega (arith, below)))
  holder (suc n) = elim (holder n) [
    | inl found ↦ inl found
    | inr none ↦ elim (cases_eq n s) [
      | inl same ↦ inr (λ k its below other has. none k its (less k below (λ e. other (e ∙ same))) other has)
      | inr another ↦ elim (cases_Bool (list_any (λ m. not (not (in_the_way n m))) all_modes)) [
        | inl some ↦
            let f = placed (λ m. not (not (in_the_way n m))) all_modes some in
            let both = and_parts (holds n (f.1)) (conflict mode (f.1)) (not-not (in_the_way n (f.1)) (f.3)) in
            inl (n, f.1, another, both.0, both.1)
        | inr free ↦ inr (λ k its below other has. elim (cases_eq k n) [
          | inl same ↦ false_from_ne_true (conflict mode its) (λ meets. not-true (in_the_way n its) (each_mode (λ m. not (in_the_way n m)) free its)
              (and_from (holds n its) (conflict mode its) (ap (λ j. holds j its) (sym same) ∙ has) meets))
          | inr away ↦ none k its (less k below away) other has
        ])
      ]
    ]
  ] where
    less : (k : ℕ) → k < suc n → k ≢ n → k < n
    less k below away = omega (arith, below, away)

-- Where none of a queue is free to go, and a session waits there, its entry stands in it and is not free.
split :
    (holds : Holds) (tag : Tag) (s : ℕ) (ahead queue : List Wait) → NoneFreeBehind ahead holds tag queue → waits_there queue s ≡ true
    → (front : List Wait) × (entry : Wait) × (back : List Wait) × (ahead ++ queue ≡ front ++ entry ∷ back) × (entry.session ≡ s)
    × (IsFree holds entry.session tag entry.mode front → ⊥)
split holds tag s ahead [] none there = absurd (false≢true there)
split holds tag s ahead (x ∷ queue) none there = elim (cases_Bool (x.session == s)) [
  | inl its ↦ (ahead, x, queue, refl, eqb-true x.session s its, none.0)
  | inr other ↦
      let later : waits_there queue s ≡ true = sym (ap (λ b. b || waits_there queue s) other) ∙ there in
      let f = split holds tag s (ahead ++ x ∷ []) queue none.1 later in
      (f.0, f.1, f.2, sym (append_assoc ahead (x ∷ []) queue) ∙ f.3, f.4, f.5)
]

at_seam : (front : List Wait) (entry : Wait) (back : List Wait) → slice_get (front ++ entry ∷ back) (length front) ≡ Some entry
at_seam front entry back =
    slice_get_read (front ++ entry ∷ back) (length (front ++ entry ∷ back)) (length front) entry refl
    (let long : length (front ++ entry ∷ back) ≡ length front + length (entry ∷ back) = length-append front (entry ∷ back) in
    let some : 0 < length (entry ∷ back) = omega arith in omega (arith, long, some))
    (sym (get_or-append_seam front entry back entry))

pub waiting-reason :
    (w : World) → SafeWorld w → (s : ℕ) (wait : OwnWait) → w.sessions.awaited s ≡ Some wait → w.contents.hand (partition_of wait.tag) ≡ None
    → wait_state (w.words.wait s) ≡ 1 → HasReason (w.contents.now (partition_of wait.tag)) s wait
waiting-reason w safe s wait is home shows = elim (cases_Bool (some_awaits_conflict front wait.mode)) [
  | inl some ↦ let f = placed (λ before. conflict wait.mode before.mode) front some in
      inr (record { ahead = front; behind = its.2; parts = parts; place = f.0; before = f.1; among = f.2; conflicting = f.3 })
  | inr free ↦ elim (holder (λ k its. content.holds k wait.tag its) s wait.mode w.numbers.limit) [
    | inl f ↦ inl (record { other = f.0; its = f.1; another = f.2; holding = f.3; conflicting = f.4 })
    | inr none ↦ absurd (not_free (record { beside_holders = λ k its other has. none k its (within k its has) other has; behind_waiters = free }))
  ]
] where
  content : Content
  content = w.contents.now (partition_of wait.tag)

  its : (front : List Wait) × (entry : Wait) × (back : List Wait) × ([] ++ content.waits wait.tag ≡ front ++ entry ∷ back) × (entry.session ≡ s)
      × (IsFree content.holds entry.session wait.tag entry.mode front → ⊥)
  its = split content.holds wait.tag s [] (content.waits wait.tag) (safe.but_slots.table.promise.none_free (partition_of wait.tag) wait.tag)
      (waiting-stands (tabled w) safe.but_slots s wait is home shows)

  front : List Wait
  front = its.0

  stands_there : (its.1 ≡ entry_of s wait)
  stands_there =
      let found = (entry-stands (tabled w) safe.but_slots (partition_of wait.tag) (length (its.0)) wait.tag (its.1) (ap (λ q. slice_get q (length (its.0))) its.3 ∙ at_seam (its.0) (its.1) (its.2))).1 in
      let known : w.sessions.awaited (its.1).session ≡ Some found.wait = found.is_wait in
      let same : found.wait ≡ wait = one_wait found.wait (sym known ∙ ap w.sessions.awaited its.4 ∙ is) in
      found.is_entry ∙ ap (λ k. entry_of k found.wait) its.4 ∙ ap (entry_of s) same where
        one_wait : (other : OwnWait) → ◌≡◌ {A = Option OwnWait} (Some other) (Some wait) → other ≡ wait
        one_wait other e = cc

  parts : content.waits wait.tag ≡ front ++ entry_of s wait ∷ its.2
  parts = its.3 ∙ ap (λ entry. front ++ entry ∷ its.2) stands_there

  not_free : IsFree content.holds s wait.tag wait.mode front → ⊥
  not_free free = its.5 (subst (λ entry. IsFree content.holds entry.session wait.tag entry.mode front) (sym stands_there) free)

  within : (k : ℕ) (mode : Mode) → content.holds k wait.tag mode ≡ true → k < w.numbers.limit
  within k mode has = elim (cases_Bool (w.numbers.live k)) [
    | inl alive ↦ live-within w safe k alive
    | inr dead ↦ absurd (both_ways (content.holds k wait.tag mode) (spent-not_held (tabled w) safe.but_slots (partition_of wait.tag) k wait.tag mode dead) has)
  ]

-- A wait word of a session that waits shows waiting or granted.
pub waiting-or-granted : (w : World) → SafeWorld w → (s : ℕ) (wait : OwnWait) → w.sessions.awaited s ≡ Some wait
    → (wait_state (w.words.wait s) ≡ 1) ⊎ (wait_state (w.words.wait s) ≡ 2)
waiting-or-granted w safe s wait is = safe.but_slots.table.promise.wait_words.waiting s wait is

pub has-reason :
    (w : World) → SafeWorld w → (s : ℕ) (wait : OwnWait) → w.sessions.awaited s ≡ Some wait → w.contents.hand (partition_of wait.tag) ≡ None
    → HasReason (w.contents.now (partition_of wait.tag)) s wait ⊎ (wait_state (w.words.wait s) ≡ 2)
has-reason w safe s wait is home = elim (waiting-or-granted w safe s wait is) [
  | inl waits ↦ inl (waiting-reason w safe s wait is home waits)
  | inr granted ↦ inr granted
]
