use Rattle.std.proofs.Common.{◌≡◌, ◌≢◌, ◌⊎◌, ◌↔◌, ℕ, ◌≤◌, Bool, true, false, cond, ◌||◌, ◌&&◌, List, [], ◌∷◌, length, Option, Some, None, refl, sym, ap, ◌∙◌, subst, inl, inr, arith, zero, suc}
use Rattle.std.specs.Prelude.{◌==◌, filter, count_by, slice_get}
use Rattle.std.specs.List.{list_any}
use Rattle.std.proofs.lemmas.Bool.{cases_Bool, cases_eq, both_ways, false≢true, cond-true, cond-false, and_parts, and_from, or_cases, or_left, or_right, eqb-true, eq-eqb, ne_eqb, false_from_ne_true}
use Rattle.std.proofs.lemmas.List.Sums.{length-filter}
use Rattle.modes_core.specs.declared.modes.Mode.{Mode}
use Rattle.modes_core.specs.declared.tags.Tag.{Tag}
use Rattle.modes_core.specs.Conflict.{conflict}
use Rattle.modes_core.specs.Tag.{tag_eq, partition_of}
use Rattle.modes_core.specs.Mode.{mode_eq}
use Rattle.modes_core.proofs.Lemmas.Conflicts.{tag_eq-refl, tag_eq-same, mode_eq-refl}
use Rattle.lock_table.specs.Content.{Wait}
use Rattle.lock_table.specs.OwnWait.{OwnWait, Stage, InQueue, WasGranted, HasLeft, entry_of, is_for, is_pending, queued_by}
use Rattle.lock_table.specs.Queue.{waits_there, awaits_mode}
use Rattle.lock_world.specs.WaitWord.{wait_state}
use Rattle.lock_world.specs.World.{World, Hand, is_unmarked, recorded_in}
use Rattle.lock_world.specs.Safe.{SafeButSlots, stage_of, stage_by_hand, stages, is_hand_of, is_leave_of}
use Rattle.lock_table.proofs.Lemmas.Options.{one_some}

-- What a safe World says, law by law.

-- An element that passes stands among those that do.
kept : {X : Type 0} (p : X → Bool) (xs : List X) (i : ℕ) (x : X) → slice_get xs i ≡ Some x → p x ≡ true → (j : ℕ) × (slice_get (filter p xs) j ≡ Some x)
kept p [] i x at pass = absurd (cc)
kept p (y ∷ xs) zero x at pass =
    let same : y ≡ x = cc in
    (0, ap (λ l. slice_get l 0) (cond-true (p y) (y ∷ filter p xs) (filter p xs) (ap p same ∙ pass)) ∙ at)
kept p (y ∷ xs) (suc i) x at pass =
    let later = kept p xs i x at pass in
    elim (cases_Bool (p y)) [
      | inl passes ↦ (suc later.0, ap (λ l. slice_get l (suc later.0)) (cond-true (p y) (y ∷ filter p xs) (filter p xs) passes) ∙ later.1)
      | inr fails ↦ (later.0, ap (λ l. slice_get l later.0) (cond-false (p y) (y ∷ filter p xs) (filter p xs) fails) ∙ later.1)
    ]

-- Where some element passes, it stands at a place.
pub placed : {X : Type 0} (p : X → Bool) (xs : List X) → list_any p xs ≡ true → (i : ℕ) × (x : X) × (slice_get xs i ≡ Some x) × (p x ≡ true)
placed p [] any = absurd (false≢true any)
placed p (x ∷ xs) any =
    elim (cases_Bool (p x)) [
      | inl passes ↦ (0, x, refl, passes)
      | inr fails ↦ let later = placed p xs (ap (λ b. b || list_any p xs) (sym fails) ∙ any) in (suc later.0, later.1, later.2, later.3)
    ]

-- Where the filtered list has an element, some element passes.
some_passes : {X : Type 0} (p : X → Bool) (xs ys : List X) (y : X) → filter p xs ≡ y ∷ ys → list_any p xs ≡ true
some_passes p [] ys y e = absurd (cc)
some_passes p (x ∷ xs) ys y e =
    elim (cases_Bool (p x)) [
      | inl passes ↦ or_left (p x) (list_any p xs) passes
      | inr fails ↦ or_right (p x) (list_any p xs) (some_passes p xs ys y (sym (cond-false (p x) (x ∷ filter p xs) (filter p xs) fails) ∙ e))
    ]

-- An entry that a session has in a queue by its own account is its wait, and stands there.
pub record Stands (session : ℕ) (awaited : Option OwnWait) (stage : Stage) (tag : Tag) (entry : Wait) : Type 0 where
  pub wait : OwnWait
  pub is_wait : awaited ≡ Some wait
  pub on : wait.tag ≡ tag
  pub is_entry : entry ≡ entry_of session wait
  pub in_queue : stage ≡ InQueue

stands : (s : ℕ) (awaited : Option OwnWait) (stage : Stage) (t : Tag) (j : ℕ) (entry : Wait) → slice_get (queued_by s awaited stage t) j ≡ Some entry → Stands s awaited stage t entry
stands s None stage t j entry at = absurd (cc)
stands s (Some wait) WasGranted t j entry at = absurd (cc)
stands s (Some wait) HasLeft t j entry at = absurd (cc)
stands s (Some wait) InQueue t j entry at =
    elim (cases_Bool (tag_eq wait.tag t)) [
      | inl same ↦ record {
        wait = wait;
        is_wait = refl;
        on = tag_eq-same wait.tag t same;
        is_entry = first j (sym (ap (λ l. slice_get l j) (cond-true (tag_eq wait.tag t) (entry_of s wait ∷ []) [] same)) ∙ at);
        in_queue = refl;
      }
      | inr other ↦ let none : slice_get (queued_by s (Some wait) InQueue t) j ≡ None = ap (λ l. slice_get l j) (cond-false (tag_eq wait.tag t) (entry_of s wait ∷ []) [] other) in absurd (cc)
    ] where
      first : (j : ℕ) → slice_get (entry_of s wait ∷ []) j ≡ Some entry → entry ≡ entry_of s wait
      first zero e = cc
      first (suc j) e = absurd (cc)

stands-most : (s : ℕ) (awaited : Option OwnWait) (stage : Stage) (t : Tag) → length (queued_by s awaited stage t) ≤ 1
stands-most s None stage t = omega arith
stands-most s (Some wait) WasGranted t = omega arith
stands-most s (Some wait) HasLeft t = omega arith
stands-most s (Some wait) InQueue t =
    elim (cases_Bool (tag_eq wait.tag t)) [
      | inl same ↦ subst (λ (l : List Wait). length l ≤ 1) (sym (cond-true (tag_eq wait.tag t) (entry_of s wait ∷ []) [] same)) (omega arith)
      | inr other ↦ subst (λ (l : List Wait). length l ≤ 1) (sym (cond-false (tag_eq wait.tag t) (entry_of s wait ∷ []) [] other)) (omega arith)
    ]

-- The stage of a wait, by its word and the hand.
stage-shown : (word : ℕ) (hand : ℕ → Option Hand) (s : ℕ) (wait : OwnWait) → wait_state word ≡ 2 → stage_of word hand s (Some wait) ≡ WasGranted
stage-shown word hand s wait shown =
    cond-true (wait_state word == 2) WasGranted (stage_by_hand (hand (partition_of wait.tag)) s wait.tag) (eq-eqb (wait_state word) 2 shown)

stage-not_shown : (word : ℕ) (hand : ℕ → Option Hand) (s : ℕ) (wait : OwnWait) → wait_state word ≢ 2 → stage_of word hand s (Some wait) ≡ stage_by_hand (hand (partition_of wait.tag)) s wait.tag
stage-not_shown word hand s wait not_shown =
    cond-false (wait_state word == 2) WasGranted (stage_by_hand (hand (partition_of wait.tag)) s wait.tag) (ne_eqb (wait_state word) 2 not_shown)

stage-queued : (word : ℕ) (hand : ℕ → Option Hand) (s : ℕ) (wait : OwnWait) → stage_of word hand s (Some wait) ≡ InQueue → wait_state word ≢ 2
stage-queued word hand s wait in_queue shown = let granted : stage_of word hand s (Some wait) ≡ WasGranted = stage-shown word hand s wait shown in cc

-- A wait was granted where its word shows it, or where the grant stands unmarked in the hand.
abbrev pub IsGranted : ℕ → Option Hand → ℕ → Type 0
IsGranted word hand s = (wait_state word ≡ 2) ⊎ (is_unmarked hand s ≡ true)

granted-by_hand : (hand : Option Hand) (s : ℕ) (t : Tag) → stage_by_hand hand s t ≡ WasGranted → is_unmarked hand s ≡ true
granted-by_hand hand s t granted =
    elim (cases_Bool (is_unmarked hand s)) [
      | inl stands_unmarked ↦ stands_unmarked
      | inr not_unmarked ↦ absurd (not_left (is_hand_of hand s && is_leave_of (recorded_in hand) t) (sym (cond-false (is_unmarked hand s) WasGranted _ not_unmarked) ∙ granted))
    ] where
      not_left : (left : Bool) → cond left HasLeft InQueue ≡ WasGranted → ⊥
      not_left true e = cc
      not_left false e = cc

pending-parts : (awaited : Option OwnWait) (stage : Stage) (t : Tag) (m : Mode) → is_pending awaited stage t m ≡ true → (stage ≡ WasGranted) × (is_for awaited t m ≡ true)
pending-parts awaited InQueue t m pending = absurd (false≢true pending)
pending-parts awaited WasGranted t m pending = (refl, pending)
pending-parts awaited HasLeft t m pending = absurd (false≢true pending)

pending-granted : (word : ℕ) (hand : ℕ → Option Hand) (s : ℕ) (awaited : Option OwnWait) (t : Tag) (m : Mode) → is_pending awaited (stage_of word hand s awaited) t m ≡ true
    → (is_for awaited t m ≡ true) × IsGranted word (hand (partition_of t)) s
pending-granted word hand s None t m pending = absurd (false≢true pending)
pending-granted word hand s (Some wait) t m pending = (parts.1, is_granted) where
  parts : (stage_of word hand s (Some wait) ≡ WasGranted) × (is_for (Some wait) t m ≡ true)
  parts = pending-parts (Some wait) (stage_of word hand s (Some wait)) t m pending

  on : wait.tag ≡ t
  on = tag_eq-same wait.tag t (and_parts (tag_eq wait.tag t) (mode_eq wait.mode m) parts.1).0

  is_granted : IsGranted word (hand (partition_of t)) s
  is_granted =
      elim (cases_eq (wait_state word) 2) [
        | inl shown ↦ inl shown
        | inr not_shown ↦ inr (subst (λ (o : Tag). is_unmarked (hand (partition_of o)) s ≡ true) on
            (granted-by_hand (hand (partition_of wait.tag)) s wait.tag (sym (stage-not_shown word hand s wait not_shown) ∙ parts.0)))
      ]

granted-pending : (word : ℕ) (hand : ℕ → Option Hand) (s : ℕ) (awaited : Option OwnWait) (t : Tag) (m : Mode) → is_for awaited t m ≡ true → IsGranted word (hand (partition_of t)) s
    → is_pending awaited (stage_of word hand s awaited) t m ≡ true
granted-pending word hand s None t m awaits is_granted = absurd (false≢true awaits)
granted-pending word hand s (Some wait) t m awaits is_granted = subst (λ (stage : Stage). is_pending (Some wait) stage t m ≡ true) (sym (granted is_granted)) awaits where
  on : wait.tag ≡ t
  on = tag_eq-same wait.tag t (and_parts (tag_eq wait.tag t) (mode_eq wait.mode m) awaits).0

  granted : IsGranted word (hand (partition_of t)) s → stage_of word hand s (Some wait) ≡ WasGranted
  granted (inl shown) = stage-shown word hand s wait shown
  granted (inr stands_unmarked) =
      elim (cases_eq (wait_state word) 2) [
        | inl shown ↦ stage-shown word hand s wait shown
        | inr not_shown ↦ stage-not_shown word hand s wait not_shown
            ∙ cond-true (is_unmarked (hand (partition_of wait.tag)) s) WasGranted _ (subst (λ (o : Tag). is_unmarked (hand (partition_of o)) s ≡ true) (sym on) stands_unmarked)
      ]

is_for-self : (wait : OwnWait) → is_for (Some wait) wait.tag wait.mode ≡ true
is_for-self wait = and_from (tag_eq wait.tag wait.tag) (mode_eq wait.mode wait.mode) (tag_eq-refl wait.tag) (mode_eq-refl wait.mode)

queued-is : (s : ℕ) (awaited : Option OwnWait) (stage : Stage) (wait : OwnWait) → awaited ≡ Some wait → stage ≡ InQueue → queued_by s awaited stage wait.tag ≡ entry_of s wait ∷ []
queued-is s awaited stage wait is in_queue =
    ap (λ (a : Option OwnWait). queued_by s a stage wait.tag) is ∙ ap (λ (z : Stage). queued_by s (Some wait) z wait.tag) in_queue
    ∙ cond-true (tag_eq wait.tag wait.tag) (entry_of s wait ∷ []) [] (tag_eq-refl wait.tag)

-- A hold is the session's own or its pending grant.
abbrev pub IsOwnOrPending : World → ℕ → ℕ → Tag → Mode → Type 0
IsOwnOrPending w p s t m =
    (w.sessions.own s t m ≡ true) ⊎ ((is_for (w.sessions.awaited s) t m ≡ true) × IsGranted (w.words.wait s) (w.contents.hand p) s)

module _ (w : World) (safe : SafeButSlots w) where
  -- An own hold is in the content of its object's partition.
  pub own-held : (s : ℕ) (t : Tag) (m : Mode) → w.sessions.own s t m ≡ true → (w.contents.now (partition_of t)).holds s t m ≡ true
  own-held s t m own =
      (safe.table.promise.one_place.on_object t).held s m ∙ or_left (w.sessions.own s t m) (is_pending (w.sessions.awaited s) (stages w s) t m) own

  pub no_conflict-own : (s k : ℕ) (t : Tag) (m n : Mode) → s ≢ k → w.sessions.own s t m ≡ true → w.sessions.own k t n ≡ true → conflict m n ≡ false
  no_conflict-own s k t m n apart has its = safe.table.promise.no_conflict (partition_of t) s k t m n apart (own-held s t m has) (own-held k t n its)

  -- A hold is in a content where it is own or pending, and the object is of the partition.
  pub held-own_or_pending : (p s : ℕ) (t : Tag) (m : Mode) → (w.contents.now p).holds s t m ≡ true → (partition_of t ≡ p) × IsOwnOrPending w p s t m
  held-own_or_pending p s t m has = (home, at (or_cases (w.sessions.own s t m) pending (sym ((safe.table.promise.one_place.on_object t).held s m) ∙ has_at_home))) where
    home : partition_of t ≡ p
    home = safe.table.promise.one_place.no_hold_elsewhere p s t m has

    has_at_home : (w.contents.now (partition_of t)).holds s t m ≡ true
    has_at_home = ap (λ (q : ℕ). (w.contents.now q).holds s t m) home ∙ has

    pending : Bool
    pending = is_pending (w.sessions.awaited s) (stages w s) t m

    at : (w.sessions.own s t m ≡ true) ⊎ (is_pending (w.sessions.awaited s) (stages w s) t m ≡ true) → IsOwnOrPending w p s t m
    at (inl own) = inl own
    at (inr granted) =
        let is_granted = pending-granted (w.words.wait s) w.contents.hand s (w.sessions.awaited s) t m granted in
        inr (is_granted.0, subst (λ (q : ℕ). IsGranted (w.words.wait s) (w.contents.hand q) s) home is_granted.1)

  pub own_or_pending-held : (p s : ℕ) (t : Tag) (m : Mode) → partition_of t ≡ p → IsOwnOrPending w p s t m → (w.contents.now p).holds s t m ≡ true
  own_or_pending-held p s t m home (inl own) = ap (λ (q : ℕ). (w.contents.now q).holds s t m) (sym home) ∙ own-held s t m own
  own_or_pending-held p s t m home (inr granted) =
      ap (λ (q : ℕ). (w.contents.now q).holds s t m) (sym home) ∙ (safe.table.promise.one_place.on_object t).held s m
      ∙ or_right (w.sessions.own s t m) (is_pending (w.sessions.awaited s) (stages w s) t m)
      (granted-pending (w.words.wait s) w.contents.hand s (w.sessions.awaited s) t m granted.0
      (subst (λ (q : ℕ). IsGranted (w.words.wait s) (w.contents.hand q) s) (sym home) granted.1))

  -- An entry of a queue is its session's recorded wait, on an object of the partition.
  pub entry-stands : (p i : ℕ) (t : Tag) (entry : Wait) → slice_get ((w.contents.now p).waits t) i ≡ Some entry
      → (partition_of t ≡ p) × Stands entry.session (w.sessions.awaited entry.session) (stages w entry.session) t entry
  entry-stands p i t entry at =
      elim (cases_eq (partition_of t) p) [
        | inl home ↦ (home, at_home (ap (λ (q : ℕ). slice_get ((w.contents.now q).waits t) i) home ∙ at))
        | inr away ↦ let none : slice_get ((w.contents.now p).waits t) i ≡ None = ap (λ (l : List Wait). slice_get l i) (safe.table.promise.one_place.no_wait_elsewhere p t away) in absurd (cc)
      ] where
        at_home : slice_get ((w.contents.now (partition_of t)).waits t) i ≡ Some entry → Stands entry.session (w.sessions.awaited entry.session) (stages w entry.session) t entry
        at_home here =
            let place = kept (λ wait. wait.session == entry.session) ((w.contents.now (partition_of t)).waits t) i entry here (eq-eqb entry.session entry.session refl) in
            stands entry.session (w.sessions.awaited entry.session) (stages w entry.session) t place.0 entry
            (ap (λ (l : List Wait). slice_get l place.0) (sym ((safe.table.promise.one_place.on_object t).in_queue entry.session)) ∙ place.1)

  -- So is what a session has in a queue.
  pub session-stands : (p s : ℕ) (t : Tag) → waits_there ((w.contents.now p).waits t) s ≡ true
      → (partition_of t ≡ p) × ((entry : Wait) × Stands s (w.sessions.awaited s) (stages w s) t entry)
  session-stands p s t there =
      let at = placed (λ wait. wait.session == s) ((w.contents.now p).waits t) there in
      let entry : Wait = at.1 in
      let found = entry-stands p at.0 t entry at.2 in
      (found.0, (entry, subst (λ (k : ℕ). Stands k (w.sessions.awaited k) (stages w k) t entry) (eqb-true entry.session s at.3) found.1))

  -- Who is awaited for a mode in a queue awaits it by its own account.
  pub awaits-for : (p s : ℕ) (t : Tag) (m : Mode) → awaits_mode ((w.contents.now p).waits t) s m ≡ true
      → is_for (w.sessions.awaited s) t m ≡ true
  awaits-for p s t m awaits =
      let at = placed (λ wait. (wait.session == s) && mode_eq wait.mode m) ((w.contents.now p).waits t) awaits in
      let entry : Wait = at.1 in
      let its = and_parts (entry.session == s) (mode_eq entry.mode m) at.3 in
      let found = entry-stands p at.0 t entry at.2 in
      let whose : entry.session ≡ s = eqb-true entry.session s its.0 in
      let stands_there : Stands entry.session (w.sessions.awaited entry.session) (stages w entry.session) t entry = found.1 in
      ap (λ (k : ℕ). is_for (w.sessions.awaited k) t m) (sym whose)
      ∙ ap (λ (a : Option OwnWait). is_for a t m) stands_there.is_wait
      ∙ and_from (tag_eq stands_there.wait.tag t) (mode_eq stands_there.wait.mode m)
      (ap (λ (o : Tag). tag_eq o t) stands_there.on ∙ tag_eq-refl t)
      (ap (λ (e : Wait). mode_eq e.mode m) (sym stands_there.is_entry) ∙ its.1)

  -- A session stands at most once in a queue, and in one queue.
  pub stands-once : (p s : ℕ) (t : Tag) → count_by (λ wait. wait.session == s) ((w.contents.now p).waits t) ≤ 1
  stands-once p s t = subst (λ (n : ℕ). n ≤ 1) (length-filter (λ (wait : Wait). wait.session == s) ((w.contents.now p).waits t)) few where
    few : length (filter (λ wait. wait.session == s) ((w.contents.now p).waits t)) ≤ 1
    few =
        elim (cases_eq (partition_of t) p) [
          | inl home ↦ subst (λ (q : ℕ). length (filter (λ wait. wait.session == s) ((w.contents.now q).waits t)) ≤ 1) home
              (subst (λ (l : List Wait). length l ≤ 1) (sym ((safe.table.promise.one_place.on_object t).in_queue s)) (stands-most s (w.sessions.awaited s) (stages w s) t))
          | inr away ↦ subst (λ (l : List Wait). length (filter (λ wait. wait.session == s) l) ≤ 1) (sym (safe.table.promise.one_place.no_wait_elsewhere p t away)) (omega arith)
        ]

  pub stands-in_one_queue : (p q s : ℕ) (t o : Tag) → waits_there ((w.contents.now p).waits t) s ≡ true → waits_there ((w.contents.now q).waits o) s ≡ true → (p ≡ q) × (t ≡ o)
  stands-in_one_queue p q s t o there its =
      let one = session-stands p s t there in
      let two = session-stands q s o its in
      let same : one.1.1.wait ≡ two.1.1.wait = one_some (w.sessions.awaited s) one.1.1.wait two.1.1.wait one.1.1.is_wait two.1.1.is_wait in
      let tags : t ≡ o = sym one.1.1.on ∙ ap (λ (wait : OwnWait). wait.tag) same ∙ two.1.1.on in
      (sym one.0 ∙ ap partition_of tags ∙ two.0, tags)

  -- What a wait word tells.
  pub idle-shows : (s : ℕ) → (wait_state (w.words.wait s) ≡ 0) ↔ (w.sessions.awaited s ≡ None)
  idle-shows s = (at (w.sessions.awaited s) refl, safe.table.promise.wait_words.idle s) where
    shows_more : (wait_state (w.words.wait s) ≡ 1) ⊎ (wait_state (w.words.wait s) ≡ 2) → wait_state (w.words.wait s) ≡ 0 → ⊥
    shows_more (inl one) none = omega arith
    shows_more (inr two) none = omega arith

    at : (awaited : Option OwnWait) → w.sessions.awaited s ≡ awaited → wait_state (w.words.wait s) ≡ 0 → w.sessions.awaited s ≡ None
    at None is none = is
    at (Some wait) is none = absurd (shows_more (safe.table.promise.wait_words.waiting s wait is) none)

  pub queued-shows : (p s : ℕ) (t : Tag) → waits_there ((w.contents.now p).waits t) s ≡ true → wait_state (w.words.wait s) ≡ 1
  queued-shows p s t there = at found.1.1.wait found.1.1.is_wait found.1.1.in_queue where
    found : (partition_of t ≡ p) × ((entry : Wait) × Stands s (w.sessions.awaited s) (stages w s) t entry)
    found = session-stands p s t there

    shows : (wait_state (w.words.wait s) ≡ 1) ⊎ (wait_state (w.words.wait s) ≡ 2) → wait_state (w.words.wait s) ≢ 2 → wait_state (w.words.wait s) ≡ 1
    shows (inl one) not_granted = one
    shows (inr two) not_granted = absurd (not_granted two)

    at : (wait : OwnWait) → w.sessions.awaited s ≡ Some wait → stages w s ≡ InQueue → wait_state (w.words.wait s) ≡ 1
    at wait is in_queue =
        shows (safe.table.promise.wait_words.waiting s wait is)
        (stage-queued (w.words.wait s) w.contents.hand s wait (ap (stage_of (w.words.wait s) w.contents.hand s) (sym is) ∙ in_queue))

  pub waiting-stands : (s : ℕ) (wait : OwnWait) → w.sessions.awaited s ≡ Some wait → w.contents.hand (partition_of wait.tag) ≡ None → wait_state (w.words.wait s) ≡ 1
      → waits_there ((w.contents.now (partition_of wait.tag)).waits wait.tag) s ≡ true
  waiting-stands s wait is home shows =
      some_passes (λ entry. entry.session == s) ((w.contents.now (partition_of wait.tag)).waits wait.tag) [] (entry_of s wait)
      ((safe.table.promise.one_place.on_object wait.tag).in_queue s ∙ queued-is s (w.sessions.awaited s) (stages w s) wait is in_queue) where
        not_granted : wait_state (w.words.wait s) ≢ 2
        not_granted granted = omega arith

        in_queue : stages w s ≡ InQueue
        in_queue =
            ap (stage_of (w.words.wait s) w.contents.hand s) is ∙ stage-not_shown (w.words.wait s) w.contents.hand s wait not_granted
            ∙ ap (λ (hand : Option Hand). stage_by_hand hand s wait.tag) home

  pub granted-held : (s : ℕ) → wait_state (w.words.wait s) ≡ 2
      → (wait : OwnWait) × (w.sessions.awaited s ≡ Some wait) × ((w.contents.now (partition_of wait.tag)).holds s wait.tag wait.mode ≡ true) × (w.sessions.own s wait.tag wait.mode ≡ false)
  granted-held s shown = at (w.sessions.awaited s) refl where
    at : (awaited : Option OwnWait) → w.sessions.awaited s ≡ awaited
        → (wait : OwnWait) × (w.sessions.awaited s ≡ Some wait) × ((w.contents.now (partition_of wait.tag)).holds s wait.tag wait.mode ≡ true) × (w.sessions.own s wait.tag wait.mode ≡ false)
    at None is = let none : wait_state (w.words.wait s) ≡ 0 = safe.table.promise.wait_words.idle s is in absurd (omega arith)
    at (Some wait) is =
        let awaits : is_for (w.sessions.awaited s) wait.tag wait.mode ≡ true = ap (λ (a : Option OwnWait). is_for a wait.tag wait.mode) is ∙ is_for-self wait in
        (wait, is, own_or_pending-held (partition_of wait.tag) s wait.tag wait.mode refl (inr (awaits, inl shown)), safe.table.promise.one_place.awaited_is_not_own s wait.tag wait.mode awaits)

  -- A session number that is not live has no hold in a content, and stands in no queue.
  pub spent-not_held : (p s : ℕ) (t : Tag) (m : Mode) → w.numbers.live s ≡ false → (w.contents.now p).holds s t m ≡ false
  spent-not_held p s t m dead = false_from_ne_true ((w.contents.now p).holds s t m) (λ has. at (held-own_or_pending p s t m has).1) where
    at : IsOwnOrPending w p s t m → ⊥
    at (inl own) = both_ways (w.sessions.own s t m) (safe.table.promise.spent.no_hold s t m dead) own
    at (inr granted) = false≢true (sym (ap (λ (a : Option OwnWait). is_for a t m) (safe.table.promise.spent.no_wait s dead)) ∙ granted.0)

  pub spent-not_queued : (p s : ℕ) (t : Tag) → w.numbers.live s ≡ false → waits_there ((w.contents.now p).waits t) s ≡ false
  spent-not_queued p s t dead = false_from_ne_true (waits_there ((w.contents.now p).waits t) s) (λ there. at (session-stands p s t there)) where
    at : (partition_of t ≡ p) × ((entry : Wait) × Stands s (w.sessions.awaited s) (stages w s) t entry) → ⊥
    at found = let some : w.sessions.awaited s ≡ Some found.1.1.wait = found.1.1.is_wait in let none : w.sessions.awaited s ≡ None = safe.table.promise.spent.no_wait s dead in cc
