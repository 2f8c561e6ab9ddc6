use Rattle.std.proofs.Common.{◌≡◌, ℕ, ◌<◌, ◌≤◌, Bool, true, false, not, ◌&&◌, ◌||◌, length, is_none, get_or, option_map, Option, Some, None, refl, sym, ap, ◌∙◌, subst, inl, inr, arith}
use Rattle.std.specs.Prelude.{◌==◌}
use Rattle.std.proofs.Math.Bool.{or-false, and-true, and-false}
use Rattle.std.proofs.lemmas.Bool.{cases_Bool, cases_lt, both_ways, false≢true, and_parts, and_from, and_left, or_from, or_parts, or_right, eqb-true, false_from_ne_true, true_from_ne_false, cond-true, cond-false, not-true, not_from_false}
use Rattle.std.proofs.lemmas.List.{get_or_past, get_or_default}
use Rattle.modes_core.specs.declared.modes.Mode.{Mode}
use Rattle.modes_core.specs.declared.tags.Tag.{Tag}
use Rattle.modes_core.specs.Tag.{partition_of}
use Rattle.lock_model.specs.declared.machine.hands.InHand.{InHand}
use Rattle.lock_model.specs.declared.machine.state.Machine.{Machine}
use Rattle.lw_word.specs.LockState.{LockState, opening_state}
use Rattle.lock_table.specs.Content.{Content}
use Rattle.lock_table.specs.OwnWait.{OwnWait, Stage, InQueue, WasGranted, HasLeft, is_for, is_pending, queued_by}
use Rattle.lock_table.specs.Parts.{contents_in}
use Rattle.lock_table.specs.Queue.{waits_there, awaits_mode}
use Rattle.lock_world.specs.World.{World, Hand, MakesSteps, recorded_in, is_unmarked}
use Rattle.lock_world.specs.Safe.{is_hand_of, stages}
use Rattle.lock_world.specs.SlotHolds.{slot_holds}
use Rattle.lock_world.specs.SafeWorld.{SafeWorld, slots_of, own_but}
use Rattle.lock_model.specs.Shows.{Shows, ShowsLock, ShowsHand, ShowsHandIfAny, is_unmarked_in, is_holder, makes_steps, hand_of, awaits, awaited_of}
use Rattle.lock_model.specs.SlotLooks.{slots_hold, may_ask}
use Rattle.lock_table.proofs.Lemmas.Lists.{any_weaker, filter_nothing}

-- What the machine's looks show of a safe World that it shows.

-- The session makes steps and has the partition in hand, and this is what the machine keeps of the hand.
pub record HasInHand (w : World) (s p : ℕ) (shown : InHand) : Type 0 where
  pub steps : MakesSteps w.numbers s
  pub holding : w.sessions.holds_partition s p ≡ true
  pub exists : p < 16
  pub hand : Hand
  pub is_hand : w.contents.hand p ≡ Some hand
  pub shows : ShowsHand shown hand
  pub whose : hand.holder ≡ s

pub recorded_from : (w : World) (s p : ℕ) (shown : InHand) → HasInHand w s p shown → recorded_in (w.contents.hand p) ≡ shown.recorded
recorded_from w s p shown has = ap recorded_in has.is_hand ∙ sym has.shows.recorded

pub unmarked_from : (w : World) (s p : ℕ) (shown : InHand) → HasInHand w s p shown → (k : ℕ) → is_unmarked (w.contents.hand p) k ≡ is_unmarked_in shown.unmarked k
unmarked_from w s p shown has k = ap (λ h. is_unmarked h k) has.is_hand ∙ sym (has.shows.unmarked k)

none_of : {A : Type 0} (o : Option A) → is_none o ≡ true → o ≡ None
none_of None e = refl
none_of (Some k) e = absurd (false≢true e)

pub and_not_true : (a b : Bool) → b ≡ true → (a && not b) ≡ false
and_not_true a b e = ap (λ c. a && not c) e ∙ and-false a

pub and_not_false : (a b : Bool) → b ≡ false → (a && not b) ≡ a
and_not_false a b e = ap (λ c. a && not c) e ∙ and-true a

or_false : (a b : Bool) → b ≡ false → (a || b) ≡ a
or_false a b e = ap (λ c. a || c) e ∙ or-false a

-- A wait for another mode or another object gives no pending grant.
not_pending : (awaited : Option OwnWait) (stage : Stage) (t : Tag) (n : Mode) → is_for awaited t n ≡ false → is_pending awaited stage t n ≡ false
not_pending awaited InQueue t n e = refl
not_pending awaited WasGranted t n e = e
not_pending awaited HasLeft t n e = refl

awaits_same : (awaited : Option OwnWait) (t : Tag) (n : Mode) → awaits (option_map awaited_of awaited) t n ≡ is_for awaited t n
awaits_same None t n = refl
awaits_same (Some wait) t n = refl

none_kept : (awaited : Option OwnWait) → is_none (option_map awaited_of awaited) ≡ true → awaited ≡ None
none_kept None e = refl
none_kept (Some wait) e = absurd (false≢true e)

-- A session's hand is kept as its own.
pub hand_kept : (o : Option InHand) (h : Option Hand) (s : ℕ) → ShowsHandIfAny o h → is_hand_of h s ≡ true → (is_holder s o ≡ true) × (o ≡ None → ⊥)
hand_kept None None s shows e = absurd (false≢true e)
hand_kept (Some shown) (Some hand) s shows e = (ap (λ k. k == s) shows.holder ∙ e, λ none. false≢true (ap is_none none))
hand_kept None (Some hand) s shows e = absurd shows
hand_kept (Some shown) None s shows e = absurd shows

-- Past the list no partition is in hand, and a session that makes no steps has none.
pub hand_of-past : (m : Machine) (s p : ℕ) → length m.contents.hands ≤ p → hand_of m s p ≡ None
hand_of-past m s p past =
    let none : get_or m.contents.hands p None ≡ None = get_or_past m.contents.hands p None past in
    cond-false _ (get_or m.contents.hands p None) None (ap (λ o. makes_steps m s && is_holder s o) none ∙ and-false (makes_steps m s))

pub hand_of-idle : (m : Machine) (s p : ℕ) → makes_steps m s ≡ false → hand_of m s p ≡ None
hand_of-idle m s p idle =
    cond-false _ (get_or m.contents.hands p None) None (ap (λ b. b && is_holder s (get_or m.contents.hands p None)) idle)

-- A partition in hand is one of the list.
pub hand_within : (m : Machine) (s p : ℕ) (shown : InHand) → hand_of m s p ≡ Some shown → p < length m.contents.hands
hand_within m s p shown e =
    elim (cases_lt p (length m.contents.hands)) [
      | inl within ↦ within
      | inr past ↦ absurd (false≢true (ap is_none (sym e ∙ hand_of-past m s p past)))
    ]

pub kept_hand : (o : Option InHand) (h : Option Hand) (s : ℕ) → ShowsHandIfAny o h → is_holder s o ≡ true → is_hand_of h s ≡ true
kept_hand None None s shows e = absurd (false≢true e)
kept_hand (Some shown) (Some hand) s shows e = sym (ap (λ k. k == s) shows.holder) ∙ e
kept_hand None (Some hand) s shows e = absurd shows
kept_hand (Some shown) None s shows e = absurd shows

module _ (m : Machine) (w : World) (safe : SafeWorld w) (shows : Shows m w) where
  pub steps_from : (s : ℕ) → makes_steps m s ≡ true → MakesSteps w.numbers s
  steps_from s e =
      let parts = and_parts (get_or m.numbers.live s false) (is_none (get_or m.numbers.kept_by s None)) e in
      record {
        live = sym (shows.numbers.live s) ∙ parts.0;
        by_itself = sym (shows.numbers.kept_by s) ∙ none_of (get_or m.numbers.kept_by s None) parts.1;
      }

  pub steps_kept : (s : ℕ) → MakesSteps w.numbers s → makes_steps m s ≡ true
  steps_kept s steps =
      and_from (get_or m.numbers.live s false) (is_none (get_or m.numbers.kept_by s None)) (shows.numbers.live s ∙ steps.live) (ap is_none (shows.numbers.kept_by s ∙ steps.by_itself))

  pub steps_not : (s : ℕ) → makes_steps m s ≡ false → MakesSteps w.numbers s → ⊥
  steps_not s e steps = both_ways (makes_steps m s) e (steps_kept s steps)

  pub hand_from : (s p : ℕ) (shown : InHand) → hand_of m s p ≡ Some shown → HasInHand w s p shown
  hand_from s p shown e =
      elim (cases_Bool (makes_steps m s && is_holder s (get_or m.contents.hands p None))) [
        | inl own ↦
            let both = and_parts (makes_steps m s) (is_holder s (get_or m.contents.hands p None)) own in
            let is : get_or m.contents.hands p None ≡ Some shown = sym (cond-true _ (get_or m.contents.hands p None) None own) ∙ e in
            at (w.contents.hand p) both.0 (sym (ap (is_holder s) is) ∙ both.1) refl (subst (λ o. ShowsHandIfAny o (w.contents.hand p)) is (shows.contents.hand p))
        | inr other ↦ let none : hand_of m s p ≡ None = cond-false _ (get_or m.contents.hands p None) None other in absurd (false≢true (ap is_none (sym e ∙ none)))
      ] where
        at : (h : Option Hand) → makes_steps m s ≡ true → is_holder s (Some shown) ≡ true → w.contents.hand p ≡ h → ShowsHandIfAny (Some shown) h → HasInHand w s p shown
        at None steps own is it = absurd it
        at (Some hand) steps own is it =
            let whose : hand.holder ≡ s = sym it.holder ∙ eqb-true shown.holder s own in
            record {
              steps = steps_from s steps;
              holding = safe.but_slots.table.carriers.hands p s ∙ ap (λ h. is_hand_of h s) is ∙ sym (ap (λ k. k == s) it.holder) ∙ own;
              exists = subst (λ n. p < n) shows.contents.sixteen_hands (hand_within m s p shown e);
              hand = hand;
              is_hand = is;
              shows = it;
              whose = whose;
            }

  pub hand_not : (s p : ℕ) → hand_of m s p ≡ None → MakesSteps w.numbers s → w.sessions.holds_partition s p ≡ true → ⊥
  hand_not s p e steps holding =
      let kept = hand_kept (get_or m.contents.hands p None) (w.contents.hand p) s (shows.contents.hand p) (sym (safe.but_slots.table.carriers.hands p s) ∙ holding) in
      let own = and_from (makes_steps m s) (is_holder s (get_or m.contents.hands p None)) (steps_kept s steps) kept.0 in
      kept.1 (sym (cond-true _ (get_or m.contents.hands p None) None own) ∙ e)

  pub awaits_from : (s : ℕ) (t : Tag) (n : Mode) → awaits (get_or m.waits.awaited s None) t n ≡ is_for (w.sessions.awaited s) t n
  awaits_from s t n = ap (λ o. awaits o t n) (shows.waits.awaited s) ∙ awaits_same (w.sessions.awaited s) t n

  -- The slots are the World's.
  pub slots_from : (s : ℕ) (t : Tag) (n : Mode) → slots_hold m s t n ≡ slots_of w.words.database w.words.slot s t n
  slots_from s t n = λ i. slot_holds (shows.fast_path.database s i) (λ place. shows.fast_path.slot s place i) t n

  -- A session's own holds in contents are those of the contents but what it awaits.
  pub own_but_from : (s : ℕ) (t : Tag) (n : Mode) → own_but w.sessions.own (slots_of w.words.database w.words.slot) s t n ≡ ((w.contents.now (partition_of t)).holds s t n && not (awaits (get_or m.waits.awaited s None) t n))
  own_but_from s t n =
      let there = (w.contents.now (partition_of t)).holds s t n in
      let own = own_but w.sessions.own (slots_of w.words.database w.words.slot) s t n in
      elim (cases_Bool (is_for (w.sessions.awaited s) t n)) [
        | inl its ↦ safe.but_slots.table.promise.one_place.awaited_is_not_own s t n its ∙ sym (and_not_true there _ (awaits_from s t n ∙ its))
        | inr other ↦
            sym (or_false own _ (not_pending (w.sessions.awaited s) (stages w s) t n other))
            ∙ sym ((safe.but_slots.table.promise.one_place.on_object t).held s n) ∙ sym (and_not_false there _ (awaits_from s t n ∙ other))
      ]

  -- The word of a partition's lock, and that of the lock of a session's fast-path slots, as the machine reads
  -- them.
  pub partition_word_from : (i p : ℕ) (d : LockState) → i ≡ p → p < length m.words.partitions → ShowsLock (get_or m.words.partitions i d) (w.words.partition p)
  partition_word_from i p d place in_words =
      subst (λ its. ShowsLock its (w.words.partition p))
      (sym (ap (λ k. get_or m.words.partitions k d) place ∙ get_or_default m.words.partitions p d opening_state in_words)) (shows.words.partition p)

  pub fast_word_from : (i o : ℕ) (d : LockState) → i ≡ o → o < 64 → ShowsLock (get_or m.words.fast i d) (w.words.fast o)
  fast_word_from i o d place exists =
      let in_words : o < length m.words.fast = subst (λ n. o < n) (sym shows.words.sixty_four_fast) exists in
      subst (λ its. ShowsLock its (w.words.fast o))
      (sym (ap (λ k. get_or m.words.fast k d) place ∙ get_or_default m.words.fast o d opening_state in_words)) (shows.words.fast o)

  -- A session's own holds are those that its slots show, and those of the contents but what it awaits.
  pub own_from : (s : ℕ) (t : Tag) (n : Mode)
      → w.sessions.own s t n ≡ (slots_hold m s t n || ((w.contents.now (partition_of t)).holds s t n && not (awaits (get_or m.waits.awaited s None) t n)))
  own_from s t n =
      let there = (w.contents.now (partition_of t)).holds s t n && not (awaits (get_or m.waits.awaited s None) t n) in
      let slots = slots_of w.words.database w.words.slot in
      elim (cases_Bool (slots s t n)) [
        | inl shown ↦ safe.slots.are_own s t n shown ∙ sym (ap (λ b. b || there) (slots_from s t n ∙ shown))
        | inr not_shown ↦
            sym (and_not_false (w.sessions.own s t n) (slots s t n) not_shown) ∙ own_but_from s t n
            ∙ sym (ap (λ b. b || there) (slots_from s t n ∙ not_shown))
      ]

  -- So what is in a content and not awaited is own,
  pub own_in_content : (s : ℕ) (t : Tag) (n : Mode) → (w.contents.now (partition_of t)).holds s t n ≡ true → awaits (get_or m.waits.awaited s None) t n ≡ false → w.sessions.own s t n ≡ true
  own_in_content s t n there not_awaited =
      own_from s t n
      ∙ or_right (slots_hold m s t n) ((w.contents.now (partition_of t)).holds s t n && not (awaits (get_or m.waits.awaited s None) t n)) (and_from _ _ there (not_from_false _ not_awaited))

  -- and what is neither in a content nor in a slot is not.
  pub own_nowhere : (s : ℕ) (t : Tag) (n : Mode) → (w.contents.now (partition_of t)).holds s t n ≡ false → slots_hold m s t n ≡ false → w.sessions.own s t n ≡ false
  own_nowhere s t n absent not_shown =
      own_from s t n
      ∙ or_from (slots_hold m s t n) ((w.contents.now (partition_of t)).holds s t n && not (awaits (get_or m.waits.awaited s None) t n)) not_shown (and_left _ _ absent)

  pub not_awaited_own : (s : ℕ) (t : Tag) (n : Mode) → w.sessions.own s t n ≡ true → awaits (get_or m.waits.awaited s None) t n ≡ false
  not_awaited_own s t n own =
      awaits_from s t n ∙ false_from_ne_true _ (λ its. both_ways (w.sessions.own s t n) (safe.order.awaited_is_not_own s t n its) own)

  pub content_from : (t : Tag) → contents_in m.contents.parts.items (partition_of t) ≡ w.contents.now (partition_of t)
  content_from t = shows.contents.now (partition_of t) (omega arith)

  pub no_wait_from : (s : ℕ) → is_none (get_or m.waits.awaited s None) ≡ true → w.sessions.awaited s ≡ None
  no_wait_from s e = none_kept (w.sessions.awaited s) (sym (ap is_none (shows.waits.awaited s)) ∙ e)

  pub some_wait_from : (s : ℕ) → is_none (get_or m.waits.awaited s None) ≡ false → w.sessions.awaited s ≡ None → ⊥
  some_wait_from s e none = both_ways _ e (ap is_none (shows.waits.awaited s ∙ ap (option_map awaited_of) none))

  -- A session that waits for nothing is in no queue.
  pub stands_not : (s : ℕ) → w.sessions.awaited s ≡ None → (t : Tag) → waits_there ((w.contents.now (partition_of t)).waits t) s ≡ false
  stands_not s none t =
      filter_nothing (λ wait. wait.session == s) ((w.contents.now (partition_of t)).waits t)
      ((safe.but_slots.table.promise.one_place.on_object t).in_queue s ∙ ap (λ o. queued_by s o (stages w s) t) none)

  pub awaits_not : (s : ℕ) → w.sessions.awaited s ≡ None → (t : Tag) (n : Mode) → awaits_mode ((w.contents.now (partition_of t)).waits t) s n ≡ false
  awaits_not s none t n =
      false_from_ne_true _ (λ any. both_ways _ (stands_not s none t)
      (any_weaker _ (λ wait. wait.session == s) ((w.contents.now (partition_of t)).waits t) (λ wait e. (and_parts _ _ e).0) any))

  -- So the machine's contents have no wait of it.
  pub stands_not_here : (s : ℕ) (t : Tag) → is_none (get_or m.waits.awaited s None) ≡ true → waits_there ((contents_in m.contents.parts.items (partition_of t)).waits t) s ≡ false
  stands_not_here s t none = ap (λ (c : Content). waits_there (c.waits t) s) (content_from t) ∙ stands_not s (no_wait_from s none) t

  pub awaits_not_here : (s : ℕ) (t : Tag) (n : Mode) → is_none (get_or m.waits.awaited s None) ≡ true → awaits_mode ((contents_in m.contents.parts.items (partition_of t)).waits t) s n ≡ false
  awaits_not_here s t n none = ap (λ (c : Content). awaits_mode (c.waits t) s n) (content_from t) ∙ awaits_not s (no_wait_from s none) t n

  -- A session may ask just where its own account fits a grant.
  pub asks_new : (s : ℕ) (t : Tag) (n : Mode) → may_ask m s t n ≡ true
      → (is_none (get_or m.waits.awaited s None) ≡ true) × ((contents_in m.contents.parts.items (partition_of t)).holds s t n ≡ false) × (slots_hold m s t n ≡ false)
  asks_new s t n may =
      let both = and_parts _ _ may in
      let first = and_parts _ _ both.0 in
      (first.0, not-true _ first.1, not-true _ both.1)

  pub fits_from : (s : ℕ) (t : Tag) (n : Mode) → may_ask m s t n ≡ true → (w.sessions.awaited s ≡ None) × (w.sessions.own s t n ≡ false)
  fits_from s t n may =
      let new = asks_new s t n may in
      (no_wait_from s new.0, own_nowhere s t n (sym (ap (λ (c : Content). c.holds s t n) (content_from t)) ∙ new.1) new.2)

  pub from_fits : (s : ℕ) (t : Tag) (n : Mode) → w.sessions.awaited s ≡ None → w.sessions.own s t n ≡ false → may_ask m s t n ≡ true
  from_fits s t n none own =
      let no_wait : is_none (get_or m.waits.awaited s None) ≡ true = true_from_ne_false _ (λ e. some_wait_from s e none) in
      let not_awaited : awaits (get_or m.waits.awaited s None) t n ≡ false = awaits_from s t n ∙ ap (λ o. is_for o t n) none in
      let absent : (w.contents.now (partition_of t)).holds s t n ≡ false =
      false_from_ne_true _ (λ held. both_ways (w.sessions.own s t n) own (own_in_content s t n held not_awaited)) in
      let not_shown : slots_hold m s t n ≡ false = (or_parts _ _ (sym (own_from s t n) ∙ own)).0 in
      and_from _ _ (and_from _ _ no_wait (not_from_false _ (ap (λ (c : Content). c.holds s t n) (content_from t) ∙ absent))) (not_from_false _ not_shown)
