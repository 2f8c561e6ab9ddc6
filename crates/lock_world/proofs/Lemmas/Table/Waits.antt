use Rattle.std.proofs.Common.{◌≡◌, ℕ, true, refl, inl, inr, [], Bool, false, List, Option, sym, ap, ◌∙◌, subst, ◌≢◌, Some, None}
use Rattle.std.specs.Prelude.{◌==◌, ◌||◌, ◌&&◌, not}
use Rattle.std.proofs.lemmas.Bool.{eqb-true, or_cases, cases_Bool, cond-true, cond-false, or_left, or_right, or_from, false_from_ne_true}
use Rattle.lock_world.specs.WaitWord.{wait_state, asked_word, granted_word}
use Rattle.lock_world.specs.World.{World, Hand, recorded_in, is_unmarked}
use Rattle.lock_table.specs.Put.{set_at}
use Rattle.lock_world.specs.Happens.Waits.{after_asking, after_loading_wait, recording, unmarked_but, after_setting_waiting, MayMarkFirst, after_marking_first, MayMarkNext, after_marking_next, MayClearSeen, MayClearInHand, taken_over, after_clearing, MayLeave, after_leaving}
use Rattle.lock_world.specs.Safe.{TableIsSafe, is_hand_of, stage_of, stages}
use Rattle.lock_table.proofs.Lemmas.Put.{set_at-each, set_at-here, set_at-else, set_at-twice}
use Rattle.lock_world.proofs.Lemmas.Words.Wait.{asked_word-state}
use Rattle.lock_world.proofs.Lemmas.Waits.Shown.{WaitsAreSafe}
use Rattle.lock_world.proofs.Lemmas.Waits.Steps.{same_states-safe, seeing-safe, GrantsOthers, joining_queue-safe, recording-safe, marking-safe, own_hand-not_unmarked, granted-not_unmarked, stage_left, taking_over-safe, ending-safe}
use Rattle.lock_world.proofs.Lemmas.Waits.Group.{waits_of, with_waits-table, SpentHaveNothing-own}
use Rattle.modes_core.specs.declared.modes.Mode.{Mode}
use Rattle.modes_core.specs.declared.tags.Tag.{Tag}
use Rattle.modes_core.specs.Tag.{partition_of}
use Rattle.lock_table.specs.declared.moves.Move.{Move}
use Rattle.lock_table.specs.declared.moves.Move.TheVariants.{Join, Leave}
use Rattle.lock_table.specs.Content.{Wait, Content, Holds, set_hold}
use Rattle.lock_table.specs.Queue.{waits_there}
use Rattle.lock_world.specs.Happens.Partitions.{MayMove, own_after}
use Rattle.lock_world.proofs.Lemmas.Waits.Stages.{recording-hand, recording-recorded, recording-unmarked, stage-granted, left-state}
use Rattle.lock_world.proofs.Lemmas.Table.Partitions.{own_after-else}
use Rattle.lock_table.specs.OwnWait.{OwnWait, WasGranted, HasLeft}
use Rattle.lock_table.proofs.Lemmas.Holds.{set_hold-other_session}
use Rattle.lock_world.proofs.Lemmas.Moves.Moved.{granted-held, left-not_held, gone-stage}

-- Asking any session to cancel is safe.
pub asking-table : (w : World) (s k : ℕ) → TableIsSafe w → TableIsSafe (after_asking w s k)
asking-table w s k safe = with_waits-table w w.contents.now w.sessions.own w.sessions.awaited w.sessions.seen _ w.contents.hand _ safe
    (same_states-safe w.contents.now w.sessions.own w.sessions.awaited w.sessions.seen w.words.wait w.contents.hand (waits_of w safe) (set_at w.words.wait k (asked_word (w.words.wait k)))
    (set_at-each (λ j n. wait_state n ≡ wait_state (w.words.wait j)) w.words.wait k (asked_word (w.words.wait k)) (asked_word-state (w.words.wait k)) (λ _ _. refl)))
    safe.promise.spent (λ _ _. refl)

-- Loading one's own wait word is safe: a session sees a grant only where the word shows it.
pub loading_wait-table : (w : World) (s n : ℕ) → TableIsSafe w → TableIsSafe (after_loading_wait w s n)
loading_wait-table w s n safe = with_waits-table w w.contents.now w.sessions.own w.sessions.awaited _ w.words.wait w.contents.hand _ safe
    (seeing-safe w.contents.now w.sessions.own w.sessions.awaited w.sessions.seen w.words.wait w.contents.hand (waits_of w safe) s
    (w.sessions.seen s || (wait_state (w.words.wait s) == 2)) shown)
    safe.promise.spent (λ _ _. refl) where
      shown : (w.sessions.seen s || (wait_state (w.words.wait s) == 2)) ≡ true → wait_state (w.words.wait s) ≡ 2
      shown e =
          elim (or_cases (w.sessions.seen s) (wait_state (w.words.wait s) == 2) e) [
            | inl seen ↦ safe.promise.wait_words.seen_is_shown s seen
            | inr two ↦ eqb-true (wait_state (w.words.wait s)) 2 two
          ]

-- A recorded move leaves each hand its session's.
pub recording-holders : (hand : ℕ → Option Hand) (p : ℕ) (done : Move) (unmarked : ℕ → Bool) (q k : ℕ) → is_hand_of (set_at hand p (recording (hand p) done unmarked) q) k ≡ is_hand_of (hand q) k
recording-holders hand p done unmarked = set_at-each (λ q h. (k : ℕ) → is_hand_of h k ≡ is_hand_of (hand q) k) hand p (recording (hand p) done unmarked) (recording-hand (hand p) done unmarked) (λ _ _ _. refl)

-- Setting one's own wait word to waiting is safe.
pub setting_waiting-table : (w : World) (s : ℕ) (t : Tag) (m : Mode) (content : Content) → TableIsSafe w → MayMove w s (partition_of t) (Join t m) [] content → TableIsSafe (after_setting_waiting w s t m content)
setting_waiting-table w s t m content safe may = with_waits-table w (set_at w.contents.now p content) w.sessions.own _ _ _ _ w.sessions.trace safe
    (joining_queue-safe w.contents.now w.sessions.own w.sessions.awaited w.sessions.seen w.words.wait w.contents.hand (waits_of w safe) p s t m content may.unrecorded
    (sym (safe.carriers.hands p s) ∙ may.holding) refl may.own may.moved)
    (SpentHaveNothing-own w.numbers.live w.sessions.own w.sessions.own w.sessions.awaited _ w.sessions.holds_partition s may.steps.live (λ _ _ _ _. refl)
    (λ k other. set_at-else w.sessions.awaited s _ k other) safe.promise.spent)
    (recording-holders w.contents.hand p (Join t m) (λ _. false)) where
      p : ℕ
      p = partition_of t

-- The first of those whom a move grants is marked as the move is recorded.
module _ (w : World) (s k p : ℕ) (done : Move) (granted : List Wait) (content : Content) (grants : GrantsOthers done) (safe : TableIsSafe w) (may : MayMarkFirst w s k p done granted content) where
  abbrev hand : ℕ → Option Hand
  hand = w.contents.hand

  abbrev all_unmarked : Option Hand
  all_unmarked = recording (hand p) done (waits_there granted)

  abbrev one_marked : Option Hand
  one_marked = recording (hand p) done (unmarked_but (waits_there granted) k)

  its : is_hand_of (hand p) s ≡ true
  its = sym (safe.carriers.hands p s) ∙ may.may_move.holding

  here : set_at hand p all_unmarked p ≡ all_unmarked
  here = set_at-here hand p all_unmarked p refl

  recorded : WaitsAreSafe (set_at w.contents.now p content) (own_after w.sessions.own s done) w.sessions.awaited w.sessions.seen w.words.wait (set_at hand p all_unmarked)
  recorded = recording-safe w.contents.now w.sessions.own w.sessions.awaited w.sessions.seen w.words.wait hand (waits_of w safe) p s done granted content grants may.may_move.unrecorded its
      may.may_move.object may.may_move.own may.may_move.moved

  all_unmarked_ones : (j : ℕ) → is_unmarked (set_at hand p all_unmarked p) j ≡ waits_there granted j
  all_unmarked_ones j = ap (λ h. is_unmarked h j) here ∙ recording-unmarked (hand p) done (waits_there granted) s its j

  marked : WaitsAreSafe (set_at w.contents.now p content) (own_after w.sessions.own s done) w.sessions.awaited w.sessions.seen (set_at w.words.wait k (granted_word (w.words.wait k)))
      (set_at (set_at hand p all_unmarked) p one_marked)
  marked = marking-safe (set_at w.contents.now p content) (own_after w.sessions.own s done) w.sessions.awaited w.sessions.seen w.words.wait (set_at hand p all_unmarked) recorded p k one_marked
      (all_unmarked_ones k ∙ may.among)
      (λ j. recording-unmarked (hand p) done (unmarked_but (waits_there granted) k) s its j ∙ ap (λ b. b && not (j == k)) (sym (all_unmarked_ones j)))
      (λ j. ap (λ h. is_hand_of h j) here ∙ recording-hand (hand p) done (waits_there granted) j ∙ sym (recording-hand (hand p) done (unmarked_but (waits_there granted) k) j))
      (ap recorded_in here ∙ recording-recorded (hand p) done (waits_there granted) s its ∙ sym (recording-recorded (hand p) done (unmarked_but (waits_there granted) k) s its))

  -- Marking the first wait granted is safe.
  pub marking_first-table : TableIsSafe (after_marking_first w s k p done granted content)
  marking_first-table = with_waits-table w (set_at w.contents.now p content) (own_after w.sessions.own s done) w.sessions.awaited w.sessions.seen _ _ w.sessions.trace safe
      (subst (λ hands. WaitsAreSafe (set_at w.contents.now p content) (own_after w.sessions.own s done) w.sessions.awaited w.sessions.seen (set_at w.words.wait k (granted_word (w.words.wait k))) hands)
      (set_at-twice hand p all_unmarked one_marked) marked)
      (SpentHaveNothing-own w.numbers.live w.sessions.own (own_after w.sessions.own s done) w.sessions.awaited w.sessions.awaited w.sessions.holds_partition s may.may_move.steps.live
      (own_after-else w.sessions.own s done) (λ _ _. refl) safe.promise.spent)
      (recording-holders hand p done (unmarked_but (waits_there granted) k))

-- Marking one more wait granted is safe.
pub marking_next-table : (w : World) (s k p : ℕ) (done : Move) → TableIsSafe w → MayMarkNext w s k p done → TableIsSafe (after_marking_next w k p done)
marking_next-table w s k p done safe may = with_waits-table w w.contents.now w.sessions.own w.sessions.awaited w.sessions.seen _ _ w.sessions.trace safe
    (marking-safe w.contents.now w.sessions.own w.sessions.awaited w.sessions.seen w.words.wait w.contents.hand (waits_of w safe) p k (recording (w.contents.hand p) done rest) may.is_unmarked_in
    (recording-unmarked (w.contents.hand p) done rest s of_s) (λ j. sym (recording-hand (w.contents.hand p) done rest j))
    (may.recorded ∙ sym (recording-recorded (w.contents.hand p) done rest s of_s)))
    safe.promise.spent (recording-holders w.contents.hand p done rest) where
      rest : ℕ → Bool
      rest = unmarked_but (is_unmarked (w.contents.hand p)) k

      of_s : is_hand_of (w.contents.hand p) s ≡ true
      of_s = sym (safe.carriers.hands p s) ∙ may.holding

-- The session's wait ends, and it is unmarked in no hand.
module _ (w : World) (s : ℕ) (wait : OwnWait) (safe : TableIsSafe w) (live : w.numbers.live s ≡ true) (is : w.sessions.awaited s ≡ Some wait) (not_unmarked : (q : ℕ) → is_unmarked (w.contents.hand q) s ≡ false) where
  abbrev holds_it : Bool
  holds_it = (w.contents.now (partition_of wait.tag)).holds s wait.tag wait.mode

  abbrev with_it : Holds
  with_it = set_hold w.sessions.own s wait.tag wait.mode true

  taken_over-else : (k : ℕ) (o : Tag) (n : Mode) → k ≢ s → taken_over w s wait k o n ≡ w.sessions.own k o n
  taken_over-else k o n other =
      elim (cases_Bool (w.sessions.seen s || holds_it)) [
        | inl has ↦ ap (λ own. own k o n) (cond-true (w.sessions.seen s || holds_it) with_it w.sessions.own has) ∙ set_hold-other_session w.sessions.own s wait.tag wait.mode true k o n other
        | inr not_has ↦ ap (λ own. own k o n) (cond-false (w.sessions.seen s || holds_it) with_it w.sessions.own not_has)
      ]

  clearing-table :
      WaitsAreSafe w.contents.now (taken_over w s wait) (set_at w.sessions.awaited s None) (set_at w.sessions.seen s false) (set_at w.words.wait s 0) w.contents.hand
      → TableIsSafe (after_clearing w s wait)
  clearing-table waits = with_waits-table w w.contents.now (taken_over w s wait) _ _ _ w.contents.hand w.sessions.trace safe waits
      (SpentHaveNothing-own w.numbers.live w.sessions.own (taken_over w s wait) w.sessions.awaited _ w.sessions.holds_partition s live taken_over-else
      (λ k other. set_at-else w.sessions.awaited s None k other) safe.promise.spent)
      (λ _ _. refl)

  clearing_granted-table : stages w s ≡ WasGranted → (w.sessions.seen s || holds_it) ≡ true → TableIsSafe (after_clearing w s wait)
  clearing_granted-table granted has = clearing-table
      (subst (λ own. WaitsAreSafe w.contents.now own (set_at w.sessions.awaited s None) (set_at w.sessions.seen s false) (set_at w.words.wait s 0) w.contents.hand)
      (sym (cond-true (w.sessions.seen s || holds_it) with_it w.sessions.own has))
      (taking_over-safe w.contents.now w.sessions.own w.sessions.awaited w.sessions.seen w.words.wait w.contents.hand (waits_of w safe) s not_unmarked wait is granted))

  clearing_left-table : stages w s ≡ HasLeft → (w.sessions.seen s || holds_it) ≡ false → TableIsSafe (after_clearing w s wait)
  clearing_left-table left not_has = clearing-table
      (subst (λ own. WaitsAreSafe w.contents.now own (set_at w.sessions.awaited s None) (set_at w.sessions.seen s false) (set_at w.words.wait s 0) w.contents.hand)
      (sym (cond-false (w.sessions.seen s || holds_it) with_it w.sessions.own not_has))
      (ending-safe w.contents.now w.sessions.own w.sessions.awaited w.sessions.seen w.words.wait w.contents.hand (waits_of w safe) s not_unmarked wait is left))

-- Clearing one's own wait word after it was seen to show a grant is safe.
pub clearing_seen-table : (w : World) (s : ℕ) (wait : OwnWait) → TableIsSafe w → MayClearSeen w s wait → TableIsSafe (after_clearing w s wait)
clearing_seen-table w s wait safe may = clearing_granted-table w s wait safe may.steps.live may.is_wait
    (granted-not_unmarked w.contents.now w.sessions.own w.sessions.awaited w.sessions.seen w.words.wait w.contents.hand (waits_of w safe) s two)
    (ap (stage_of (w.words.wait s) w.contents.hand s) may.is_wait ∙ stage-granted (w.words.wait s) w.contents.hand s wait two)
    (or_left (w.sessions.seen s) _ may.seen) where
      two : wait_state (w.words.wait s) ≡ 2
      two = safe.promise.wait_words.seen_is_shown s may.seen

-- Clearing it with the partition in hand is safe, where the wait is not in the queue: it was granted, or it
-- has left.
pub clearing_in_hand-table : (w : World) (s : ℕ) (wait : OwnWait) → TableIsSafe w → MayClearInHand w s wait → TableIsSafe (after_clearing w s wait)
clearing_in_hand-table w s wait safe may =
    elim (gone-stage w.contents.now w.sessions.own w.sessions.awaited (stages w) p s safe.promise.one_place wait may.is_wait may.gone) [
      | inl granted ↦ clearing_granted-table w s wait safe may.steps.live may.is_wait not_unmarked granted
          (or_right (w.sessions.seen s) _ (granted-held w.contents.now w.sessions.own w.sessions.awaited (stages w) p s safe.promise.one_place wait may.is_wait granted))
      | inr left ↦ clearing_left-table w s wait safe may.steps.live may.is_wait not_unmarked left
          (or_from (w.sessions.seen s) _ (false_from_ne_true (w.sessions.seen s) (not_seen left))
          (left-not_held w.contents.now w.sessions.own w.sessions.awaited (stages w) p s safe.promise.one_place wait may.is_wait left))
    ] where
      p : ℕ
      p = partition_of wait.tag

      not_unmarked : (q : ℕ) → is_unmarked (w.contents.hand q) s ≡ false
      not_unmarked = own_hand-not_unmarked w.contents.now w.sessions.own w.sessions.awaited w.sessions.seen w.words.wait w.contents.hand (waits_of w safe) s wait may.is_wait
          (sym (safe.carriers.hands p s) ∙ may.holding)

      not_seen : stages w s ≡ HasLeft → w.sessions.seen s ≡ true → ⊥
      not_seen left seen = left-state (w.words.wait s) w.contents.hand s wait (ap (stage_of (w.words.wait s) w.contents.hand s) (sym may.is_wait) ∙ left)
          (safe.promise.wait_words.seen_is_shown s seen)

-- The step that takes the wait out of the queue itself is safe.
pub leaving-table : (w : World) (s : ℕ) (wait : OwnWait) (granted : List Wait) (content : Content) → TableIsSafe w → MayLeave w s wait granted content → TableIsSafe (after_leaving w s wait granted content)
leaving-table w s wait granted content safe may = with_waits-table w (set_at w.contents.now p content) w.sessions.own _ _ _ hand w.sessions.trace safe
    (ending-safe (set_at w.contents.now p content) w.sessions.own w.sessions.awaited w.sessions.seen w.words.wait hand left s
    (own_hand-not_unmarked (set_at w.contents.now p content) w.sessions.own w.sessions.awaited w.sessions.seen w.words.wait hand left s wait may.is_wait (same p s ∙ its)) wait may.is_wait
    (stage_left w.contents.now w.sessions.own w.sessions.awaited w.sessions.seen w.words.wait w.contents.hand (waits_of w safe) p s (Leave wait.tag) granted content tt may.may_move.unrecorded its
    may.may_move.object may.may_move.own may.may_move.moved wait.tag refl))
    (SpentHaveNothing-own w.numbers.live w.sessions.own w.sessions.own w.sessions.awaited _ w.sessions.holds_partition s may.may_move.steps.live (λ _ _ _ _. refl)
    (λ k other. set_at-else w.sessions.awaited s None k other) safe.promise.spent)
    same where
      p : ℕ
      p = partition_of wait.tag

      hand : ℕ → Option Hand
      hand = set_at w.contents.hand p (recording (w.contents.hand p) (Leave wait.tag) (waits_there granted))

      same : (q k : ℕ) → is_hand_of (hand q) k ≡ is_hand_of (w.contents.hand q) k
      same = recording-holders w.contents.hand p (Leave wait.tag) (waits_there granted)

      its : is_hand_of (w.contents.hand p) s ≡ true
      its = sym (safe.carriers.hands p s) ∙ may.may_move.holding

      left : WaitsAreSafe (set_at w.contents.now p content) w.sessions.own w.sessions.awaited w.sessions.seen w.words.wait hand
      left = recording-safe w.contents.now w.sessions.own w.sessions.awaited w.sessions.seen w.words.wait w.contents.hand (waits_of w safe) p s (Leave wait.tag) granted content tt may.may_move.unrecorded its
          may.may_move.object may.may_move.own may.may_move.moved
