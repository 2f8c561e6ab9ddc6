use Rattle.std.proofs.Common.{◌≡◌, ◌≢◌, ℕ, Bool, true, false, Option, Some, None, if◌then◌else◌, refl, sym, ap, ◌∙◌, inl, inr}
use Rattle.std.specs.Prelude.{◌==◌, ◌&&◌}
use Rattle.std.proofs.lemmas.Bool.{cases_eq, eqb-true, eq-eqb, ne_eqb, cond-true, cond-false, and_right, false≢true, false_from_ne_true}
use Rattle.modes_core.specs.declared.tags.Tag.{Tag}
use Rattle.modes_core.specs.Tag.{partition_of}
use Rattle.lock_table.specs.declared.moves.Move.{Move}
use Rattle.lock_table.specs.OwnWait.{OwnWait, InQueue, WasGranted, HasLeft}
use Rattle.lock_world.specs.WaitWord.{wait_state}
use Rattle.lock_world.specs.World.{Hand, recorded_in, is_unmarked}
use Rattle.lock_table.specs.Put.{set_at}
use Rattle.lock_world.specs.Happens.Waits.{recording}
use Rattle.lock_world.specs.Safe.{is_hand_of, is_leave_of, stage_by_hand, stage_of}
use Rattle.lock_table.proofs.Lemmas.Put.{set_at-here, set_at-else}

-- How far a wait has come: what the hand of the partition and the wait's word tell.

-- by the hand
pub hand-unmarked : (hand : Option Hand) (k : ℕ) (t : Tag) → is_unmarked hand k ≡ true → stage_by_hand hand k t ≡ WasGranted
hand-unmarked hand k t stands_unmarked = cond-true (is_unmarked hand k) WasGranted _ stands_unmarked

pub hand-left : (hand : Option Hand) (k : ℕ) (t : Tag) → is_unmarked hand k ≡ false → is_hand_of hand k ≡ true → is_leave_of (recorded_in hand) t ≡ true → stage_by_hand hand k t ≡ HasLeft
hand-left hand k t not_unmarked its leave =
    cond-false (is_unmarked hand k) WasGranted _ not_unmarked ∙ cond-true (is_hand_of hand k && is_leave_of (recorded_in hand) t) HasLeft InQueue (ap (λ b. b && is_leave_of (recorded_in hand) t) its ∙ leave)

pub hand-queued : (hand : Option Hand) (k : ℕ) (t : Tag) → is_unmarked hand k ≡ false → (is_hand_of hand k && is_leave_of (recorded_in hand) t) ≡ false → stage_by_hand hand k t ≡ InQueue
hand-queued hand k t not_unmarked not_left = cond-false (is_unmarked hand k) WasGranted _ not_unmarked ∙ cond-false (is_hand_of hand k && is_leave_of (recorded_in hand) t) HasLeft InQueue not_left

pub hand-no_leave : (hand : Option Hand) (k : ℕ) (t : Tag) → is_unmarked hand k ≡ false → is_leave_of (recorded_in hand) t ≡ false → stage_by_hand hand k t ≡ InQueue
hand-no_leave hand k t not_unmarked no_leave = hand-queued hand k t not_unmarked (and_right (is_hand_of hand k) (is_leave_of (recorded_in hand) t) no_leave)

pub hand-unrecorded : (hand : Option Hand) (k : ℕ) (t : Tag) → is_unmarked hand k ≡ false → recorded_in hand ≡ None → stage_by_hand hand k t ≡ InQueue
hand-unrecorded hand k t not_unmarked unrecorded = hand-no_leave hand k t not_unmarked (ap (λ move. is_leave_of move t) unrecorded)

-- Two hands of one session, alike in whether it is unmarked there and whether its leave is recorded, tell the
-- same.
pub hand-same : (hand hand' : Option Hand) (k : ℕ) (t : Tag) → is_unmarked hand k ≡ is_unmarked hand' k → is_hand_of hand k ≡ is_hand_of hand' k
    → is_leave_of (recorded_in hand) t ≡ is_leave_of (recorded_in hand') t → stage_by_hand hand k t ≡ stage_by_hand hand' k t
hand-same hand hand' k t owing its leave i =
    if owing i then WasGranted else (if its i && leave i then HasLeft else InQueue)

-- by the word, and else by the hand
module _ (n : ℕ) (hand : ℕ → Option Hand) (k : ℕ) (wait : OwnWait) where
  pub stage-granted : wait_state n ≡ 2 → stage_of n hand k (Some wait) ≡ WasGranted
  stage-granted two = cond-true (wait_state n == 2) WasGranted _ (eq-eqb (wait_state n) 2 two)

  pub stage-by_hand : wait_state n ≢ 2 → stage_of n hand k (Some wait) ≡ stage_by_hand (hand (partition_of wait.tag)) k wait.tag
  stage-by_hand not_two = cond-false (wait_state n == 2) WasGranted _ (ne_eqb (wait_state n) 2 not_two)

  pub stage-unmarked : is_unmarked (hand (partition_of wait.tag)) k ≡ true → stage_of n hand k (Some wait) ≡ WasGranted
  stage-unmarked stands_unmarked =
      elim (cases_eq (wait_state n) 2) [
        | inl two ↦ stage-granted two
        | inr not_two ↦ stage-by_hand not_two ∙ hand-unmarked (hand (partition_of wait.tag)) k wait.tag stands_unmarked
      ]

  -- A wait whose word shows that it was granted neither stands in the queue nor has left it.
  pub queued-state : stage_of n hand k (Some wait) ≡ InQueue → wait_state n ≢ 2
  queued-state queued two = let e : WasGranted ≡ InQueue = sym (stage-granted two) ∙ queued in absurd (cc)

  pub left-state : stage_of n hand k (Some wait) ≡ HasLeft → wait_state n ≢ 2
  left-state left two = let e : WasGranted ≡ HasLeft = sym (stage-granted two) ∙ left in absurd (cc)

-- The stage is the same by two hands that tell the same of the wait.
pub stage_of-same :
    (n : ℕ) (hand hand' : ℕ → Option Hand) (k : ℕ) (o : Option OwnWait)
    → ((wait : OwnWait) → o ≡ Some wait → stage_by_hand (hand (partition_of wait.tag)) k wait.tag ≡ stage_by_hand (hand' (partition_of wait.tag)) k wait.tag)
    → stage_of n hand k o ≡ stage_of n hand' k o
stage_of-same n hand hand' k None same = refl
stage_of-same n hand hand' k (Some wait) same = ap (λ stage. if wait_state n == 2 then WasGranted else stage) (same wait refl)

-- The stage is the same where the hand of one partition changes, and says the same of the wait.
pub stage_of-set :
    (n : ℕ) (hand : ℕ → Option Hand) (p : ℕ) (new : Option Hand) (k : ℕ) (o : Option OwnWait)
    → ((wait : OwnWait) → o ≡ Some wait → partition_of wait.tag ≡ p → stage_by_hand (hand p) k wait.tag ≡ stage_by_hand new k wait.tag)
    → stage_of n hand k o ≡ stage_of n (set_at hand p new) k o
stage_of-set n hand p new k o same = stage_of-same n hand (set_at hand p new) k o at where
  at : (wait : OwnWait) → o ≡ Some wait → stage_by_hand (hand (partition_of wait.tag)) k wait.tag ≡ stage_by_hand (set_at hand p new (partition_of wait.tag)) k wait.tag
  at wait is =
      elim (cases_eq (partition_of wait.tag) p) [
        | inl here ↦ ap (λ q. stage_by_hand (hand q) k wait.tag) here ∙ same wait is here ∙ ap (λ h. stage_by_hand h k wait.tag) (sym (set_at-here hand p new (partition_of wait.tag) here))
        | inr other ↦ ap (λ h. stage_by_hand h k wait.tag) (sym (set_at-else hand p new (partition_of wait.tag) other))
      ]

-- Hands.

pub is_hand_of-one : (hand : Option Hand) (s k : ℕ) → is_hand_of hand s ≡ true → is_hand_of hand k ≡ true → k ≡ s
is_hand_of-one None s k its others = absurd (false≢true its)
is_hand_of-one (Some hand) s k its others = sym (eqb-true hand.holder k others) ∙ eqb-true hand.holder s its

pub is_hand_of-else : (hand : Option Hand) (s k : ℕ) → is_hand_of hand s ≡ true → k ≢ s → is_hand_of hand k ≡ false
is_hand_of-else hand s k its other = false_from_ne_true (is_hand_of hand k) (λ e. other (is_hand_of-one hand s k its e))

-- A content that is in nobody's hand is at home.
pub nobody's : (hand : Option Hand) → ((k : ℕ) → is_hand_of hand k ≡ false) → hand ≡ None
nobody's None none = refl
nobody's (Some hand) none = absurd (false≢true (sym (none hand.holder) ∙ eq-eqb hand.holder hand.holder refl))

-- A hand with a move recorded.
pub recording-hand : (hand : Option Hand) (done : Move) (unmarked : ℕ → Bool) (k : ℕ) → is_hand_of (recording hand done unmarked) k ≡ is_hand_of hand k
recording-hand None done unmarked k = refl
recording-hand (Some hand) done unmarked k = refl

pub recording-recorded : (hand : Option Hand) (done : Move) (unmarked : ℕ → Bool) (s : ℕ) → is_hand_of hand s ≡ true → recorded_in (recording hand done unmarked) ≡ Some done
recording-recorded None done unmarked s its = absurd (false≢true its)
recording-recorded (Some hand) done unmarked s its = refl

pub recording-unmarked : (hand : Option Hand) (done : Move) (unmarked : ℕ → Bool) (s : ℕ) → is_hand_of hand s ≡ true → (k : ℕ) → is_unmarked (recording hand done unmarked) k ≡ unmarked k
recording-unmarked None done unmarked s its k = absurd (false≢true its)
recording-unmarked (Some hand) done unmarked s its k = refl

pub recording-by_move : (hand : Option Hand) (done : Move) (unmarked : ℕ → Bool) → recorded_in (recording hand done unmarked) ≡ None → (k : ℕ) → is_unmarked (recording hand done unmarked) k ≡ false
recording-by_move None done unmarked none k = refl
recording-by_move (Some hand) done unmarked none k = let e : Some done ≡ None = none in absurd (cc)
