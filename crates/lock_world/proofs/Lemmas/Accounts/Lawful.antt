use Rattle.std.proofs.Common.{◌≡◌, ℕ, ◌<◌, Bool, true, false, List, [], Option, Some, None, refl, sym, ap, ◌∙◌, inl, inr, subst}
use Rattle.std.specs.Prelude.{◌==◌}
use Rattle.std.proofs.lemmas.Bool.{cases_Bool, cond-true, cond-false, eqb-true, eq-eqb, and_parts}
use Rattle.modes_core.specs.declared.modes.Mode.{Mode}
use Rattle.modes_core.specs.declared.tags.Tag.{Tag}
use Rattle.modes_core.specs.Tag.{partition_of, is_eligible_for}
use Rattle.lock_table.specs.declared.moves.Move.{Move}
use Rattle.lock_table.specs.declared.moves.Move.TheVariants.{Keep, Grant, Join, Release, Leave, Adopt}
use Rattle.lock_table.specs.Content.{Wait, Content, Holds}
use Rattle.lock_table.specs.Moves.{Moves, FitsOwn}
use Rattle.lock_table.specs.OwnWait.{OwnWait}
use Rattle.lock_table.specs.Queue.{waits_there}
use Rattle.lw_word.specs.SlotWord.{shows}
use Rattle.lock_world.specs.SlotHolds.{slot_count, slot_holds, relation_of, any_below, IsSlotToGrant}
use Rattle.lock_world.specs.World.{World, Hand, MakesSteps, recorded_in, is_unmarked}
use Rattle.lock_world.specs.Account.{InHand, SlotsInHand, own_hand, known_slots, account}
use Rattle.lock_world.specs.AccountLaw.{MayMoveBy, MayPutBy, MayPutRecordedBy, MayClearSeenBy, MayClearInHandBy, MayLeaveBy, MayPutFastBy, MayShareFastBy, MayUnshareFastBy, MayPassBy, MaySetSlotBy, MayClearSlotBy, MayTransferBy, MayCountBy, MayUncountBy}
use Rattle.lock_world.specs.Happens.Partitions.{MayMove, MayPutPartition, MayPutRecorded}
use Rattle.lock_world.specs.Happens.Waits.{MayClearSeen, MayClearInHand, MayLeave}
use Rattle.lw_word.specs.LightweightWord.{IsFreeToShare}
use Rattle.lock_world.specs.Happens.Sharing.{MayShare, MayUnshare}
use Rattle.lock_world.specs.Happens.Slots.{MayPutFast, MaySetSlot, MayClearSlot}
use Rattle.lock_world.specs.Happens.Transfers.{MayAdopt, MayTransfer}
use Rattle.lock_world.specs.Happens.Counters.{MayCount, MayUncount, MayPass}
use Rattle.lock_world.specs.Safe.{is_hand_of}
use Rattle.lock_world.specs.SafeWorld.{SafeWorld}
use Rattle.lock_world.proofs.Lemmas.Accounts.Parts.{mine}

-- What is lawful by a session's account is lawful.

-- A hand that a session knows is its own, and has what it knows.
pub record IsMine (hand : Option Hand) (now : Content) (s : ℕ) (its : InHand) : Type 0 where
  pub hand_of : Hand
  pub is_hand : hand ≡ Some hand_of
  pub whose : hand_of.holder ≡ s
  pub as_known : its ≡ mine hand_of now

pub hand-known : (hand : Option Hand) (now : Content) (s : ℕ) (its : InHand) → own_hand hand now s ≡ Some its → IsMine hand now s its
hand-known None now s its known = absurd (cc)
hand-known (Some h) now s its known =
    elim (cases_Bool (h.holder == s)) [
      | inl own ↦
          let same : Some its ≡ Some (mine h now) = sym known ∙ cond-true (h.holder == s) (Some (mine h now)) None own in
          record { hand_of = h; is_hand = refl; whose = eqb-true h.holder s own; as_known = cc }
      | inr other ↦ let none : own_hand (Some h) now s ≡ None = cond-false (h.holder == s) (Some (mine h now)) None other in absurd (cc)
    ]

pub slots-known : (has : Bool) (database : ℕ) (slot : ℕ → ℕ) (its : SlotsInHand) → known_slots has database slot ≡ Some its → (has ≡ true) × (its ≡ record { word = slot; holds = slot_holds database slot })
slots-known true database slot its known = (refl, cc)
slots-known false database slot its known = absurd (cc)

-- Where none are known, the lock is not had.
pub slots-not_known : (has : Bool) (database : ℕ) (slot : ℕ → ℕ) → known_slots has database slot ≡ None → has ≡ false
slots-not_known true database slot none = absurd (cc)
slots-not_known false database slot none = refl

-- What a session must have for a move is asked of its own holds alone.
fits-own : (own : Holds) (awaited : Option OwnWait) (s : ℕ) (done : Move) → FitsOwn (λ _. own s) awaited s done → FitsOwn own awaited s done
fits-own own awaited s Keep fits = tt
fits-own own awaited s (Grant t m) fits = fits
fits-own own awaited s (Join t m) fits = fits
fits-own own awaited s (Release t m) fits = fits
fits-own own awaited s (Leave t) fits = tt
fits-own own awaited s (Adopt k i) fits = tt

module _ (w : World) (safe : SafeWorld w) (s : ℕ) (steps : MakesSteps w.numbers s) where
  holding : (p : ℕ) (its : InHand) → IsMine (w.contents.hand p) (w.contents.now p) s its → w.sessions.holds_partition s p ≡ true
  holding p its own = safe.but_slots.table.carriers.hands p s ∙ ap (λ h. is_hand_of h s) own.is_hand ∙ eq-eqb own.hand_of.holder s own.whose

  pub move-lawful : (p : ℕ) (its : InHand) (done : Move) (granted : List Wait) (content : Content) → MayMoveBy w.numbers.limit s (account w s) p its done granted content
      → MayMove w s p done granted content
  move-lawful p its done granted content may =
      let own = hand-known (w.contents.hand p) (w.contents.now p) s its may.in_hand in
      record {
        steps = steps;
        holding = holding p its own;
        unrecorded = ap recorded_in own.is_hand ∙ ap (λ known. known.recorded) (sym own.as_known) ∙ may.unrecorded;
        object = may.object;
        own = fits-own w.sessions.own (w.sessions.awaited s) s done may.fits;
        counted = may.counted;
        moved = subst (λ known. Moves known.now s done granted content) own.as_known may.moved;
      }

  pub put-lawful : (p : ℕ) (its : InHand) (done : Move) (content : Content) → MayPutBy w.numbers.limit s (account w s) p its done content → MayPutPartition w s p done content
  put-lawful p its done content may = record { may_move = move-lawful p its done [] content may.may_move; by_putting = may.by_putting }

  pub put_recorded-lawful : (p : ℕ) (its : InHand) (done : Move) → MayPutRecordedBy (account w s) p its done → MayPutRecorded w s p done
  put_recorded-lawful p its done may =
      let own = hand-known (w.contents.hand p) (w.contents.now p) s its may.in_hand in
      record {
        steps = steps;
        holding = holding p its own;
        recorded = ap recorded_in own.is_hand ∙ ap (λ known. known.recorded) (sym own.as_known) ∙ may.recorded;
        all_marked = λ k. ap (λ h. is_unmarked h k) own.is_hand ∙ ap (λ known. known.unmarked k) (sym own.as_known) ∙ may.all_marked k;
        wait_is_over = may.wait_is_over;
      }

  pub clear_seen-lawful : (wait : OwnWait) → MayClearSeenBy (account w s) wait → MayClearSeen w s wait
  clear_seen-lawful wait may = record { steps = steps; is_wait = may.is_wait; seen = may.has_seen }

  pub clear_in_hand-lawful : (wait : OwnWait) (its : InHand) → MayClearInHandBy s (account w s) wait its → MayClearInHand w s wait
  clear_in_hand-lawful wait its may =
      let own = hand-known (w.contents.hand (partition_of wait.tag)) (w.contents.now (partition_of wait.tag)) s its may.in_hand in
      record {
        steps = steps;
        is_wait = may.is_wait;
        holding = holding (partition_of wait.tag) its own;
        gone = subst (λ known. waits_there (known.now.waits wait.tag) s ≡ false) own.as_known may.gone;
      }

  pub leave-lawful : (wait : OwnWait) (its : InHand) (granted : List Wait) (content : Content) → MayLeaveBy w.numbers.limit s (account w s) wait its granted content
      → MayLeave w s wait granted content
  leave-lawful wait its granted content may = record { is_wait = may.is_wait; may_move = move-lawful (partition_of wait.tag) its (Leave wait.tag) granted content may.may_move }

  -- Slots and counters.
  known : (o : ℕ) (its : SlotsInHand) → (account w s).fast.slots o ≡ Some its
      → (w.sessions.holds_fast s o ≡ true) × (its ≡ record { word = w.words.slot o; holds = slot_holds (w.words.database o) (w.words.slot o) })
  known o its in_hand = slots-known (w.sessions.holds_fast s o) (w.words.database o) (w.words.slot o) its in_hand

  pub put_fast-lawful : (o : ℕ) (its : SlotsInHand) → MayPutFastBy (account w s) o its → MayPutFast w s o
  put_fast-lawful o its may = record { steps = steps; holding = (known o its may.in_hand).0 }

  pub share_fast-lawful : (o : ℕ) → IsFreeToShare (w.words.fast o) → MayShareFastBy (account w s) o → MayShare w.numbers (w.words.fast o) w.sessions.shares_fast s o
  share_fast-lawful o free may = record {
    steps = steps;
    free = free;
    new = slots-not_known (w.sessions.shares_fast s o) (w.words.database o) (w.words.slot o) may.not_shared;
  }

  pub unshare_fast-lawful : (o : ℕ) (its : SlotsInHand) → MayUnshareFastBy (account w s) o its → MayUnshare w.numbers w.sessions.shares_fast s o
  unshare_fast-lawful o its may = record {
    steps = steps;
    sharing = (slots-known (w.sessions.shares_fast s o) (w.words.database o) (w.words.slot o) its may.shared).0;
  }

  pub pass-lawful : (o : ℕ) (its : SlotsInHand) (t : Tag) (m : Mode) → o < w.numbers.limit → MayPassBy (account w s) o its t m → MayPass w s o t m
  pass-lawful o its t m exists may = record {
    steps = steps;
    holding = (known o its may.in_hand).0;
    exists = exists;
    next = may.next;
    no_slot = λ n. ap (λ slots. slots.holds t n) (sym (known o its may.in_hand).1) ∙ may.no_slot n;
  }

  pub set_slot-lawful : (its : SlotsInHand) (i : ℕ) (t : Tag) (m : Mode) → MaySetSlotBy w.numbers.groups s (account w s) its i t m → MaySetSlot w s i t m
  set_slot-lawful its i t m may = record {
    steps = steps;
    holding = (known s its may.in_hand).0;
    eligible = may.eligible;
    fits = may.below;
    read_as_zero = may.read_as_zero;
    no_wait = may.no_wait;
    new = may.new;
    takes = subst (λ slots. IsSlotToGrant w.numbers.groups slots.word (relation_of t) i) (known s its may.in_hand).1 may.takes;
  }

  pub clear_slot-lawful : (its : SlotsInHand) (i : ℕ) (t : Tag) (m : Mode) → MayClearSlotBy s (account w s) its i t m → MayClearSlot w s i t m
  clear_slot-lawful its i t m may = record {
    steps = steps;
    holding = (known s its may.in_hand).0;
    held_in = record {
      eligible = may.eligible;
      within = may.within;
      shown = ap (λ slots. shows (slots.word i) (relation_of t) m) (sym (known s its may.in_hand).1) ∙ may.shown;
    };
  }

  pub transfer-lawful : (o i : ℕ) (its : SlotsInHand) (held : InHand) (t : Tag) (m strong : Mode) → MayTransferBy w.numbers.limit (account w s) o i its held t m strong → MayTransfer w s o i t m strong
  transfer-lawful o i its held t m strong may =
      let own = hand-known (w.contents.hand (partition_of t)) (w.contents.now (partition_of t)) s held may.in_hand in
      record {
        steps = steps;
        holding_slots = (known o its may.its_slots).0;
        holding = holding (partition_of t) held own;
        exists = may.exists;
        next = may.next;
        may_adopt = subst (λ made. MayAdopt made o i) (ap (λ known. known.recorded) own.as_known ∙ sym (ap recorded_in own.is_hand)) may.may_adopt;
        held_in = record {
          eligible = (and_parts (is_eligible_for (w.words.database o) t m) (any_below slot_count (λ k. shows (w.words.slot o k) (relation_of t) m))
              (ap (λ slots. slots.holds t m) (sym (known o its may.its_slots).1) ∙ may.held)).0;
          within = may.within;
          shown = ap (λ slots. shows (slots.word i) (relation_of t) m) (sym (known o its may.its_slots).1) ∙ may.shown;
        };
      }

  pub count-lawful : (t : Tag) (m : Mode) → MayCountBy (account w s) t m → MayCount w s t m
  count-lawful t m may = record { steps = steps; strong = may.strong; new = may.new; few = may.few }

  pub uncount-lawful : (t : Tag) (m : Mode) → MayUncountBy (account w s) t m → MayUncount w s t m
  uncount-lawful t m may = record { steps = steps; is = may.is; not_own = may.not_own; not_awaited = may.not_awaited }
