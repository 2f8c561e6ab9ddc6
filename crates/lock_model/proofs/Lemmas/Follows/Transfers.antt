use Rattle.std.proofs.Common.{◌≡◌, ℕ, ◌<◌, ◌≤◌, Bool, true, false, ◌&&◌, [], ◌∷◌, get_or, nat_lt, Option, Some, None, if◌then◌else◌, refl, sym, ap, ◌∙◌, subst, inl}
use Rattle.std.specs.List.{list_any}
use Rattle.std.specs.Vec.{with_item}
use Rattle.std.proofs.Math.ListN.{set}
use Rattle.std.proofs.lemmas.Bool.{both_ways, and_parts, and_from, or_from, lt-ltb, ltb-true, false_from_ne_true}
use Rattle.modes_core.specs.declared.modes.Mode.{Mode}
use Rattle.modes_core.specs.declared.tags.Tag.{Tag}
use Rattle.modes_core.specs.Mode.{number_of, mode_eq}
use Rattle.modes_core.specs.Tag.{tag_eq, partition_of, is_eligible_for}
use Rattle.lw_word.specs.SlotWord.{shows, word_without}
use Rattle.lock_table.specs.declared.moves.Move.{Move}
use Rattle.lock_table.specs.declared.moves.Move.TheVariants.{Adopt}
use Rattle.lock_table.specs.MoveTests.{move_eq}
use Rattle.lock_table.specs.Content.{Content, Wait, add_hold}
use Rattle.lock_table.specs.OwnWait.{OwnWait, Stage, InQueue, WasGranted, HasLeft, is_for, entry_of, queued_by}
use Rattle.lock_table.specs.Parts.{contents_in}
use Rattle.lock_table.specs.PartView.{PartView, content_of}
use Rattle.lock_table.specs.Queue.{awaits_mode}
use Rattle.lock_table.proofs.Lemmas.MoveTests.{move_eq-same, move_eq-refl}
use Rattle.lock_table.proofs.Lemmas.Put.{set_at-same}
use Rattle.lock_table.proofs.Lemmas.QueuesOf.{awaits-of}
use Rattle.lock_world.specs.declared.events.Step.TheVariants.{TransferSlot}
use Rattle.lock_world.specs.SlotHolds.{relation_of, IsHeldIn}
use Rattle.lock_world.specs.World.{World, recorded_in, is_unmarked}
use Rattle.lock_world.specs.Happens.{Next}
use Rattle.lock_world.specs.Happens.Transfers.{MayAdopt, MayTransfer, after_transferring}
use Rattle.lock_world.specs.Safe.{stages}
use Rattle.lock_world.specs.SafeWorld.{SafeWorld, slots_of}
use Rattle.lock_world.proofs.Lemmas.Slots.Eligible.{eligible-is, is_in-held}
use Rattle.lock_model.specs.declared.machine.hands.InHand.{InHand}
use Rattle.lock_model.specs.declared.machine.state.Machine.{Machine}
use Rattle.lock_model.specs.CountedLists.{holds_fast, is_by_at}
use Rattle.lock_model.specs.Shows.{Shows, ShowsContents, hand_of, awaits}
use Rattle.lock_model.specs.SlotLooks.{slots_at}
use Rattle.lock_model.specs.Transfers.{may_adopt, is_in_slot, may_transfer}
use Rattle.lock_model.proofs.Lemmas.Follows.Counters.{is_at_from}
use Rattle.lock_model.proofs.Lemmas.Follows.Skipped.{skipped}
use Rattle.lock_model.proofs.Lemmas.Shows.Changes.{hand-set, part-set}
use Rattle.lock_model.proofs.Lemmas.Shows.Hands.{recording-shown}
use Rattle.lock_model.proofs.Lemmas.Shows.Looks.{recorded_from, unmarked_from, hand_from, hand_not, content_from, own_but_from, not_awaited_own, and_not_false, and_not_true}
use Rattle.lock_model.proofs.Lemmas.Shows.SlotLooks.{slot-set}
use Rattle.lock_model.proofs.Lemmas.Shows.Kept.{table_shown}

-- Moving a mode from a slot to the lock table.

-- What the code asks of the recorded move is what the World asks.
adopt_from : (recorded : Option Move) (o place : ℕ) → may_adopt recorded o place ≡ true → MayAdopt recorded o place
adopt_from None o place e = tt
adopt_from (Some done) o place e = move_eq-same done (Adopt o place) e

from_adopt : (recorded : Option Move) (o place : ℕ) → MayAdopt recorded o place → may_adopt recorded o place ≡ true
from_adopt None o place may = refl
from_adopt (Some done) o place may = ap (λ x. move_eq x (Adopt o place)) may ∙ move_eq-refl (Adopt o place)

-- A session that doesn't wait for the mode on the object has no such wait in its queue.
no_entry : (s : ℕ) (awaited : Option OwnWait) (stage : Stage) (t : Tag) (n : Mode) → is_for awaited t n ≡ false → list_any (λ (wait : Wait). mode_eq wait.mode n) (queued_by s awaited stage t) ≡ false
no_entry s None stage t n e = refl
no_entry s (Some wait) WasGranted t n e = refl
no_entry s (Some wait) HasLeft t n e = refl
no_entry s (Some wait) InQueue t n e = at (tag_eq wait.tag t) e where
  at : (b : Bool) → (b && mode_eq wait.mode n) ≡ false → list_any (λ (its : Wait). mode_eq its.mode n) (if b then entry_of s wait ∷ [] else []) ≡ false
  at true not_it = or_from (mode_eq wait.mode n) false not_it refl
  at false not_it = refl

-- the machine, once the slot has this word, and the part and the hand are these
abbrev pub transferred_by : Machine → ℕ → ℕ → ℕ → ℕ → InHand → PartView → Machine
transferred_by m o place word p shown part = record m {
  fast_path = record (m.fast_path) { slots = set m.fast_path.slots o (set (get_or m.fast_path.slots o []) place word) };
  contents = record {
    hands = set m.contents.hands p (Some (record { holder = shown.holder; recorded = Some (Adopt o place); unmarked = shown.unmarked }));
    parts = with_item m.contents.parts p part;
  };
}

-- What the tests say before a slot is written.
pub transfer_within : (m : Machine) (s o place : ℕ) (t : Tag) (n strong : Mode) → may_transfer m s o place t n strong ≡ true → place < 128
transfer_within m s o place t n strong may =
    let it = and_parts (holds_fast m s o && list_any (is_by_at s o t strong) m.counted.items) (is_in_slot m o place t n) may in
    ltb-true place 128 (and_parts (nat_lt place 128) _ (and_parts (nat_lt place 128 && is_eligible_for (get_or m.fast_path.databases o 0) t n) _ it.1).0).0

pub transfer_is_eligible : (m : Machine) (s o place : ℕ) (t : Tag) (n strong : Mode) → may_transfer m s o place t n strong ≡ true → number_of n ≤ 3
transfer_is_eligible m s o place t n strong may =
    let it = and_parts (holds_fast m s o && list_any (is_by_at s o t strong) m.counted.items) (is_in_slot m o place t n) may in
    (eligible-is (get_or m.fast_path.databases o 0) t n (and_parts (nat_lt place 128) _ (and_parts (nat_lt place 128 && is_eligible_for (get_or m.fast_path.databases o 0) t n) _ it.1).0).1).2

module _ (m : Machine) (w : World) (safe : SafeWorld w) (shows_w : Shows m w) where
  held_from : (o place : ℕ) (t : Tag) (n : Mode) → is_in_slot m o place t n ≡ true → IsHeldIn (w.words.database o) (w.words.slot o) t n place
  held_from o place t n is =
      let shown = and_parts (nat_lt place 128 && is_eligible_for (get_or m.fast_path.databases o 0) t n) (shows (get_or (slots_at m o) place 0) (relation_of t) n) is in
      let first = and_parts (nat_lt place 128) (is_eligible_for (get_or m.fast_path.databases o 0) t n) shown.0 in
      record {
        eligible = sym (ap (λ database. is_eligible_for database t n) (shows_w.fast_path.database o)) ∙ first.1;
        within = ltb-true place 128 first.0;
        shown = sym (ap (λ word. shows word (relation_of t) n) (shows_w.fast_path.slot o place)) ∙ shown.1;
      }

  from_held : (o place : ℕ) (t : Tag) (n : Mode) → IsHeldIn (w.words.database o) (w.words.slot o) t n place → is_in_slot m o place t n ≡ true
  from_held o place t n held =
      and_from _ _ (and_from _ _ (lt-ltb place 128 held.within) (ap (λ database. is_eligible_for database t n) (shows_w.fast_path.database o) ∙ held.eligible))
      (ap (λ word. shows word (relation_of t) n) (shows_w.fast_path.slot o place) ∙ held.shown)

  in_slot : (s o place : ℕ) (t : Tag) (n strong : Mode) → may_transfer m s o place t n strong ≡ true → IsHeldIn (w.words.database o) (w.words.slot o) t n place
  in_slot s o place t n strong may =
      held_from o place t n (and_parts (holds_fast m s o && list_any (is_by_at s o t strong) m.counted.items) (is_in_slot m o place t n) may).1

  -- What the owner's slot shows is its own,
  own_in_slot : (o place : ℕ) (t : Tag) (n : Mode) → IsHeldIn (w.words.database o) (w.words.slot o) t n place → w.sessions.own o t n ≡ true
  own_in_slot o place t n held = safe.slots.are_own o t n (is_in-held (w.words.database o) (w.words.slot o) t n place held)

  -- so the object's content doesn't have it,
  pub not_in_content : (s o place : ℕ) (t : Tag) (n strong : Mode) → may_transfer m s o place t n strong ≡ true → (contents_in m.contents.parts.items (partition_of t)).holds o t n ≡ false
  not_in_content s o place t n strong may =
      let held = in_slot s o place t n strong may in
      let not_awaited = not_awaited_own m w safe shows_w o t n (own_in_slot o place t n held) in
      ap (λ (c : Content). c.holds o t n) (content_from m w safe shows_w t)
      ∙ sym (and_not_false ((w.contents.now (partition_of t)).holds o t n) (awaits (get_or m.waits.awaited o None) t n) not_awaited)
      ∙ sym (own_but_from m w safe shows_w o t n)
      ∙ and_not_true (w.sessions.own o t n) (slots_of w.words.database w.words.slot o t n) (is_in-held (w.words.database o) (w.words.slot o) t n place held)

  -- and nobody waits for it there.
  pub not_in_queue : (s o place : ℕ) (t : Tag) (n strong : Mode) → may_transfer m s o place t n strong ≡ true → awaits_mode ((contents_in m.contents.parts.items (partition_of t)).waits t) o n ≡ false
  not_in_queue s o place t n strong may =
      ap (λ (c : Content). awaits_mode (c.waits t) o n) (content_from m w safe shows_w t)
      ∙ awaits-of o n ((w.contents.now (partition_of t)).waits t)
      ∙ ap (list_any (λ (wait : Wait). mode_eq wait.mode n)) ((safe.but_slots.table.promise.one_place.on_object t).in_queue o)
      ∙ no_entry o (w.sessions.awaited o) (stages w o) t n
      (false_from_ne_true _ (λ its. both_ways (w.sessions.own o t n) (safe.order.awaited_is_not_own o t n its) (own_in_slot o place t n (in_slot s o place t n strong may))))

  may_transfer_from : (s o place : ℕ) (t : Tag) (n strong : Mode) (shown : InHand) → hand_of m s (partition_of t) ≡ Some shown → may_adopt shown.recorded o place ≡ true
      → may_transfer m s o place t n strong ≡ true → o < 64 → MayTransfer w s o place t n strong
  may_transfer_from s o place t n strong shown in_hand adopts may exists =
      let has = hand_from m w safe shows_w s (partition_of t) shown in_hand in
      let all = and_parts (holds_fast m s o && list_any (is_by_at s o t strong) m.counted.items) (is_in_slot m o place t n) may in
      let first = and_parts (holds_fast m s o) (list_any (is_by_at s o t strong) m.counted.items) all.0 in
      record {
        steps = has.steps;
        holding_slots = sym (shows_w.locks.fast_holders.mark s o) ∙ first.0;
        holding = has.holding;
        exists = subst (λ n. o < n) (sym shows_w.numbers.limit) exists;
        next = sym (is_at_from m w safe shows_w s o t strong) ∙ first.1;
        may_adopt = adopt_from (recorded_in (w.contents.hand (partition_of t))) o place (ap (λ r. may_adopt r o place) (recorded_from w s (partition_of t) shown has) ∙ adopts);
        held_in = held_from o place t n all.1;
      }

  transfer_needs : (s o place : ℕ) (t : Tag) (n strong : Mode) → MayTransfer w s o place t n strong → may_transfer m s o place t n strong ≡ true
  transfer_needs s o place t n strong may =
      and_from _ _
      (and_from _ _ (shows_w.locks.fast_holders.mark s o ∙ may.holding_slots) (is_at_from m w safe shows_w s o t strong ∙ may.next))
      (from_held o place t n may.held_in)

  -- Moving it.
  pub was_transferred : (s o place : ℕ) (t : Tag) (n strong : Mode) (shown : InHand) (part : PartView) → hand_of m s (partition_of t) ≡ Some shown → may_adopt shown.recorded o place ≡ true
      → may_transfer m s o place t n strong ≡ true → o < 64
      → content_of part ≡ add_hold (contents_in m.contents.parts.items (partition_of t)) o t n → part.begun ≡ None
      → (v : World) × Next w (record { session = s; step = TransferSlot o place t n strong }) v
      × Shows (transferred_by m o place (word_without (get_or (slots_at m o) place 0) n) (partition_of t) shown part) v
  was_transferred s o place t n strong shown part in_hand adopts may exists is begun =
      let p : ℕ = partition_of t in
      let has = hand_from m w safe shows_w s p shown in_hand in
      let its = may_transfer_from s o place t n strong shown in_hand adopts may exists in (
        after_transferring w o place t n,
        inl (its, refl),
        record {
          numbers = shows_w.numbers;
          words = record {
            sixty_four_fast = shows_w.words.sixty_four_fast;
            all_waits = shows_w.words.all_waits;
            partition = shows_w.words.partition;
            fast = shows_w.words.fast;
            wait = shows_w.words.wait;
          };
          locks = shows_w.locks;
          fast_path = slot-set m.fast_path w.words.database w.words.slot w.sessions.zero o place _ _ shows_w.fast_path exists its.held_in.within
              (ap (λ word. word_without word n) (shows_w.fast_path.slot o place));
          counted = shows_w.counted;
          lists = shows_w.lists;
          contents = hand-set _ _ p _ _
              (part-set m.contents w.contents p part (add_hold (w.contents.now p) o t n) shows_w.contents has.exists (is ∙ ap (λ (c : Content). add_hold c o t n) (content_from m w safe shows_w t)) begun) has.exists
              (recording-shown (w.contents.hand p) has.hand shown.holder (Adopt o place) shown.unmarked (is_unmarked (w.contents.hand p)) has.is_hand has.shows.holder
              (λ k. sym (unmarked_from w s p shown has k)));
          waits = shows_w.waits;
        },
      )

  -- Where it is not lawful.
  pub transfer_without_hand : (s o place : ℕ) (t : Tag) (n strong : Mode) → hand_of m s (partition_of t) ≡ None → (v : World) × Next w (record { session = s; step = TransferSlot o place t n strong }) v × Shows m v
  transfer_without_hand s o place t n strong none =
      skipped m w safe shows_w s (TransferSlot o place t n strong) (λ lawful. hand_not m w safe shows_w s (partition_of t) none lawful.1.0.steps lawful.1.0.holding)

  pub transfer_after_move : (s o place : ℕ) (t : Tag) (n strong : Mode) (shown : InHand) → hand_of m s (partition_of t) ≡ Some shown → may_adopt shown.recorded o place ≡ false
      → (v : World) × Next w (record { session = s; step = TransferSlot o place t n strong }) v × Shows m v
  transfer_after_move s o place t n strong shown in_hand adopts_not =
      skipped m w safe shows_w s (TransferSlot o place t n strong)
      (λ lawful. both_ways (may_adopt shown.recorded o place) adopts_not
      (ap (λ r. may_adopt r o place) (sym (recorded_from w s (partition_of t) shown (hand_from m w safe shows_w s (partition_of t) shown in_hand)))
      ∙ from_adopt (recorded_in (w.contents.hand (partition_of t))) o place lawful.1.0.may_adopt))

  pub not_transferred : (s o place : ℕ) (t : Tag) (n strong : Mode) → may_transfer m s o place t n strong ≡ false → (v : World) × Next w (record { session = s; step = TransferSlot o place t n strong }) v × Shows m v
  not_transferred s o place t n strong may_not =
      skipped m w safe shows_w s (TransferSlot o place t n strong) (λ lawful. both_ways (may_transfer m s o place t n strong) may_not (transfer_needs s o place t n strong lawful.1.0))

-- After a refusal the part is as before, and what the machine shows too.
pub transfer_refused : (m : Machine) (w : World) (p : ℕ) (part : PartView) → Shows m w → p < 16 → content_of part ≡ contents_in m.contents.parts.items p → part.begun ≡ None
    → Shows (record m { contents = record (m.contents) { parts = with_item m.contents.parts p part } }) w
transfer_refused m w p part shows_w exists is begun = table_shown shows_w (w)
    shows_w.words
    (subst (λ now. ShowsContents (record (m.contents) { parts = with_item m.contents.parts p part }) (record (w.contents) { now = now }))
    (set_at-same w.contents.now p (w.contents.now p) refl)
    (part-set m.contents w.contents p part (w.contents.now p) shows_w.contents exists (is ∙ shows_w.contents.now p exists) begun))
    shows_w.waits
