use Rattle.std.proofs.Common.{◌≡◌, ℕ, ◌<◌, Bool, true, false, List, [], get_or, Some, None, is_none, is_some, refl, sym, ap, ◌∙◌, subst, inl, arith}
use Rattle.std.specs.Vec.{with_item}
use Rattle.std.proofs.Math.ListN.{set}
use Rattle.std.proofs.lemmas.Bool.{both_ways}
use Rattle.modes_core.specs.declared.modes.Mode.{Mode}
use Rattle.modes_core.specs.declared.tags.Tag.{Tag}
use Rattle.modes_core.specs.Tag.{partition_of}
use Rattle.lock_table.specs.declared.answering.Answer.{Answer}
use Rattle.lock_table.specs.declared.answering.Answer.TheVariants.{Queued}
use Rattle.lock_table.specs.declared.moves.Move.TheVariants.{Join}
use Rattle.lock_world.specs.declared.events.Step.TheVariants.{SetWaiting}
use Rattle.lock_model.specs.declared.machine.hands.InHand.{InHand}
use Rattle.lock_model.specs.declared.machine.state.Machine.{Machine}
use Rattle.lock_table.specs.Content.{Content}
use Rattle.lock_table.specs.Parts.{contents_in}
use Rattle.lock_table.specs.PartView.{PartView, content_of}
use Rattle.lock_table.specs.Queue.{WaitingAnswer, add_wait}
use Rattle.lock_world.specs.World.{World}
use Rattle.lock_model.specs.CountedLists.{counted_for}
use Rattle.lock_model.proofs.Lemmas.Follows.Counters.{counted_for_from, counted_for_needs}
use Rattle.lock_world.specs.Happens.Partitions.{MayMove}
use Rattle.lock_world.specs.Happens.Waits.{after_setting_waiting}
use Rattle.lock_world.specs.Happens.{Next}
use Rattle.lock_world.specs.SafeWorld.{SafeWorld}
use Rattle.lock_model.specs.SlotLooks.{slots_hold, may_ask}
use Rattle.lock_model.specs.Shows.{Shows, is_unmarked_in, hand_of}
use Rattle.lock_model.proofs.Lemmas.Shows.Changes.{wait_word-set, hand-set, part-set, own_wait-set}
use Rattle.lock_model.proofs.Lemmas.Shows.Hands.{recording-shown}
use Rattle.lock_table.proofs.Lemmas.OneAnswer.{waiting_answer-one}
use Rattle.lock_model.proofs.Lemmas.Follows.Skipped.{skipped}
use Rattle.lock_model.proofs.Lemmas.Shows.Looks.{HasInHand, recorded_from, hand_from, hand_not, own_nowhere, content_from, no_wait_from, from_fits}
use Rattle.lock_model.proofs.Lemmas.Shows.Kept.{table_shown}

-- Joining a queue, and setting one's own wait word to waiting.

-- A session that is answered another thing is not to join.
pub queued_not : (c : Content) (s : ℕ) (t : Tag) (m : Mode) (what : Answer) (place : ℕ) → WaitingAnswer c s t m what → ((n : ℕ) → what ≡ Queued n → ⊥) → WaitingAnswer c s t m (Queued place) → ⊥
queued_not c s t m what place is not_queued answer = not_queued place (waiting_answer-one c s t m what (Queued place) is answer)

module _ (m : Machine) (w : World) (safe : SafeWorld w) (shows : Shows m w) where
  pub was_set_waiting : (s : ℕ) (t : Tag) (n : Mode) (shown : InHand) (place : ℕ) (part : PartView) (marks : List Bool) → hand_of m s (partition_of t) ≡ Some shown → shown.recorded ≡ None
      → is_none (get_or m.waits.awaited s None) ≡ true → (contents_in m.contents.parts.items (partition_of t)).holds s t n ≡ false → slots_hold m s t n ≡ false → counted_for m s t n ≡ true → WaitingAnswer (contents_in m.contents.parts.items (partition_of t)) s t n (Queued place)
      → content_of part ≡ add_wait (contents_in m.contents.parts.items (partition_of t)) s t n place → part.begun ≡ None → ((k : ℕ) → is_unmarked_in marks k ≡ false) → s < 64
      → (v : World) × Next w (record { session = s; step = SetWaiting t n }) v
      × Shows
      (record m {
        words = record (m.words) { waits = set m.words.waits s 1 };
        contents = record {
          hands = set m.contents.hands (partition_of t) (Some (record { holder = shown.holder; recorded = Some (Join t n); unmarked = marks }));
          parts = with_item m.contents.parts (partition_of t) part;
        };
        waits = record { awaited = set m.waits.awaited s (Some (record { tag = t; mode = n })); seen = set m.waits.seen s false };
      }) v
  was_set_waiting s t n shown place part marks in_hand unmoved none not_held not_shown counted answer is begun unmarked below = (
    after_setting_waiting w s t n content,
    inl (content, may, refl),
    table_shown shows (after_setting_waiting w s t n content)
        (wait_word-set m.words w.words s 1 1 shows.words (omega (arith, below)) refl)
        (hand-set _ _ p _ _
        (part-set m.contents w.contents p part content shows.contents has.exists (is ∙ ap (λ (c : Content). add_wait c s t n place) same) begun) has.exists
        (recording-shown (w.contents.hand p) has.hand shown.holder (Join t n) marks (λ _. false) has.is_hand has.shows.holder unmarked))
        (own_wait-set m.waits w.sessions.awaited w.sessions.seen s _ (Some (record { tag = t; mode = n; held = (w.contents.now p).holds s t })) shows.waits below refl),
  ) where
    p : ℕ
    p = partition_of t

    has : HasInHand w s p shown
    has = hand_from m w safe shows s p shown in_hand

    same : contents_in m.contents.parts.items p ≡ w.contents.now p
    same = content_from m w safe shows t

    content : Content
    content = add_wait (w.contents.now p) s t n place

    may : MayMove w s p (Join t n) [] content
    may = record {
      steps = has.steps;
      holding = has.holding;
      unrecorded = recorded_from w s p shown has ∙ unmoved;
      object = refl;
      own = (
        no_wait_from m w safe shows s none,
        own_nowhere m w safe shows s t n (sym (ap (λ (c : Content). c.holds s t n) same) ∙ not_held) not_shown,
      );
      counted = counted_for_from m w safe shows s t n counted;
      moved = (place, subst (λ (c : Content). WaitingAnswer c s t n (Queued place)) same answer, refl, refl);
    }

  pub join_without_hand : (s : ℕ) (t : Tag) (n : Mode) → hand_of m s (partition_of t) ≡ None → (v : World) × Next w (record { session = s; step = SetWaiting t n }) v × Shows m v
  join_without_hand s t n none = skipped m w safe shows s (SetWaiting t n) (λ lawful. hand_not m w safe shows s (partition_of t) none lawful.1.1.steps lawful.1.1.holding)

  pub join_after_move : (s : ℕ) (t : Tag) (n : Mode) (shown : InHand) → hand_of m s (partition_of t) ≡ Some shown → is_some shown.recorded ≡ true → (v : World) × Next w (record { session = s; step = SetWaiting t n }) v × Shows m v
  join_after_move s t n shown in_hand moved =
      skipped m w safe shows s (SetWaiting t n)
      (λ lawful. both_ways (is_some shown.recorded)
      (ap is_some (sym (recorded_from w s (partition_of t) shown (hand_from m w safe shows s (partition_of t) shown in_hand)) ∙ lawful.1.1.unrecorded)) moved)

  pub join_may_not : (s : ℕ) (t : Tag) (n : Mode) (shown : InHand) → hand_of m s (partition_of t) ≡ Some shown
      → may_ask m s t n ≡ false
      → (v : World) × Next w (record { session = s; step = SetWaiting t n }) v × Shows m v
  join_may_not s t n shown in_hand may_not =
      skipped m w safe shows s (SetWaiting t n)
      (λ lawful. both_ways (may_ask m s t n) may_not (from_fits m w safe shows s t n lawful.1.1.own.0 lawful.1.1.own.1))

  pub join_not_counted : (s : ℕ) (t : Tag) (n : Mode) → counted_for m s t n ≡ false → (v : World) × Next w (record { session = s; step = SetWaiting t n }) v × Shows m v
  join_not_counted s t n not_counted =
      skipped m w safe shows s (SetWaiting t n)
      (λ lawful. both_ways (counted_for m s t n) not_counted (counted_for_needs m w safe shows s t n lawful.1.1.counted))

  pub join_not_answered : (s : ℕ) (t : Tag) (n : Mode) (what : Answer) → WaitingAnswer (contents_in m.contents.parts.items (partition_of t)) s t n what → ((k : ℕ) → what ≡ Queued k → ⊥)
      → (v : World) × Next w (record { session = s; step = SetWaiting t n }) v × Shows m v
  join_not_answered s t n what is not_queued =
      skipped m w safe shows s (SetWaiting t n)
      (λ lawful. queued_not (w.contents.now (partition_of t)) s t n what lawful.1.1.moved.0 (subst (λ (c : Content). WaitingAnswer c s t n what) (content_from m w safe shows t) is) not_queued lawful.1.1.moved.1)
