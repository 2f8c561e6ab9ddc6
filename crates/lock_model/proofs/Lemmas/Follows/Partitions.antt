use Rattle.std.proofs.Common.{◌≡◌, ℕ, ◌<◌, Bool, true, false, is_none, option_map, List, [], length, get_or, Option, Some, None, refl, sym, ap, ◌∙◌, subst, inl, inr}
use Rattle.std.proofs.Math.ListN.{set}
use Rattle.std.proofs.lemmas.Bool.{cases_Bool, both_ways, false≢true, not-true, not_from_false, eqb-false, ne_eqb, MatchBool-at_true, MatchBool-at_false}
use Rattle.modes_core.specs.declared.modes.Mode.{Mode}
use Rattle.modes_core.specs.declared.tags.Tag.{Tag}
use Rattle.modes_core.specs.Tag.{partition_of}
use Rattle.lock_table.specs.declared.answering.Answer.TheVariants.{Granted}
use Rattle.lock_table.specs.declared.moves.Move.{Move}
use Rattle.lock_table.specs.declared.moves.Move.TheVariants.{Keep, Grant, Join, Release, Leave, Adopt}
use Rattle.lock_world.specs.declared.events.Step.TheVariants.{TakeExclusive, PutExclusive}
use Rattle.lock_world.specs.declared.events.Word.TheVariants.{Partition}
use Rattle.lock_model.specs.declared.machine.hands.InHand.{InHand}
use Rattle.lock_model.specs.declared.machine.state.Machine.{Machine}
use Rattle.lock_model.specs.declared.machine.state.Contents.{Contents}
use Rattle.lw_word.specs.declared.words.LwMode.TheVariants.{Exclusive}
use Rattle.lw_word.specs.LockState.{LockState, opening_state, IsFreeFor, taken_in, put_in}
use Rattle.lock_table.specs.Content.{Wait, Content, add_hold, remove_hold}
use Rattle.lock_table.specs.Queue.{some_awaits_conflict, Wakes, WaitingAnswer}
use Rattle.lock_table.specs.Moves.{Moves, WakesFor, IsInPartition, FitsOwn}
use Rattle.lock_table.specs.OwnWait.{OwnWait}
use Rattle.lock_table.specs.Parts.{contents_in}
use Rattle.lock_world.specs.World.{World}
use Rattle.lock_world.specs.Happens.{Lawful, Next}
use Rattle.lock_world.specs.Happens.Partitions.{after_taking_partition, IsMadeByPutting, MayPutPartition, after_putting_partition, WaitIsOver, MayPutRecorded, after_putting_recorded}
use Rattle.lock_world.specs.SafeWorld.{SafeWorld}
use Rattle.lock_world.specs.Counted.{IsCountedFor}
use Rattle.lock_model.specs.SlotLooks.{may_ask}
use Rattle.lock_model.specs.CountedLists.{counted_for}
use Rattle.lock_model.proofs.Lemmas.Follows.Counters.{counted_for_from, counted_for_needs}
use Rattle.lock_model.specs.Shows.{Shows, ShowsLock, is_unmarked_in, none_unmarked, makes_steps, hand_of, awaits, awaited_of, HasUnmoved, is_over, CannotMake}
use Rattle.lock_model.proofs.Lemmas.Shows.Hands.{none_unmarked-each, each-none_unmarked}
use Rattle.lock_model.proofs.Lemmas.Shows.LwWords.{holder_shown, made_shown, free_shown, taken_shown, put_shown}
use Rattle.lock_model.proofs.Lemmas.Shows.Changes.{partition_word-set, hand-set, IsChangedAt, changed_nowhere, parts-changed}
use Rattle.lock_table.proofs.Lemmas.QueueLaws.{one_wakes}
use Rattle.lock_model.proofs.Lemmas.Shows.Looks.{recorded_from, unmarked_from, steps_from, hand_from, hand_not, own_in_content, not_awaited_own, content_from, fits_from, from_fits}
use Rattle.lock_model.proofs.Lemmas.Follows.Skipped.{skipped}
use Rattle.lock_model.proofs.Lemmas.Shows.Kept.{table_shown}

-- What the code asks of its own wait before a leave is put is what the World asks.
over_from : (awaited : Option OwnWait) (p : ℕ) (done : Move) → is_over (option_map awaited_of awaited) p done ≡ true → WaitIsOver awaited p done
over_from awaited p Keep e = tt
over_from awaited p (Grant t n) e = tt
over_from awaited p (Join t n) e = tt
over_from awaited p (Release t n) e = tt
over_from awaited p (Adopt owner slot) e = tt
over_from None p (Leave t) e = λ wait is. absurd (false≢true (sym (ap is_none is)))
over_from (Some own) p (Leave t) e = λ wait is same. let it : own ≡ wait = cc in eqb-false (partition_of own.tag) p (not-true _ e) (ap (λ x. partition_of x.tag) it ∙ same)

from_over : (awaited : Option OwnWait) (p : ℕ) (done : Move) → WaitIsOver awaited p done → is_over (option_map awaited_of awaited) p done ≡ true
from_over awaited p Keep over = refl
from_over awaited p (Grant t n) over = refl
from_over awaited p (Join t n) over = refl
from_over awaited p (Release t n) over = refl
from_over awaited p (Adopt owner slot) over = refl
from_over None p (Leave t) over = refl
from_over (Some own) p (Leave t) over = not_from_false _ (ne_eqb (partition_of own.tag) p (over own refl))

-- One list of waits is granted after a hold of the mode is gone.
pub WakesFor-one : (m : Mode) (before : Content) (t : Tag) (granted other : List Wait) (after its : Content) → WakesFor m before t granted after → WakesFor m before t other its → granted ≡ other
WakesFor-one m before t granted other after its one two =
    elim (cases_Bool (some_awaits_conflict (before.waits t) m)) [
      | inl some ↦ (one_wakes before t granted other after its
          (MatchBool-at_true (Wakes before t granted after) ((granted ≡ []) × (after ≡ before)) some one)
          (MatchBool-at_true (Wakes before t other its) ((other ≡ []) × (its ≡ before)) some two)).0
      | inr none ↦
          (MatchBool-at_false (Wakes before t granted after) ((granted ≡ []) × (after ≡ before)) none one).0
          ∙ sym (MatchBool-at_false (Wakes before t other its) ((other ≡ []) × (its ≡ before)) none two).0
    ]

-- the machine, once it has put the partition with these parts
abbrev pub put_by : Machine → ℕ → Contents → Machine
put_by m p changed = record m {
  words = record (m.words) { partitions = set m.words.partitions p (put_in Exclusive (get_or m.words.partitions p opening_state)) };
  contents = record { hands = set m.contents.hands p None; parts = changed.parts };
}

module _ (m : Machine) (w : World) (safe : SafeWorld w) (shows : Shows m w) where
  pub taken : (s p : ℕ) (its word : LockState) (unmarked : List Bool) → makes_steps m s ≡ true → p < 16 → p < length m.words.partitions → ShowsLock its (w.words.partition p)
      → IsFreeFor Exclusive its × (word ≡ taken_in Exclusive its) → ((k : ℕ) → is_unmarked_in unmarked k ≡ false)
      → (v : World) × Next w (record { session = s; step = TakeExclusive (Partition p) }) v
      × Shows
      (record m {
        words = record (m.words) { partitions = set m.words.partitions p word };
        contents = record (m.contents) { hands = set m.contents.hands p (Some (record { holder = s; recorded = None; unmarked = unmarked })) };
      }) v
  taken s p its word unmarked steps exists in_words says answer none = (
    after_taking_partition w s p,
    inl (record { steps = steps_from m w safe shows s steps; exists = exists; free = (free_shown its _ says).0 answer.0 }, refl),
    table_shown shows (after_taking_partition w s p)
        (partition_word-set m.words w.words p word _ shows.words in_words (made_shown word _ answer.1 (taken_shown its _ says Exclusive tt answer.0)))
        (hand-set m.contents w.contents p _ _ shows.contents exists (record { holder = refl; recorded = refl; unmarked = none }))
        shows.waits,
  )

  -- A put is shown once the parts follow it.
  shown_put : (s p : ℕ) (done : Move) (content : Content) (changed : Contents) → p < 16 → p < length m.words.partitions → w.sessions.holds_partition s p ≡ true → IsChangedAt m.contents.parts.items changed.parts.items p content
      → Shows (put_by m p changed) (after_putting_partition w s p done content)
  shown_put s p done content changed exists in_words holding at = table_shown shows (after_putting_partition w s p done content)
      (partition_word-set m.words w.words p _ _ shows.words in_words
      (put_shown _ _ (shows.words.partition p) Exclusive (holder_shown w.numbers.limit (w.words.partition p) _ _ (safe.but_slots.table.promise.words p) s holding)))
      (hand-set _ _ p None None (parts-changed m.contents changed w.contents p content shows.contents at) exists tt)
      shows.waits

  -- A put with the move that is recorded.
  pub recorded_put : (s p : ℕ) (done : Move) (shown : InHand) → hand_of m s p ≡ Some shown → shown.recorded ≡ Some done → none_unmarked shown.unmarked ≡ true → is_over (get_or m.waits.awaited s None) p done ≡ true → p < length m.words.partitions
      → (v : World) × Next w (record { session = s; step = PutExclusive (Partition p) done }) v
      × Shows (put_by m p m.contents) v
  recorded_put s p done shown in_hand recorded nobody over in_words =
      let has = hand_from m w safe shows s p shown in_hand in
      let may : MayPutRecorded w s p done = record {
        steps = has.steps;
        holding = has.holding;
        recorded = recorded_from w s p shown has ∙ recorded;
        all_marked = λ other. unmarked_from w s p shown has other ∙ none_unmarked-each shown.unmarked nobody other;
        wait_is_over = over_from (w.sessions.awaited s) p done (sym (ap (λ o. is_over o p done) (shows.waits.awaited s)) ∙ over);
      } in (
        after_putting_recorded w s p,
        inl (inr (may, refl)),
        shown_put s p Keep (w.contents.now p) m.contents has.exists in_words has.holding (changed_nowhere m.contents.parts.items p (w.contents.now p) (shows.contents.now p has.exists) (shows.contents.none_begun p)),
      )

  -- A put by a session that hasn't the partition in hand is not lawful.
  pub not_in_hand : (s p : ℕ) (done : Move) → hand_of m s p ≡ None → Lawful w (record { session = s; step = PutExclusive (Partition p) done }) → ⊥
  not_in_hand s p done none (v, inl made) = hand_not m w safe shows s p none made.1.may_move.steps made.1.may_move.holding
  not_in_hand s p done none (v, inr put) = hand_not m w safe shows s p none put.0.steps put.0.holding

  -- With a move recorded, no other one is put, and that one only once all is done that it asks.
  pub only_recorded : (s p : ℕ) (done other : Move) (shown : InHand) → hand_of m s p ≡ Some shown → shown.recorded ≡ Some other → Lawful w (record { session = s; step = PutExclusive (Partition p) done })
      → (other ≡ done) × (none_unmarked shown.unmarked ≡ true) × (is_over (get_or m.waits.awaited s None) p done ≡ true)
  only_recorded s p done other shown in_hand recorded (v, inl made) =
      let has = hand_from m w safe shows s p shown in_hand in
      let none : Some other ≡ None = sym recorded ∙ sym (recorded_from w s p shown has) ∙ made.1.may_move.unrecorded in
      absurd (cc)
  only_recorded s p done other shown in_hand recorded (v, inr put) =
      let has = hand_from m w safe shows s p shown in_hand in
      let same : Some other ≡ Some done = sym recorded ∙ sym (recorded_from w s p shown has) ∙ put.0.recorded in
      let it : other ≡ done = cc in (
        it,
        each-none_unmarked shown.unmarked (λ k. sym (unmarked_from w s p shown has k) ∙ put.0.all_marked k),
        ap (λ o. is_over o p done) (shows.waits.awaited s) ∙ from_over (w.sessions.awaited s) p done put.0.wait_is_over,
      )

  -- With no move recorded, what is put is made by putting.
  only_made : (s p : ℕ) (done : Move) → HasUnmoved m s p → Lawful w (record { session = s; step = PutExclusive (Partition p) done }) → (content : Content) × MayPutPartition w s p done content
  only_made s p done in_hand (v, inl made) = (made.0, made.1)
  only_made s p done in_hand (v, inr put) =
      let has = hand_from m w safe shows s p in_hand.0 in_hand.1 in
      let none : Some done ≡ None = sym put.0.recorded ∙ recorded_from w s p in_hand.0 has ∙ in_hand.2 in
      absurd (cc)

  -- So a move that isn't made by putting is not put.
  pub not_put : (s p : ℕ) (done : Move) → HasUnmoved m s p → (IsMadeByPutting done → ⊥)
      → (v : World) × Next w (record { session = s; step = PutExclusive (Partition p) done }) v × Shows m v
  not_put s p done in_hand by_another = skipped m w safe shows s (PutExclusive (Partition p) done) (λ lawful. by_another (only_made s p done in_hand lawful).1.by_putting)

  pub exists_from : (s p : ℕ) → HasUnmoved m s p → p < 16
  exists_from s p in_hand = (hand_from m w safe shows s p in_hand.0 in_hand.1).exists

  -- A put with a move that is made as it is put.
  made_put : (s p : ℕ) (done : Move) (content : Content) (changed : Contents) → HasUnmoved m s p → IsMadeByPutting done → IsInPartition p done → FitsOwn w.sessions.own (w.sessions.awaited s) s done
      → IsCountedFor w.numbers.limit (w.sessions.counted s) done → Moves (contents_in m.contents.parts.items p) s done [] content → p < length m.words.partitions → IsChangedAt m.contents.parts.items changed.parts.items p content
      → (v : World) × Next w (record { session = s; step = PutExclusive (Partition p) done }) v
      × Shows (put_by m p changed) v
  made_put s p done content changed in_hand by_putting object own counted moves in_words at =
      let has = hand_from m w safe shows s p in_hand.0 in_hand.1 in
      let may : MayPutPartition w s p done content = record {
        may_move = record {
          steps = has.steps;
          holding = has.holding;
          unrecorded = recorded_from w s p in_hand.0 has ∙ in_hand.2;
          object = object;
          own = own;
          counted = counted;
          moved = subst (λ now. Moves now s done [] content) (shows.contents.now p has.exists) moves;
        };
        by_putting = by_putting;
      } in (
        after_putting_partition w s p done content,
        inl (inl (content, may, refl)),
        shown_put s p done content changed has.exists in_words has.holding at,
      )

  pub kept : (s p : ℕ) → HasUnmoved m s p → p < length m.words.partitions
      → (v : World) × Next w (record { session = s; step = PutExclusive (Partition p) Keep }) v
      × Shows (put_by m p m.contents) v
  kept s p in_hand in_words =
      made_put s p Keep (contents_in m.contents.parts.items p) m.contents in_hand tt tt tt tt (refl, refl) in_words
      (changed_nowhere m.contents.parts.items p (contents_in m.contents.parts.items p) refl (shows.contents.none_begun p))

  pub granted : (s p : ℕ) (t : Tag) (n : Mode) (changed : Contents) → HasUnmoved m s p → partition_of t ≡ p
      → may_ask m s t n ≡ true → counted_for m s t n ≡ true
      → WaitingAnswer (contents_in m.contents.parts.items p) s t n Granted → p < length m.words.partitions
      → IsChangedAt m.contents.parts.items changed.parts.items p (add_hold (contents_in m.contents.parts.items p) s t n)
      → (v : World) × Next w (record { session = s; step = PutExclusive (Partition p) (Grant t n) }) v
      × Shows (put_by m p changed) v
  granted s p t n changed in_hand object asks counted answer in_words at =
      made_put s p (Grant t n) (add_hold (contents_in m.contents.parts.items p) s t n) changed in_hand tt object (fits_from m w safe shows s t n asks) (counted_for_from m w safe shows s t n counted) (answer, refl, refl) in_words at

  -- What a lawful grant needs.
  pub granting : (s p : ℕ) (t : Tag) (n : Mode) → HasUnmoved m s p → Lawful w (record { session = s; step = PutExclusive (Partition p) (Grant t n) })
      → (partition_of t ≡ p) × (may_ask m s t n ≡ true) × (counted_for m s t n ≡ true) × WaitingAnswer (contents_in m.contents.parts.items p) s t n Granted
  granting s p t n in_hand lawful =
      let may = (only_made s p (Grant t n) in_hand lawful).1.may_move in (
        may.object,
        from_fits m w safe shows s t n may.own.0 may.own.1,
        counted_for_needs m w safe shows s t n may.counted,
        subst (λ now. WaitingAnswer now s t n Granted) (sym (shows.contents.now p (exists_from s p in_hand))) may.moved.0,
      )

  pub released : (s p : ℕ) (t : Tag) (n : Mode) (content : Content) (changed : Contents) → HasUnmoved m s p → partition_of t ≡ p → awaits (get_or m.waits.awaited s None) t n ≡ false
      → Moves (contents_in m.contents.parts.items p) s (Release t n) [] content → p < length m.words.partitions → IsChangedAt m.contents.parts.items changed.parts.items p content
      → (v : World) × Next w (record { session = s; step = PutExclusive (Partition p) (Release t n) }) v
      × Shows (put_by m p changed) v
  released s p t n content changed in_hand object not_awaited moves in_words at =
      let held : (w.contents.now (partition_of t)).holds s t n ≡ true =
      sym (ap (λ c. c.holds s t n) (content_from m w safe shows t)) ∙ ap (λ q. (contents_in m.contents.parts.items q).holds s t n) object ∙ moves.0 in
      made_put s p (Release t n) content changed in_hand tt object
      (own_in_content m w safe shows s t n held not_awaited) tt moves in_words at

  -- What a lawful release needs.
  pub releasing : (s p : ℕ) (t : Tag) (n : Mode) → HasUnmoved m s p → Lawful w (record { session = s; step = PutExclusive (Partition p) (Release t n) })
      → (partition_of t ≡ p) × (CannotMake (get_or m.waits.awaited s None) (contents_in m.contents.parts.items p) s (Release t n) → ⊥) × ((content : Content) × Moves (contents_in m.contents.parts.items p) s (Release t n) [] content)
  releasing s p t n in_hand lawful =
      let made = only_made s p (Release t n) in_hand lawful in
      let may = made.1.may_move in
      let moves : Moves (contents_in m.contents.parts.items p) s (Release t n) [] made.0 = subst (λ now. Moves now s (Release t n) [] made.0) (sym (shows.contents.now p (exists_from s p in_hand))) may.moved in (
        may.object,
        λ cannot. elim cannot [
          | inl awaited ↦ both_ways _ (not_awaited_own m w safe shows s t n may.own) awaited
          | inr absent ↦ both_ways _ absent moves.0
        ],
        (made.0, moves),
      )

  -- A release that wakes somebody is not made by putting.
  pub release_wakes : (s p : ℕ) (t : Tag) (n : Mode) (granted : List Wait) (after : Content) → HasUnmoved m s p → Moves (contents_in m.contents.parts.items p) s (Release t n) granted after
      → Lawful w (record { session = s; step = PutExclusive (Partition p) (Release t n) }) → granted ≡ []
  release_wakes s p t n granted after in_hand moves lawful =
      let other = (releasing s p t n in_hand lawful).2 in
      WakesFor-one n (remove_hold (contents_in m.contents.parts.items p) s t n) t granted [] after other.0 moves.1 other.1.1
