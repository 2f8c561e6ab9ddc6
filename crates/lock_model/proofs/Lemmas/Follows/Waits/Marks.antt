use Rattle.std.proofs.Common.{◌≡◌, ◌≢◌, ◌⊎◌, ℕ, ◌<◌, Bool, true, false, List, length, get_or, Option, Some, None, refl, sym, ap, ◌∙◌, subst, inl, inr, arith}
use Rattle.std.specs.Vec.{with_item}
use Rattle.std.proofs.Math.ListN.{set}
use Rattle.std.proofs.lemmas.Bool.{cases_lt, both_ways}
use Rattle.std.proofs.lemmas.List.{get_or_past}
use Rattle.lock_table.specs.declared.moves.Move.{Move}
use Rattle.lock_table.specs.declared.moves.Move.TheVariants.{Keep, Grant, Join, Release, Leave, Adopt}
use Rattle.lock_model.specs.declared.machine.hands.InHand.{InHand}
use Rattle.lock_model.specs.declared.machine.moved_part.MovedPart.{MovedPart}
use Rattle.lock_model.specs.declared.machine.state.Machine.{Machine}
use Rattle.lock_table.specs.Content.{Wait, Content}
use Rattle.lock_model.specs.MovedPart.{IsMoved, woken_by}
use Rattle.lock_table.specs.Moves.{Moves, IsInPartition, FitsOwn}
use Rattle.lock_table.specs.MoveTests.{move_eq}
use Rattle.lock_table.specs.Parts.{part_at, contents_in}
use Rattle.lock_table.specs.PartView.{content_of}
use Rattle.lock_table.specs.Queue.{waits_there}
use Rattle.lock_world.specs.WaitWord.{wait_state, granted_word}
use Rattle.lock_world.specs.World.{World, recorded_in, is_unmarked}
use Rattle.lock_world.specs.Counted.{IsCountedFor}
use Rattle.lock_world.specs.Happens.Partitions.{MayMove}
use Rattle.lock_world.specs.Happens.Waits.{MayMark, unmarked_but, after_marking_first, after_marking_next, HappensMarkingIn, HappensMarking}
use Rattle.lock_world.specs.SafeWorld.{SafeWorld}
use Rattle.lock_model.specs.Shows.{Shows, is_unmarked_in, names_in, hand_of, awaits, IsWaking, IsOwnFor, CannotMake}
use Rattle.lock_model.proofs.Lemmas.Shows.Changes.{wait_word-set, hand-set, part-set}
use Rattle.lock_model.proofs.Lemmas.Shows.Hands.{names_in-granted, marks-without, recording-shown}
use Rattle.lock_table.proofs.Lemmas.MoveTests.{move_eq-same, move_eq-refl}
use Rattle.lock_table.proofs.Lemmas.OneMove.{one_moved}
use Rattle.lock_model.proofs.Lemmas.Shows.Looks.{HasInHand, recorded_from, unmarked_from, hand_from, hand_not, own_in_content, not_awaited_own}
use Rattle.lock_model.proofs.Lemmas.Shows.Kept.{table_shown}

-- Marking the wait of another session granted.

-- From this World, the marking leads on to one that the machine shows, or it isn't lawful and the machine
-- shows the same.
abbrev pub Marks : World → ℕ → ℕ → ℕ → Move → Machine → Type 0
Marks w s k p done n = (v : World) × (HappensMarkingIn w s k p done v ⊎ (((u : World) × HappensMarkingIn w s k p done u → ⊥) × (v ≡ w))) × Shows n v

-- What every marking asks of the other session and its word.
may_mark_in : (w : World) (s k p : ℕ) (done : Move) (v : World) → HappensMarkingIn w s k p done v → MayMark w s k
may_mark_in w s k p done v (inl first) = first.2.may_mark
may_mark_in w s k p done v (inr next) = next.0.may_mark

pub may_mark_from : (w : World) (s k : ℕ) (done : Move) (v : World) → HappensMarking w s k done v → MayMark w s k
may_mark_from w s k Keep v never = absurd never
may_mark_from w s k (Grant t n) v never = absurd never
may_mark_from w s k (Join t n) v never = absurd never
may_mark_from w s k (Release t n) v marks = may_mark_in w s k _ (Release t n) v marks
may_mark_from w s k (Leave t) v marks = may_mark_in w s k _ (Leave t) v marks
may_mark_from w s k (Adopt owner slot) v never = absurd never

-- the machine, once it has marked the session
abbrev pub marked_by : Machine → ℕ → InHand → ℕ → Move → List Bool → Machine
marked_by m p hand k done unmarked = record m {
  words = record (m.words) { waits = set m.words.waits k (granted_word (get_or m.words.waits k 0)) };
  contents = record (m.contents) { hands = set m.contents.hands p (Some (record { holder = hand.holder; recorded = Some done; unmarked = set unmarked k false })) };
}

-- Who is marked, and whose word shows something, is one of the list.
unmarked_within : (unmarked : List Bool) (k : ℕ) → is_unmarked_in unmarked k ≡ true → k < length unmarked
unmarked_within unmarked k e =
    elim (cases_lt k (length unmarked)) [
      | inl within ↦ within
      | inr past ↦ absurd (both_ways (is_unmarked_in unmarked k) (get_or_past unmarked k false past) e)
    ]

word_within : (words : List ℕ) (k : ℕ) → wait_state (get_or words k 0) ≡ 1 → k < length words
word_within words k e =
    elim (cases_lt k (length words)) [
      | inl within ↦ within
      | inr past ↦ let none : get_or words k 0 ≡ 0 = get_or_past words k 0 past in absurd (omega (arith, none, e))
    ]

-- A hand that has recorded a move has not recorded none, nor another one.
recorded_some : (o : Option Move) (x : Move) → o ≡ Some x → o ≡ None → ⊥
recorded_some o x some none = cc

recorded_one : (o : Option Move) (x y : Move) → o ≡ Some x → o ≡ Some y → move_eq x y ≡ true
recorded_one o x y one other = let same : x ≡ y = cc in ap (move_eq x) (sym same) ∙ move_eq-refl x

module _ (m : Machine) (w : World) (safe : SafeWorld w) (shows : Shows m w) where
  not_lawful : (s k p : ℕ) (done : Move) → ((u : World) → HappensMarkingIn w s k p done u → ⊥) → Marks w s k p done m
  not_lawful s k p done never = (w, inr (λ lawful. never lawful.0 lawful.1, refl), shows)

  pub mark_without_hand : (s k p : ℕ) (done : Move) → hand_of m s p ≡ None → Marks w s k p done m
  mark_without_hand s k p done none = not_lawful s k p done never where
    never : (u : World) → HappensMarkingIn w s k p done u → ⊥
    never u (inl first) = hand_not m w safe shows s p none first.2.may_move.steps first.2.may_move.holding
    never u (inr next) = hand_not m w safe shows s p none next.0.steps next.0.holding

  -- A move is recorded, and it is another one, or the session isn't unmarked.
  pub mark_of_another : (s k p : ℕ) (hand : InHand) (recorded done : Move) → hand_of m s p ≡ Some hand → hand.recorded ≡ Some recorded → (move_eq recorded done ≡ false) ⊎ (is_unmarked_in hand.unmarked k ≡ false) → Marks w s k p done m
  mark_of_another s k p hand recorded done in_hand is_recorded not_so = not_lawful s k p done never where
    has : HasInHand w s p hand
    has = hand_from m w safe shows s p hand in_hand

    recorded_is : recorded_in (w.contents.hand p) ≡ Some recorded
    recorded_is = recorded_from w s p hand has ∙ is_recorded

    refused : (move_eq recorded done ≡ false) ⊎ (is_unmarked_in hand.unmarked k ≡ false) → recorded_in (w.contents.hand p) ≡ Some done → is_unmarked (w.contents.hand p) k ≡ true → ⊥
    refused (inl another) made unmarked = both_ways (move_eq recorded done) another (recorded_one (recorded_in (w.contents.hand p)) recorded done recorded_is made)
    refused (inr not_unmarked) made unmarked = both_ways (is_unmarked_in hand.unmarked k) not_unmarked (sym (unmarked_from w s p hand has k) ∙ unmarked)

    never : (u : World) → HappensMarkingIn w s k p done u → ⊥
    never u (inl first) = recorded_some (recorded_in (w.contents.hand p)) recorded recorded_is first.2.may_move.unrecorded
    never u (inr next) = refused not_so next.0.recorded next.0.is_unmarked_in

  may_mark : (s k : ℕ) → k ≢ s → wait_state (get_or m.words.waits k 0) ≡ 1 → MayMark w s k
  may_mark s k another waiting = record { another = another; waiting = ap wait_state (sym (shows.words.wait k)) ∙ waiting }

  -- One more of those is marked whom the recorded move granted.
  pub mark_next : (s k p : ℕ) (hand : InHand) (recorded done : Move) → hand_of m s p ≡ Some hand → hand.recorded ≡ Some recorded → move_eq recorded done ≡ true → is_unmarked_in hand.unmarked k ≡ true → k ≢ s → wait_state (get_or m.words.waits k 0) ≡ 1
      → Marks w s k p done (marked_by m p hand k done hand.unmarked)
  mark_next s k p hand recorded done in_hand is_recorded same unmarked another waiting = (
    after_marking_next w k p done,
    inl
        (inr (
          record {
            steps = has.steps;
            holding = has.holding;
            recorded = recorded_from w s p hand has ∙ is_recorded ∙ ap Some (move_eq-same recorded done same);
            may_mark = may_mark s k another waiting;
            is_unmarked_in = unmarked_from w s p hand has k ∙ unmarked;
          },
          refl,
        )),
    table_shown shows (after_marking_next w k p done)
        (wait_word-set m.words w.words k _ _ shows.words (subst (λ n. k < n) shows.words.all_waits (word_within m.words.waits k waiting)) (ap granted_word (shows.words.wait k)))
        (hand-set m.contents w.contents p _ _ shows.contents has.exists
        (recording-shown (w.contents.hand p) has.hand hand.holder done (set hand.unmarked k false) (unmarked_but (is_unmarked (w.contents.hand p)) k) has.is_hand has.shows.holder
        (marks-without hand.unmarked (is_unmarked (w.contents.hand p)) k (unmarked_within hand.unmarked k unmarked) (λ j. sym (unmarked_from w s p hand has j)))))
        shows.waits,
  ) where
    has : HasInHand w s p hand
    has = hand_from m w safe shows s p hand in_hand

  -- What was moved on the machine's content is a move on the World's.
  moves_there : (s p : ℕ) (done : Move) (granted : List Wait) (after : Content) → p < 16 → Moves (contents_in m.contents.parts.items p) s done granted after → Moves (w.contents.now p) s done granted after
  moves_there s p done granted after below moves = subst (λ (c : Content). Moves c s done granted after) (shows.contents.now p below) moves

  -- A release and a leave ask nothing of the counts.
  waking_uncounted : (s : ℕ) (done : Move) → IsWaking done → IsCountedFor w.numbers.limit (w.sessions.counted s) done
  waking_uncounted s Keep wakes = tt
  waking_uncounted s (Grant t n) wakes = absurd wakes
  waking_uncounted s (Join t n) wakes = absurd wakes
  waking_uncounted s (Release t n) wakes = tt
  waking_uncounted s (Leave t) wakes = tt
  waking_uncounted s (Adopt owner slot) wakes = absurd wakes

  fits_own : (s p : ℕ) (done : Move) (granted : List Wait) (after : Content) → IsInPartition p done → IsWaking done → IsOwnFor (get_or m.waits.awaited s None) done → Moves (w.contents.now p) s done granted after
      → FitsOwn w.sessions.own (w.sessions.awaited s) s done
  fits_own s p Keep granted after object wakes own moves = absurd wakes
  fits_own s p (Grant t n) granted after object wakes own moves = absurd wakes
  fits_own s p (Join t n) granted after object wakes own moves = absurd wakes
  fits_own s p (Release t n) granted after object wakes own moves =
      own_in_content m w safe shows s t n (ap (λ q. (w.contents.now q).holds s t n) object ∙ moves.0) own
  fits_own s p (Leave t) granted after object wakes own moves = tt
  fits_own s p (Adopt owner slot) granted after object wakes own moves = absurd wakes

  -- The move is made, and one of those is marked whom it granted.
  pub mark_first : (s k p : ℕ) (hand : InHand) (done : Move) (after : MovedPart) (unmarked : List Bool) → hand_of m s p ≡ Some hand → hand.recorded ≡ None → IsInPartition p done → IsWaking done
      → IsMoved (part_at m.contents.parts.items p) s done after → IsOwnFor (get_or m.waits.awaited s None) done → names_in (woken_by after) k ≡ true → ((j : ℕ) → is_unmarked_in unmarked j ≡ names_in (woken_by after) j) → k ≢ s
      → wait_state (get_or m.words.waits k 0) ≡ 1 → Marks w s k p done (marked_by (record m { contents = record (m.contents) { parts = with_item m.contents.parts p after.part } }) p hand k done unmarked)
  mark_first s k p hand done after unmarked in_hand unmoved object wakes moved own among marks another waiting = (
    after_marking_first w s k p done moved.granted (content_of after.part),
    inl (inl (moved.granted, content_of after.part, record { may_move = may_move; may_mark = may_mark s k another waiting; among = sym (granted_named k) ∙ among }, refl)),
    table_shown shows (after_marking_first w s k p done moved.granted (content_of after.part))
        (wait_word-set m.words w.words k _ _ shows.words (subst (λ n. k < n) shows.words.all_waits (word_within m.words.waits k waiting)) (ap granted_word (shows.words.wait k)))
        (hand-set _ _ p _ _
        (part-set m.contents w.contents p after.part (content_of after.part) shows.contents has.exists refl (moved.begun ∙ shows.contents.none_begun p)) has.exists
        (recording-shown (w.contents.hand p) has.hand hand.holder done (set unmarked k false) (unmarked_but (waits_there moved.granted) k) has.is_hand has.shows.holder
        (marks-without unmarked (waits_there moved.granted) k (unmarked_within unmarked k (marks k ∙ among)) (λ j. marks j ∙ granted_named j))))
        shows.waits,
  ) where
    has : HasInHand w s p hand
    has = hand_from m w safe shows s p hand in_hand

    granted_named : (j : ℕ) → names_in (woken_by after) j ≡ waits_there moved.granted j
    granted_named j = ap (λ xs. names_in xs j) moved.named ∙ names_in-granted moved.granted j

    moves : Moves (w.contents.now p) s done moved.granted (content_of after.part)
    moves = moves_there s p done moved.granted (content_of after.part) has.exists moved.moves

    may_move : MayMove w s p done moved.granted (content_of after.part)
    may_move = record {
      steps = has.steps;
      holding = has.holding;
      unrecorded = recorded_from w s p hand has ∙ unmoved;
      object = object;
      own = fits_own s p done moved.granted (content_of after.part) object wakes own moves;
      counted = waking_uncounted s done wakes;
      moved = moves;
    }

  -- The move grants no wait of the session.
  pub mark_not_woken : (s k p : ℕ) (hand : InHand) (done : Move) (after : MovedPart) → hand_of m s p ≡ Some hand → hand.recorded ≡ None → IsMoved (part_at m.contents.parts.items p) s done after → names_in (woken_by after) k ≡ false → Marks w s k p done m
  mark_not_woken s k p hand done after in_hand unmoved moved not_among = not_lawful s k p done never where
    has : HasInHand w s p hand
    has = hand_from m w safe shows s p hand in_hand

    moves : Moves (w.contents.now p) s done moved.granted (content_of after.part)
    moves = moves_there s p done moved.granted (content_of after.part) has.exists moved.moves

    never : (u : World) → HappensMarkingIn w s k p done u → ⊥
    never u (inl first) =
        both_ways (names_in (woken_by after) k) not_among
        (ap (λ xs. names_in xs k) moved.named ∙ names_in-granted moved.granted k
        ∙ ap (λ g. waits_there g k) (one_moved (w.contents.now p) s done moved.granted first.0 (content_of after.part) first.1 moves first.2.may_move.moved).0 ∙ first.2.among)
    never u (inr next) = recorded_some (recorded_in (w.contents.hand p)) done next.0.recorded (recorded_from w s p hand has ∙ unmoved)

  cannot_make : (s p : ℕ) (done : Move) (granted : List Wait) (after : Content) → p < 16 → IsWaking done → CannotMake (get_or m.waits.awaited s None) (contents_in m.contents.parts.items p) s done
      → FitsOwn w.sessions.own (w.sessions.awaited s) s done → Moves (w.contents.now p) s done granted after → ⊥
  cannot_make s p Keep granted after below wakes cannot fits moves = wakes
  cannot_make s p (Grant t n) granted after below wakes cannot fits moves = wakes
  cannot_make s p (Join t n) granted after below wakes cannot fits moves = wakes
  cannot_make s p (Adopt owner slot) granted after below wakes cannot fits moves = wakes
  cannot_make s p (Release t n) granted after below wakes (inl awaited) fits moves =
      both_ways (awaits (get_or m.waits.awaited s None) t n) (not_awaited_own m w safe shows s t n fits) awaited
  cannot_make s p (Release t n) granted after below wakes (inr none) fits moves =
      both_ways ((w.contents.now p).holds s t n) (ap (λ (c : Content). c.holds s t n) (sym (shows.contents.now p below)) ∙ none) moves.0
  cannot_make s p (Leave t) granted after below wakes cannot fits moves =
      both_ways (waits_there ((w.contents.now p).waits t) s) (ap (λ (c : Content). waits_there (c.waits t) s) (sym (shows.contents.now p below)) ∙ cannot) moves.0

  -- The session cannot make the move.
  pub mark_by_no_move : (s k p : ℕ) (hand : InHand) (done : Move) → hand_of m s p ≡ Some hand → hand.recorded ≡ None → IsWaking done → CannotMake (get_or m.waits.awaited s None) (contents_in m.contents.parts.items p) s done → Marks w s k p done m
  mark_by_no_move s k p hand done in_hand unmoved wakes cannot = not_lawful s k p done never where
    has : HasInHand w s p hand
    has = hand_from m w safe shows s p hand in_hand

    never : (u : World) → HappensMarkingIn w s k p done u → ⊥
    never u (inl first) = cannot_make s p done first.0 first.1 has.exists wakes cannot first.2.may_move.own first.2.may_move.moved
    never u (inr next) = recorded_some (recorded_in (w.contents.hand p)) done next.0.recorded (recorded_from w s p hand has ∙ unmoved)
