use Rattle.std.proofs.Common.{◌≡◌, ℕ, ◌<◌, Bool, true, false, not, ◌&&◌, List, get_or, Option, Some, None, is_some, option_map, refl, sym, ap, ◌∙◌, subst, inl, inr, arith}
use Rattle.std.specs.Vec.{with_item}
use Rattle.std.proofs.Math.ListN.{set}
use Rattle.std.proofs.lemmas.Bool.{both_ways, and_parts, and_from, not-true, not_from_false}
use Rattle.modes_core.specs.declared.tags.Tag.{Tag}
use Rattle.modes_core.specs.Tag.{partition_of}
use Rattle.lock_table.specs.declared.moves.Move.{Move}
use Rattle.lock_table.specs.declared.moves.Move.TheVariants.{Leave}
use Rattle.lock_world.specs.declared.events.Step.TheVariants.{ClearWait}
use Rattle.lock_model.specs.declared.machine.hands.InHand.{InHand}
use Rattle.lock_model.specs.declared.machine.own_waits.Awaited.{Awaited}
use Rattle.lock_model.specs.declared.machine.state.Machine.{Machine}
use Rattle.lock_table.specs.Content.{Wait, Content}
use Rattle.lock_table.specs.Parts.{contents_in}
use Rattle.lock_table.specs.PartView.{PartView, content_of}
use Rattle.lock_table.specs.OwnWait.{OwnWait}
use Rattle.lock_table.specs.Queue.{waits_there, Wakes, remove_wait}
use Rattle.lock_world.specs.World.{World, recorded_in, MakesSteps}
use Rattle.lock_world.specs.Happens.Partitions.{MayMove}
use Rattle.lock_world.specs.Happens.Waits.{MayClearSeen, MayClearInHand, after_clearing, after_leaving, HappensClearing}
use Rattle.lock_world.specs.Happens.{Next}
use Rattle.lock_world.specs.SafeWorld.{SafeWorld}
use Rattle.lock_model.specs.Shows.{Shows, is_unmarked_in, hand_of, awaited_of, makes_steps}
use Rattle.lock_model.proofs.Lemmas.Shows.Changes.{wait_word-set, hand-set, part-set, own_wait-set}
use Rattle.lock_model.proofs.Lemmas.Shows.Hands.{recording-shown, awaited-some}
use Rattle.lock_model.proofs.Lemmas.Follows.Skipped.{skipped}
use Rattle.lock_model.proofs.Lemmas.Shows.Looks.{HasInHand, recorded_from, hand_from, hand_not, content_from, steps_from, steps_not}
use Rattle.lock_model.proofs.Lemmas.Shows.Kept.{table_shown}

-- Clearing one's own wait word, and leaving a queue.

-- What a clear by the session asks in either way: that the session makes steps, and that it has this wait.
clearing_steps : (w : World) (s : ℕ) (leaving : Bool) (v : World) → HappensClearing w s leaving v → MakesSteps w.numbers s
clearing_steps w s false v (wait, inl may, after) = may.steps
clearing_steps w s false v (wait, inr may, after) = may.steps
clearing_steps w s true v (inl (wait, granted, content, may, after)) = may.may_move.steps
clearing_steps w s true v (inr (wait, may, recorded, after)) = may.steps

clearing_wait : (w : World) (s : ℕ) (leaving : Bool) (v : World) → HappensClearing w s leaving v → (wait : OwnWait) × (w.sessions.awaited s ≡ Some wait)
clearing_wait w s false v (wait, inl may, after) = (wait, may.is_wait)
clearing_wait w s false v (wait, inr may, after) = (wait, may.is_wait)
clearing_wait w s true v (inl (wait, granted, content, may, after)) = (wait, may.is_wait)
clearing_wait w s true v (inr (wait, may, recorded, after)) = (wait, may.is_wait)

some_hand : (o : Option InHand) → (o ≡ None → ⊥) → is_some o ≡ true
some_hand None not_none = absurd (not_none refl)
some_hand (Some hand) not_none = refl

hand_there : (o : Option InHand) → is_some o ≡ true → (hand : InHand) × (o ≡ Some hand)
hand_there None e = absurd (cc)
hand_there (Some hand) e = (hand, refl)

same_wait : (wait : OwnWait) (a : Awaited) → Some a ≡ Some (awaited_of wait) → wait.tag ≡ a.tag
same_wait wait a e = let same : a ≡ awaited_of wait = cc in sym (ap (λ (x : Awaited). x.tag) same)

-- the machine, once the session's wait is over, and once the session has left the object's queue
abbrev pub ended_by : Machine → ℕ → Machine
ended_by m s = record m {
  words = record (m.words) { waits = set m.words.waits s 0 };
  waits = record { awaited = set m.waits.awaited s None; seen = set m.waits.seen s false };
}

abbrev pub left_by : Machine → ℕ → Tag → InHand → PartView → List Bool → Machine
left_by m s t shown part marks = record m {
  words = record (m.words) { waits = set m.words.waits s 0 };
  contents = record {
    hands = set m.contents.hands (partition_of t) (Some (record { holder = shown.holder; recorded = Some (Leave t); unmarked = marks }));
    parts = with_item m.contents.parts (partition_of t) part;
  };
  waits = record { awaited = set m.waits.awaited s None; seen = set m.waits.seen s false };
}

module _ (m : Machine) (w : World) (safe : SafeWorld w) (shows : Shows m w) where
  pub clear_refused : (s : ℕ) (leaving : Bool) → makes_steps m s ≡ false → (v : World) × Next w (record { session = s; step = ClearWait leaving }) v × Shows m v
  clear_refused s leaving no_steps = skipped m w safe shows s (ClearWait leaving) (λ lawful. steps_not m w safe shows s no_steps (clearing_steps w s leaving lawful.0 lawful.1))

  pub clear_of_nothing : (s : ℕ) (leaving : Bool) → get_or m.waits.awaited s None ≡ None → (v : World) × Next w (record { session = s; step = ClearWait leaving }) v × Shows m v
  clear_of_nothing s leaving none =
      skipped m w safe shows s (ClearWait leaving)
      (λ lawful.
      let found = clearing_wait w s leaving lawful.0 lawful.1 in
      let some : None ≡ Some (awaited_of found.0) = sym none ∙ shows.waits.awaited s ∙ ap (option_map awaited_of) found.1 in
      cc)

  -- The wait that the machine keeps is the World's.
  as_wait : (s : ℕ) (a : Awaited) → get_or m.waits.awaited s None ≡ Some a → (wait : OwnWait) × (w.sessions.awaited s ≡ Some wait) × (wait.tag ≡ a.tag)
  as_wait s a kept = let found = awaited-some (w.sessions.awaited s) a (sym kept ∙ shows.waits.awaited s) in (found.0, found.1, found.2)

  tag_of : (s : ℕ) (a : Awaited) (wait : OwnWait) → get_or m.waits.awaited s None ≡ Some a → w.sessions.awaited s ≡ Some wait → wait.tag ≡ a.tag
  tag_of s a wait kept is = same_wait wait a (sym kept ∙ shows.waits.awaited s ∙ ap (option_map awaited_of) is)

  -- The wait is over in what the machine keeps.
  ended : (s : ℕ) (wait : OwnWait) → s < 64
      → Shows (ended_by m s) (after_clearing w s wait)
  ended s wait below = table_shown shows (after_clearing w s wait)
      (wait_word-set m.words w.words s 0 0 shows.words (omega (arith, below)) refl)
      shows.contents
      (own_wait-set m.waits w.sessions.awaited w.sessions.seen s None None shows.waits below refl)

  in_hand_gone : (s : ℕ) (wait : OwnWait) (shown : InHand) → w.sessions.awaited s ≡ Some wait → hand_of m s (partition_of wait.tag) ≡ Some shown
      → waits_there ((contents_in m.contents.parts.items (partition_of wait.tag)).waits wait.tag) s ≡ false → MayClearInHand w s wait
  in_hand_gone s wait shown is in_hand gone =
      let has = hand_from m w safe shows s (partition_of wait.tag) shown in_hand in record {
        steps = has.steps;
        is_wait = is;
        holding = has.holding;
        gone = ap (λ (c : Content). waits_there (c.waits wait.tag) s) (sym (content_from m w safe shows wait.tag)) ∙ gone;
      }

  gone_may : (s : ℕ) (t : Tag) (wait : OwnWait) → wait.tag ≡ t → w.sessions.awaited s ≡ Some wait
      → (is_some (hand_of m s (partition_of t)) && not (waits_there ((contents_in m.contents.parts.items (partition_of t)).waits t) s)) ≡ true → MayClearInHand w s wait
  gone_may s t wait same is gone =
      let both = and_parts _ _ (subst (λ x. (is_some (hand_of m s (partition_of x)) && not (waits_there ((contents_in m.contents.parts.items (partition_of x)).waits x) s)) ≡ true) (sym same) gone) in
      let hand = hand_there (hand_of m s (partition_of wait.tag)) both.0 in
      in_hand_gone s wait hand.0 is hand.1 (not-true _ both.1)

  may_gone : (s : ℕ) (t : Tag) (wait : OwnWait) → wait.tag ≡ t → MayClearInHand w s wait
      → (is_some (hand_of m s (partition_of t)) && not (waits_there ((contents_in m.contents.parts.items (partition_of t)).waits t) s)) ≡ true
  may_gone s t wait same may =
      subst (λ x. (is_some (hand_of m s (partition_of x)) && not (waits_there ((contents_in m.contents.parts.items (partition_of x)).waits x) s)) ≡ true) same
      (and_from _ _ (some_hand (hand_of m s (partition_of wait.tag)) (λ none. hand_not m w safe shows s (partition_of wait.tag) none may.steps may.holding))
      (not_from_false _ (ap (λ (c : Content). waits_there (c.waits wait.tag) s) (content_from m w safe shows wait.tag) ∙ may.gone)))

  pub cleared_seen : (s : ℕ) (a : Awaited) → makes_steps m s ≡ true → get_or m.waits.awaited s None ≡ Some a → get_or m.waits.seen s false ≡ true → s < 64
      → (v : World) × Next w (record { session = s; step = ClearWait false }) v
      × Shows (ended_by m s) v
  cleared_seen s a steps kept seen below =
      let wait = as_wait s a kept in
      let may : MayClearSeen w s wait.0 = record { steps = steps_from m w safe shows s steps; is_wait = wait.1; seen = sym (shows.waits.seen s) ∙ seen } in
      (after_clearing w s wait.0, inl (wait.0, inl may, refl), ended s wait.0 below)

  pub cleared_gone : (s : ℕ) (a : Awaited) → get_or m.waits.awaited s None ≡ Some a
      → (is_some (hand_of m s (partition_of a.tag)) && not (waits_there ((contents_in m.contents.parts.items (partition_of a.tag)).waits a.tag) s)) ≡ true → s < 64
      → (v : World) × Next w (record { session = s; step = ClearWait false }) v
      × Shows (ended_by m s) v
  cleared_gone s a kept gone below =
      let wait = as_wait s a kept in
      (after_clearing w s wait.0, inl (wait.0, inr (gone_may s a.tag wait.0 wait.2 wait.1 gone), refl), ended s wait.0 below)

  not_clear : (s : ℕ) (a : Awaited) → get_or m.waits.awaited s None ≡ Some a → get_or m.waits.seen s false ≡ false
      → (is_some (hand_of m s (partition_of a.tag)) && not (waits_there ((contents_in m.contents.parts.items (partition_of a.tag)).waits a.tag) s)) ≡ false → (v : World) → HappensClearing w s false v → ⊥
  not_clear s a kept unseen not_gone v (wait, inl may, after) = both_ways (get_or m.waits.seen s false) unseen (shows.waits.seen s ∙ may.seen)
  not_clear s a kept unseen not_gone v (wait, inr may, after) = both_ways _ not_gone (may_gone s a.tag wait (tag_of s a wait kept may.is_wait) may)

  pub clear_too_early : (s : ℕ) (a : Awaited) → get_or m.waits.awaited s None ≡ Some a → get_or m.waits.seen s false ≡ false
      → (is_some (hand_of m s (partition_of a.tag)) && not (waits_there ((contents_in m.contents.parts.items (partition_of a.tag)).waits a.tag) s)) ≡ false
      → (v : World) × Next w (record { session = s; step = ClearWait false }) v × Shows m v
  clear_too_early s a kept unseen not_gone = skipped m w safe shows s (ClearWait false) (λ lawful. not_clear s a kept unseen not_gone lawful.0 lawful.1)

  -- Leaving, where the leave is recorded.
  pub left_before : (s : ℕ) (a : Awaited) (t : Tag) (shown : InHand) (r : Move) → get_or m.waits.awaited s None ≡ Some a → a.tag ≡ t → hand_of m s (partition_of t) ≡ Some shown → shown.recorded ≡ Some r → r ≡ Leave t
      → waits_there ((contents_in m.contents.parts.items (partition_of t)).waits t) s ≡ false → s < 64
      → (v : World) × Next w (record { session = s; step = ClearWait true }) v
      × Shows (ended_by m s) v
  left_before s a t shown r kept of_tag in_hand recorded is_leave gone below =
      let wait = as_wait s a kept in
      let tag : wait.0.tag ≡ t = wait.2 ∙ of_tag in
      let hand : hand_of m s (partition_of wait.0.tag) ≡ Some shown = ap (λ x. hand_of m s (partition_of x)) tag ∙ in_hand in
      let may = in_hand_gone s wait.0 shown wait.1 hand (ap (λ x. waits_there ((contents_in m.contents.parts.items (partition_of x)).waits x) s) tag ∙ gone) in
      let its : recorded_in (w.contents.hand (partition_of wait.0.tag)) ≡ Some (Leave wait.0.tag) =
      recorded_from w s (partition_of wait.0.tag) shown (hand_from m w safe shows s (partition_of wait.0.tag) shown hand) ∙ recorded ∙ ap Some is_leave ∙ ap (λ x. Some (Leave x)) (sym tag) in
      (after_clearing w s wait.0, inl (inr (wait.0, may, its, refl)), ended s wait.0 below)

  -- Leaving by this step.
  pub left : (s : ℕ) (a : Awaited) (t : Tag) (shown : InHand) (part : PartView) (granted : List Wait) (marks : List Bool) → get_or m.waits.awaited s None ≡ Some a → a.tag ≡ t → hand_of m s (partition_of t) ≡ Some shown → shown.recorded ≡ None
      → waits_there ((contents_in m.contents.parts.items (partition_of t)).waits t) s ≡ true → Wakes (remove_wait (contents_in m.contents.parts.items (partition_of t)) s t) t granted (content_of part) → part.begun ≡ None
      → ((k : ℕ) → is_unmarked_in marks k ≡ waits_there granted k) → s < 64
      → (v : World) × Next w (record { session = s; step = ClearWait true }) v
      × Shows (left_by m s t shown part marks) v
  left s a t shown part granted marks kept of_tag in_hand unmoved there wakes begun marked below =
      at (as_wait s a kept).0 (as_wait s a kept).1 ((as_wait s a kept).2 ∙ of_tag) where
        by_wait : (wait : OwnWait) → w.sessions.awaited s ≡ Some wait → hand_of m s (partition_of wait.tag) ≡ Some shown
            → waits_there ((contents_in m.contents.parts.items (partition_of wait.tag)).waits wait.tag) s ≡ true → Wakes (remove_wait (contents_in m.contents.parts.items (partition_of wait.tag)) s wait.tag) wait.tag granted (content_of part)
            → (v : World) × Next w (record { session = s; step = ClearWait true }) v
            × Shows (left_by m s wait.tag shown part marks) v
        by_wait wait is hand stands woken =
            let p : ℕ = partition_of wait.tag in
            let has : HasInHand w s p shown = hand_from m w safe shows s p shown hand in
            let same : contents_in m.contents.parts.items p ≡ w.contents.now p = content_from m w safe shows wait.tag in
            let may : MayMove w s p (Leave wait.tag) granted (content_of part) = record {
              steps = has.steps;
              holding = has.holding;
              unrecorded = recorded_from w s p shown has ∙ unmoved;
              object = refl;
              own = tt;
              counted = tt;
              moved = (
                ap (λ (c : Content). waits_there (c.waits wait.tag) s) (sym same) ∙ stands,
                subst (λ (c : Content). Wakes (remove_wait c s wait.tag) wait.tag granted (content_of part)) same woken,
              );
            } in (
              after_leaving w s wait granted (content_of part),
              inl (inl (wait, granted, content_of part, record { is_wait = is; may_move = may }, refl)),
              table_shown shows (after_leaving w s wait granted (content_of part))
                  (wait_word-set m.words w.words s 0 0 shows.words (omega (arith, below)) refl)
                  (hand-set _ _ p _ _ (part-set m.contents w.contents p part (content_of part) shows.contents has.exists refl begun) has.exists
                  (recording-shown (w.contents.hand p) has.hand shown.holder (Leave wait.tag) marks (waits_there granted) has.is_hand has.shows.holder marked))
                  (own_wait-set m.waits w.sessions.awaited w.sessions.seen s None None shows.waits below refl),
            )

        at : (wait : OwnWait) → w.sessions.awaited s ≡ Some wait → wait.tag ≡ t → (v : World) × Next w (record { session = s; step = ClearWait true }) v × Shows (left_by m s t shown part marks) v
        at wait is tag =
            subst (λ x. (v : World) × Next w (record { session = s; step = ClearWait true }) v
            × Shows (left_by m s x shown part marks) v) tag
            (by_wait wait is (ap (λ x. hand_of m s (partition_of x)) tag ∙ in_hand) (ap (λ x. waits_there ((contents_in m.contents.parts.items (partition_of x)).waits x) s) tag ∙ there)
            (subst (λ x. Wakes (remove_wait (contents_in m.contents.parts.items (partition_of x)) s x) x granted (content_of part)) (sym tag) wakes))

  -- Where leaving is not lawful.
  not_leave_hand : (s : ℕ) (a : Awaited) (t : Tag) → get_or m.waits.awaited s None ≡ Some a → a.tag ≡ t → hand_of m s (partition_of t) ≡ None → (v : World) → HappensClearing w s true v → ⊥
  not_leave_hand s a t kept of_tag none v (inl (wait, granted, content, may, after)) =
      hand_not m w safe shows s (partition_of wait.tag) (ap (λ x. hand_of m s (partition_of x)) (tag_of s a wait kept may.is_wait ∙ of_tag) ∙ none) may.may_move.steps may.may_move.holding
  not_leave_hand s a t kept of_tag none v (inr (wait, may, recorded, after)) =
      hand_not m w safe shows s (partition_of wait.tag) (ap (λ x. hand_of m s (partition_of x)) (tag_of s a wait kept may.is_wait ∙ of_tag) ∙ none) may.steps may.holding

  pub leave_without_hand : (s : ℕ) (a : Awaited) (t : Tag) → get_or m.waits.awaited s None ≡ Some a → a.tag ≡ t → hand_of m s (partition_of t) ≡ None → (v : World) × Next w (record { session = s; step = ClearWait true }) v × Shows m v
  leave_without_hand s a t kept of_tag none = skipped m w safe shows s (ClearWait true) (λ lawful. not_leave_hand s a t kept of_tag none lawful.0 lawful.1)

  not_leave_again : (s : ℕ) (a : Awaited) (t : Tag) (shown : InHand) (r : Move) → get_or m.waits.awaited s None ≡ Some a → a.tag ≡ t → hand_of m s (partition_of t) ≡ Some shown → shown.recorded ≡ Some r
      → ((r ≡ Leave t) → waits_there ((contents_in m.contents.parts.items (partition_of t)).waits t) s ≡ true) → (v : World) → HappensClearing w s true v → ⊥
  not_leave_again s a t shown r kept of_tag in_hand recorded stands v (inl (wait, granted, content, may, after)) =
      let tag = tag_of s a wait kept may.is_wait ∙ of_tag in
      let its = recorded_from w s (partition_of wait.tag) shown (hand_from m w safe shows s (partition_of wait.tag) shown (ap (λ x. hand_of m s (partition_of x)) tag ∙ in_hand)) in
      let both : None ≡ Some r = sym may.may_move.unrecorded ∙ its ∙ recorded in
      cc
  not_leave_again s a t shown r kept of_tag in_hand recorded stands v (inr (wait, may, is_recorded, after)) =
      let tag = tag_of s a wait kept may.is_wait ∙ of_tag in
      let its = recorded_from w s (partition_of wait.tag) shown (hand_from m w safe shows s (partition_of wait.tag) shown (ap (λ x. hand_of m s (partition_of x)) tag ∙ in_hand)) in
      let both : Some r ≡ Some (Leave wait.tag) = sym recorded ∙ sym its ∙ is_recorded in
      let same : r ≡ Leave wait.tag = cc in
      both_ways (waits_there ((w.contents.now (partition_of wait.tag)).waits wait.tag) s) may.gone
      (ap (λ (c : Content). waits_there (c.waits wait.tag) s) (sym (content_from m w safe shows wait.tag))
      ∙ ap (λ x. waits_there ((contents_in m.contents.parts.items (partition_of x)).waits x) s) tag ∙ stands (same ∙ ap Leave tag))

  pub leave_after_move : (s : ℕ) (a : Awaited) (t : Tag) (shown : InHand) (r : Move) → get_or m.waits.awaited s None ≡ Some a → a.tag ≡ t → hand_of m s (partition_of t) ≡ Some shown → shown.recorded ≡ Some r
      → ((r ≡ Leave t) → waits_there ((contents_in m.contents.parts.items (partition_of t)).waits t) s ≡ true) → (v : World) × Next w (record { session = s; step = ClearWait true }) v × Shows m v
  leave_after_move s a t shown r kept of_tag in_hand recorded stands =
      skipped m w safe shows s (ClearWait true) (λ lawful. not_leave_again s a t shown r kept of_tag in_hand recorded stands lawful.0 lawful.1)

  -- A session that has no wait in the queue has none to take out.
  not_leave_nothing : (s : ℕ) (a : Awaited) (t : Tag) (shown : InHand) → get_or m.waits.awaited s None ≡ Some a → a.tag ≡ t → hand_of m s (partition_of t) ≡ Some shown → shown.recorded ≡ None
      → waits_there ((contents_in m.contents.parts.items (partition_of t)).waits t) s ≡ false → (v : World) → HappensClearing w s true v → ⊥
  not_leave_nothing s a t shown kept of_tag in_hand unmoved gone v (inl (wait, granted, content, may, after)) =
      let tag = tag_of s a wait kept may.is_wait ∙ of_tag in
      both_ways (waits_there ((w.contents.now (partition_of wait.tag)).waits wait.tag) s)
      (ap (λ (c : Content). waits_there (c.waits wait.tag) s) (sym (content_from m w safe shows wait.tag))
      ∙ ap (λ x. waits_there ((contents_in m.contents.parts.items (partition_of x)).waits x) s) tag ∙ gone) may.may_move.moved.0
  not_leave_nothing s a t shown kept of_tag in_hand unmoved gone v (inr (wait, may, is_recorded, after)) =
      let tag = tag_of s a wait kept may.is_wait ∙ of_tag in
      let its = recorded_from w s (partition_of wait.tag) shown (hand_from m w safe shows s (partition_of wait.tag) shown (ap (λ x. hand_of m s (partition_of x)) tag ∙ in_hand)) in
      let both : None ≡ Some (Leave wait.tag) = sym unmoved ∙ sym its ∙ is_recorded in
      cc

  pub leave_of_nothing : (s : ℕ) (a : Awaited) (t : Tag) (shown : InHand) → get_or m.waits.awaited s None ≡ Some a → a.tag ≡ t → hand_of m s (partition_of t) ≡ Some shown → shown.recorded ≡ None
      → waits_there ((contents_in m.contents.parts.items (partition_of t)).waits t) s ≡ false → (v : World) × Next w (record { session = s; step = ClearWait true }) v × Shows m v
  leave_of_nothing s a t shown kept of_tag in_hand unmoved gone =
      skipped m w safe shows s (ClearWait true) (λ lawful. not_leave_nothing s a t shown kept of_tag in_hand unmoved gone lawful.0 lawful.1)
