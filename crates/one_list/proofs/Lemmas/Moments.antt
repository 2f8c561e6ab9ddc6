use Rattle.std.proofs.Common.{◌≡◌, ◌⊎◌, ℕ, zero, suc, true, false, ◌&&◌, List, [], ◌∷◌, refl, sym, ap, ◌∙◌, subst, inl, inr}
use Rattle.std.specs.Prelude.{◌==◌}
use Rattle.std.proofs.lemmas.Bool.{cases_Bool, both_ways, or_left, or_right, and_from, eq-eqb, MatchBool-at_true, MatchBool-at_false}
use Rattle.modes_core.specs.declared.modes.Mode.{Mode}
use Rattle.modes_core.specs.declared.tags.Tag.{Tag}
use Rattle.modes_core.specs.Mode.{mode_eq}
use Rattle.modes_core.proofs.Lemmas.Conflicts.{mode_eq-refl}
use Rattle.lock_table.specs.declared.moves.Move.{Move}
use Rattle.lock_table.specs.declared.moves.Move.TheVariants.{Keep, Grant, Join, Release, Leave, Adopt}
use Rattle.lock_table.specs.Content.{Holds, Wait, Content, set_hold, remove_hold}
use Rattle.lock_table.specs.Queue.{some_awaits_conflict, awaits_mode, Wakes, hold_all, remove_wait}
use Rattle.lock_table.proofs.Lemmas.Holds.{SetHoldAt, here, elsewhere, set_hold-at}
use Rattle.lock_table.proofs.Lemmas.QueueLaws.{HasMore-set}
use Rattle.lock_world.specs.declared.events.Event.{Event}
use Rattle.lock_world.specs.World.{World}
use Rattle.lock_world.specs.Happens.{RunsThrough, last_of}
use Rattle.lock_world.specs.SafeWorld.{SafeWorld}
use Rattle.lock_world.specs.Headline.{stands_with}
use Rattle.lock_world.proofs.Lemmas.SafeWorld.Runs.{Next-safe}
use Rattle.one_list.specs.OneList.{list_of, MovesList, IsStepOfList}
use Rattle.one_list.specs.Moments.{IsWakeupOf, ComesToBe, GoesAway, AtSomeMoment, Coming, Going}
use Rattle.one_list.proofs.Lemmas.Runs.{next-step}

-- When a hold comes to be in the list, and when it goes.

-- A hold among those of granted waits is an old one, or one of theirs.
hold_all-new : (granted : List Wait) (h : Holds) (t : Tag) (s : ℕ) (o : Tag) (m : Mode) → hold_all h t granted s o m ≡ true → (h s o m ≡ true) ⊎ ((o ≡ t) × (awaits_mode granted s m ≡ true))
hold_all-new [] h t s o m has = inl has
hold_all-new (w ∷ granted) h t s o m has =
    elim (hold_all-new granted (set_hold h w.session t w.mode true) t s o m has) [
      | inl now ↦ at now (set_hold-at h w.session t w.mode true s o m)
      | inr its ↦ inr (its.0, or_right ((w.session == s) && mode_eq w.mode m) (awaits_mode granted s m) its.1)
    ] where
      at : set_hold h w.session t w.mode true s o m ≡ true → SetHoldAt h w.session t w.mode true s o m → (h s o m ≡ true) ⊎ ((o ≡ t) × (awaits_mode (w ∷ granted) s m ≡ true))
      at now (here it e) = inr (
        it.tag,
        or_left ((w.session == s) && mode_eq w.mode m) (awaits_mode granted s m)
            (and_from (w.session == s) (mode_eq w.mode m) (eq-eqb w.session s (sym it.session)) (ap (mode_eq w.mode) it.mode ∙ mode_eq-refl w.mode)),
      )
      at now (elsewhere not_it e) = inl (sym e ∙ now)

hold_all-still : (granted : List Wait) (h : Holds) (t : Tag) (s : ℕ) (o : Tag) (m : Mode) → h s o m ≡ true → hold_all h t granted s o m ≡ true
hold_all-still [] h t s o m has = has
hold_all-still (w ∷ granted) h t s o m has = hold_all-still granted (set_hold h w.session t w.mode true) t s o m (HasMore-set h w.session t o w.mode s m has)

cleared-was : (h : Holds) (k : ℕ) (t : Tag) (n : Mode) (s : ℕ) (o : Tag) (m : Mode) → set_hold h k t n false s o m ≡ true → h s o m ≡ true
cleared-was h k t n s o m has = at (set_hold-at h k t n false s o m) where
  at : SetHoldAt h k t n false s o m → h s o m ≡ true
  at (here it e) = absurd (both_ways (set_hold h k t n false s o m) e has)
  at (elsewhere not_it e) = sym e ∙ has

module _ (s : ℕ) (o : Tag) (m : Mode) where
  -- the holds of a wakeup that is made from a content with no more holds
  woken-new : (c0 : Content) (t : Tag) (granted : List Wait) (after : Content) → Wakes c0 t granted after → c0.holds s o m ≡ false → after.holds s o m ≡ true
      → (o ≡ t) × (awaits_mode granted s m ≡ true)
  woken-new c0 t granted after wakes none has =
      elim (hold_all-new granted c0.holds t s o m (sym (λ i. wakes.holds i s o m) ∙ has)) [
        | inl old ↦ absurd (both_ways (c0.holds s o m) none old)
        | inr its ↦ its
      ]

  by_wakeup : (before : Content) (mover : ℕ) (done : Move) (granted : List Wait) (after : Content) (t : Tag) → MovesList before mover done granted after → IsWakeupOf done t
      → (o ≡ t) × (awaits_mode granted s m ≡ true) → ComesToBe before mover after s o m
  by_wakeup before mover done granted after t moves wakeup its = inr (done, granted, subst (IsWakeupOf done) (sym its.0) wakeup, its.1, moves)

  pub comes-by : (before : Content) (mover : ℕ) (done : Move) (granted : List Wait) (after : Content) → MovesList before mover done granted after
      → before.holds s o m ≡ false → after.holds s o m ≡ true → ComesToBe before mover after s o m
  comes-by before mover Keep granted after moves none has = absurd (both_ways (before.holds s o m) none (sym (λ i. (moves.1 i).holds s o m) ∙ has))
  comes-by before mover (Grant t n) granted after moves none has = at (set_hold-at before.holds mover t n true s o m) where
    at : SetHoldAt before.holds mover t n true s o m → ComesToBe before mover after s o m
    at (here it e) = inl (
      sym it.session,
      subst (λ l. MovesList before s (Grant o m) l after) moves.1.1
          (subst (λ x. MovesList before s (Grant o x) granted after) (sym it.mode)
          (subst (λ x. MovesList before s (Grant x n) granted after) (sym it.tag)
          (subst (λ k. MovesList before k (Grant t n) granted after) (sym it.session) moves))),
    )
    at (elsewhere not_it e) = absurd (both_ways (before.holds s o m) none (sym e ∙ sym (λ i. (moves.1.2 i).holds s o m) ∙ has))
  comes-by before mover (Join t n) granted after moves none has = absurd (both_ways (before.holds s o m) none (sym (λ i. (moves.2.stands i).holds s o m) ∙ has))
  comes-by before mover (Release t n) granted after moves none has =
      elim (cases_Bool (some_awaits_conflict (before.waits t) n)) [
        | inl some ↦ by_wakeup before mover (Release t n) granted after t moves (inl (n, refl))
            (elim (cases_Bool ((remove_hold before mover t n).holds s o m)) [
              | inl still ↦ absurd (both_ways (before.holds s o m) none (cleared-was before.holds mover t n s o m still))
              | inr gone ↦ woken-new (remove_hold before mover t n) t granted after
                  (MatchBool-at_true (Wakes (remove_hold before mover t n) t granted after) ((granted ≡ []) × (after ≡ remove_hold before mover t n)) some moves.1) gone has
            ])
        | inr nobody ↦
            let alone = MatchBool-at_false (Wakes (remove_hold before mover t n) t granted after) ((granted ≡ []) × (after ≡ remove_hold before mover t n)) nobody moves.1 in
            absurd (both_ways (before.holds s o m) none (cleared-was before.holds mover t n s o m (sym (λ i. (alone.1 i).holds s o m) ∙ has)))
      ]
  comes-by before mover (Leave t) granted after moves none has =
      by_wakeup before mover (Leave t) granted after t moves (inr refl) (woken-new (remove_wait before mover t) t granted after moves.1 none has)
  comes-by before mover (Adopt q i) granted after moves none has = absurd moves

  -- A hold goes by no move but the release of it.
  pub goes-by : (before : Content) (mover : ℕ) (done : Move) (granted : List Wait) (after : Content) → MovesList before mover done granted after
      → before.holds s o m ≡ true → after.holds s o m ≡ false → GoesAway before mover after s o m
  goes-by before mover Keep granted after moves has none = absurd (both_ways (after.holds s o m) none ((λ i. (moves.1 i).holds s o m) ∙ has))
  goes-by before mover (Grant t n) granted after moves has none =
      absurd (both_ways (after.holds s o m) none ((λ i. (moves.1.2 i).holds s o m) ∙ HasMore-set before.holds mover t o n s m has))
  goes-by before mover (Join t n) granted after moves has none = absurd (both_ways (after.holds s o m) none ((λ i. (moves.2.stands i).holds s o m) ∙ has))
  goes-by before mover (Release t n) granted after moves has none = at (set_hold-at before.holds mover t n false s o m) where
    kept : (remove_hold before mover t n).holds s o m ≡ true → after.holds s o m ≡ true
    kept still =
        elim (cases_Bool (some_awaits_conflict (before.waits t) n)) [
          | inl some ↦
              let wakes = MatchBool-at_true (Wakes (remove_hold before mover t n) t granted after) ((granted ≡ []) × (after ≡ remove_hold before mover t n)) some moves.1 in
              (λ i. wakes.holds i s o m) ∙ hold_all-still granted (remove_hold before mover t n).holds t s o m still
          | inr nobody ↦
              let alone = MatchBool-at_false (Wakes (remove_hold before mover t n) t granted after) ((granted ≡ []) × (after ≡ remove_hold before mover t n)) nobody moves.1 in
              (λ i. (alone.1 i).holds s o m) ∙ still
        ]

    at : SetHoldAt before.holds mover t n false s o m → GoesAway before mover after s o m
    at (here it e) = (
      sym it.session,
      (
        granted,
        subst (λ x. MovesList before s (Release o x) granted after) (sym it.mode)
            (subst (λ x. MovesList before s (Release x n) granted after) (sym it.tag)
            (subst (λ k. MovesList before k (Release t n) granted after) (sym it.session) moves)),
      ),
    )
    at (elsewhere not_it e) = absurd (both_ways (after.holds s o m) none (kept (e ∙ has)))
  goes-by before mover (Leave t) granted after moves has none =
      absurd (both_ways (after.holds s o m) none ((λ i. moves.1.holds i s o m) ∙ hold_all-still granted before.holds t s o m has))
  goes-by before mover (Adopt q i) granted after moves has none = absurd moves

  comes : (before : Content) (mover : ℕ) (after : Content) → IsStepOfList mover before after → before.holds s o m ≡ false → after.holds s o m ≡ true → ComesToBe before mover after s o m
  comes before mover after (inl same) none has = absurd (both_ways (before.holds s o m) none (sym (λ i. (same i).holds s o m) ∙ has))
  comes before mover after (inr moves) none has = comes-by before mover moves.0 moves.1 after moves.2 none has

  goes : (before : Content) (mover : ℕ) (after : Content) → IsStepOfList mover before after → before.holds s o m ≡ true → after.holds s o m ≡ false → GoesAway before mover after s o m
  goes before mover after (inl same) has none = absurd (both_ways (after.holds s o m) none ((λ i. (same i).holds s o m) ∙ has))
  goes before mover after (inr moves) has none = goes-by before mover moves.0 moves.1 after moves.2 has none

  -- What a run changes of a hold, it changes at some moment.
  later : (w v : World) (event : Event) (events : List Event) (worlds : List World) (P : World → Event → World → Type 0) → AtSomeMoment v events worlds P → AtSomeMoment w (event ∷ events) (v ∷ worlds) P
  later w v event events worlds P at = (suc at.0, at.1, at.2, at.3, at.4, at.5, at.6, at.7)

  pub coming : (w : World) (events : List Event) (worlds : List World) → SafeWorld w → RunsThrough w events worlds
      → stands_with w s o m ≡ false → stands_with (last_of w worlds) s o m ≡ true → AtSomeMoment w events worlds (Coming s o m)
  coming w [] [] safe run none has = absurd (both_ways (stands_with w s o m) none has)
  coming w [] (v ∷ worlds) safe run none has = absurd run
  coming w (event ∷ events) [] safe run none has = absurd run
  coming w (event ∷ events) (v ∷ worlds) safe run none has =
      elim (cases_Bool (stands_with v s o m)) [
        | inl now ↦ (zero, w, event, v, refl, refl, refl, (none, now, comes (list_of w) event.session (list_of v) (next-step w v event safe run.0) none now))
        | inr not_yet ↦ later w v event events worlds (Coming s o m) (coming v events worlds (Next-safe w event v safe run.0) run.1 not_yet has)
      ]

  pub going : (w : World) (events : List Event) (worlds : List World) → SafeWorld w → RunsThrough w events worlds
      → stands_with w s o m ≡ true → stands_with (last_of w worlds) s o m ≡ false → AtSomeMoment w events worlds (Going s o m)
  going w [] [] safe run has none = absurd (both_ways (stands_with w s o m) none has)
  going w [] (v ∷ worlds) safe run has none = absurd run
  going w (event ∷ events) [] safe run has none = absurd run
  going w (event ∷ events) (v ∷ worlds) safe run has none =
      elim (cases_Bool (stands_with v s o m)) [
        | inl still ↦ later w v event events worlds (Going s o m) (going v events worlds (Next-safe w event v safe run.0) run.1 still none)
        | inr gone ↦ (zero, w, event, v, refl, refl, refl, (has, gone, goes (list_of w) event.session (list_of v) (next-step w v event safe run.0) has gone))
      ]
