use Rattle.std.proofs.Common.{◌≡◌, ◌≢◌, ℕ, true, false, not, refl, sym, ap, ◌∙◌, subst}
use Rattle.std.proofs.lemmas.Bool.{both_ways, false_from_ne_true, and_right}
use Rattle.modes_core.specs.declared.modes.Mode.{Mode}
use Rattle.modes_core.specs.declared.tags.Tag.{Tag}
use Rattle.lw_word.specs.SlotWord.{word_without}
use Rattle.lock_table.specs.Content.{Holds, set_hold}
use Rattle.lock_table.specs.Put.{set_at}
use Rattle.lock_table.proofs.Lemmas.Put.{set_at-each}
use Rattle.lock_table.proofs.Lemmas.Holds.{SetHoldAt, here, elsewhere, set_hold-at, set_hold-other_session, set_hold-was}
use Rattle.lock_world.specs.SlotHolds.{OneSlotEach, InUseHasDatabase, AreInGroups}
use Rattle.lock_world.specs.Counted.{PastHasNoSlot}
use Rattle.lock_world.specs.World.{World}
use Rattle.lock_world.specs.Happens.Slots.{MayClearSlot, after_clearing_slot}
use Rattle.lock_world.specs.SafeWorld.{SafeWorld, slots_of, own_but, tabled}
use Rattle.lock_world.proofs.Lemmas.Slots.Eligible.{eligible-is, is_in-held}
use Rattle.lock_world.proofs.Lemmas.Slots.Clearing.{slot_holds-clear, OneSlotEach-clear, AreInGroups-clear}
use Rattle.lock_world.proofs.Lemmas.Slots.Databases.{InUseHasDatabase-eligible}
use Rattle.lock_world.proofs.Lemmas.Slots.Remembered.{remembered-both}
use Rattle.lock_world.proofs.Lemmas.SafeWorld.Tabled.{with_own-safe}
use Rattle.lock_world.proofs.Lemmas.SafeWorld.OneSession.{OwnIsInOrder-one, StrongIsDone-one}
use Rattle.lock_world.proofs.Lemmas.SafeWorld.Changes.{with_fast_path-safe, slots_of-set, own_but-both, are_own-both}

-- Clearing a mode in one of one's own slots is safe.
module _ (w : World) (s i : ℕ) (t : Tag) (m : Mode) (safe : SafeWorld w) (may : MayClearSlot w s i t m) where
  abbrev own : Holds
  own = w.sessions.own

  abbrev own' : Holds
  own' = set_hold own s t m false

  abbrev slots : Holds
  slots = slots_of w.words.database w.words.slot

  abbrev words' : ℕ → ℕ
  words' = set_at (w.words.slot s) i (word_without (w.words.slot s i) m)

  -- What the slots show then.
  pub clearing-slots : slots_of w.words.database (set_at w.words.slot s words') ≡ set_hold slots s t m false
  clearing-slots = slots_of-set w.words.database w.words.slot s words' t m false
      (slot_holds-clear (w.words.database s) (w.words.slot s) t m i (safe.slots.one_each s) may.held_in)

  own_else : (k : ℕ) (o : Tag) (n : Mode) → k ≢ s → own' k o n ≡ own k o n
  own_else = set_hold-other_session own s t m false

  in_slot : own_but own slots s t m ≡ false
  in_slot = and_right (own s t m) (not (slots s t m)) (ap not (is_in-held (w.words.database s) (w.words.slot s) t m i may.held_in))

  none_more : (k : ℕ) (o : Tag) (n : Mode) → SetHoldAt slots s t m false k o n → slots k o n ≡ false → set_hold slots s t m false k o n ≡ false
  none_more k o n (here it e) none = e
  none_more k o n (elsewhere _ e) none = e ∙ none

  pub clearing_slot-safe_world : SafeWorld (after_clearing_slot w s i t m)
  clearing_slot-safe_world = record {
    but_slots = with_own-safe (after_clearing_slot w s i t m) _ _
        (sym (own_but-both own slots s t m false in_slot) ∙ ap (own_but own') (sym clearing-slots))
        (with_fast_path-safe (tabled w) w.words.database (set_at w.words.slot s words') w.words.strong w.sessions.counted w.sessions.zero (set_at w.sessions.remembered s words') w.sessions.trace safe.but_slots safe.but_slots.traces);
    lists = safe.lists;
    slots = record {
      are_own = subst (λ shown. (k : ℕ) (o : Tag) (n : Mode) → shown k o n ≡ true → own' k o n ≡ true) (sym clearing-slots) (are_own-both own slots s t m false safe.slots.are_own);
      one_each = set_at-each (λ k words. OneSlotEach words) w.words.slot s words'
          (OneSlotEach-clear (w.words.slot s) m i (eligible-is (w.words.database s) t m may.held_in.eligible).2 (safe.slots.one_each s)) (λ k _. safe.slots.one_each k);
      has_database = set_at-each (λ k words. InUseHasDatabase (w.words.database k) words) w.words.slot s words'
          (InUseHasDatabase-eligible (w.words.database s) words' t m may.held_in.eligible) (λ k _. safe.slots.has_database k);
      in_groups = set_at-each (λ k words. AreInGroups w.numbers.groups words) w.words.slot s words'
          (AreInGroups-clear w.numbers.groups (w.words.slot s) m i (eligible-is (w.words.database s) t m may.held_in.eligible).2 (safe.slots.in_groups s)) (λ k _. safe.slots.in_groups k);
    };
    order = OwnIsInOrder-one own own' w.sessions.awaited w.sessions.awaited s own_else (λ _ _. refl) w.numbers.live w.sessions.counted may.steps.live safe.order
        (λ o n awaits. false_from_ne_true (own' s o n) (λ has. both_ways (own s o n) (safe.order.awaited_is_not_own s o n awaits) (set_hold-was own s t m o n has)));
    counters = safe.counters;
    past = subst (PastHasNoSlot w.sessions.counted) (sym clearing-slots) (λ j k o n gone. none_more k o n (set_hold-at slots s t m false k o n) (safe.past j k o n gone));
    done = StrongIsDone-one own own' w.sessions.awaited w.sessions.awaited s own_else (λ _ _. refl) w.numbers.limit w.sessions.counted safe.done
        (λ o n strong has. safe.done.held s o n strong (set_hold-was own s t m o n has)) (safe.done.awaits s);
    zero = safe.zero;
    remembered = remembered-both w.words.slot w.sessions.remembered s words' safe.remembered;
  }
