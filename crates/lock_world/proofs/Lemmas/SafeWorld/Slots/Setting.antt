use Rattle.std.proofs.Common.{◌≡◌, ◌≢◌, ℕ, ◌≤◌, true, false, not, nat_eq, nat_le, refl, sym, ap, ◌∙◌, inl, inr, subst, arith}
use Rattle.std.proofs.lemmas.Bool.{both_ways, and_parts, leb-true, false≢true}
use Rattle.modes_core.specs.declared.modes.Mode.{Mode}
use Rattle.modes_core.specs.declared.tags.Tag.{Tag}
use Rattle.modes_core.specs.declared.tags.Tag.TheVariants.{Relation, Object, Advisory}
use Rattle.modes_core.specs.Mode.{number_of}
use Rattle.modes_core.specs.Tag.{is_eligible_for, is_strong_on}
use Rattle.lw_word.specs.SlotWord.{word_with}
use Rattle.lock_table.specs.Content.{Holds, set_hold}
use Rattle.lock_table.specs.OwnWait.{is_for}
use Rattle.lock_table.specs.Put.{set_at}
use Rattle.lock_table.proofs.Lemmas.Put.{set_at-each}
use Rattle.lock_table.proofs.Lemmas.Holds.{SetHoldAt, here, elsewhere, set_hold-at, set_hold-other_session, set_hold-new}
use Rattle.lock_world.specs.SlotHolds.{relation_of, OneSlotEach, InUseHasDatabase, AreInGroups}
use Rattle.lock_world.specs.Counted.{is_past, PastHasNoSlot}
use Rattle.lock_world.specs.World.{World}
use Rattle.lock_world.specs.Happens.Slots.{MaySetSlot, after_setting_slot}
use Rattle.lock_world.specs.SafeWorld.{SafeWorld, slots_of, own_but, tabled}
use Rattle.lock_world.proofs.Lemmas.Slots.Eligible.{eligible-is}
use Rattle.lock_world.proofs.Lemmas.Slots.Setting.{slot_holds-set, OneSlotEach-set, AreInGroups-set}
use Rattle.lock_world.proofs.Lemmas.Slots.Databases.{InUseHasDatabase-eligible}
use Rattle.lock_world.proofs.Lemmas.Slots.Remembered.{remembered-both}
use Rattle.lock_world.proofs.Lemmas.SafeWorld.Tabled.{with_own-safe, own_but-false}
use Rattle.lock_world.proofs.Lemmas.SafeWorld.OneSession.{OwnIsInOrder-one, StrongIsDone-one}
use Rattle.lock_world.proofs.Lemmas.SafeWorld.Changes.{with_fast_path-safe, slots_of-set, own_but-both, are_own-both}

-- An eligible mode is not strong.
eligible-not_strong : (database : ℕ) (t : Tag) (m : Mode) → is_eligible_for database t m ≡ true → is_strong_on t m ≡ true → ⊥
eligible-not_strong database (Relation d r) m eligible strong =
    let weak : number_of m ≤ 3 = (eligible-is database (Relation d r) m eligible).2 in
    let least : 5 ≤ number_of m = leb-true 5 (number_of m) (and_parts (not (nat_eq d 0)) (nat_le 5 (number_of m)) strong).1 in
    omega (arith, weak, least)
eligible-not_strong database (Object s d c o) m eligible strong = false≢true strong
eligible-not_strong database (Advisory s d k l) m eligible strong = false≢true strong

-- Setting a mode in one of one's own slots is safe: nobody who has counted an object of its index is past the
-- session.
module _ (w : World) (s i : ℕ) (t : Tag) (m : Mode) (safe : SafeWorld w) (may : MaySetSlot w s i t m) where
  abbrev own : Holds
  own = w.sessions.own

  abbrev own' : Holds
  own' = set_hold own s t m true

  abbrev slots : Holds
  slots = slots_of w.words.database w.words.slot

  abbrev words' : ℕ → ℕ
  words' = set_at (w.words.slot s) i (word_with (w.words.slot s i) (relation_of t) m)

  -- What the slots show then.
  pub setting-slots : slots_of w.words.database (set_at w.words.slot s words') ≡ set_hold slots s t m true
  setting-slots = slots_of-set w.words.database w.words.slot s words' t m true
      (slot_holds-set w.numbers.groups (w.words.database s) (w.words.slot s) t m i may.eligible may.fits may.takes)

  own_else : (k : ℕ) (o : Tag) (n : Mode) → k ≢ s → own' k o n ≡ own k o n
  own_else = set_hold-other_session own s t m true

  past : (j k : ℕ) (o : Tag) (n : Mode) → is_past (w.sessions.counted j) o k ≡ true → SetHoldAt slots s t m true k o n → set_hold slots s t m true k o n ≡ false
  past j k o n gone (here it e) = absurd (both_ways (is_past (w.sessions.counted j) t s) (safe.zero.nobody_is_past s j t may.read_as_zero)
      ((λ x. is_past (w.sessions.counted j) (sym it.tag x) (sym it.session x)) ∙ gone))
  past j k o n gone (elsewhere _ e) = e ∙ safe.past j k o n gone

  pub setting_slot-safe_world : SafeWorld (after_setting_slot w s i t m)
  setting_slot-safe_world = record {
    but_slots = with_own-safe (after_setting_slot w s i t m) _ _
        (sym (own_but-both own slots s t m true (own_but-false own slots s t m may.new)) ∙ ap (own_but own') (sym setting-slots))
        (with_fast_path-safe (tabled w) w.words.database (set_at w.words.slot s words') w.words.strong w.sessions.counted w.sessions.zero (set_at w.sessions.remembered s words') w.sessions.trace safe.but_slots safe.but_slots.traces);
    lists = safe.lists;
    slots = record {
      are_own = subst (λ shown. (k : ℕ) (o : Tag) (n : Mode) → shown k o n ≡ true → own' k o n ≡ true) (sym setting-slots) (are_own-both own slots s t m true safe.slots.are_own);
      one_each = set_at-each (λ k words. OneSlotEach words) w.words.slot s words'
          (OneSlotEach-set w.numbers.groups (w.words.slot s) (relation_of t) m i may.fits (eligible-is (w.words.database s) t m may.eligible).2 may.takes
          (safe.slots.in_groups s) (safe.slots.one_each s))
          (λ k _. safe.slots.one_each k);
      has_database = set_at-each (λ k words. InUseHasDatabase (w.words.database k) words) w.words.slot s words'
          (InUseHasDatabase-eligible (w.words.database s) words' t m may.eligible) (λ k _. safe.slots.has_database k);
      in_groups = set_at-each (λ k words. AreInGroups w.numbers.groups words) w.words.slot s words'
          (AreInGroups-set w.numbers.groups (w.words.slot s) (relation_of t) m i may.fits (eligible-is (w.words.database s) t m may.eligible).2 may.takes.usable
          (safe.slots.in_groups s)) (λ k _. safe.slots.in_groups k);
    };
    order = OwnIsInOrder-one own own' w.sessions.awaited w.sessions.awaited s own_else (λ _ _. refl) w.numbers.live w.sessions.counted may.steps.live safe.order
        (λ o n awaits. absurd (false≢true (ap (λ a. is_for a o n) (sym may.no_wait) ∙ awaits)));
    counters = safe.counters;
    past = subst (PastHasNoSlot w.sessions.counted) (sym setting-slots) (λ j k o n gone. past j k o n gone (set_hold-at slots s t m true k o n));
    done = StrongIsDone-one own own' w.sessions.awaited w.sessions.awaited s own_else (λ _ _. refl) w.numbers.limit w.sessions.counted safe.done
        (λ o n strong has. elim (set_hold-new own s t m o n has) [
          | inl was ↦ safe.done.held s o n strong was
          | inr it ↦ absurd (eligible-not_strong (w.words.database s) t m may.eligible ((λ x. is_strong_on (sym it.0 x) (sym it.1 x)) ∙ strong))
        ])
        (safe.done.awaits s);
    zero = safe.zero;
    remembered = remembered-both w.words.slot w.sessions.remembered s words' safe.remembered;
  }
