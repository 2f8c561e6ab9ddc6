use Rattle.std.proofs.Common.{◌≡◌, ℕ, true, false, not, ◌&&◌, sym, ap, ◌∙◌, subst, inl, inr}
use Rattle.std.proofs.lemmas.Bool.{both_ways, false_from_ne_true, cases_Bool}
use Rattle.modes_core.specs.declared.modes.Mode.{Mode}
use Rattle.modes_core.specs.declared.tags.Tag.{Tag}
use Rattle.modes_core.specs.Tag.{partition_of}
use Rattle.lw_word.specs.SlotWord.{word_without}
use Rattle.lock_table.specs.Content.{Holds, set_hold}
use Rattle.lock_table.specs.OwnWait.{is_for}
use Rattle.lock_table.specs.Put.{set_at}
use Rattle.lock_table.proofs.Lemmas.Put.{set_at-each}
use Rattle.lock_table.proofs.Lemmas.Holds.{SetHoldAt, here, elsewhere, set_hold-at}
use Rattle.lock_world.specs.SlotHolds.{OneSlotEach, InUseHasDatabase, AreInGroups}
use Rattle.lock_world.specs.Counted.{PastHasNoSlot}
use Rattle.lock_world.specs.World.{World}
use Rattle.lock_world.specs.Happens.Transfers.{MayTransfer, after_transferring}
use Rattle.lock_world.specs.Safe.{SafeButSlots}
use Rattle.lock_world.specs.SafeWorld.{SafeWorld, slots_of, own_but, tabled}
use Rattle.lock_world.proofs.Lemmas.Slots.Eligible.{eligible-is, is_in-held}
use Rattle.lock_world.proofs.Lemmas.Slots.Clearing.{slot_holds-clear, OneSlotEach-clear, AreInGroups-clear}
use Rattle.lock_world.proofs.Lemmas.Slots.Databases.{InUseHasDatabase-eligible}
use Rattle.lock_world.proofs.Lemmas.Slots.Remembered.{remembered-cleared}
use Rattle.lock_world.proofs.Lemmas.FromSafeWorld.{no_conflict-slot_content}
use Rattle.lock_world.proofs.Lemmas.Safe.Transfers.{with_adopted, adopting-safe}
use Rattle.lock_world.proofs.Lemmas.SafeWorld.Tabled.{with_own-safe}
use Rattle.lock_world.proofs.Lemmas.SafeWorld.Changes.{with_fast_path-safe, slots_of-set}

-- An own hold that leaves the slots is one more in the table.
own_but-moved : (own slots : Holds) (k : ℕ) (t : Tag) (m : Mode) → own k t m ≡ true → set_hold (own_but own slots) k t m true ≡ own_but own (set_hold slots k t m false)
own_but-moved own slots k t m is_own = λ i j o n. at j o n i where
  at_it : (j : ℕ) (o : Tag) (n : Mode) → own j o n ≡ true → set_hold (own_but own slots) k t m true j o n ≡ true → set_hold slots k t m false j o n ≡ false
      → set_hold (own_but own slots) k t m true j o n ≡ own_but own (set_hold slots k t m false) j o n
  at_it j o n its e f = e ∙ sym (λ i. its i && not (f i))

  at : (j : ℕ) (o : Tag) (n : Mode) → set_hold (own_but own slots) k t m true j o n ≡ own_but own (set_hold slots k t m false) j o n
  at j o n = both (set_hold-at (own_but own slots) k t m true j o n) (set_hold-at slots k t m false j o n) where
    both : SetHoldAt (own_but own slots) k t m true j o n → SetHoldAt slots k t m false j o n → set_hold (own_but own slots) k t m true j o n ≡ own_but own (set_hold slots k t m false) j o n
    both (here it e) (here _ f) = at_it j o n ((λ i. own (it.session i) (it.tag i) (it.mode i)) ∙ is_own) e f
    both (here it e) (elsewhere not_it f) = absurd (not_it it)
    both (elsewhere not_it e) (here it f) = absurd (not_it it)
    both (elsewhere _ e) (elsewhere _ f) = e ∙ ap (λ b. own j o n && not b) (sym f)

-- Moving a mode from a slot to the table is safe.
module _ (w : World) (s owner i : ℕ) (t : Tag) (m strong : Mode) (safe : SafeWorld w) (may : MayTransfer w s owner i t m strong) where
  abbrev own : Holds
  own = w.sessions.own

  abbrev slots : Holds
  slots = slots_of w.words.database w.words.slot

  abbrev words' : ℕ → ℕ
  words' = set_at (w.words.slot owner) i (word_without (w.words.slot owner i) m)

  -- What the slots show then.
  pub transferring-slots : slots_of w.words.database (set_at w.words.slot owner words') ≡ set_hold slots owner t m false
  transferring-slots = slots_of-set w.words.database w.words.slot owner words' t m false
      (slot_holds-clear (w.words.database owner) (w.words.slot owner) t m i (safe.slots.one_each owner) may.held_in)

  shown : slots owner t m ≡ true
  shown = is_in-held (w.words.database owner) (w.words.slot owner) t m i may.held_in

  is_own : own owner t m ≡ true
  is_own = safe.slots.are_own owner t m shown

  alive : w.numbers.live owner ≡ true
  alive =
      elim (cases_Bool (w.numbers.live owner)) [
        | inl live ↦ live
        | inr dead ↦ absurd (both_ways (own owner t m) (safe.order.no_hold owner t m dead) is_own)
      ]

  not_awaited : is_for (w.sessions.awaited owner) t m ≡ false
  not_awaited = false_from_ne_true (is_for (w.sessions.awaited owner) t m) (λ awaits. both_ways (own owner t m) (safe.order.awaited_is_not_own owner t m awaits) is_own)

  fewer : (k : ℕ) (o : Tag) (n : Mode) → set_hold slots owner t m false k o n ≡ true → slots k o n ≡ true
  fewer k o n = at (set_hold-at slots owner t m false k o n) where
    at : SetHoldAt slots owner t m false k o n → set_hold slots owner t m false k o n ≡ true → slots k o n ≡ true
    at (here it e) has = absurd (both_ways (set_hold slots owner t m false k o n) e has)
    at (elsewhere _ e) has = sym e ∙ has

  none_more : (k : ℕ) (o : Tag) (n : Mode) → slots k o n ≡ false → set_hold slots owner t m false k o n ≡ false
  none_more k o n none = false_from_ne_true (set_hold slots owner t m false k o n) (λ has. both_ways (slots k o n) none (fewer k o n has))

  pub transferring-safe_world : SafeWorld (after_transferring w owner i t m)
  transferring-safe_world = record {
    but_slots = with_own-safe (after_transferring w owner i t m) _ _
        (own_but-moved own slots owner t m is_own ∙ ap (own_but own) (sym transferring-slots))
        (with_fast_path-safe (with_adopted (tabled w) owner i t m) w.words.database (set_at w.words.slot owner words') w.words.strong w.sessions.counted w.sessions.zero w.sessions.remembered w.sessions.trace
        adopted adopted.traces);
    lists = safe.lists;
    slots = record {
      are_own = subst (λ after. (k : ℕ) (o : Tag) (n : Mode) → after k o n ≡ true → own k o n ≡ true) (sym transferring-slots) (λ k o n has. safe.slots.are_own k o n (fewer k o n has));
      one_each = set_at-each (λ k words. OneSlotEach words) w.words.slot owner words'
          (OneSlotEach-clear (w.words.slot owner) m i (eligible-is (w.words.database owner) t m may.held_in.eligible).2 (safe.slots.one_each owner)) (λ k _. safe.slots.one_each k);
      has_database = set_at-each (λ k words. InUseHasDatabase (w.words.database k) words) w.words.slot owner words'
          (InUseHasDatabase-eligible (w.words.database owner) words' t m may.held_in.eligible) (λ k _. safe.slots.has_database k);
      in_groups = set_at-each (λ k words. AreInGroups w.numbers.groups words) w.words.slot owner words'
          (AreInGroups-clear w.numbers.groups (w.words.slot owner) m i (eligible-is (w.words.database owner) t m may.held_in.eligible).2 (safe.slots.in_groups owner)) (λ k _. safe.slots.in_groups k);
    };
    order = safe.order;
    counters = safe.counters;
    past = subst (PastHasNoSlot w.sessions.counted) (sym transferring-slots) (λ j k o n gone. none_more k o n (safe.past j k o n gone));
    done = safe.done;
    zero = safe.zero;
    remembered = remembered-cleared w.words.slot w.sessions.remembered owner i m
        (eligible-is (w.words.database owner) t m may.held_in.eligible).2 safe.remembered;
  } where
    adopted : SafeButSlots (with_adopted (tabled w) owner i t m)
    adopted = adopting-safe (tabled w) s owner i t m safe.but_slots may.holding alive may.may_adopt
        (λ other its apart has. no_conflict-slot_content w safe (partition_of t) owner other t m its shown has) not_awaited (w.words.database owner) may.held_in.eligible
