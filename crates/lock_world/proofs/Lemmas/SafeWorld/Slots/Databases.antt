use Rattle.std.proofs.Common.{◌≡◌, ℕ, true, sym, ap, ◌∙◌, inl, inr, subst}
use Rattle.std.proofs.lemmas.Bool.{cases_eq}
use Rattle.modes_core.specs.declared.modes.Mode.{Mode}
use Rattle.modes_core.specs.declared.tags.Tag.{Tag}
use Rattle.lock_table.specs.Put.{set_at}
use Rattle.lock_table.proofs.Lemmas.Put.{set_at-here, set_at-else, set_at-each}
use Rattle.lock_world.specs.SlotHolds.{slot_holds, InUseHasDatabase}
use Rattle.lock_world.specs.Counted.{PastHasNoSlot}
use Rattle.lock_world.specs.World.{World}
use Rattle.lock_world.specs.Happens.Slots.{MayStoreDatabase, after_storing_database}
use Rattle.lock_world.specs.SafeWorld.{SafeWorld, slots_of, own_but, tabled}
use Rattle.lock_world.proofs.Lemmas.Slots.Databases.{InUseHasDatabase-unused, slot_holds-stored}
use Rattle.lock_world.proofs.Lemmas.SafeWorld.Tabled.{with_own-safe}
use Rattle.lock_world.proofs.Lemmas.SafeWorld.Changes.{with_fast_path-safe}

-- With no slot in use, a database stored changes no hold that slots show.
pub storing-slots : (w : World) (s d : ℕ) → MayStoreDatabase w s → slots_of (set_at w.words.database s d) w.words.slot ≡ slots_of w.words.database w.words.slot
storing-slots w s d may = λ i k. at k i where
  databases : ℕ → ℕ
  databases = set_at w.words.database s d

  at : (k : ℕ) → slot_holds (databases k) (w.words.slot k) ≡ slot_holds (w.words.database k) (w.words.slot k)
  at k =
      elim (cases_eq k s) [
        | inl same_one ↦
            ap (λ database. slot_holds database (w.words.slot k)) (set_at-here w.words.database s d k same_one)
            ∙ ap (λ j. slot_holds d (w.words.slot j)) same_one
            ∙ slot_holds-stored (w.words.database s) d (w.words.slot s) may.unused
            ∙ ap (λ j. slot_holds (w.words.database j) (w.words.slot j)) (sym same_one)
        | inr other ↦ ap (λ database. slot_holds database (w.words.slot k)) (set_at-else w.words.database s d k other)
      ]

-- Storing a database is safe where no slot is in use.
pub storing_database-safe_world : (w : World) (s d : ℕ) → SafeWorld w → MayStoreDatabase w s → SafeWorld (after_storing_database w s d)
storing_database-safe_world w s d safe may = record {
  but_slots = with_own-safe (after_storing_database w s d) _ _ (ap (own_but w.sessions.own) (sym (storing-slots w s d may)))
      (with_fast_path-safe (tabled w) (set_at w.words.database s d) w.words.slot w.words.strong w.sessions.counted w.sessions.zero w.sessions.remembered w.sessions.trace safe.but_slots safe.but_slots.traces);
  lists = safe.lists;
  slots = record {
    are_own = subst (λ shown. (k : ℕ) (o : Tag) (n : Mode) → shown k o n ≡ true → w.sessions.own k o n ≡ true) (sym (storing-slots w s d may)) safe.slots.are_own;
    one_each = safe.slots.one_each;
    in_groups = safe.slots.in_groups;
    has_database = set_at-each (λ k database. InUseHasDatabase database (w.words.slot k)) w.words.database s d
        (InUseHasDatabase-unused d (w.words.slot s) may.unused) (λ k _. safe.slots.has_database k);
  };
  order = safe.order;
  counters = safe.counters;
  past = subst (PastHasNoSlot w.sessions.counted) (sym (storing-slots w s d may)) safe.past;
  done = safe.done;
  zero = safe.zero;
  remembered = safe.remembered;
}
