use Rattle.std.proofs.Common.{◌≡◌, ℕ, ◌*◌, zero, suc, ◌<◌, List, [], ◌∷◌, ◌++◌, sym, ap, ◌∙◌, inl, inr, arith, append_assoc}
use Rattle.std.proofs.lemmas.Bool.{cases_eq}
use Rattle.lock_world.specs.declared.events.Word.TheVariants.{Database, Slot}
use Rattle.lock_world.specs.SlotHolds.{group_size}
use Rattle.lock_world.specs.World.{TraceEntry, Loaded}
use Rattle.fast_path.specs.Slots.{slot_loads, all_loads}
use Rattle.fast_path.specs.Rows.{loads_of_all}

-- Where the loads of a slot stand among those of all sessions.

-- A slot's load among those of its session.
pub record SlotLoadAt (owner : ℕ) (which word : ℕ → ℕ) (count k : ℕ) : Type 0 where
  pub later : List TraceEntry
  pub split : slot_loads owner which word count
      ≡ slot_loads owner which word k ++ Loaded (Slot owner (which k)) (word (which k)) ∷ later

slot_load-at : (owner : ℕ) (which word : ℕ → ℕ) (count k : ℕ) → k < count → SlotLoadAt owner which word count k
unfolding slot_loads
slot_load-at owner which word zero k below = absurd (omega (arith, below))
slot_load-at owner which word (suc count) k below = elim (cases_eq k count) [
  | inl same ↦ record {
    later = [];
    split = (λ i. slot_loads owner which word (sym same i)
        ++ Loaded (Slot owner (which (sym same i))) (word (which (sym same i))) ∷ []);
  }
  | inr other ↦
      let before = slot_load-at owner which word count k (omega (arith, below, other)) in
      let last : List TraceEntry = Loaded (Slot owner (which count)) (word (which count)) ∷ [] in
      record {
        later = before.later ++ last;
        split = ap (λ loads. loads ++ last) before.split
            ∙ append_assoc (slot_loads owner which word k)
            (Loaded (Slot owner (which k)) (word (which k)) ∷ before.later) last;
      }
]

-- The database's load and then the slot's, among those of all sessions.
pub record LoadsAt (groups limit : ℕ) (database : ℕ → ℕ) (word : ℕ → ℕ → ℕ) (session slot : ℕ) : Type 0 where
  pub first : List TraceEntry
  pub rest : List TraceEntry
  pub by_database : loads_of_all groups limit database word ≡ first ++ Loaded (Database session) (database session) ∷ rest
  pub second : List TraceEntry
  pub later : List TraceEntry
  pub by_slot : loads_of_all groups limit database word ≡ (first ++ second) ++ Loaded (Slot session slot) (word session slot) ∷ later

pub loads-at :
    (groups limit : ℕ) (database : ℕ → ℕ) (word : ℕ → ℕ → ℕ) (session slot : ℕ) → session < limit
    → slot < group_size * groups → LoadsAt groups limit database word session slot
unfolding loads_of_all
loads-at groups zero database word session slot exists within = absurd (omega (arith, exists))
loads-at groups (suc limit) database word session slot exists within = elim (cases_eq session limit) [
  | inl same ↦
      let its = slot_load-at limit (λ k. k) (word limit) (group_size * groups) slot within in
      let before : List TraceEntry = loads_of_all groups limit database word in
      let its_database : TraceEntry = Loaded (Database limit) (database limit) in
      let its_slot : TraceEntry = Loaded (Slot limit slot) (word limit slot) in
      record {
        first = before;
        rest = all_loads groups limit (word limit);
        by_database = (λ i. before
            ++ Loaded (Database (sym same i)) (database (sym same i)) ∷ all_loads groups limit (word limit));
        second = its_database ∷ slot_loads limit (λ k. k) (word limit) slot;
        later = its.later;
        by_slot = ap (λ loads. before ++ its_database ∷ loads) its.split
            ∙ sym (append_assoc before (its_database ∷ slot_loads limit (λ k. k) (word limit) slot) (its_slot ∷ its.later))
            ∙ (λ i. (before ++ its_database ∷ slot_loads limit (λ k. k) (word limit) slot)
            ++ Loaded (Slot (sym same i) slot) (word (sym same i) slot) ∷ its.later);
      }
  | inr other ↦
      let before = loads-at groups limit database word session slot (omega (arith, exists, other)) within in
      let last : List TraceEntry = Loaded (Database limit) (database limit) ∷ all_loads groups limit (word limit) in
      record {
        first = before.first;
        rest = before.rest ++ last;
        by_database = ap (λ loads. loads ++ last) before.by_database
            ∙ append_assoc before.first (Loaded (Database session) (database session) ∷ before.rest) last;
        second = before.second;
        later = before.later ++ last;
        by_slot = ap (λ loads. loads ++ last) before.by_slot
            ∙ append_assoc (before.first ++ before.second) (Loaded (Slot session slot) (word session slot) ∷ before.later) last;
      }
]
