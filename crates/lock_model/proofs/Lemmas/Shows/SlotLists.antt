use Rattle.std.proofs.Common.{◌≡◌, ℕ, ◌<◌, Bool, List, length, get_or, sym, ap, ◌∙◌, subst, inl, inr}
use Rattle.std.specs.List.{list_any}
use Rattle.std.proofs.lemmas.Bool.{cases_Bool, false_from_ne_true, both_ways}
use Rattle.std.proofs.lemmas.List.Folds.{list_any_at}
use Rattle.lock_table.proofs.Lemmas.Lists.{any_found}
use Rattle.lock_world.specs.SlotHolds.{any_below}
use Rattle.lock_world.proofs.Lemmas.Slots.Some.{any_below-at, any_below-found}

-- A session's slots as a list.

-- A test finds some slot of the list just where it finds one by its place.
pub any_slot-listed : {X : Type 0} (test : X → Bool) (slots : List X) (empty : X) (n : ℕ) → length slots ≡ n
    → list_any test slots ≡ any_below n (λ place. test (get_or slots place empty))
any_slot-listed test slots empty n as_many =
    elim (cases_Bool (list_any test slots)) [
      | inl some ↦
          let found = any_found test slots some in
          some ∙ sym (any_below-at n (λ place. test (get_or slots place empty)) found.0 (subst (λ m. found.0 < m) as_many found.2)
          (ap test (found.3 empty) ∙ found.4))
      | inr none ↦ none ∙ sym (false_from_ne_true _ (λ any.
          let found = any_below-found n (λ place. test (get_or slots place empty)) any in
          both_ways (list_any test slots) none (list_any_at test slots found.0 empty (subst (λ m. found.0 < m) (sym as_many) found.1) found.2)))
    ]
