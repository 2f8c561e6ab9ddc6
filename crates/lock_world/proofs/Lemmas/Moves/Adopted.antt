use Rattle.std.proofs.Common.{◌≡◌, ◌⊎◌, ℕ, true, sym, ap, ◌∙◌, inr}
use Rattle.modes_core.specs.declared.modes.Mode.{Mode}
use Rattle.modes_core.specs.declared.tags.Tag.{Tag}
use Rattle.modes_core.specs.Tag.{partition_of, is_eligible_for}
use Rattle.lock_table.specs.Content.{Content, add_hold}
use Rattle.lock_table.proofs.Lemmas.Holds.{SetHoldAt, here, elsewhere, set_hold-at}
use Rattle.lock_world.specs.Safe.{IsAdopted, AddsAdopted}

-- An adopt goes on with one more hold that a slot could have.
pub adopted-more :
    (p owner : ℕ) (taken now : Content) (t : Tag) (m : Mode) → AddsAdopted p taken owner now → IsAdopted p t m
    → AddsAdopted p taken owner (add_hold now owner t m)
adopted-more p owner taken now t m already adopted o n has = at (set_hold-at now.holds owner t m true owner o n) where
  at : SetHoldAt now.holds owner t m true owner o n → (taken.holds owner o n ≡ true) ⊎ IsAdopted p o n
  at (here it e) = inr (record {
    object = ap partition_of it.tag ∙ adopted.object;
    database = adopted.database;
    eligible = (λ x. is_eligible_for adopted.database (it.tag x) (it.mode x)) ∙ adopted.eligible;
  })
  at (elsewhere _ e) = already o n (sym e ∙ has)
