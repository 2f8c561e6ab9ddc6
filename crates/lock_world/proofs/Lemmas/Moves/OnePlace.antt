use Rattle.std.proofs.Common.{◌≡◌, ◌≢◌, ℕ, true, false, sym, ap, ◌∙◌}
use Rattle.std.proofs.lemmas.Bool.{both_ways}
use Rattle.modes_core.specs.declared.modes.Mode.{Mode}
use Rattle.modes_core.specs.declared.tags.Tag.{Tag}
use Rattle.modes_core.specs.Conflict.{conflict}
use Rattle.modes_core.proofs.Lemmas.Conflicts.{conflict_comm}
use Rattle.lock_table.specs.Content.{Content, set_hold}
use Rattle.lock_table.specs.Clash.{NoConflictingHolder}
use Rattle.lock_table.specs.Put.{set_at}
use Rattle.lock_world.specs.Safe.{NoConflictingHolds}
use Rattle.lock_table.proofs.Lemmas.Put.{set_at-each}
use Rattle.lock_table.proofs.Lemmas.Holds.{SetHoldAt, here, elsewhere, set_hold-at}

-- No conflict in a content, and so in all.
abbrev pub NoConflictIn : Content → Type 0
NoConflictIn c = (k l : ℕ) (o : Tag) (x y : Mode) → k ≢ l → c.holds k o x ≡ true → c.holds l o y ≡ true → conflict x y ≡ false

pub NoConflictingHolds-set : (now : ℕ → Content) (p : ℕ) (content : Content) → NoConflictIn content → NoConflictingHolds now → NoConflictingHolds (set_at now p content)
NoConflictingHolds-set now p content at_it there = set_at-each (λ _ c. NoConflictIn c) now p content at_it (λ q _. there q)

-- A hold that conflicts with no other holder makes no conflict.
pub NoConflictIn-added : (before : Content) (s : ℕ) (t : Tag) (m : Mode) (content : Content) → content.holds ≡ set_hold before.holds s t m true → NoConflictingHolder before.holds s t m → NoConflictIn before → NoConflictIn content
NoConflictIn-added before s t m content set free old k l o x y apart has its = at (set_hold-at before.holds s t m true k o x) (set_hold-at before.holds s t m true l o y) where
  at : SetHoldAt before.holds s t m true k o x → SetHoldAt before.holds s t m true l o y → conflict x y ≡ false
  at (here one is) (here other its_is) = absurd (apart (one.session ∙ sym other.session))
  at (here one is) (elsewhere not_it its_is) =
      ap (λ n. conflict n y) one.mode ∙ free l y (λ e. apart (one.session ∙ sym e)) (ap (λ t. before.holds l t y) (sym one.tag) ∙ sym its_is ∙ sym (λ i. set i l o y) ∙ its)
  at (elsewhere not_it is) (here other its_is) =
      conflict_comm x y ∙ ap (λ n. conflict n x) other.mode ∙ free k x (λ e. apart (e ∙ sym other.session)) (ap (λ t. before.holds k t x) (sym other.tag) ∙ sym is ∙ sym (λ i. set i k o x) ∙ has)
  at (elsewhere not_it is) (elsewhere other its_is) = old k l o x y apart (sym is ∙ sym (λ i. set i k o x) ∙ has) (sym its_is ∙ sym (λ i. set i l o y) ∙ its)

-- Nor does a hold that is gone.
pub NoConflictIn-removed : (before : Content) (s : ℕ) (t : Tag) (m : Mode) (content : Content) → content.holds ≡ set_hold before.holds s t m false → NoConflictIn before → NoConflictIn content
NoConflictIn-removed before s t m content set old k l o x y apart has its =
    old k l o x y apart (still k x (sym (λ i. set i k o x) ∙ has)) (still l y (sym (λ i. set i l o y) ∙ its)) where
      still : (j : ℕ) (n : Mode) → set_hold before.holds s t m false j o n ≡ true → before.holds j o n ≡ true
      still j n there = at (set_hold-at before.holds s t m false j o n) where
        at : SetHoldAt before.holds s t m false j o n → before.holds j o n ≡ true
        at (here it is) = absurd (both_ways _ is there)
        at (elsewhere not_it is) = sym is ∙ there
