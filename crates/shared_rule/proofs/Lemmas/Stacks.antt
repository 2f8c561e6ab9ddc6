use Rattle.std.proofs.Common.{◌≡◌, ◌*◌, ◌/◌, ℕ, List, [], ◌∷◌, refl, ap, ◌∙◌, arith}
use Rattle.std.specs.Prelude.{if◌then◌else◌}
use Rattle.std.proofs.lemmas.Bool.{eq-eqb}
use Rattle.atomic_table.specs.Table.{rest}
use Rattle.shared_rule.specs.declared.kept.Kept.{Kept}
use Rattle.shared_rule.specs.declared.kept.Kept.TheVariants.{Nothing}
use Rattle.shared_rule.specs.Layout.{content_shelf_of}
use Rattle.shared_rule.specs.Boards.{parts_in_hand, shelves_out, Stack, stack_taking}
use Rattle.shared_rule.specs.Owed.{waking}

-- What a session has to do yet, after a few calls.

-- A partition that was taken is the last one.
pub taken-last : (s t : Stack) (part : ℕ) → t ≡ stack_taking s part → (others : List ℕ) × (t.parts ≡ part ∷ others)
taken-last s t part took = (s.parts, ap (λ (x : Stack). x.parts) took)

-- what is to do, with others to wake
abbrev pub with_owed : Stack → List ℕ → Stack
with_owed s owed = record { parts = s.parts; owed = owed }

-- Whoever is the first to be woken is out of the list once he is.
pub waking-first : (other : ℕ) (rest : List ℕ) → waking (other ∷ rest) other ≡ rest
waking-first other rest = ap (λ b. if b then rest else other ∷ waking rest other) (eq-eqb other other refl)

-- The empty shelves are those of contents still where the last one went home.
pub rest-out : {T : Type 0} (slots : List (ℕ × Kept T)) → slots ≡ shelves_out (parts_in_hand slots) → rest slots ≡ shelves_out (parts_in_hand (rest slots))
rest-out [] out = refl
rest-out (last ∷ others) out = ap rest out

-- So they are where one more came in hand.
pub more-out : {T : Type 0} (part : ℕ) (slots : List (ℕ × Kept T)) → slots ≡ shelves_out (parts_in_hand slots)
    → ((content_shelf_of part, Nothing) ∷ slots) ≡ shelves_out (parts_in_hand ((content_shelf_of part, Nothing) ∷ slots))
more-out part slots out =
    let back : part ≡ 8 * part / 8 = omega (arith) in
    ap (λ others. (content_shelf_of part, Nothing) ∷ others) out ∙ ap (λ p. (content_shelf_of p, Nothing) ∷ shelves_out (parts_in_hand slots)) back
