use Rattle.std.proofs.Common.{◌≡◌, ℕ, List, [], ◌∷◌, ◌++◌, zero, suc, Option, Some, get_or, refl, subst}
use Rattle.std.specs.Prelude.{slice_get}
use Rattle.lock_table.specs.declared.request.Request.{Request}
use Rattle.lock_table.specs.Content.{Content}
use Rattle.lock_table.specs.PartView.{PartView, content_of}
use Rattle.lock_table.specs.Parts.{no_part, part_at, IsBlank, AreEmptyParts}

-- What holds of each element of a list holds with one element more.
all-push : {X : Type 0} (P : X → Type 0) (xs : List X) (y : X) → P y → ((i : ℕ) (x : X) → slice_get xs i ≡ Some x → P x) → (i : ℕ) (x : X) → slice_get (xs ++ y ∷ []) i ≡ Some x → P x
all-push P [] y last all zero x there = let same : y ≡ x = cc (there) in subst P same last
all-push P [] y last all (suc i) x there = absurd (cc (there))
all-push P (z ∷ zs) y last all zero x there = all zero x there
all-push P (z ∷ zs) y last all (suc i) x there = all-push P zs y last (λ j w at. all (suc j) w at) i x there

module _ {T : Type 0} (content : T → Content) (begun : T → Option Request) where
  pub AreEmptyParts-push : (parts : List T) (part : T) → IsBlank content begun part → AreEmptyParts content begun parts → AreEmptyParts content begun (parts ++ part ∷ [])
  AreEmptyParts-push parts part blank are = all-push (IsBlank content begun) parts part blank are

-- What holds of each element of a list, and past its end, holds at each place.
all_places : {X : Type 0} (P : X → Type 0) (xs : List X) (d : X) → P d → ((i : ℕ) (x : X) → slice_get xs i ≡ Some x → P x) → (k : ℕ) → P (get_or xs k d)
all_places P [] d past all k = past
all_places P (x ∷ xs) d past all zero = all zero x refl
all_places P (x ∷ xs) d past all (suc k) = all_places P xs d past (λ i y there. all (suc i) y there) k

-- Whatever the number of the part is, it has nothing in it.
pub AreEmptyParts-at : (parts : List PartView) → AreEmptyParts content_of (λ part. part.begun) parts → (p : ℕ) → IsBlank content_of (λ (part : PartView). part.begun) (part_at parts p)
AreEmptyParts-at parts are p =
    all_places (IsBlank content_of (λ (part : PartView). part.begun)) parts no_part (record { is_empty = refl; none_begun = refl }) are p
