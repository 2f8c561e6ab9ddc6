use Rattle.std.proofs.Common.{◌≡◌, ℕ, ◌<◌, Bool, false, List, [], length, get_or, sym, ap, ◌∙◌, inl, inr, arith}
use Rattle.std.specs.Prelude.{replicate}
use Rattle.std.proofs.lemmas.Bool.{cases_lt}
use Rattle.std.proofs.lemmas.List.{get_or-replicate, length-replicate, get_or_past, get_or_default}
use Rattle.lock_table.specs.PartView.{PartView}
use Rattle.lock_table.specs.Parts.{no_part, part_at}

-- A list of one value reads as that value everywhere, also past its end.
pub get_or-one_value : {A : Type 0} (n : ℕ) (a : A) (k : ℕ) → get_or (replicate n a) k a ≡ a
get_or-one_value n a k =
    elim (cases_lt k n) [
      | inl within ↦ get_or-replicate n k a a within
      | inr past ↦ get_or_past (replicate n a) k a (let e = length-replicate n a in omega (arith, e))
    ]

-- What is read at a place of the parts.
pub part_read : (xs : List PartView) (i p : ℕ) (part : PartView) → i ≡ p → i < length xs → part ≡ get_or xs i part → part ≡ part_at xs p
part_read xs i p part same within is = is ∙ get_or_default xs i part no_part within ∙ ap (part_at xs) same

-- of the sixteen parts, by the partition's number
pub partition_read : (xs : List PartView) (i q p : ℕ) (part : PartView) → length xs ≡ 16 → i ≡ q → q ≡ p → q < 16 → part ≡ get_or xs i part → part ≡ part_at xs p
partition_read xs i q p part sixteen first second below is = part_read xs i p part (first ∙ second) (omega (arith, sixteen, first, below)) is

-- what a row marks of a session, with both read by their numbers
pub mark_read : (rows : List (List Bool)) (i j k s : ℕ) (b : Bool) → i ≡ j → k ≡ s → get_or (get_or rows i []) k false ≡ b → get_or (get_or rows j []) s false ≡ b
mark_read rows i j k s b row column is = ap (λ n. get_or (get_or rows n []) s false) (sym row) ∙ ap (λ n. get_or (get_or rows i []) n false) (sym column) ∙ is
