-- Steps over the bytes that a reader has left, where those are known.
use Rattle.std.proofs.Common.{◌≡◌, ℕ, ◌+◌, ◌-◌, ◌<◌, ◌≤◌, ◌∙◌, refl, arith, suc, add-one, List, [], ◌∷◌, ◌++◌, length, get_or, take, Option, None, Some, ap, subst}
use Rattle.std.specs.Prelude.{slice_range}
use Rattle.std.specs.Io.KnownBytes.{Consumes, prepend_known}
use Rattle.std.proofs.Math.Seq.{drop-cons}
use Rattle.std.proofs.lemmas.Grind.{common_steps}

-- a part of a list that is not empty, by its first element
range-first : (buffer : List ℕ) (start end : ℕ) → start < end → end ≤ length buffer → slice_range buffer start end ≡ get_or buffer start 0 ∷ slice_range buffer (start + 1) end
range-first buffer start end h k =
    let one_more : end - start ≡ suc (end - (start + 1)) = omega arith in
    let inside : start < length buffer = omega arith in
    rw (one_more, drop-cons buffer start 0 inside, add-one) refl

-- The first byte of a buffer that is not empty is what is left first.
pub Consumes-next : (old known : Option (List ℕ)) (buffer : List ℕ) (start end : ℕ) → prepend_known (slice_range buffer start end) known ≡ old → start < end → end ≤ length buffer → Consumes old (prepend_known (slice_range buffer (start + 1) end) known) (get_or buffer start 0 ∷ [])
Consumes-next old known buffer start end e h k = subst (λ o. Consumes o (prepend_known (slice_range buffer (start + 1) end) known) (get_or buffer start 0 ∷ [])) e (go known) where
  go : (known : Option (List ℕ)) → Consumes (prepend_known (slice_range buffer start end) known) (prepend_known (slice_range buffer (start + 1) end) known) (get_or buffer start 0 ∷ [])
  go None = tt
  go (Some xs) = ap (λ l. l ++ xs) (range-first buffer start end h k)

-- So it is after a read into an empty buffer.
pub Consumes-filled : (old known known' : Option (List ℕ)) (buffer buffer' : List ℕ) (start end n : ℕ) → prepend_known (slice_range buffer start end) known ≡ old → start ≡ end → Consumes known known' (take n buffer') → 0 < n → n ≤ length buffer' → Consumes old (prepend_known (slice_range buffer' (0 + 1) n) known') (get_or buffer' 0 0 ∷ [])
Consumes-filled old known known' buffer buffer' start end n e empty read some within = subst (λ o. Consumes o (prepend_known (slice_range buffer' (0 + 1) n) known') (get_or buffer' 0 0 ∷ [])) e (go known known' read) where
  nothing : slice_range buffer start end ≡ []
  nothing = grind (arith, common_steps)

  whole : take n buffer' ≡ slice_range buffer' 0 n
  whole = grind (arith, common_steps)

  go : (known known' : Option (List ℕ)) → Consumes known known' (take n buffer') → Consumes (prepend_known (slice_range buffer start end) known) (prepend_known (slice_range buffer' (0 + 1) n) known') (get_or buffer' 0 0 ∷ [])
  go None known' read = tt
  go (Some xs) None read = absurd read
  go (Some xs) (Some ys) read = ap (λ l. l ++ xs) nothing ∙ read ∙ ap (λ l. l ++ ys) (whole ∙ range-first buffer' 0 n some within)
