use Rattle.std.proofs.Common.{◌≡◌, ◌++◌, ℕ, List, length, take, sym, ap, subst, ◌∙◌}
use Rattle.std.proofs.Math.Seq.{take-append_seam}

-- Sessions that are lent to threads as a slice.

-- Those that were lent make up the list that they came from again,
pub all-back : {S : Type 0} (back rest : List S) (n : ℕ) → n ≡ length back → take n (back ++ rest) ≡ back
all-back back rest n many = ap (λ k. take k (back ++ rest)) many ∙ take-append_seam back rest

-- and are whose they were, where each thread keeps its session's manager.
pub lent-back :
    {M S : Type 0} (Own : M → List S → Type 0) (before after : M) (opened lent back rest : List S) (n : ℕ) → after ≡ before → lent ≡ opened → n ≡ length back
    → Own before opened → ((manager : M) → Own manager lent → Own manager back) → Own after (take n (back ++ rest))
lent-back Own before after opened lent back rest n same is many own keeps =
    subst (Own after) (sym (all-back back rest n many)) (subst (λ manager. Own manager back) (sym same) (keeps before (subst (Own before) (sym is) own)))
