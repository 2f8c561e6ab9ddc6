-- The open sessions in the order of their names.
use Rattle.std.proofs.Common.{◌≡◌, ◌≢◌, ℕ, ◌+◌, ◌-◌, ◌<◌, ◌≤◌, ◌⊎◌, inl, inr, ◌∙◌, ap, List, length, get_or, arith, sym, subst, below_more}
use Rattle.std.specs.Prelude.{AllPairs, insert}
use Rattle.std.proofs.lemmas.Bool.{cases_eq, cases_lt}
use Rattle.std.proofs.lemmas.List.Edits.{length-insert, get_or-insert_below, get_or-insert_at, get_or-insert_above}
use Rattle.std.proofs.lemmas.List.{get_or_default}
use Rattle.lock_script.specs.declared.sessions.Named.{Named}
use Rattle.lock_script.specs.Names.{IsByName, NotAfter}
use Rattle.lock_script.proofs.Lemmas.NameOrder.{NotAfter-trans}

-- what holds of each element below i, and of the one at i
pub each-more :
    {X : Type 0} (P : X → Type 0) (items : List X) (i : ℕ) (x : X) → x ≡ get_or items i x → i < length items → P x → ((k : ℕ) (d : X) → k < i → P (get_or items k d)) →
    (k : ℕ) (d : X) → k < i + 1 → P (get_or items k d)
each-more P items i x at within here below k d h = below_more (λ j. P (get_or items j d)) i (λ j. below j d) (subst P (at ∙ get_or_default items i x d within) here) k h

-- A name that does not come after the one at a place comes after none from there on.
pub after-place :
    {S : Type 0} (sessions items : List (Named S)) (place : ℕ) (other : Named S) (name : List ℕ) → items ≡ sessions → other ≡ get_or items place other → place < length items → IsByName sessions →
    NotAfter name other.name.bytes → (k : ℕ) (d : Named S) → place ≤ k → k < length sessions → NotAfter name (get_or sessions k d).name.bytes
after-place {S} sessions items place other name same at inside ordered earlier k d h within =
    elim (cases_eq k place) [
      | inl e ↦ subst (λ (n : ℕ). NotAfter name (get_or sessions n d).name.bytes) (sym e) here
      | inr n ↦ NotAfter-trans name (get_or sessions place d).name.bytes (get_or sessions k d).name.bytes here (ordered place k d (omega arith) within)
    ] where
      moved : other ≡ get_or sessions place d
      moved = at ∙ get_or_default items place other d inside ∙ ap (λ (them : List (Named S)). get_or them place d) same

      here : NotAfter name (get_or sessions place d).name.bytes
      here = subst (λ (one : Named S). NotAfter name one.name.bytes) moved earlier

get_or-insert_after :
    {X : Type 0} (xs : List X) (i : ℕ) (y d : X) (k : ℕ) → i < k → i ≤ length xs → get_or (insert xs i y) k d ≡ get_or xs (k - 1) d
get_or-insert_after xs i y d k later within =
    let next : k ≡ k - 1 + 1 = omega arith in
    ap (λ (n : ℕ). get_or (insert xs i y) n d) next ∙ get_or-insert_above xs i y d (k - 1) (omega arith) within

-- One that is put in between what comes before it and what comes after it keeps the order of all pairs.
pub all_pairs_insert :
    {X : Type 0} (R : X → X → Type 0) (xs : List X) (i : ℕ) (y : X) → i ≤ length xs → AllPairs R xs →
    ((k : ℕ) (d : X) → k < i → R (get_or xs k d) y) → ((k : ℕ) (d : X) → i ≤ k → k < length xs → R y (get_or xs k d)) →
    AllPairs R (insert xs i y)
all_pairs_insert {X} R xs i y within pairs before after j k d earlier inside = go (cases_lt j i) (cases_lt k i) (cases_eq j i) (cases_eq k i) where
  long : length (insert xs i y) ≡ length xs + 1
  long = length-insert xs i y within

  go : (j < i) ⊎ (i ≤ j) → (k < i) ⊎ (i ≤ k) → (j ≡ i) ⊎ (j ≢ i) → (k ≡ i) ⊎ (k ≢ i) → R (get_or (insert xs i y) j d) (get_or (insert xs i y) k d)
  go (inl a) (inl b) e f =
      rw (get_or-insert_below xs i y d j a within, get_or-insert_below xs i y d k b within) (pairs j k d earlier (omega (arith, long)))
  go (inl a) (inr b) e (inl f) =
      rw (get_or-insert_below xs i y d j a within, f, get_or-insert_at xs i y d within) (before j d a)
  go (inl a) (inr b) e (inr f) =
      rw (get_or-insert_below xs i y d j a within, get_or-insert_after xs i y d k (omega (arith, b, f)) within) (pairs j (k - 1) d (omega (arith, a, b, f)) (omega (arith, long)))
  go (inr a) (inl b) e f = absurd (omega (arith, a, b, earlier))
  go (inr a) (inr b) (inl e) f =
      rw (e, get_or-insert_at xs i y d within, get_or-insert_after xs i y d k (omega (arith, e, earlier)) within) (after (k - 1) d (omega (arith, e, earlier)) (omega (arith, long, earlier)))
  go (inr a) (inr b) (inr e) f =
      rw (get_or-insert_after xs i y d j (omega (arith, a, e)) within, get_or-insert_after xs i y d k (omega (arith, a, earlier)) within)
      (pairs (j - 1) (k - 1) d (omega (arith, a, e, earlier)) (omega (arith, long, earlier, a, e)))
