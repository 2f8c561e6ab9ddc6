use Rattle.std.proofs.Common.{◌≡◌, ◌≢◌, ℕ, ◌<◌, Bool, true, false, List, length, get_or, sym, ap, ◌∙◌, subst, inl, inr}
use Rattle.std.specs.Prelude.{◌==◌}
use Rattle.std.proofs.Math.ListN.{set}
use Rattle.std.proofs.lemmas.List.{get_or-set_same, get_or-set_other}
use Rattle.std.proofs.lemmas.Bool.{cases_eq, eq-eqb, ne_eqb, cond-true, cond-false}
use Rattle.lock_table.specs.Put.{put, set_at}

-- A changed function has the new value where the test takes the arguments for the same, and the old one
-- elsewhere.
pub put_here : {K A : Type 0} (same : K → K → Bool) (f : K → A) (k : K) (a : A) (j : K) → same j k ≡ true → put same f k a j ≡ a
put_here same f k a j e = cond-true (same j k) a (f j) e

pub put_else : {K A : Type 0} (same : K → K → Bool) (f : K → A) (k : K) (a : A) (j : K) → same j k ≡ false → put same f k a j ≡ f j
put_else same f k a j e = cond-false (same j k) a (f j) e

-- A changed function of numbers has the new value at the number, and the old one elsewhere.
pub set_at-here : {A : Type 0} (f : ℕ → A) (k : ℕ) (a : A) (j : ℕ) → j ≡ k → set_at f k a j ≡ a
set_at-here f k a j e = put_here (λ i j. i == j) f k a j (eq-eqb j k e)

pub set_at-else : {A : Type 0} (f : ℕ → A) (k : ℕ) (a : A) (j : ℕ) → j ≢ k → set_at f k a j ≡ f j
set_at-else f k a j n = put_else (λ i j. i == j) f k a j (ne_eqb j k n)

-- What holds of the new value, and of each old one elsewhere, holds of each value.
pub set_at-each : {A : Type 0} (P : ℕ → A → Type 0) (f : ℕ → A) (k : ℕ) (a : A) → P k a → ((j : ℕ) → j ≢ k → P j (f j)) → (j : ℕ) → P j (set_at f k a j)
set_at-each {A} P f k a here there j =
    elim (cases_eq j k) [
      | inl e ↦ subst (λ v. P j v) (sym (set_at-here f k a j e)) (subst (λ i. P i a) (sym e) here)
      | inr n ↦ subst (λ v. P j v) (sym (set_at-else f k a j n)) (there j n)
    ]

-- A function set to what it is there is unchanged.
pub set_at-same : {A : Type 0} (f : ℕ → A) (k : ℕ) (a : A) → a ≡ f k → set_at f k a ≡ f
set_at-same {A} f k a e = λ i j. at j i where
  at : (j : ℕ) → set_at f k a j ≡ f j
  at j =
      elim (cases_eq j k) [
        | inl s ↦ set_at-here f k a j s ∙ e ∙ ap f (sym s)
        | inr n ↦ set_at-else f k a j n
      ]

-- A function set twice in one place has the later value there.
pub set_at-twice : {A : Type 0} (f : ℕ → A) (k : ℕ) (a b : A) → set_at (set_at f k a) k b ≡ set_at f k b
set_at-twice {A} f k a b = λ i j. at j i where
  at : (j : ℕ) → set_at (set_at f k a) k b j ≡ set_at f k b j
  at j =
      elim (cases_eq j k) [
        | inl s ↦ set_at-here (set_at f k a) k b j s ∙ sym (set_at-here f k b j s)
        | inr n ↦ set_at-else (set_at f k a) k b j n ∙ set_at-else f k a j n ∙ sym (set_at-else f k b j n)
      ]

-- A table of rows and columns, changed in one place and read in one column.
pub column-here : {A : Type 0} (f : ℕ → ℕ → A) (s p : ℕ) (a : A) (q : ℕ) → q ≡ p → (k : ℕ) → set_at f s (set_at (f s) p a) k q ≡ set_at (λ k. f k q) s a k
column-here f s p a q e k =
    elim (cases_eq k s) [
      | inl same ↦ ap (λ row. row q) (set_at-here f s (set_at (f s) p a) k same) ∙ set_at-here (f s) p a q e ∙ sym (set_at-here (λ k. f k q) s a k same)
      | inr other ↦ ap (λ row. row q) (set_at-else f s (set_at (f s) p a) k other) ∙ sym (set_at-else (λ k. f k q) s a k other)
    ]

pub column-else : {A : Type 0} (f : ℕ → ℕ → A) (s p : ℕ) (a : A) (q : ℕ) → q ≢ p → (k : ℕ) → set_at f s (set_at (f s) p a) k q ≡ f k q
column-else f s p a q n k =
    elim (cases_eq k s) [
      | inl same ↦ ap (λ row. row q) (set_at-here f s (set_at (f s) p a) k same) ∙ set_at-else (f s) p a q n ∙ ap (λ j. f j q) (sym same)
      | inr other ↦ ap (λ row. row q) (set_at-else f s (set_at (f s) p a) k other)
    ]

-- Another row is as it was.
pub row-else : {A : Type 0} (f : ℕ → ℕ → A) (s p : ℕ) (a : A) (k q : ℕ) → k ≢ s → set_at f s (set_at (f s) p a) k q ≡ f k q
row-else f s p a k q n = ap (λ row. row q) (set_at-else f s (set_at (f s) p a) k n)

-- A list written at one place, read as a function, is the function changed there, wherever what stands in the
-- list is of what the function gives.
pub written-at : {X Y : Type 0} (Of : X → Y → Type 0) (xs : List X) (k : ℕ) (x d : X) (f : ℕ → Y) (y : Y) → k < length xs → Of x y
    → (j : ℕ) → Of (get_or xs j d) (f j) → Of (get_or (set xs k x) j d) (set_at f k y j)
written-at Of xs k x d f y within now j before =
    elim (cases_eq j k) [
      | inl same ↦
          subst (λ a. Of a (set_at f k y j)) (sym (ap (λ i. get_or (set xs k x) i d) same ∙ get_or-set_same xs k x d within))
          (subst (Of x) (sym (set_at-here f k y j same)) now)
      | inr other ↦
          subst (λ a. Of a (set_at f k y j)) (sym (get_or-set_other xs k j x d other)) (subst (Of (get_or xs j d)) (sym (set_at-else f k y j other)) before)
    ]
