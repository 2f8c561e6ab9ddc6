use Rattle.std.proofs.Common.{◌≡◌, ◌≢◌, ℕ, ◌+◌, ◌*◌, ◌/◌, ◌%◌, Bool, refl, sym, ap, ◌∙◌, inl, inr, arith}
use Rattle.std.specs.Prelude.{◌==◌}
use Rattle.std.proofs.lemmas.Bool.{cases_eq, cond-true, cond-false, eq-eqb, ne_eqb}
use Rattle.lock_table.specs.Put.{set_at}
use Rattle.lock_table.proofs.Lemmas.Put.{set_at-here, set_at-else}
use Rattle.lock_world.specs.WaitLists.{partition_lock, fast_lock}
use Rattle.lock_world.specs.Wakes.Owing.{lock_bit, lock_row}

-- What sessions have of lightweight locks, by the locks' numbers.

pub even-bit : (partition fast : ℕ → Bool) (lock : ℕ) → lock % 2 ≡ 0 → lock_bit partition fast lock ≡ partition (lock / 2)
even-bit partition fast lock even = cond-true (lock % 2 == 0) (partition (lock / 2)) (fast (lock / 2)) (eq-eqb (lock % 2) 0 even)

pub odd-bit : (partition fast : ℕ → Bool) (lock : ℕ) → lock % 2 ≢ 0 → lock_bit partition fast lock ≡ fast (lock / 2)
odd-bit partition fast lock odd = cond-false (lock % 2 == 0) (partition (lock / 2)) (fast (lock / 2)) (ne_eqb (lock % 2) 0 odd)

bit-partition : (partition fast : ℕ → Bool) (p : ℕ) → lock_bit partition fast (partition_lock p) ≡ partition p
bit-partition partition fast p = even-bit partition fast (2 * p) (omega arith) ∙ ap partition (let half : 2 * p / 2 ≡ p = omega arith in half)

bit-fast : (partition fast : ℕ → Bool) (o : ℕ) → lock_bit partition fast (fast_lock o) ≡ fast o
bit-fast partition fast o = odd-bit partition fast (2 * o + 1) (λ even. omega (arith, even)) ∙ ap fast (let half : (2 * o + 1) / 2 ≡ o = omega arith in half)

bit-set_partition : (partition fast : ℕ → Bool) (p : ℕ) (b : Bool) (lock : ℕ) → lock_bit (set_at partition p b) fast lock ≡ set_at (lock_bit partition fast) (partition_lock p) b lock
bit-set_partition partition fast p b lock = elim (cases_eq lock (partition_lock p)) [
  | inl same ↦ ap (lock_bit (set_at partition p b) fast) same ∙ bit-partition (set_at partition p b) fast p ∙ set_at-here partition p b p refl
      ∙ sym (set_at-here (lock_bit partition fast) (partition_lock p) b lock same)
  | inr other ↦ elim (cases_eq (lock % 2) 0) [
    | inl even ↦ even-bit (set_at partition p b) fast lock even
        ∙ set_at-else partition p b (lock / 2) (λ half. other (let e : lock / 2 ≡ p = half in omega (arith, e, even)))
        ∙ sym (even-bit partition fast lock even) ∙ sym (set_at-else (lock_bit partition fast) (partition_lock p) b lock other)
    | inr odd ↦ odd-bit (set_at partition p b) fast lock odd ∙ sym (odd-bit partition fast lock odd)
        ∙ sym (set_at-else (lock_bit partition fast) (partition_lock p) b lock other)
  ]
]

bit-set_fast : (partition fast : ℕ → Bool) (o : ℕ) (b : Bool) (lock : ℕ) → lock_bit partition (set_at fast o b) lock ≡ set_at (lock_bit partition fast) (fast_lock o) b lock
bit-set_fast partition fast o b lock = elim (cases_eq lock (fast_lock o)) [
  | inl same ↦ ap (lock_bit partition (set_at fast o b)) same ∙ bit-fast partition (set_at fast o b) o ∙ set_at-here fast o b o refl
      ∙ sym (set_at-here (lock_bit partition fast) (fast_lock o) b lock same)
  | inr other ↦ elim (cases_eq (lock % 2) 0) [
    | inl even ↦ even-bit partition (set_at fast o b) lock even ∙ sym (even-bit partition fast lock even)
        ∙ sym (set_at-else (lock_bit partition fast) (fast_lock o) b lock other)
    | inr odd ↦ odd-bit partition (set_at fast o b) lock odd
        ∙ set_at-else fast o b (lock / 2) (λ half. other (let e : lock / 2 ≡ o = half in omega (arith, e, odd)))
        ∙ sym (odd-bit partition fast lock odd) ∙ sym (set_at-else (lock_bit partition fast) (fast_lock o) b lock other)
  ]
]

-- One session has one lock more, or one less.
pub row-set_partition :
    (partition fast : ℕ → ℕ → Bool) (s p : ℕ) (b : Bool)
    → lock_row (set_at partition s (set_at (partition s) p b)) fast ≡ set_at (lock_row partition fast) s (set_at (lock_row partition fast s) (partition_lock p) b)
row-set_partition partition fast s p b = λ i k lock. at k lock i where
  at : (k lock : ℕ) → lock_row (set_at partition s (set_at (partition s) p b)) fast k lock
      ≡ set_at (lock_row partition fast) s (set_at (lock_row partition fast s) (partition_lock p) b) k lock
  at k lock = elim (cases_eq k s) [
    | inl same ↦ ap (λ row. lock_bit row (fast k) lock) (set_at-here partition s (set_at (partition s) p b) k same)
        ∙ ap (λ j. lock_bit (set_at (partition s) p b) (fast j) lock) same
        ∙ bit-set_partition (partition s) (fast s) p b lock
        ∙ sym (ap (λ row. row lock) (set_at-here (lock_row partition fast) s (set_at (lock_row partition fast s) (partition_lock p) b) k same))
    | inr other ↦ ap (λ row. lock_bit row (fast k) lock) (set_at-else partition s (set_at (partition s) p b) k other)
        ∙ sym (ap (λ row. row lock) (set_at-else (lock_row partition fast) s (set_at (lock_row partition fast s) (partition_lock p) b) k other))
  ]

pub row-set_fast :
    (partition fast : ℕ → ℕ → Bool) (s o : ℕ) (b : Bool)
    → lock_row partition (set_at fast s (set_at (fast s) o b)) ≡ set_at (lock_row partition fast) s (set_at (lock_row partition fast s) (fast_lock o) b)
row-set_fast partition fast s o b = λ i k lock. at k lock i where
  at : (k lock : ℕ) → lock_row partition (set_at fast s (set_at (fast s) o b)) k lock
      ≡ set_at (lock_row partition fast) s (set_at (lock_row partition fast s) (fast_lock o) b) k lock
  at k lock = elim (cases_eq k s) [
    | inl same ↦ ap (λ row. lock_bit (partition k) row lock) (set_at-here fast s (set_at (fast s) o b) k same)
        ∙ ap (λ j. lock_bit (partition j) (set_at (fast s) o b) lock) same
        ∙ bit-set_fast (partition s) (fast s) o b lock
        ∙ sym (ap (λ row. row lock) (set_at-here (lock_row partition fast) s (set_at (lock_row partition fast s) (fast_lock o) b) k same))
    | inr other ↦ ap (λ row. lock_bit (partition k) row lock) (set_at-else fast s (set_at (fast s) o b) k other)
        ∙ sym (ap (λ row. row lock) (set_at-else (lock_row partition fast) s (set_at (lock_row partition fast s) (fast_lock o) b) k other))
  ]
