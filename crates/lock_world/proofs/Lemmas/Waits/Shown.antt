use Rattle.std.proofs.Common.{◌≡◌, ◌≢◌, ◌⊎◌, ℕ, Bool, true, false, Option, Some, None, refl, sym, ap, ◌∙◌, subst, inl, inr, arith}
use Rattle.std.specs.Prelude.{◌==◌, ◌&&◌, not}
use Rattle.std.proofs.lemmas.Bool.{cases_eq, both_ways, eq-eqb, ne_eqb, and_parts}
use Rattle.modes_core.specs.Tag.{partition_of}
use Rattle.lock_table.specs.Content.{Holds, Content}
use Rattle.lock_table.specs.OwnWait.{OwnWait}
use Rattle.lock_world.specs.WaitWord.{wait_state, granted_word}
use Rattle.lock_world.specs.World.{Hand, is_unmarked}
use Rattle.lock_table.specs.Put.{set_at}
use Rattle.lock_world.specs.Happens.Waits.{unmarked_but}
use Rattle.lock_world.specs.Safe.{is_hand_of, stage_of, NoConflictingHolds, AreInOnePlace, NobodyIsFree, WaitWordsShowWaits, UnmarkedByItsMove}
use Rattle.lock_table.proofs.Lemmas.Put.{set_at-here, set_at-else}

-- What is safe of contents, waits, wait words and hands, over plain functions, and what each kind of step
-- leaves of it.

-- The word shows its session's wait.
pub record ShowsWait (n : ℕ) (o : Option OwnWait) (seen : Bool) : Type 0 where
  pub idle : o ≡ None → wait_state n ≡ 0
  pub waiting : (wait : OwnWait) → o ≡ Some wait → (wait_state n ≡ 1) ⊎ (wait_state n ≡ 2)
  pub seen_is_shown : seen ≡ true → wait_state n ≡ 2

-- A grant of the session may stand unmarked in this hand of the partition.
pub record MayBeUnmarked (n : ℕ) (o : Option OwnWait) (hand : Option Hand) (p k : ℕ) : Type 0 where
  pub wait : OwnWait
  pub is_wait : o ≡ Some wait
  pub in_partition : partition_of wait.tag ≡ p
  pub shows_waiting : wait_state n ≡ 1
  pub by_another : is_hand_of hand k ≡ false

abbrev pub UnmarkedWell : (ℕ → ℕ) → (ℕ → Option OwnWait) → ℕ → Option Hand → Type 0
UnmarkedWell word awaited p hand = (k : ℕ) → is_unmarked hand k ≡ true → MayBeUnmarked (word k) (awaited k) hand p k

pub record WaitsAreSafe (now : ℕ → Content) (own : Holds) (awaited : ℕ → Option OwnWait) (seen : ℕ → Bool) (word : ℕ → ℕ) (hand : ℕ → Option Hand) : Type 0 where
  pub no_conflict : NoConflictingHolds now
  pub one_place : AreInOnePlace now own awaited (λ k. stage_of (word k) hand k (awaited k))
  pub none_free : NobodyIsFree now
  pub showing : (k : ℕ) → ShowsWait (word k) (awaited k) (seen k)
  pub owing : (p : ℕ) → UnmarkedWell word awaited p (hand p)
  pub by_move : UnmarkedByItsMove hand

-- Safe waits give what a World says of wait words.
pub shows_from : (now : ℕ → Content) (own : Holds) (awaited : ℕ → Option OwnWait) (seen : ℕ → Bool) (word : ℕ → ℕ) (hand : ℕ → Option Hand) → WaitsAreSafe now own awaited seen word hand → WaitWordsShowWaits word awaited seen hand
shows_from now own awaited seen word hand safe = record {
  idle = λ k. (safe.showing k).idle;
  waiting = λ k. (safe.showing k).waiting;
  seen_is_shown = λ k. (safe.showing k).seen_is_shown;
  unmarked_waits = λ p k stands_unmarked. let it = safe.owing p k stands_unmarked in (it.wait, it.is_wait, it.in_partition);
  unmarked_shows_waiting = λ p k stands_unmarked. (safe.owing p k stands_unmarked).shows_waiting;
  unmarked_of_another = λ p k stands_unmarked. (safe.owing p k stands_unmarked).by_another;
}

pub safe_from :
    (now : ℕ → Content) (own : Holds) (awaited : ℕ → Option OwnWait) (seen : ℕ → Bool) (word : ℕ → ℕ) (hand : ℕ → Option Hand)
    → NoConflictingHolds now → AreInOnePlace now own awaited (λ k. stage_of (word k) hand k (awaited k)) → NobodyIsFree now
    → WaitWordsShowWaits word awaited seen hand → UnmarkedByItsMove hand → WaitsAreSafe now own awaited seen word hand
safe_from now own awaited seen word hand apart one free shows by_move = record {
  no_conflict = apart;
  one_place = one;
  none_free = free;
  showing = λ k. record { idle = shows.idle k; waiting = shows.waiting k; seen_is_shown = shows.seen_is_shown k };
  owing = λ p k stands_unmarked. let waits = shows.unmarked_waits p k stands_unmarked in
      record { wait = waits.0; is_wait = waits.1; in_partition = waits.2; shows_waiting = shows.unmarked_shows_waiting p k stands_unmarked; by_another = shows.unmarked_of_another p k stands_unmarked };
  by_move = by_move;
}

-- A session has one wait.
pub one_wait : (o : Option OwnWait) (a b : OwnWait) → o ≡ Some a → o ≡ Some b → a ≡ b
one_wait o a b is its = let e : Some a ≡ Some b = sym is ∙ its in cc

pub some_wait : (o : Option OwnWait) (wait : OwnWait) → o ≡ Some wait → o ≢ None
some_wait o wait is none = let e : Some wait ≡ None = sym is ∙ none in absurd (cc)

-- The word of a session that waits has 2 in its state once it was marked.
pub granted_word-state : (n : ℕ) → wait_state n ≡ 1 → wait_state (granted_word n) ≡ 2
granted_word-state n one = omega (arith, one)

-- Another session's word and wait are as they were.
pub MayBeUnmarked-else :
    (word : ℕ → ℕ) (awaited : ℕ → Option OwnWait) (s n : ℕ) (o : Option OwnWait) (hand : Option Hand) (p k : ℕ) → k ≢ s
    → MayBeUnmarked (word k) (awaited k) hand p k → MayBeUnmarked (set_at word s n k) (set_at awaited s o k) hand p k
MayBeUnmarked-else word awaited s n o hand p k other stands_unmarked =
    subst (λ x. MayBeUnmarked x (set_at awaited s o k) hand p k) (sym (set_at-else word s n k other))
    (subst (λ x. MayBeUnmarked (word k) x hand p k) (sym (set_at-else awaited s o k other)) stands_unmarked)

pub ShowsWait-set :
    (word : ℕ → ℕ) (awaited : ℕ → Option OwnWait) (seen : ℕ → Bool) (s n : ℕ) (o : Option OwnWait) (b : Bool) → ShowsWait n o b
    → ((k : ℕ) → ShowsWait (word k) (awaited k) (seen k)) → (k : ℕ) → ShowsWait (set_at word s n k) (set_at awaited s o k) (set_at seen s b k)
ShowsWait-set word awaited seen s n o b here there k =
    elim (cases_eq k s) [
      | inl same ↦ subst (λ x. ShowsWait x (set_at awaited s o k) (set_at seen s b k)) (sym (set_at-here word s n k same))
          (subst (λ x. ShowsWait n x (set_at seen s b k)) (sym (set_at-here awaited s o k same)) (subst (ShowsWait n o) (sym (set_at-here seen s b k same)) here))
      | inr other ↦ subst (λ x. ShowsWait x (set_at awaited s o k) (set_at seen s b k)) (sym (set_at-else word s n k other))
          (subst (λ x. ShowsWait (word k) x (set_at seen s b k)) (sym (set_at-else awaited s o k other)) (subst (ShowsWait (word k) (awaited k)) (sym (set_at-else seen s b k other)) (there k)))
    ]

-- Those to be marked without one: the others are as they were.
pub without-else : (unmarked : ℕ → Bool) (marked k : ℕ) → k ≢ marked → unmarked_but unmarked marked k ≡ unmarked k
without-else unmarked marked k other = ap (λ b. unmarked k && not b) (ne_eqb k marked other) ∙ and_true (unmarked k) where
  and_true : (b : Bool) → (b && true) ≡ b
  and_true true = refl
  and_true false = refl

pub without-parts : (unmarked : ℕ → Bool) (marked k : ℕ) → unmarked_but unmarked marked k ≡ true → (k ≢ marked) × (unmarked k ≡ true)
without-parts unmarked marked k is =
    let parts = and_parts (unmarked k) (not (k == marked)) is in
    (λ same. both_ways (not (k == marked)) (ap not (eq-eqb k marked same)) parts.1, parts.0)
