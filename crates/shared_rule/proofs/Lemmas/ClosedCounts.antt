use Rattle.std.proofs.Common.{◌≡◌, ℕ, zero, suc, ◌+◌, ◌<◌, ◌==◌, Bool, true, false, List, [], ◌∷◌, length, Some, refl, sym, ap, ◌∙◌, subst, inl, inr, arith}
use Rattle.std.specs.Prelude.{slice_get, slice_set, count_by, if◌then◌else◌}
use Rattle.std.proofs.lemmas.Bool.{cases_eq, cond-true, cond-false, eq-eqb, ne_eqb, false_from_ne_true, both_ways, eqb-true}
use mathlib.Core.Option.{some}
use lib.ListN.{get_elem?}
use Rattle.atomic_table.proofs.Lists.{at_set}
use Rattle.lock_table.specs.Put.{set_at}
use Rattle.lock_table.proofs.Lemmas.HoldLists.{count_by-cons}
use Rattle.lock_table.specs.Total.{total, how_many}
use Rattle.lock_world.specs.World.{Numbers}
use Rattle.lock_table.proofs.Lemmas.Totals.{one_more, one_less}
use Rattle.shared_rule.specs.declared.history.History.{History}
use Rattle.shared_rule.specs.declared.history.Mark.{Mark}
use Rattle.shared_rule.specs.declared.history.View.{View}
use Rattle.shared_rule.specs.Openers.{HaveClosed}
use Rattle.shared_rule.specs.Ruled.{IsClosed, ClosedAreCounted, OpenerHasClosed}

-- Those that have closed are counted as sessions open and close.

-- Where none in a list passes a test, none is counted.
none-counted : {X : Type 0} (test : X → Bool) (xs : List X) → ((place : ℕ) (x : X) → slice_get xs place ≡ Some x → test x ≡ false) → count_by test xs ≡ 0
none-counted test [] none = refl
none-counted test (x ∷ xs) none =
    let here : ◌≡◌ {A = ℕ} (if test x then 1 else 0) 0 = cond-false (test x) 1 0 (none zero x refl) in
    let rest : count_by test xs ≡ 0 = none-counted test xs (λ place y at. none (suc place) y at) in
    let all = count_by-cons test x xs in
    omega (arith, here, rest, all)

-- One number more, which doesn't pass, counts nothing.
how_many-none : (n : ℕ) (test : ℕ → Bool) → test n ≡ false → how_many (suc n) test ≡ how_many n test
unfolding total
how_many-none n test none = let here : ◌≡◌ {A = ℕ} (if test n then 1 else 0) 0 = cond-false (test n) 1 0 none in omega (arith, here)

module _ {T : Type 0} (numbers : Numbers) where
  -- What the opener's view has as closed stays where a view changes that keeps it.
  pub opener-set :
      (views : List (View T)) (id : ℕ) (old new : View T) → get_elem? views id ≡ some old → new.closed ≡ old.closed
      → ((n : ℕ) → new.next ≡ Some n → old.next ≡ Some n) → OpenerHasClosed views numbers → OpenerHasClosed (slice_set views id new) numbers
  opener-set views id old new at same next has seat view number there says =
      elim (at_set views id seat new view there) [
        | inl here ↦
            subst (λ (z : View T). ClosedAreCounted numbers z.closed) here.1
            (subst (ClosedAreCounted numbers) (sym same) (has id old number at (next number (ap (λ (z : View T). z.next) here.1 ∙ says))))
        | inr elsewhere ↦ has seat view number elsewhere.1 says
      ]

  -- One more is given out, and live.
  pub counted-opened :
      (n : ℕ) (closed : List (History T)) → n ≡ numbers.issued → numbers.live n ≡ false → ClosedAreCounted numbers closed
      → ClosedAreCounted (record numbers { issued = n + 1; live = set_at numbers.live n true }) closed
  counted-opened n closed next none counted = record {
    once = counted.once;
    all =
        let more : how_many (n + 1) (set_at numbers.live n true) ≡ how_many (n + 1) numbers.live + 1 = one_more (n + 1) numbers.live n (omega arith) none in
        let last : how_many (suc n) numbers.live ≡ how_many n numbers.live = how_many-none n numbers.live none in
        let one : ◌≡◌ {A = ℕ} (suc n) (n + 1) = omega arith in
        let same : how_many (n + 1) numbers.live ≡ how_many (suc n) numbers.live = ap (λ (k : ℕ). how_many k numbers.live) (sym one) in
        let old : how_many n numbers.live + length closed ≡ n = subst (λ (k : ℕ). how_many k numbers.live + length closed ≡ k) (sym next) counted.all in
        omega (arith, more, last, same, old);
  }

  -- One that is live closes.
  pub counted-closed :
      (k : ℕ) (marks : List (Mark T)) (closed : List (History T)) → k < numbers.issued → numbers.live k ≡ true
      → ((place : ℕ) (history : History T) → slice_get closed place ≡ Some history → IsClosed numbers history.number) → ClosedAreCounted numbers closed
      → ClosedAreCounted (record numbers { live = set_at numbers.live k false }) (record { number = k; marks = marks } ∷ closed)
  counted-closed k marks closed given live each counted = record {
    once = λ number.
        let all = count_by-cons (λ (history : History T). history.number == number) (record { number = k; marks = marks }) closed in
        let old = counted.once number in
        elim (cases_eq k number) [
          | inl same ↦
              let one : ◌≡◌ {A = ℕ} (if k == number then 1 else 0) 1 = cond-true (k == number) 1 0 (eq-eqb k number same) in
              let none = none-counted (λ (history : History T). history.number == number) closed (λ place history at.
              false_from_ne_true (history.number == number) (λ its.
              both_ways (numbers.live k) (ap numbers.live (same ∙ sym (eqb-true history.number number its)) ∙ (each place history at).1) live)) in
              omega (arith, all, one, none)
          | inr other ↦
              let zeroth : ◌≡◌ {A = ℕ} (if k == number then 1 else 0) 0 = cond-false (k == number) 1 0 (ne_eqb k number other) in
              omega (arith, all, zeroth, old)
        ];
    all =
        let less = one_less numbers.issued numbers.live k given live in
        let old = counted.all in
        omega (arith, less, old);
  }

  -- So of those that have closed each was given out, once.
  pub counted-told :
      (n : ℕ) (closed : List (History T)) → n ≡ numbers.issued
      → ((place : ℕ) (history : History T) → slice_get closed place ≡ Some history → IsClosed numbers history.number) → ClosedAreCounted numbers closed
      → HaveClosed n closed
  counted-told n closed next each counted = record {
    once = counted.once;
    given_out = λ place history at. let below = (each place history at).0 in subst (λ (k : ℕ). history.number < k) (sym next) below;
    no_more = let old = counted.all in omega (arith, old, next);
  }
