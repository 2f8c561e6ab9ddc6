-- What a chain's last place below a number is after the chain has one place more or less, over plain
-- functions.
use Rattle.std.proofs.Common.{◌≡◌, ◌≢◌, ℕ, ◌+◌, ◌<◌, ◌≤◌, Bool, true, false, sym, ap, ◌∙◌, inl, inr, arith}
use Rattle.std.proofs.lemmas.Bool.{false≢true, cases_eq}
use Rattle.place_index.specs.Chains.{end_of_chain, IsLast}

-- below the number the chain is the same
pub last-alike : (has has' : ℕ → Bool) (n place : ℕ) → ((k : ℕ) → k < n → has' k ≡ has k) → IsLast has n place → IsLast has' n place
last-alike has has' n place same last =
    record {
      within = last.within;
      there = λ some. same place (last.within some) ∙ last.there some;
      behind = λ k below here. last.behind k below (sym (same k below) ∙ here);
    }

-- nothing of the chain is below a smaller number but up to the place
pub last-below : (has : ℕ → Bool) (n m place : ℕ) → m ≤ n → (place ≢ end_of_chain → place < m) → IsLast has n place → IsLast has m place
last-below has n m place fewer within last =
    record {
      within = within;
      there = last.there;
      behind = λ k below here. last.behind k (omega arith) here;
    }

-- the next number is none of the chain
pub last-past : (has : ℕ → Bool) (n place : ℕ) → has n ≡ false → IsLast has n place → IsLast has (n + 1) place
last-past has n place none last =
    record {
      within = λ some. omega (arith, last.within some);
      there = last.there;
      behind = λ k below here. elim (cases_eq k n) [
        | inl same ↦ absurd (false≢true (sym none ∙ (ap has (sym same) ∙ here)))
        | inr apart ↦ last.behind k (omega arith) here
      ];
    }

-- the next number is one of the chain
pub last-here : (has : ℕ → Bool) (n : ℕ) → n < end_of_chain → has n ≡ true → IsLast has (n + 1) n
last-here has n few here =
    record {
      within = λ some. omega arith;
      there = λ some. here;
      behind = λ k below own. (λ same. omega arith, omega arith);
    }

-- a place comes into the chain, after its last one
pub last-added :
    (has has' : ℕ → Bool) (n place new : ℕ) → new < n → new < end_of_chain → has' new ≡ true → ((k : ℕ) → k ≢ new → has' k ≡ has k) →
    (place ≢ end_of_chain → place < new) → IsLast has n place → IsLast has' n new
last-added has has' n place new within few here others before last =
    record {
      within = λ some. within;
      there = λ some. here;
      behind = λ k below own. (
        λ same. omega arith,
        elim (cases_eq k new) [
          | inl same ↦ omega arith
          | inr apart ↦
              let was = last.behind k below (sym (others k apart) ∙ own) in
              omega (arith, was.1, before was.0)
        ],
      );
    }

-- a place comes into the chain, before its last one
pub last-kept :
    (has has' : ℕ → Bool) (n place new : ℕ) → place ≢ end_of_chain → new < place → ((k : ℕ) → k ≢ new → has' k ≡ has k) → IsLast has n place → IsLast has' n place
last-kept has has' n place new some before others last =
    record {
      within = last.within;
      there = λ _. others place (λ same. omega arith) ∙ last.there some;
      behind = λ k below own. elim (cases_eq k new) [
        | inl same ↦ (some, omega arith)
        | inr apart ↦ last.behind k below (sym (others k apart) ∙ own)
      ];
    }

-- the last place leaves the chain, and the one before it is the last then
pub last-left :
    (has has' : ℕ → Bool) (n place next : ℕ) → place ≢ end_of_chain → has' place ≡ false → ((k : ℕ) → k ≢ place → has' k ≡ has k) →
    IsLast has n place → IsLast has place next → IsLast has' n next
last-left has has' n place next some gone others last then =
    record {
      within = λ more. omega (arith, then.within more, last.within some);
      there = λ more. others next (λ same. omega (arith, then.within more)) ∙ then.there more;
      behind = λ k below own. elim (cases_eq k place) [
        | inl same ↦ absurd (false≢true (sym gone ∙ (ap has' (sym same) ∙ own)))
        | inr apart ↦
            let here = sym (others k apart) ∙ own in
            then.behind k (omega (arith, (last.behind k below here).1)) here
      ];
    }

-- another place leaves the chain
pub last-stays :
    (has has' : ℕ → Bool) (n place gone : ℕ) → place ≢ gone → has' gone ≡ false → ((k : ℕ) → k ≢ gone → has' k ≡ has k) → IsLast has n place → IsLast has' n place
last-stays has has' n place gone apart none others last =
    record {
      within = last.within;
      there = λ some. others place apart ∙ last.there some;
      behind = λ k below own. elim (cases_eq k gone) [
        | inl same ↦ absurd (false≢true (sym none ∙ (ap has' (sym same) ∙ own)))
        | inr unlike ↦ last.behind k below (sym (others k unlike) ∙ own)
      ];
    }
