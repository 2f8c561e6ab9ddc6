use Rattle.std.proofs.Common.{◌≡◌, ℕ, List, ◌∷◌, ◌++◌, sym, ap, ◌∙◌, subst}
use Rattle.atomic_table.specs.Table.{Me, rest}
use Rattle.lock_table.specs.Content.{Content}
use Rattle.shared_rule.specs.declared.history.History.{History}
use Rattle.shared_rule.specs.declared.history.Mark.{Mark}
use Rattle.shared_rule.specs.declared.history.View.{View}
use Rattle.shared_rule.specs.History.{first_account, lone}
use Rattle.shared_rule.specs.Seats.{DoNotConflict, behind_of}

-- A seat's side of an exchange of the content that came last.

module _ {S V : Type 0} where
  -- the shelf that came last, by another name of its number
  pub last-shelf : (side : Me S V) (view : V) (slot k : ℕ) (x : S) (others : List (ℕ × S)) → side ≡ (view, (k, x) ∷ others) → slot ≡ k → side.1 ≡ (slot, x) ∷ rest side.1
  last-shelf side view slot k x others is same =
      let slots : side.1 ≡ (k, x) ∷ others = ap (λ (s : Me S V). s.1) is in
      slots ∙ (λ i. (sym same i, x) ∷ rest (sym slots i))

  -- What came out of it is what it had,
  pub last-came : (side : Me S V) (view : V) (slot k : ℕ) (x came : S) (others : List (ℕ × S)) → side ≡ (view, (k, x) ∷ others) → side.1 ≡ (slot, came) ∷ rest side.1 → came ≡ x
  last-came side view slot k x came others is out =
      let slots : side.1 ≡ (k, x) ∷ others = ap (λ (s : Me S V). s.1) is in
      let heads : (slot, came) ∷ rest side.1 ≡ (k, x) ∷ others = sym out ∙ slots in
      let pair : ◌≡◌ {A = ℕ × S} (slot, came) (k, x) = cc (heads) in
      ap (λ (z : ℕ × S). z.1) pair

  -- and the shelf has the other value then.
  pub last-set : (side after : Me S V) (view : V) (slot k : ℕ) (x new : S) (others : List (ℕ × S)) → side ≡ (view, (k, x) ∷ others) → slot ≡ k
      → after ≡ (side.0, (slot, new) ∷ rest side.1) → after ≡ (view, (k, new) ∷ others)
  last-set side after view slot k x new others is same set = set ∙ (λ i. ((is i).0, (same i, new) ∷ rest (is i).1))

-- What is told of two sessions at one seat is told of them where the first was alone.
module _ {T : Type 0} (content : T → Content) where
  pub told-of_both : (view joined : View T) (number : ℕ) (marks : List (Mark T)) (others : List (History T)) → view ≡ lone number marks → joined.sessions ≡ view.sessions ++ others
      → DoNotConflict (first_account content joined.sessions) (first_account content (behind_of joined.sessions))
      → DoNotConflict (first_account content view.sessions) (first_account content others)
  told-of_both view joined number marks others is both told =
      let same : joined.sessions ≡ record { number = number; marks = marks } ∷ others = both ∙ ap (λ (v : View T). v.sessions ++ others) is in
      subst (λ (v : View T). DoNotConflict (first_account content v.sessions) (first_account content others)) (sym is)
      (subst (λ (sessions : List (History T)). DoNotConflict (first_account content sessions) (first_account content (behind_of sessions))) same told)
