use Rattle.std.proofs.Common.{◌≡◌, Option, Some, None, sym, ◌∙◌, subst}
use Rattle.std.specs.Option.{ForSome}

-- A fact of the value in a `Some` is a fact for whatever value is there.
pub ForSome-some : {X : Type 0} (P : X → Type 0) (x : X) → P x → ForSome (Some x) P
ForSome-some P x fact y e = let same : x ≡ y = cc in subst P same fact

-- There is nothing to say of a `None`.
pub ForSome-none : {X : Type 0} (P : X → Type 0) → ForSome None P
ForSome-none P y e = let impossible : ⊥ = cc in absurd impossible

-- What is there is one value.
pub one_some : {X : Type 0} (o : Option X) (x y : X) → o ≡ Some x → o ≡ Some y → x ≡ y
one_some o x y one two = let same : Some x ≡ Some y = sym one ∙ two in cc
