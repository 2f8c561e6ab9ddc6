use Rattle.std.proofs.Common.{◌≡◌, Bool, true, ◌&&◌, nat_eq, refl, ap, ◌∙◌}
use Rattle.std.proofs.lemmas.Bool.{false≢true, and_parts, and_from, eqb-true, eq-eqb}
use Rattle.modes_core.specs.Mode.{mode_eq}
use Rattle.modes_core.specs.Tag.{tag_eq}
use Rattle.modes_core.proofs.Lemmas.Equality.{tag_equals, mode_equals}
use Rattle.modes_core.proofs.Lemmas.Conflicts.{mode_eq-refl, mode_eq-same, tag_eq-refl, tag_eq-same}
use Rattle.lock_table.specs.declared.moves.Move.{Move}
use Rattle.lock_table.specs.declared.moves.Move.TheVariants.{Keep, Grant, Join, Release, Leave, Adopt}
use Rattle.lock_table.specs.MoveTests.{move_eq}
use Rattle.lock_table.specs.contracts.moves.MovePartialEq.TheImpl as moves

-- Moves that the test takes for the same are the same, and each is the same as itself.
pub move_eq-same : (x y : Move) → move_eq x y ≡ true → x ≡ y
move_eq-same Keep Keep e = refl
move_eq-same Keep (Grant t' m') e = absurd (false≢true e)
move_eq-same Keep (Join t' m') e = absurd (false≢true e)
move_eq-same Keep (Release t' m') e = absurd (false≢true e)
move_eq-same Keep (Leave t') e = absurd (false≢true e)
move_eq-same Keep (Adopt k' i') e = absurd (false≢true e)
move_eq-same (Grant t m) Keep e = absurd (false≢true e)
move_eq-same (Grant t m) (Grant t' m') e = let both = and_parts (tag_eq t t') (mode_eq m m') e in ap (λ x. Grant x m) (tag_eq-same t t' both.0) ∙ ap (Grant t') (mode_eq-same m m' both.1)
move_eq-same (Grant t m) (Join t' m') e = absurd (false≢true e)
move_eq-same (Grant t m) (Release t' m') e = absurd (false≢true e)
move_eq-same (Grant t m) (Leave t') e = absurd (false≢true e)
move_eq-same (Grant t m) (Adopt k' i') e = absurd (false≢true e)
move_eq-same (Join t m) Keep e = absurd (false≢true e)
move_eq-same (Join t m) (Grant t' m') e = absurd (false≢true e)
move_eq-same (Join t m) (Join t' m') e = let both = and_parts (tag_eq t t') (mode_eq m m') e in ap (λ x. Join x m) (tag_eq-same t t' both.0) ∙ ap (Join t') (mode_eq-same m m' both.1)
move_eq-same (Join t m) (Release t' m') e = absurd (false≢true e)
move_eq-same (Join t m) (Leave t') e = absurd (false≢true e)
move_eq-same (Join t m) (Adopt k' i') e = absurd (false≢true e)
move_eq-same (Release t m) Keep e = absurd (false≢true e)
move_eq-same (Release t m) (Grant t' m') e = absurd (false≢true e)
move_eq-same (Release t m) (Join t' m') e = absurd (false≢true e)
move_eq-same (Release t m) (Release t' m') e = let both = and_parts (tag_eq t t') (mode_eq m m') e in ap (λ x. Release x m) (tag_eq-same t t' both.0) ∙ ap (Release t') (mode_eq-same m m' both.1)
move_eq-same (Release t m) (Leave t') e = absurd (false≢true e)
move_eq-same (Release t m) (Adopt k' i') e = absurd (false≢true e)
move_eq-same (Leave t) Keep e = absurd (false≢true e)
move_eq-same (Leave t) (Grant t' m') e = absurd (false≢true e)
move_eq-same (Leave t) (Join t' m') e = absurd (false≢true e)
move_eq-same (Leave t) (Release t' m') e = absurd (false≢true e)
move_eq-same (Leave t) (Leave t') e = ap Leave (tag_eq-same t t' e)
move_eq-same (Leave t) (Adopt k' i') e = absurd (false≢true e)
move_eq-same (Adopt k i) Keep e = absurd (false≢true e)
move_eq-same (Adopt k i) (Grant t' m') e = absurd (false≢true e)
move_eq-same (Adopt k i) (Join t' m') e = absurd (false≢true e)
move_eq-same (Adopt k i) (Release t' m') e = absurd (false≢true e)
move_eq-same (Adopt k i) (Leave t') e = absurd (false≢true e)
move_eq-same (Adopt k i) (Adopt k' i') e = let both = and_parts (nat_eq k k') (nat_eq i i') e in ap (λ j. Adopt j i) (eqb-true k k' both.0) ∙ ap (Adopt k') (eqb-true i i' both.1)

pub move_eq-refl : (x : Move) → move_eq x x ≡ true
move_eq-refl Keep = refl
move_eq-refl (Grant t m) = and_from (tag_eq t t) (mode_eq m m) (tag_eq-refl t) (mode_eq-refl m)
move_eq-refl (Join t m) = and_from (tag_eq t t) (mode_eq m m) (tag_eq-refl t) (mode_eq-refl m)
move_eq-refl (Release t m) = and_from (tag_eq t t) (mode_eq m m) (tag_eq-refl t) (mode_eq-refl m)
move_eq-refl (Leave t) = tag_eq-refl t
move_eq-refl (Adopt k i) = and_from (nat_eq k k) (nat_eq i i) (eq-eqb k k refl) (eq-eqb i i refl)

and_equals : {a b c d : Bool} → a ≡ b → c ≡ d → (a && c) ≡ (b && d)
and_equals {a} {b} {c} {d} e f = ap (λ x. x && c) e ∙ ap (λ x. b && x) f

-- The code's `==` on moves is the test that contracts name.
pub move_equals : (x y : Move) → (moves.ghosts).eq x y ≡ move_eq x y
move_equals Keep Keep = refl
move_equals Keep (Grant t' m') = refl
move_equals Keep (Join t' m') = refl
move_equals Keep (Release t' m') = refl
move_equals Keep (Leave t') = refl
move_equals Keep (Adopt k' i') = refl
move_equals (Grant t m) Keep = refl
move_equals (Grant t m) (Grant t' m') = and_equals (tag_equals t t') (mode_equals m m')
move_equals (Grant t m) (Join t' m') = refl
move_equals (Grant t m) (Release t' m') = refl
move_equals (Grant t m) (Leave t') = refl
move_equals (Grant t m) (Adopt k' i') = refl
move_equals (Join t m) Keep = refl
move_equals (Join t m) (Grant t' m') = refl
move_equals (Join t m) (Join t' m') = and_equals (tag_equals t t') (mode_equals m m')
move_equals (Join t m) (Release t' m') = refl
move_equals (Join t m) (Leave t') = refl
move_equals (Join t m) (Adopt k' i') = refl
move_equals (Release t m) Keep = refl
move_equals (Release t m) (Grant t' m') = refl
move_equals (Release t m) (Join t' m') = refl
move_equals (Release t m) (Release t' m') = and_equals (tag_equals t t') (mode_equals m m')
move_equals (Release t m) (Leave t') = refl
move_equals (Release t m) (Adopt k' i') = refl
move_equals (Leave t) Keep = refl
move_equals (Leave t) (Grant t' m') = refl
move_equals (Leave t) (Join t' m') = refl
move_equals (Leave t) (Release t' m') = refl
move_equals (Leave t) (Leave t') = tag_equals t t'
move_equals (Leave t) (Adopt k' i') = refl
move_equals (Adopt k i) Keep = refl
move_equals (Adopt k i) (Grant t' m') = refl
move_equals (Adopt k i) (Join t' m') = refl
move_equals (Adopt k i) (Release t' m') = refl
move_equals (Adopt k i) (Leave t') = refl
move_equals (Adopt k i) (Adopt k' i') = refl
