-- The bytes of a line.
use Rattle.std.proofs.Common.{◌≡◌, ℕ, ◌<◌, ◌&&◌, refl, arith, true, false, Bool, List, [], ◌∷◌, get_or, suc, zero}
use Rattle.std.specs.List.{list_all}
use Rattle.std.proofs.lemmas.Bool.Decides.{nat_tests}
use Rattle.lock_script.specs.Lines.{is_text_byte}

-- a byte of a text is below 128
text_byte-below : (b : ℕ) → is_text_byte b ≡ true → b < 128
text_byte-below b h = grind (arith, nat_tests)

and-left : (a b : Bool) → (a && b) ≡ true → a ≡ true
and-left true b h = refl
and-left false b h = h

and-right : (a b : Bool) → (a && b) ≡ true → b ≡ true
and-right true b h = h
and-right false b h = cc

-- so each byte of a text is
pub text-below : (bytes : List ℕ) → list_all is_text_byte bytes ≡ true → (i : ℕ) → get_or bytes i 0 < 128
text-below [] h i = omega arith
text-below (b ∷ bytes) h zero = text_byte-below b (and-left _ _ h)
text-below (b ∷ bytes) h (suc i) = text-below bytes (and-right (is_text_byte b) _ h) i
