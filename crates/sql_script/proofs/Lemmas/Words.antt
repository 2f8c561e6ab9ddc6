-- Where words end.
use Rattle.std.proofs.Common.{◌≡◌, ℕ, ◌<◌, List, length, get_or, Some, true, sym, arith}
use Rattle.std.specs.Prelude.{position}
use Rattle.std.specs.Char.{is_ascii_whitespace}
use Rattle.std.proofs.lemmas.Bool.Decides.{nat_tests}
use Rattle.std.proofs.lemmas.List.Quantifiers.{position-Some}

-- white space is ASCII
space-below : (b : ℕ) → is_ascii_whitespace b ≡ true → b < 128
space-below b h = grind (arith, nat_tests)

pub first_space-below : (text : List ℕ) (i : ℕ) → Some i ≡ position is_ascii_whitespace text → get_or text i 0 < 128
first_space-below text i e = space-below (get_or text i 0) (position-Some is_ascii_whitespace text i 0 (sym e)).1

pub first_space-within : (text : List ℕ) (i : ℕ) → Some i ≡ position is_ascii_whitespace text → i < length text
first_space-within text i e = (position-Some is_ascii_whitespace text i 0 (sym e)).0
