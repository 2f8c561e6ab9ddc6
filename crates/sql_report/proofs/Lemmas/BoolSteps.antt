use Rattle.std.proofs.Common.{◌≡◌, Bool, true, false, ◌||◌, ◌&&◌, refl}

-- what is true drops out of a conjunction
pub and_true_or : (e x a : Bool) → x ≡ true → (e || a) ≡ ((e && x) || a)
and_true_or true x a h = rw h refl
and_true_or false x a h = refl

-- a conjunction with what is false drops out of a choice
pub and_false_or : (e x a : Bool) → x ≡ false → a ≡ ((e && x) || a)
and_false_or true x a h = rw h refl
and_false_or false x a h = refl

-- nothing is added to a choice
pub or_false : (x : Bool) → (x || false) ≡ x
or_false true = refl
or_false false = refl
