-- The order of names by their bytes.
use Rattle.std.proofs.Common.{◌≡◌, ◌≢◌, ℕ, List, refl, sym, ap, ◌∙◌, true, false, is_lt, nat_cmp, Less, Equal, Greater}
use Rattle.std.specs.declared.cmp.Ordering.{Ordering}
use Rattle.std.specs.Ordering.{ordering_reverse}
use Rattle.std.specs.Cmp.Lexicographic.{slice_cmp}
use Rattle.std.proofs.lemmas.Cmp.{nat_list_cmp_total}
use Rattle.std.proofs.lemmas.Bool.{false≢true}
use Rattle.lock_script.specs.Names.{NotAfter}

less-not_greater : (r : Ordering) → r ≡ Less → r ≢ Greater
less-not_greater r e f = let bad : ◌≡◌ {A = Ordering} Less Greater = sym e ∙ f in absurd (cc)

-- A name that comes before another one does not come after it.
pub earlier-NotAfter : (x y : List ℕ) → is_lt (slice_cmp nat_cmp x y) ≡ true → NotAfter x y
earlier-NotAfter x y earlier = go (slice_cmp nat_cmp x y) refl where
  go : (r : Ordering) → slice_cmp nat_cmp x y ≡ r → NotAfter x y
  go Less e = less-not_greater (slice_cmp nat_cmp x y) e
  go Equal e = absurd (false≢true (sym (ap is_lt e) ∙ earlier))
  go Greater e = absurd (false≢true (sym (ap is_lt e) ∙ earlier))

-- The other does not come after one that does not come before it.
pub later-NotAfter : (x y : List ℕ) → is_lt (slice_cmp nat_cmp x y) ≡ false → NotAfter y x
later-NotAfter x y later f =
    let less : slice_cmp nat_cmp x y ≡ Less = nat_list_cmp_total.antisymm x y ∙ ap ordering_reverse f in
    false≢true (sym later ∙ ap is_lt less)

pub NotAfter-trans : (x y z : List ℕ) → NotAfter x y → NotAfter y z → NotAfter x z
NotAfter-trans x y z = go (slice_cmp nat_cmp x y) (slice_cmp nat_cmp y z) refl refl where
  go : (r s : Ordering) → slice_cmp nat_cmp x y ≡ r → slice_cmp nat_cmp y z ≡ s → slice_cmp nat_cmp x y ≢ Greater → slice_cmp nat_cmp y z ≢ Greater → NotAfter x z
  go Greater s e f n m = absurd (n e)
  go Less Greater e f n m = absurd (m f)
  go Equal s e f n m = λ g. m (sym (nat_list_cmp_total.congr x y z e) ∙ g)
  go Less Less e f n m = less-not_greater (slice_cmp nat_cmp x z) (nat_list_cmp_total.trans x y z e f)
  go Less Equal e f n m =
      let same : slice_cmp nat_cmp x z ≡ slice_cmp nat_cmp x y =
      nat_list_cmp_total.antisymm x z ∙ ap ordering_reverse (sym (nat_list_cmp_total.congr y z x f)) ∙ sym (nat_list_cmp_total.antisymm x y) in
      less-not_greater (slice_cmp nat_cmp x z) (same ∙ e)
