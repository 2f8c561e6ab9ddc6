-- What is heard, part by part.
use Rattle.std.proofs.Common.{◌≡◌, ◌∙◌, ℕ, ◌+◌, ◌<◌, List, [], ◌∷◌, ◌++◌, length, get_or, refl, sym, subst, ap, zero, suc, add-one, arith}
use Rattle.std.specs.Prelude.{map, take}
use Rattle.scenario.specs.Heard.{Ended, Heard, Hears, HearsAll, IsEnd, IsLastPicture}

module _ {L : Type 0} (hears : L → Heard → L → Type 0) where
  -- what is heard first, and then
  pub hears-append : (old mid new : L) (first later : List Heard) → HearsAll hears old first mid → HearsAll hears mid later new → HearsAll hears old (first ++ later) new
  hears-append old mid new [] later first then = subst (λ from. HearsAll hears from later new) first then
  hears-append old mid new (one ∷ others) later (next, here, rest) then = (next, here, hears-append next mid new others later rest then)

  pub hears-one : (old new : L) (one : Heard) → hears old one new → HearsAll hears old (one ∷ []) new
  hears-one old new one here = (new, here, refl)

  pub hears-more : (old mid new : L) (first : List Heard) (one : Heard) → HearsAll hears old first mid → hears mid one new → HearsAll hears old (first ++ one ∷ []) new
  hears-more old mid new first one before here = hears-append old mid new first (one ∷ []) before (hears-one mid new one here)

  -- the end of a script is heard, behind a picture where one is wanted
  pub hears-end : (old mid new : L) → Hears hears old mid IsLastPicture → hears mid Ended new → Hears hears old new IsEnd
  hears-end old mid new (picture, last, heard) ended =
      (picture ++ Ended ∷ [], (picture, last, refl), hears-more old mid new picture Ended heard ended)

  -- what is heard of one more element of a list
  pub hears-next :
      {X : Type 0} (f : X → Heard) (old mid new : L) (items : List X) (i : ℕ) (x : X) → i < length items → x ≡ get_or items i x →
      HearsAll hears old (map f (take i items)) mid → hears mid (f x) new → HearsAll hears old (map f (take (i + 1) items)) new
  hears-next {X} f old mid new items i x inside at before here =
      subst (λ heard. HearsAll hears old heard new) (sym (ap (λ (n : ℕ). map f (take n items)) (add-one i) ∙ more items i inside at))
      (hears-more old mid new (map f (take i items)) (f x) before here) where
        more : (items : List X) (i : ℕ) → i < length items → x ≡ get_or items i x → map f (take (suc i) items) ≡ map f (take i items) ++ f x ∷ []
        more [] i inside at = absurd (omega (arith, inside))
        more (first ∷ others) zero inside at = ap (λ (it : X). f it ∷ []) (sym at)
        more (first ∷ others) (suc i) inside at = ap (λ (those : List Heard). f first ∷ those) (more others i (omega (arith, inside)) at)
