-- Sessions that are taken out of a list and put back in.
use Rattle.std.proofs.Common.{◌≡◌, ◌≢◌, ℕ, ◌+◌, ◌-◌, ◌<◌, ◌≤◌, ◌⊎◌, inl, inr, ◌∙◌, ap, List, ◌∷◌, length, get_or, arith, suc, add-one, sym, subst}
use Rattle.std.specs.Prelude.{All, insert, remove}
use Rattle.std.specs.List.{HoldsAt}
use Rattle.std.proofs.lemmas.Bool.{cases_eq, cases_lt}
use Rattle.std.proofs.lemmas.List.Edits.{get_or-remove_below, get_or-remove_above, length-remove, length-insert, get_or-insert_below, get_or-insert_at, get_or-insert_above}
use Rattle.lock_script.specs.declared.sessions.Named.{Named}
use Rattle.lock_script.specs.Names.{PutsIn}

-- of those left where one is taken out
pub All-remove : {X : Type 0} (P : X → Type 0) (items : List X) (place : ℕ) → place < length items → All P items → All P (remove items place)
All-remove P items place inside each k d within = go (cases_lt k place) where
  long : length (remove items place) + 1 ≡ length items
  long = length-remove items place inside

  go : (k < place) ⊎ (place ≤ k) → P (get_or (remove items place) k d)
  go (inl below) = subst P (sym (get_or-remove_below items place d k below inside)) (each k d (omega (arith, long)))
  go (inr above) = subst P (sym (get_or-remove_above items place d k above inside)) (each (k + 1) d (omega (arith, long)))

-- of all where one is put in
pub All-insert : {X : Type 0} (P : X → Type 0) (items : List X) (place : ℕ) (one : X) → place ≤ length items → All P items → P one → All P (insert items place one)
All-insert {X} P items place one within each here k d inside = go (cases_lt k place) (cases_eq k place) where
  long : length (insert items place one) ≡ length items + 1
  long = length-insert items place one within

  go : (k < place) ⊎ (place ≤ k) → (k ≡ place) ⊎ (k ≢ place) → P (get_or (insert items place one) k d)
  go (inl below) e = subst P (sym (get_or-insert_below items place one d k below within)) (each k d (omega (arith, below, within)))
  go (inr above) (inl e) = rw (e, get_or-insert_at items place one d within) here
  go (inr above) (inr e) =
      let next : k ≡ k - 1 + 1 = omega (arith, above, e) in
      let moved : get_or (insert items place one) k d ≡ get_or items (k - 1) d =
      ap (λ (n : ℕ). get_or (insert items place one) n d) next ∙ get_or-insert_above items place one d (k - 1) (omega (arith, above, e)) within in
      subst P (sym moved) (each (k - 1) d (omega (arith, long, inside, above, e)))

-- of the one that is taken out
pub taken : {X : Type 0} (P : X → Type 0) (items : List X) (place : ℕ) (one : X) → place < length items → All P items → HoldsAt (λ other. one ≡ other) items place → P one
taken P items place one inside each at = subst P (sym (at one)) (each place one inside)

-- of all where one is put in by its name
pub All-put : {S : Type 0} (old new : List (Named S)) (one : Named S) → PutsIn old one new → (P : Named S → Type 0) → All P old → P one → All P new
All-put {S} old new one (place, within, e) P each here = subst (λ (those : List (Named S)). All P those) (sym e) (All-insert P old place one within each here)

pub length-put : {S : Type 0} (old new : List (Named S)) (one : Named S) → PutsIn old one new → length new ≡ length old + 1
length-put {S} old new one (place, within, e) = ap (λ (those : List (Named S)). length those) e ∙ length-insert old place one within

-- of all where one is taken out and put back in, and is as it was in this
pub All-put_back :
    {S : Type 0} (old left new : List (Named S)) (place : ℕ) (out back : Named S) → place < length old → HoldsAt (λ other. out ≡ other) old place → left ≡ remove old place →
    PutsIn left back new → (P : Named S → Type 0) → All P old → (P out → P back) → All P new
All-put_back {S} old left new place out back inside at e put P each same =
    All-put left new back put P (subst (λ (those : List (Named S)). All P those) (sym e) (All-remove P old place inside each)) (same (taken P old place out inside each at))

pub length-put_back :
    {S : Type 0} (old left new : List (Named S)) (place : ℕ) (back : Named S) → place < length old → left ≡ remove old place → PutsIn left back new → length new ≡ length old
length-put_back {S} old left new place back inside e put =
    length-put left new back put ∙ ap (λ (those : List (Named S)). length those + 1) e ∙ length-remove old place inside

-- of those that are left, by what the taking says
pub All-left :
    {S : Type 0} (old left : List (Named S)) (place : ℕ) → place < length old → left ≡ remove old place → (P : Named S → Type 0) → All P old → All P left
All-left {S} old left place inside e P each = subst (λ (those : List (Named S)). All P those) (sym e) (All-remove P old place inside each)

pub length-left : {S : Type 0} (old left : List (Named S)) (place : ℕ) → place < length old → left ≡ remove old place → length left + 1 ≡ length old
length-left {S} old left place inside e = ap (λ (those : List (Named S)). length those + 1) e ∙ length-remove old place inside

-- of the first of them, and of the others
pub All-first : {X : Type 0} (old rest : List X) (one : X) → old ≡ one ∷ rest → (P : X → Type 0) → All P old → P one
All-first {X} old rest one e P each = subst (λ (those : List X). All P those) e each 0 one (omega arith)

pub All-rest : {X : Type 0} (old rest : List X) (one : X) → old ≡ one ∷ rest → (P : X → Type 0) → All P old → All P rest
All-rest {X} old rest one e P each k d within =
    let inside : suc k < suc (length rest) = omega (arith, within) in
    subst (λ (those : List X). All P those) e each (suc k) d inside

pub length-rest : {X : Type 0} (old rest : List X) (one : X) → old ≡ one ∷ rest → length old ≡ length rest + 1
length-rest {X} old rest one e = ap (λ (those : List X). length those) e ∙ sym (add-one (length rest))
