use Rattle.std.proofs.Common.{◌≡◌, ◌≢◌, ℕ, zero, suc, ◌+◌, ◌<◌, ◌≤◌, Bool, true, false, not, cond, List, [], ◌∷◌, ◌++◌, length, take, map, flat_map, Some, refl, sym, ap, ap₂, ◌∙◌, inl, inr, arith, append_assoc, append-nil}
use Rattle.std.specs.Prelude.{slice_get, ◌==◌, ◌&&◌, if◌then◌else◌}
use Rattle.std.specs.List.{list_any, before_first, position_or_len}
use Rattle.std.proofs.lemmas.List.{map-append, length-append}
use Rattle.std.proofs.lemmas.Option.{slice_get_within}
use Rattle.std.proofs.Math.Nat.{eq-or-lt_of_le}
use Rattle.lock_table.proofs.Lemmas.Find.{take-at}
use Rattle.std.proofs.lemmas.Bool.{or_parts, ne_eqb, cond-false}
use Rattle.modes_core.specs.declared.modes.Mode.{Mode}
use Rattle.modes_core.specs.declared.refusals.How.TheVariants.{Held}
use Rattle.modes_core.specs.declared.tags.Tag.{Tag}
use Rattle.modes_core.specs.Conflict.{conflict}
use Rattle.modes_core.specs.ModeSet.{all_modes}
use Rattle.lock_table.specs.Content.{Content}
use Rattle.wait_queue.specs.declared.queues.Blocker.{Blocker}
use Rattle.wait_queue.specs.Queues.{by_modes, holding_of, lists_below}

-- What stands before the first element that passes is what stands before a place where one does, and none
-- before it.
position-at : {X : Type 0} (p : X → Bool) (xs : List X) (i : ℕ) (x : X) → list_any p (take i xs) ≡ false → slice_get xs i ≡ Some x → p x ≡ true → position_or_len p xs ≡ i
position-at p [] i x none at passes = absurd (cc)
position-at p (y ∷ xs) zero x none at passes = let same : y ≡ x = cc in ap (λ b. cond (not b) (1 + position_or_len p xs) 0) (ap p same ∙ passes)
position-at p (y ∷ xs) (suc i) x none at passes =
    let parts = or_parts (p y) (list_any p (take i xs)) none in
    let rest : position_or_len p xs ≡ i = position-at p xs i x parts.1 at passes in
    ap (λ b. cond (not b) (1 + position_or_len p xs) 0) parts.0 ∙ omega arith

pub before-at : {X : Type 0} (p : X → Bool) (xs : List X) (i : ℕ) (x : X) → list_any p (take i xs) ≡ false → slice_get xs i ≡ Some x → p x ≡ true → take i xs ≡ before_first p xs
before-at p xs i x none at passes = ap (λ n. take n xs) (sym (position-at p xs i x none at passes))

-- Lists, one after another: none at first, and one more.
pub lists_below-start : (old : List Blocker) (lists : ℕ → List Blocker) → old ≡ old ++ lists_below 0 lists
unfolding lists_below
lists_below-start old lists = sym (append-nil old)

pub lists_below-more :
    (limit : ℕ) (lists : ℕ → List Blocker) (old before after : List Blocker) → before ≡ old ++ lists_below limit lists
    → after ≡ before ++ lists limit → after ≡ old ++ lists_below (limit + 1) lists
unfolding lists_below
lists_below-more limit lists old before after so_far more =
    let one : suc limit ≡ limit + 1 = omega arith in
    more ∙ ap (λ xs. xs ++ lists limit) so_far ∙ append_assoc old (lists_below limit lists) (lists limit)
    ∙ ap (λ n. old ++ lists_below n lists) one

-- Where the lists from a number on are empty, those below a larger number are those below it.
pub lists_below-rest_empty :
    (limit above : ℕ) (lists : ℕ → List Blocker) → above ≤ limit → ((k : ℕ) → above ≤ k → lists k ≡ [])
    → lists_below above lists ≡ lists_below limit lists
unfolding lists_below
lists_below-rest_empty zero above lists within empty = let none : above ≡ zero = omega (arith, within) in ap (λ (n : ℕ). lists_below n lists) none
lists_below-rest_empty (suc limit) above lists within empty =
    elim (eq-or-lt_of_le within) [
      | inl same ↦ ap (λ (n : ℕ). lists_below n lists) same
      | inr below ↦
          let sooner : above ≤ limit = omega (arith, below) in
          lists_below-rest_empty limit above lists sooner empty ∙ sym (append-nil (lists_below limit lists))
          ∙ ap (λ xs. lists_below limit lists ++ xs) (sym (empty limit sooner))
    ]

-- A session that holds an object in no mode stands in nobody's way there.
no-modes : (other : ℕ) (held against : Mode → Bool) (modes : List Mode) → ((its : Mode) → held its ≡ false)
    → flat_map {A = Blocker} (λ its. if held its && against its then record { session = other; mode = its; how = Held } ∷ [] else []) modes ≡ []
no-modes other held against [] none = refl
no-modes other held against (its ∷ modes) none =
    ap₂ (λ (b : Bool) (rest : List Blocker). (if b && against its then record { session = other; mode = its; how = Held } ∷ [] else []) ++ rest)
    (none its) (no-modes other held against modes none)

either-empty : (b : Bool) (rows : List Blocker) → rows ≡ [] → (if b then [] else rows) ≡ []
either-empty true rows none = refl
either-empty false rows none = none

pub holding-nothing :
    (content : Content) (tag : Tag) (session : ℕ) (mode : Mode) (other : ℕ) → ((its : Mode) → content.holds other tag its ≡ false)
    → holding_of content tag session mode other ≡ []
holding-nothing content tag session mode other none =
    either-empty (other == session) (by_modes other (content.holds other tag) (conflict mode))
    (no-modes other (content.holds other tag) (conflict mode) all_modes none)

-- Another session stands in the way by the modes that it holds and that conflict.
pub holding-another :
    (content : Content) (tag : Tag) (session : ℕ) (mode : Mode) (other : ℕ) (held against : Mode → Bool) → other ≢ session
    → held ≡ content.holds other tag → against ≡ conflict mode → by_modes other held against ≡ holding_of content tag session mode other
holding-another content tag session mode other held against another its conflicting =
    ap (λ (set : Mode → Bool). by_modes other set against) its ∙ ap (by_modes other (content.holds other tag)) conflicting
    ∙ sym (cond-false (other == session) [] (by_modes other (content.holds other tag) (conflict mode)) (ne_eqb other session another))

-- A copy of the front of a list, with one element more.
pub copied-more :
    {A B : Type 0} (f : A → B) (xs : List B) (ys zs : List A) (y : A) → map f ys ≡ take (length ys) xs → slice_get xs (length ys) ≡ Some (f y)
    → zs ≡ ys ++ y ∷ [] → (length ys < length xs) × (length zs ≡ length ys + 1) × (map f zs ≡ take (length zs) xs)
copied-more f xs ys zs y so_far at is =
    let len : length zs ≡ length ys + 1 = ap length is ∙ length-append ys (y ∷ []) in (
      slice_get_within xs (length ys) (f y) at,
      len,
      ap (map f) is ∙ map-append f ys (y ∷ []) ∙ ap (λ l. l ++ f y ∷ []) so_far ∙ sym (take-at xs (length ys) (f y) at) ∙ ap (λ n. take n xs) (sym len),
    )
