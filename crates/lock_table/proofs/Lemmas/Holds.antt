use Rattle.std.proofs.Common.{◌≡◌, ◌≢◌, ◌⊎◌, ℕ, Bool, true, false, refl, sym, ap, ◌∙◌, inl, inr}
use Rattle.std.proofs.lemmas.Bool.{cases_eq, cases_Bool, both_ways}
use Rattle.modes_core.specs.declared.modes.Mode.{Mode}
use Rattle.modes_core.specs.declared.tags.Tag.{Tag}
use Rattle.modes_core.specs.Mode.{mode_eq}
use Rattle.modes_core.specs.Tag.{tag_eq}
use Rattle.modes_core.proofs.Lemmas.Conflicts.{mode_eq-refl, mode_eq-same, tag_eq-refl, tag_eq-same}
use Rattle.lock_table.specs.Put.{put}
use Rattle.lock_table.specs.Content.{Holds, set_hold}
use Rattle.lock_table.proofs.Lemmas.Put.{put_here, put_else, set_at-here, set_at-else}

-- A session, an object and a mode are those of the very hold.
pub record IsTheHold (s : ℕ) (t : Tag) (m : Mode) (k : ℕ) (o : Tag) (n : Mode) : Type 0 where
  pub session : k ≡ s
  pub tag : o ≡ t
  pub mode : n ≡ m

-- What the holds with one set read at a hold: the value set at that very one, and the old value at each
-- other.
pub data SetHoldAt (h : Holds) (s : ℕ) (t : Tag) (m : Mode) (b : Bool) (k : ℕ) (o : Tag) (n : Mode) : Type 0 where
  here : IsTheHold s t m k o n → set_hold h s t m b k o n ≡ b → SetHoldAt h s t m b k o n
  elsewhere : (IsTheHold s t m k o n → ⊥) → set_hold h s t m b k o n ≡ h k o n → SetHoldAt h s t m b k o n

tag_eq-from : (x y : Tag) → x ≡ y → tag_eq x y ≡ true
tag_eq-from x y e = ap (tag_eq x) (sym e) ∙ tag_eq-refl x

mode_eq-from : (x y : Mode) → x ≡ y → mode_eq x y ≡ true
mode_eq-from x y e = ap (mode_eq x) (sym e) ∙ mode_eq-refl x

pub set_hold-at : (h : Holds) (s : ℕ) (t : Tag) (m : Mode) (b : Bool) (k : ℕ) (o : Tag) (n : Mode) → SetHoldAt h s t m b k o n
set_hold-at h s t m b k o n =
    elim (cases_eq k s) [
      | inr other ↦ elsewhere (λ it. other it.session) (ap (λ row. row o n) (set_at-else h s (put tag_eq (h s) t (put mode_eq (h s t) m b)) k other))
      | inl same ↦ at_row same (ap (λ row. row o n) (set_at-here h s (put tag_eq (h s) t (put mode_eq (h s t) m b)) k same))
    ] where
      old : k ≡ s → h s o n ≡ h k o n
      old same = ap (λ j. h j o n) (sym same)

      at_tag : k ≡ s → o ≡ t → set_hold h s t m b k o n ≡ put mode_eq (h s t) m b n → SetHoldAt h s t m b k o n
      at_tag same tag e =
          elim (cases_Bool (mode_eq n m)) [
            | inl mode ↦ here (record { session = same; tag = tag; mode = mode_eq-same n m mode }) (e ∙ put_here mode_eq (h s t) m b n mode)
            | inr mode ↦ elsewhere (λ it. both_ways (mode_eq n m) mode (mode_eq-from n m it.mode))
                (e ∙ put_else mode_eq (h s t) m b n mode ∙ ap (λ x. h s x n) (sym tag) ∙ old same)
          ]

      at_row : k ≡ s → set_hold h s t m b k o n ≡ put tag_eq (h s) t (put mode_eq (h s t) m b) o n → SetHoldAt h s t m b k o n
      at_row same e =
          elim (cases_Bool (tag_eq o t)) [
            | inl tag ↦ at_tag same (tag_eq-same o t tag) (e ∙ ap (λ row. row n) (put_here tag_eq (h s) t (put mode_eq (h s t) m b) o tag))
            | inr tag ↦ elsewhere (λ it. both_ways (tag_eq o t) tag (tag_eq-from o t it.tag))
                (e ∙ ap (λ row. row n) (put_else tag_eq (h s) t (put mode_eq (h s t) m b) o tag) ∙ old same)
          ]

-- Another session's holds are as they were.
pub set_hold-other_session : (h : Holds) (s : ℕ) (t : Tag) (m : Mode) (b : Bool) (k : ℕ) (o : Tag) (n : Mode) → k ≢ s → set_hold h s t m b k o n ≡ h k o n
set_hold-other_session h s t m b k o n other = ap (λ row. row o n) (set_at-else h s (put tag_eq (h s) t (put mode_eq (h s t) m b)) k other)

-- The hold that was set is as it was set.
pub set_hold-here : (h : Holds) (s : ℕ) (t : Tag) (m : Mode) (b : Bool) → set_hold h s t m b s t m ≡ b
set_hold-here h s t m b = at (set_hold-at h s t m b s t m) where
  at : SetHoldAt h s t m b s t m → set_hold h s t m b s t m ≡ b
  at (here it is) = is
  at (elsewhere not_it is) = absurd (not_it (record { session = refl; tag = refl; mode = refl }))

-- A hold that is there after one was taken away was there; each that was is there after one was added, and no
-- other but that.
pub set_hold-was : (h : Holds) (s : ℕ) (t : Tag) (m : Mode) (o : Tag) (n : Mode) → set_hold h s t m false s o n ≡ true → h s o n ≡ true
set_hold-was h s t m o n has = at (set_hold-at h s t m false s o n) where
  at : SetHoldAt h s t m false s o n → h s o n ≡ true
  at (here it e) = absurd (both_ways (set_hold h s t m false s o n) e has)
  at (elsewhere not_it e) = sym e ∙ has

pub set_hold-still : (h : Holds) (s : ℕ) (t : Tag) (m : Mode) (o : Tag) (n : Mode) → h s o n ≡ true → set_hold h s t m true s o n ≡ true
set_hold-still h s t m o n has = at (set_hold-at h s t m true s o n) where
  at : SetHoldAt h s t m true s o n → set_hold h s t m true s o n ≡ true
  at (here it e) = e
  at (elsewhere not_it e) = e ∙ has

pub set_hold-new : (h : Holds) (s : ℕ) (t : Tag) (m : Mode) (o : Tag) (n : Mode) → set_hold h s t m true s o n ≡ true → (h s o n ≡ true) ⊎ ((o ≡ t) × (n ≡ m))
set_hold-new h s t m o n has = at (set_hold-at h s t m true s o n) where
  at : SetHoldAt h s t m true s o n → (h s o n ≡ true) ⊎ ((o ≡ t) × (n ≡ m))
  at (here it e) = inr (it.tag, it.mode)
  at (elsewhere not_it e) = inl (sym e ∙ has)
