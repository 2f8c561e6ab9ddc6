use Rattle.std.proofs.Common.{◌≡◌, ◌≢◌, ℕ, Bool, true, false, List, Option, Some, refl, sym, ap, ◌∙◌, inl, inr}
use Rattle.std.proofs.lemmas.Bool.{cases_eq, both_ways, and_parts, and_from}
use Rattle.modes_core.specs.declared.modes.Mode.{Mode}
use Rattle.modes_core.specs.declared.tags.Tag.{Tag}
use Rattle.modes_core.specs.Mode.{mode_eq}
use Rattle.modes_core.specs.Tag.{tag_eq, is_strong_on}
use Rattle.modes_core.proofs.Lemmas.Conflicts.{mode_eq-refl, mode_eq-same, tag_eq-refl, tag_eq-same}
use Rattle.lock_table.specs.declared.moves.Move.{Move}
use Rattle.lock_table.specs.declared.moves.Move.TheVariants.{Keep, Grant, Join, Release, Leave, Adopt}
use Rattle.lock_table.specs.Content.{Holds, set_hold}
use Rattle.lock_table.specs.OwnWait.{OwnWait, is_for}
use Rattle.lock_table.specs.Moves.{FitsOwn}
use Rattle.lock_table.proofs.Lemmas.Holds.{SetHoldAt, here, elsewhere, set_hold-at, set_hold-was, set_hold-still, set_hold-new}
use Rattle.lock_world.specs.Counted.{IsCountedFor, Counted, is_done, StrongIsDone}
use Rattle.lock_world.specs.Happens.Partitions.{own_after}
use Rattle.lock_world.specs.SafeWorld.{SlotsAreOwn, OwnIsInOrder, slots_of}

-- A step that changes the holds and the wait of one session alone: what has to be shown of that session.

module _ (own own' : Holds) (awaited awaited' : ℕ → Option OwnWait) (s : ℕ) (same_own : (k : ℕ) (o : Tag) (n : Mode) → k ≢ s → own' k o n ≡ own k o n) (same_wait : (k : ℕ) → k ≢ s → awaited' k ≡ awaited k) where
  pub SlotsAreOwn-one :
      (groups : ℕ) (database : ℕ → ℕ) (slot : ℕ → ℕ → ℕ) → SlotsAreOwn groups database slot own
      → ((o : Tag) (n : Mode) → slots_of database slot s o n ≡ true → own s o n ≡ true → own' s o n ≡ true) → SlotsAreOwn groups database slot own'
  SlotsAreOwn-one groups database slot slots its = record {
    are_own = λ k o n shown. elim (cases_eq k s) [
      | inl same ↦
          ap (λ j. own' j o n) same
          ∙ its o n (ap (λ j. slots_of database slot j o n) (sym same) ∙ shown) (ap (λ j. own j o n) (sym same) ∙ slots.are_own k o n shown)
      | inr other ↦ same_own k o n other ∙ slots.are_own k o n shown
    ];
    one_each = slots.one_each;
    has_database = slots.has_database;
    in_groups = slots.in_groups;
  }

  pub OwnIsInOrder-one :
      (live : ℕ → Bool) (counted : ℕ → List Counted) → live s ≡ true → OwnIsInOrder live own awaited counted
      → ((o : Tag) (n : Mode) → is_for (awaited' s) o n ≡ true → own' s o n ≡ false) → OwnIsInOrder live own' awaited' counted
  OwnIsInOrder-one live counted alive order its = record {
    awaited_is_not_own = λ k o n awaits. elim (cases_eq k s) [
      | inl same ↦ ap (λ j. own' j o n) same ∙ its o n (ap (λ j. is_for (awaited' j) o n) (sym same) ∙ awaits)
      | inr other ↦ same_own k o n other ∙ order.awaited_is_not_own k o n (ap (λ a. is_for a o n) (sym (same_wait k other)) ∙ awaits)
    ];
    no_hold = λ k o n dead. same_own k o n (λ same. both_ways (live k) dead (ap live same ∙ alive)) ∙ order.no_hold k o n dead;
    no_count = order.no_count;
  }

  pub StrongIsDone-one :
      (limit : ℕ) (counted : ℕ → List Counted) → StrongIsDone limit counted own awaited
      → ((o : Tag) (n : Mode) → is_strong_on o n ≡ true → own' s o n ≡ true → is_done limit (counted s) o n ≡ true)
      → ((o : Tag) (n : Mode) → is_strong_on o n ≡ true → is_for (awaited' s) o n ≡ true → is_done limit (counted s) o n ≡ true)
      → StrongIsDone limit counted own' awaited'
  StrongIsDone-one limit counted done its_holds its_wait = record {
    held = λ k o n strong has. elim (cases_eq k s) [
      | inl same ↦ ap (λ j. is_done limit (counted j) o n) same ∙ its_holds o n strong (ap (λ j. own' j o n) (sym same) ∙ has)
      | inr other ↦ done.held k o n strong (sym (same_own k o n other) ∙ has)
    ];
    awaits = λ k o n strong waits. elim (cases_eq k s) [
      | inl same ↦ ap (λ j. is_done limit (counted j) o n) same ∙ its_wait o n strong (ap (λ j. is_for (awaited' j) o n) (sym same) ∙ waits)
      | inr other ↦ done.awaits k o n strong (ap (λ a. is_for a o n) (sym (same_wait k other)) ∙ waits)
    ];
  }

-- What a wait is for is its mode on its object.
pub is_for-same : (wait : OwnWait) (o : Tag) (n : Mode) → is_for (Some wait) o n ≡ true → (wait.tag ≡ o) × (wait.mode ≡ n)
is_for-same wait o n awaits =
    let both = and_parts (tag_eq wait.tag o) (mode_eq wait.mode n) awaits in
    (tag_eq-same wait.tag o both.0, mode_eq-same wait.mode n both.1)

pub is_for-itself : (wait : OwnWait) → is_for (Some wait) wait.tag wait.mode ≡ true
is_for-itself wait = and_from (tag_eq wait.tag wait.tag) (mode_eq wait.mode wait.mode) (tag_eq-refl wait.tag) (mode_eq-refl wait.mode)

-- Own holds after a move of the session.
module _ (own : Holds) (awaited : ℕ → Option OwnWait) (s : ℕ) where
  pub own_after-shown :
      (database : ℕ → ℕ) (slot : ℕ → ℕ → ℕ) (done : Move) → ((t : Tag) (m : Mode) → done ≡ Release t m → slots_of database slot s t m ≡ false)
      → (o : Tag) (n : Mode) → slots_of database slot s o n ≡ true → own s o n ≡ true → own_after own s done s o n ≡ true
  own_after-shown database slot Keep free o n shown has = has
  own_after-shown database slot (Grant t m) free o n shown has = set_hold-still own s t m o n has
  own_after-shown database slot (Join t m) free o n shown has = has
  own_after-shown database slot (Release t m) free o n shown has = at (set_hold-at own s t m false s o n) where
    at : SetHoldAt own s t m false s o n → set_hold own s t m false s o n ≡ true
    at (here it e) = absurd (both_ways (slots_of database slot s t m) (free t m refl) ((λ i. slots_of database slot s (sym it.tag i) (sym it.mode i)) ∙ shown))
    at (elsewhere not_it e) = e ∙ has
  own_after-shown database slot (Leave t) free o n shown has = has
  own_after-shown database slot (Adopt k i) free o n shown has = has

  pub own_after-awaited :
      (done : Move) → FitsOwn own (awaited s) s done → ((o : Tag) (n : Mode) → is_for (awaited s) o n ≡ true → own s o n ≡ false)
      → (o : Tag) (n : Mode) → is_for (awaited s) o n ≡ true → own_after own s done s o n ≡ false
  own_after-awaited Keep fits old o n awaits = old o n awaits
  own_after-awaited (Grant t m) fits old o n awaits = absurd (both_ways false refl (ap (λ a. is_for a o n) (sym fits.0) ∙ awaits))
  own_after-awaited (Join t m) fits old o n awaits = old o n awaits
  own_after-awaited (Release t m) fits old o n awaits = at (set_hold-at own s t m false s o n) where
    at : SetHoldAt own s t m false s o n → set_hold own s t m false s o n ≡ false
    at (here it e) = e
    at (elsewhere not_it e) = e ∙ old o n awaits
  own_after-awaited (Leave t) fits old o n awaits = old o n awaits
  own_after-awaited (Adopt k i) fits old o n awaits = old o n awaits

  pub own_after-done :
      (limit : ℕ) (list : List Counted) (done : Move) → IsCountedFor limit list done
      → ((o : Tag) (n : Mode) → is_strong_on o n ≡ true → own s o n ≡ true → is_done limit list o n ≡ true)
      → (o : Tag) (n : Mode) → is_strong_on o n ≡ true → own_after own s done s o n ≡ true → is_done limit list o n ≡ true
  own_after-done limit list Keep counted old o n strong has = old o n strong has
  own_after-done limit list (Grant t m) counted old o n strong has =
      elim (set_hold-new own s t m o n has) [
        | inl was ↦ old o n strong was
        | inr it ↦ (λ i. is_done limit list (it.0 i) (it.1 i)) ∙ counted ((λ i. is_strong_on (sym it.0 i) (sym it.1 i)) ∙ strong)
      ]
  own_after-done limit list (Join t m) counted old o n strong has = old o n strong has
  own_after-done limit list (Release t m) counted old o n strong has = old o n strong (set_hold-was own s t m o n has)
  own_after-done limit list (Leave t) counted old o n strong has = old o n strong has
  own_after-done limit list (Adopt k i) counted old o n strong has = old o n strong has
