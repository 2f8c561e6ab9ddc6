use Rattle.std.proofs.Common.{◌≡◌, ℕ, Bool, true, false, not, ◌&&◌, List, Option, refl, sym, ap, ◌∙◌, inl, inr}
use Rattle.std.proofs.lemmas.Bool.{cases_eq}
use Rattle.modes_core.specs.declared.modes.Mode.{Mode}
use Rattle.modes_core.specs.declared.tags.Tag.{Tag}
use Rattle.modes_core.specs.Mode.{mode_eq}
use Rattle.modes_core.specs.Tag.{tag_eq}
use Rattle.lock_table.specs.Content.{Holds, set_hold}
use Rattle.lock_table.specs.Put.{put, set_at}
use Rattle.lock_table.proofs.Lemmas.Put.{set_at-here, set_at-else}
use Rattle.lock_table.proofs.Lemmas.Holds.{IsTheHold, SetHoldAt, here, elsewhere, set_hold-at}
use Rattle.lock_world.specs.SlotHolds.{slot_holds}
use Rattle.lock_world.specs.Counted.{Counted}
use Rattle.lock_world.specs.World.{World, TraceEntry}
use Rattle.lock_world.specs.Safe.{SafeButSlots, TracesTell}
use Rattle.lock_world.specs.SafeWorld.{slots_of, own_but}
use Rattle.lock_world.proofs.Lemmas.Table.Beside.{same-table}

-- What steps on slots and counters change, and what stays.

-- A World of which slots, databases and counters, what sessions know and remember of these, and traces alone
-- have changed.
abbrev pub with_fast_path :
    World → (ℕ → ℕ) → (ℕ → ℕ → ℕ) → (ℕ → ℕ) → (ℕ → List Counted) → (ℕ → Option ℕ) → (ℕ → ℕ → ℕ) → (ℕ → List TraceEntry)
    → World
with_fast_path w database slot strong counted zero remembered trace = record {
  words = record (w.words) { database = database; slot = slot; strong = strong };
  contents = w.contents;
  sessions = record (w.sessions) { counted = counted; zero = zero; remembered = remembered; trace = trace };
  numbers = w.numbers;
}

pub with_fast_path-safe :
    (w : World) (database : ℕ → ℕ) (slot : ℕ → ℕ → ℕ) (strong : ℕ → ℕ) (counted : ℕ → List Counted)
    (zero : ℕ → Option ℕ) (remembered : ℕ → ℕ → ℕ) (trace : ℕ → List TraceEntry) → SafeButSlots w
    → TracesTell w.contents trace w.numbers.issued → SafeButSlots (with_fast_path w database slot strong counted zero remembered trace)
with_fast_path-safe w database slot strong counted zero remembered trace safe traces = record {
  table = same-table w (with_fast_path w database slot strong counted zero remembered trace) safe.table;
  locks = safe.locks;
  traces = traces;
}

-- The slots of one session change: the holds of all change by one.
pub slots_of-set :
    (database : ℕ → ℕ) (slot : ℕ → ℕ → ℕ) (s : ℕ) (after : ℕ → ℕ) (t : Tag) (m : Mode) (b : Bool)
    → slot_holds (database s) after ≡ put tag_eq (slot_holds (database s) (slot s)) t (put mode_eq (slot_holds (database s) (slot s) t) m b)
    → slots_of database (set_at slot s after) ≡ set_hold (slots_of database slot) s t m b
slots_of-set database slot s after t m b its = λ i k. at k i where
  at : (k : ℕ) → slots_of database (set_at slot s after) k ≡ set_hold (slots_of database slot) s t m b k
  at k =
      elim (cases_eq k s) [
        | inl same ↦
            ap (λ words. slot_holds (database k) words) (set_at-here slot s after k same)
            ∙ ap (λ j. slot_holds (database j) after) same
            ∙ its
            ∙ sym (set_at-here (slots_of database slot) s (put tag_eq (slots_of database slot s) t (put mode_eq (slots_of database slot s t) m b)) k same)
        | inr other ↦
            ap (λ words. slot_holds (database k) words) (set_at-else slot s after k other)
            ∙ sym (set_at-else (slots_of database slot) s (put tag_eq (slots_of database slot s) t (put mode_eq (slots_of database slot s t) m b)) k other)
      ]

-- A hold set or cleared both in the slots and among its session's own holds: in the table nothing has
-- changed, where it was not there.
pub own_but-both :
    (own slots : Holds) (s : ℕ) (t : Tag) (m : Mode) (b : Bool) → own_but own slots s t m ≡ false
    → own_but (set_hold own s t m b) (set_hold slots s t m b) ≡ own_but own slots
own_but-both own slots s t m b not_there = λ i k o n. at k o n i where
  none : (b : Bool) → (b && not b) ≡ false
  none true = refl
  none false = refl

  at_it : (k : ℕ) (o : Tag) (n : Mode) → IsTheHold s t m k o n → set_hold own s t m b k o n ≡ b → SetHoldAt slots s t m b k o n
      → own_but (set_hold own s t m b) (set_hold slots s t m b) k o n ≡ own_but own slots k o n
  at_it k o n it e (here _ f) =
      (λ i. e i && not (f i)) ∙ none b ∙ sym not_there ∙ sym (λ i. own_but own slots (it.session i) (it.tag i) (it.mode i))
  at_it k o n it e (elsewhere not_it _) = absurd (not_it it)

  else_where : (k : ℕ) (o : Tag) (n : Mode) → (IsTheHold s t m k o n → ⊥) → set_hold own s t m b k o n ≡ own k o n → SetHoldAt slots s t m b k o n
      → own_but (set_hold own s t m b) (set_hold slots s t m b) k o n ≡ own_but own slots k o n
  else_where k o n not_it e (here it _) = absurd (not_it it)
  else_where k o n not_it e (elsewhere _ f) = λ i. e i && not (f i)

  at : (k : ℕ) (o : Tag) (n : Mode) → own_but (set_hold own s t m b) (set_hold slots s t m b) k o n ≡ own_but own slots k o n
  at k o n =
      elim (set_hold-at own s t m b k o n) [
        | here it e ↦ at_it k o n it e (set_hold-at slots s t m b k o n)
        | elsewhere not_it e ↦ else_where k o n not_it e (set_hold-at slots s t m b k o n)
      ]

-- What slots show stays own where the hold changes in both.
pub are_own-both :
    (own slots : Holds) (s : ℕ) (t : Tag) (m : Mode) (b : Bool) → ((k : ℕ) (o : Tag) (n : Mode) → slots k o n ≡ true → own k o n ≡ true)
    → (k : ℕ) (o : Tag) (n : Mode) → set_hold slots s t m b k o n ≡ true → set_hold own s t m b k o n ≡ true
are_own-both own slots s t m b are_own k o n shown = at (set_hold-at slots s t m b k o n) (set_hold-at own s t m b k o n) where
  at : SetHoldAt slots s t m b k o n → SetHoldAt own s t m b k o n → set_hold own s t m b k o n ≡ true
  at (here it e) (here _ f) = f ∙ sym e ∙ shown
  at (here it e) (elsewhere not_it f) = absurd (not_it it)
  at (elsewhere not_it e) (here it f) = absurd (not_it it)
  at (elsewhere _ e) (elsewhere _ f) = f ∙ are_own k o n (sym e ∙ shown)
