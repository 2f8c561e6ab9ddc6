use Rattle.std.proofs.Common.{◌≡◌, ℕ, Bool, true, false, not, ◌&&◌, Option, List, refl, sym, ap, ◌∙◌, inl, inr, subst}
use Rattle.std.proofs.lemmas.Bool.{both_ways, false_from_ne_true, and_left, and_parts, or_cases, not-true}
use Rattle.modes_core.specs.declared.modes.Mode.{Mode}
use Rattle.modes_core.specs.declared.tags.Tag.{Tag}
use Rattle.modes_core.specs.Tag.{partition_of}
use Rattle.lock_table.specs.declared.moves.Move.{Move}
use Rattle.lock_table.specs.declared.moves.Move.TheVariants.{Keep, Grant, Join, Release, Leave, Adopt}
use Rattle.lock_table.specs.Content.{Wait, Content, Holds, set_hold}
use Rattle.lock_table.specs.OwnWait.{OwnWait, Stage, InQueue, WasGranted, HasLeft, is_for, is_pending}
use Rattle.lock_table.specs.Moves.{Moves, FitsOwn, IsInPartition}
use Rattle.lock_table.proofs.Lemmas.Holds.{IsTheHold, SetHoldAt, here, elsewhere, set_hold-at, set_hold-here}
use Rattle.lock_world.specs.World.{World}
use Rattle.lock_world.specs.Happens.Partitions.{MayMove, own_after}
use Rattle.lock_world.specs.Safe.{SafeButSlots, stages}
use Rattle.lock_world.specs.SafeWorld.{SafeWorld, slots_of, own_but, tabled}

-- The World as partitions know it: what is lawful there, and what comes of it.

-- A hold that is not own is not own in the table either.
pub own_but-false : (own slots : Holds) (s : ℕ) (t : Tag) (m : Mode) → own s t m ≡ false → own_but own slots s t m ≡ false
own_but-false own slots s t m none = and_left (own s t m) (not (slots s t m)) none

-- A hold that slots do not show stays out of them: own holds change in the table as they change.
pub own_but-set_hold :
    (own slots : Holds) (s : ℕ) (t : Tag) (m : Mode) (b c : Bool) → (b && not (slots s t m)) ≡ c
    → own_but (set_hold own s t m b) slots ≡ set_hold (own_but own slots) s t m c
own_but-set_hold own slots s t m b c is = λ i k o n. at k o n i where
  at_it : (k : ℕ) (o : Tag) (n : Mode) → IsTheHold s t m k o n → set_hold own s t m b k o n ≡ b → own_but (set_hold own s t m b) slots k o n ≡ set_hold (own_but own slots) s t m c k o n
  at_it k o n it e =
      ap (λ x. x && not (slots k o n)) e
      ∙ (λ i. b && not (slots (it.session i) (it.tag i) (it.mode i)))
      ∙ is
      ∙ sym (set_hold-here (own_but own slots) s t m c)
      ∙ sym (λ i. set_hold (own_but own slots) s t m c (it.session i) (it.tag i) (it.mode i))

  else_where : (k : ℕ) (o : Tag) (n : Mode) → (IsTheHold s t m k o n → ⊥) → SetHoldAt (own_but own slots) s t m c k o n → own_but own slots k o n ≡ set_hold (own_but own slots) s t m c k o n
  else_where k o n not_it (here it e) = absurd (not_it it)
  else_where k o n not_it (elsewhere _ e) = sym e

  at : (k : ℕ) (o : Tag) (n : Mode) → own_but (set_hold own s t m b) slots k o n ≡ set_hold (own_but own slots) s t m c k o n
  at k o n =
      elim (set_hold-at own s t m b k o n) [
        | here it e ↦ at_it k o n it e
        | elsewhere not_it e ↦ ap (λ x. x && not (slots k o n)) e ∙ else_where k o n not_it (set_hold-at (own_but own slots) s t m c k o n)
      ]

-- A World with these own holds.
abbrev pub with_own : World → Holds → World
with_own w own = record { words = w.words; contents = w.contents; sessions = record (w.sessions) { own = own }; numbers = w.numbers }

pub with_own-safe : (w : World) (a b : Holds) → a ≡ b → SafeButSlots (with_own w a) → SafeButSlots (with_own w b)
with_own-safe w a b same safe = subst (λ own. SafeButSlots (with_own w own)) same safe

pub pending-for : (awaited : Option OwnWait) (stage : Stage) (t : Tag) (m : Mode) → is_pending awaited stage t m ≡ true → is_for awaited t m ≡ true
pending-for awaited InQueue t m e = absurd (both_ways false refl e)
pending-for awaited WasGranted t m e = e
pending-for awaited HasLeft t m e = absurd (both_ways false refl e)

module _ (w : World) (safe : SafeWorld w) where
  abbrev slots : Holds
  slots = slots_of w.words.database w.words.slot

  -- What is not own no slot shows.
  pub not_own-no_slot : (s : ℕ) (t : Tag) (m : Mode) → w.sessions.own s t m ≡ false → slots s t m ≡ false
  not_own-no_slot s t m none = false_from_ne_true (slots s t m) (λ shown. both_ways (w.sessions.own s t m) none (safe.slots.are_own s t m shown))

  -- An own hold that stands in the content of its object's partition is in no slot.
  pub in_content-own_but :
      (s : ℕ) (t : Tag) (m : Mode) → w.sessions.own s t m ≡ true → (w.contents.now (partition_of t)).holds s t m ≡ true
      → own_but w.sessions.own slots s t m ≡ true
  in_content-own_but s t m own there =
      elim (or_cases (own_but w.sessions.own slots s t m) (is_pending (w.sessions.awaited s) (stages w s) t m) (sym ((safe.but_slots.table.promise.one_place.on_object t).held s m) ∙ there)) [
        | inl is ↦ is
        | inr pending ↦ absurd (both_ways (w.sessions.own s t m)
            (safe.order.awaited_is_not_own s t m (pending-for (w.sessions.awaited s) (stages w s) t m pending)) own)
      ]

  pub in_content-no_slot :
      (s : ℕ) (t : Tag) (m : Mode) → w.sessions.own s t m ≡ true → (w.contents.now (partition_of t)).holds s t m ≡ true → slots s t m ≡ false
  in_content-no_slot s t m own there =
      not-true (slots s t m) (and_parts (w.sessions.own s t m) (not (slots s t m)) (in_content-own_but s t m own there)).1

  -- A move that is lawful for a session is lawful in the table.
  fits : (s p : ℕ) (done : Move) (granted : List Wait) (content : Content) → IsInPartition p done → Moves (w.contents.now p) s done granted content
      → FitsOwn w.sessions.own (w.sessions.awaited s) s done → FitsOwn (own_but w.sessions.own slots) (w.sessions.awaited s) s done
  fits s p Keep granted content place moved own = tt
  fits s p (Grant t m) granted content place moved own = (own.0, own_but-false w.sessions.own slots s t m own.1)
  fits s p (Join t m) granted content place moved own = (own.0, own_but-false w.sessions.own slots s t m own.1)
  fits s p (Release t m) granted content place moved own =
      in_content-own_but s t m own (ap (λ q. (w.contents.now q).holds s t m) place ∙ moved.0)
  fits s p (Leave t) granted content place moved own = tt
  fits s p (Adopt k i) granted content place moved own = absurd moved

  pub MayMove-tabled : (s p : ℕ) (done : Move) (granted : List Wait) (content : Content) → MayMove w s p done granted content → MayMove (tabled w) s p done granted content
  MayMove-tabled s p done granted content may = record {
    steps = may.steps;
    holding = may.holding;
    unrecorded = may.unrecorded;
    object = may.object;
    own = fits s p done granted content may.object may.moved may.own;
    counted = may.counted;
    moved = may.moved;
  }

  -- Own holds follow the move in the table as they do.
  own_but-after : (s p : ℕ) (done : Move) (granted : List Wait) (content : Content) → IsInPartition p done → Moves (w.contents.now p) s done granted content
      → FitsOwn w.sessions.own (w.sessions.awaited s) s done
      → own_after (own_but w.sessions.own slots) s done ≡ own_but (own_after w.sessions.own s done) slots
  own_but-after s p Keep granted content place moved own = refl
  own_but-after s p (Grant t m) granted content place moved own =
      sym (own_but-set_hold w.sessions.own slots s t m true true (ap not (not_own-no_slot s t m own.1)))
  own_but-after s p (Join t m) granted content place moved own = refl
  own_but-after s p (Release t m) granted content place moved own = sym (own_but-set_hold w.sessions.own slots s t m false false refl)
  own_but-after s p (Leave t) granted content place moved own = refl
  own_but-after s p (Adopt k i) granted content place moved own = absurd moved

  pub tabled-after : (s p : ℕ) (done : Move) (granted : List Wait) (content : Content) → MayMove w s p done granted content
      → own_after (own_but w.sessions.own slots) s done ≡ own_but (own_after w.sessions.own s done) slots
  tabled-after s p done granted content may = own_but-after s p done granted content may.object may.moved may.own

  -- What the session releases is in no slot.
  pub released-no_slot : (s p : ℕ) (done : Move) (granted : List Wait) (content : Content) → MayMove w s p done granted content
      → (t : Tag) (m : Mode) → done ≡ Release t m → slots s t m ≡ false
  released-no_slot s p done granted content may t m is =
      let place : partition_of t ≡ p = subst (IsInPartition p) is may.object in
      let moved : Moves (w.contents.now p) s (Release t m) granted content = subst (λ made. Moves (w.contents.now p) s made granted content) is may.moved in
      in_content-no_slot s t m (subst (FitsOwn w.sessions.own (w.sessions.awaited s) s) is may.own) (ap (λ q. (w.contents.now q).holds s t m) place ∙ moved.0)
