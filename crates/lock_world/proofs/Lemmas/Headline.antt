use Rattle.std.proofs.Common.{◌≡◌, ◌≢◌, ◌⊎◌, ℕ, ◌+◌, ◌<◌, Bool, true, false, not, ◌||◌, ◌&&◌, List, [], ◌∷◌, Option, Some, None, refl, sym, ap, ◌∙◌, subst, inl, inr, arith, zero, suc}
use Rattle.std.specs.Prelude.{◌==◌, find, if◌then◌else◌}
use Rattle.std.specs.List.{list_any}
use Rattle.std.proofs.lemmas.Bool.{cases_Bool, both_ways, false≢true, and_from, or_cases, or_left, or_right, cond-true, cond-false, eq-eqb}
use Rattle.modes_core.specs.declared.modes.Mode.{Mode}
use Rattle.modes_core.specs.declared.tags.Tag.{Tag}
use Rattle.modes_core.specs.declared.refusals.How.{How}
use Rattle.modes_core.specs.declared.refusals.How.TheVariants.{Held, Awaited}
use Rattle.modes_core.specs.Mode.{mode_eq}
use Rattle.modes_core.specs.Conflict.{conflict}
use Rattle.modes_core.specs.Tag.{partition_of, is_strong_on}
use Rattle.modes_core.proofs.Lemmas.Conflicts.{conflict_comm, mode_eq-refl}
use Rattle.lock_table.specs.declared.answering.Clash.{Clash}
use Rattle.lock_table.specs.Content.{Holds, Wait, Content}
use Rattle.lock_table.specs.Clash.{ClashIs, ClashAfterWaiters, IsConflictingHolder, first_waiter}
use Rattle.lock_table.specs.OwnWait.{OwnWait, is_for, is_pending}
use Rattle.lock_table.specs.Queue.{waits_there}
use Rattle.lock_table.specs.Total.{total, how_many}
use Rattle.lock_world.specs.Counted.{is_done}
use Rattle.lock_world.specs.World.{World}
use Rattle.lock_world.specs.Safe.{stages}
use Rattle.lock_world.specs.SafeWorld.{SafeWorld, slots_of}
use Rattle.lock_world.specs.Headline.{stands_with, Place, InSlot, InPartition, StandsAt, IsInOnePlace, IsInTheWay, IsThereAs, Headline}
use Rattle.lock_world.proofs.Lemmas.Slots.Eligible.{held-is_in, is_in-held}
use Rattle.lock_world.proofs.Lemmas.SafeWorld.Tabled.{pending-for}
use Rattle.lock_world.proofs.Lemmas.FromSafeWorld.{live-within, no_conflict-own_world, no_conflict-slot_content, shown-in_no_content, shown-in_one_slot}

-- A safe World has the headline.

-- How many pass one of two tests, where none passes both.
one_of_two : (first second : Bool) → (first ≡ true → second ≡ false) → ◌≡◌ {A = ℕ} (if first || second then 1 else 0) ((if first then 1 else 0) + (if second then 1 else 0))
one_of_two true true apart = absurd (both_ways true (apart refl) refl)
one_of_two true false apart = refl
one_of_two false true apart = refl
one_of_two false false apart = refl

how_many-either : (limit : ℕ) (first second : ℕ → Bool) → ((k : ℕ) → first k ≡ true → second k ≡ false)
    → how_many limit (λ k. first k || second k) ≡ how_many limit first + how_many limit second
unfolding total
how_many-either zero first second apart = refl
how_many-either (suc limit) first second apart =
    let before : how_many limit (λ k. first k || second k) ≡ how_many limit first + how_many limit second = how_many-either limit first second apart in
    let here = one_of_two (first limit) (second limit) (apart limit) in
    omega (arith, before, here)

-- What a search finds passes, and stands in the list.
found-passes : {X : Type 0} (p : X → Bool) (xs : List X) (x : X) → find p xs ≡ Some x → p x ≡ true
found-passes p [] x found = absurd (cc)
found-passes p (y ∷ xs) x found =
    elim (cases_Bool (p y)) [
      | inl passes ↦ let is : Some y ≡ Some x = sym (cond-true (p y) (Some y) (find p xs) passes) ∙ found in let same : y ≡ x = cc in ap p (sym same) ∙ passes
      | inr fails ↦ found-passes p xs x (sym (cond-false (p y) (Some y) (find p xs) fails) ∙ found)
    ]

found-any : {X : Type 0} (p q : X → Bool) (xs : List X) (x : X) → find p xs ≡ Some x → q x ≡ true → list_any q xs ≡ true
found-any p q [] x found is = absurd (cc)
found-any p q (y ∷ xs) x found is =
    elim (cases_Bool (p y)) [
      | inl passes ↦
          let first : Some y ≡ Some x = sym (cond-true (p y) (Some y) (find p xs) passes) ∙ found in
          let same : y ≡ x = cc in
          or_left (q y) (list_any q xs) (ap q same ∙ is)
      | inr fails ↦ or_right (q y) (list_any q xs) (found-any p q xs x (sym (cond-false (p y) (Some y) (find p xs) fails) ∙ found) is)
    ]

-- What a request clashes with is in its way.
pub clash-in_the_way : (content : Content) (s : ℕ) (t : Tag) (m : Mode) (clash : Clash) → ClashIs content s t m (Some clash) → IsInTheWay content s t m clash
clash-in_the_way content s t m clash is = at (first_waiter (content.waits t) m) refl is where
  waits : (waiter : Wait) → first_waiter (content.waits t) m ≡ Some waiter → IsInTheWay content s t m (record { session = waiter.session; mode = waiter.mode; how = Awaited })
  waits waiter found = record {
    conflicting = found-passes (λ wait. conflict m wait.mode) (content.waits t) waiter found;
    there = (
      found-any (λ wait. conflict m wait.mode) (λ wait. (wait.session == waiter.session) && mode_eq wait.mode waiter.mode) (content.waits t) waiter found
          (and_from (waiter.session == waiter.session) (mode_eq waiter.mode waiter.mode) (eq-eqb waiter.session waiter.session refl) (mode_eq-refl waiter.mode)),
      λ none same. both_ways (waits_there (content.waits t) s) none
          (found-any (λ wait. conflict m wait.mode) (λ wait. wait.session == s) (content.waits t) waiter found (eq-eqb waiter.session s same)),
    );
  }

  holds : (how : How) → IsConflictingHolder content.holds s t m clash.session clash.mode → how ≡ Held → IsThereAs how content s t clash.session clash.mode
  holds how holder held = subst (λ h. IsThereAs h content s t clash.session clash.mode) (sym held) (holder.holding, holder.another)

  at : (first : Option Wait) → first_waiter (content.waits t) m ≡ first → ClashAfterWaiters first content s t m (Some clash) → IsInTheWay content s t m clash
  at None none its = record { conflicting = its.0.conflicting; there = holds clash.how its.0 its.1 }
  at (Some waiter) found its =
      let same : record { session = waiter.session; mode = waiter.mode; how = Awaited } ≡ clash = cc in
      subst (IsInTheWay content s t m) same (waits waiter found)

-- Of own holds those in slots, and the others with what was granted, are all.
own_in_parts : (own slot granted : Bool) → (slot ≡ true → own ≡ true) → (slot || ((own && not slot) || granted)) ≡ (own || granted)
own_in_parts true true granted is = refl
own_in_parts true false granted is = refl
own_in_parts false true granted is = absurd (both_ways false refl (is refl))
own_in_parts false false granted is = refl

module _ (w : World) (safe : SafeWorld w) where
  abbrev slots : Holds
  slots = slots_of w.words.database w.words.slot

  abbrev content : Tag → Holds
  content t = (w.contents.now (partition_of t)).holds

  -- What a session stands with, it shows in a slot or has in the content.
  stands-at : (s : ℕ) (t : Tag) (m : Mode) → stands_with w s t m ≡ true → (slots s t m ≡ true) ⊎ (content t s t m ≡ true)
  stands-at s t m stands = or_cases (slots s t m) (content t s t m) stands

  -- What stands in slots conflicts with nothing there: both are own holds.
  no_conflict-slots : (s o : ℕ) (t : Tag) (m n : Mode) → s ≢ o → slots s t m ≡ true → slots o t n ≡ true → conflict m n ≡ false
  no_conflict-slots s o t m n apart shown its = no_conflict-own_world w safe s o t m n apart (safe.slots.are_own s t m shown) (safe.slots.are_own o t n its)

  no_conflict : (s o : ℕ) (t : Tag) (m n : Mode) → s ≢ o → stands_with w s t m ≡ true → stands_with w o t n ≡ true → conflict m n ≡ false
  no_conflict s o t m n apart stands its = at (stands-at s t m stands) (stands-at o t n its) where
    at : (slots s t m ≡ true) ⊎ (content t s t m ≡ true) → (slots o t n ≡ true) ⊎ (content t o t n ≡ true) → conflict m n ≡ false
    at (inl shown) (inl its_shown) = no_conflict-slots s o t m n apart shown its_shown
    at (inl shown) (inr there) = no_conflict-slot_content w safe (partition_of t) s o t m n shown there
    at (inr there) (inl its_shown) = conflict_comm m n ∙ no_conflict-slot_content w safe (partition_of t) o s t n m its_shown there
    at (inr there) (inr its_there) = safe.but_slots.table.promise.no_conflict (partition_of t) s o t m n apart there its_there

  own-or_granted : (s : ℕ) (t : Tag) (m : Mode) → stands_with w s t m ≡ (w.sessions.own s t m || is_pending (w.sessions.awaited s) (stages w s) t m)
  own-or_granted s t m =
      ap (λ b. slots s t m || b) ((safe.but_slots.table.promise.one_place.on_object t).held s m)
      ∙ own_in_parts (w.sessions.own s t m) (slots s t m) (is_pending (w.sessions.awaited s) (stages w s) t m) (safe.slots.are_own s t m)

  stands-own_or_awaited : (s : ℕ) (t : Tag) (m : Mode) → stands_with w s t m ≡ true → (w.sessions.own s t m ≡ true) ⊎ (is_for (w.sessions.awaited s) t m ≡ true)
  stands-own_or_awaited s t m stands =
      elim (or_cases (w.sessions.own s t m) (is_pending (w.sessions.awaited s) (stages w s) t m) (sym (own-or_granted s t m) ∙ stands)) [
        | inl own ↦ inl own
        | inr granted ↦ inr (pending-for (w.sessions.awaited s) (stages w s) t m granted)
      ]

  -- A hold is in one place.
  in_slot : (s : ℕ) (t : Tag) (m : Mode) → slots s t m ≡ true → IsInOnePlace w s t m
  in_slot s t m shown = let found = held-is_in (w.words.database s) (w.words.slot s) t m shown in record {
    place = InSlot found.0;
    there = found.1;
    no_other = other found.0 found.1;
  } where
    other : (place : ℕ) → StandsAt w s t m (InSlot place) → (q : Place) → StandsAt w s t m q → q ≡ InSlot place
    other place is (InSlot i) its = ap InSlot (shown-in_one_slot w safe s i place t m its is)
    other place is (InPartition p) its = absurd (both_ways ((w.contents.now p).holds s t m) (shown-in_no_content w safe p s t m shown) its)

  in_content : (s : ℕ) (t : Tag) (m : Mode) → content t s t m ≡ true → IsInOnePlace w s t m
  in_content s t m there = record { place = InPartition (partition_of t); there = there; no_other = other } where
    other : (q : Place) → StandsAt w s t m q → q ≡ InPartition (partition_of t)
    other (InSlot i) its = absurd (both_ways (content t s t m) (shown-in_no_content w safe (partition_of t) s t m (is_in-held (w.words.database s) (w.words.slot s) t m i its)) there)
    other (InPartition p) its = ap InPartition (sym (safe.but_slots.table.promise.one_place.no_hold_elsewhere p s t m its))

  in_one_place : (s : ℕ) (t : Tag) (m : Mode) → stands_with w s t m ≡ true → IsInOnePlace w s t m
  in_one_place s t m stands =
      elim (stands-at s t m stands) [
        | inl shown ↦ in_slot s t m shown
        | inr there ↦ in_content s t m there
      ]

  nowhere_else : (s : ℕ) (t : Tag) (m : Mode) (place : Place) → StandsAt w s t m place → stands_with w s t m ≡ true
  nowhere_else s t m (InSlot i) its = or_left (slots s t m) (content t s t m) (is_in-held (w.words.database s) (w.words.slot s) t m i its)
  nowhere_else s t m (InPartition p) its =
      or_right (slots s t m) (content t s t m)
      (subst (λ q. (w.contents.now q).holds s t m ≡ true) (sym (safe.but_slots.table.promise.one_place.no_hold_elsewhere p s t m its)) its)

  -- Whoever stands with a mode is below the limit.
  stands-within : (s : ℕ) (t : Tag) (m : Mode) → stands_with w s t m ≡ true → s < w.numbers.limit
  stands-within s t m stands =
      elim (cases_Bool (w.numbers.live s)) [
        | inl alive ↦ live-within w safe s alive
        | inr dead ↦ absurd (none dead (stands-own_or_awaited s t m stands))
      ] where
        none : w.numbers.live s ≡ false → (w.sessions.own s t m ≡ true) ⊎ (is_for (w.sessions.awaited s) t m ≡ true) → ⊥
        none dead (inl own) = both_ways (w.sessions.own s t m) (safe.order.no_hold s t m dead) own
        none dead (inr awaits) = false≢true (sym (ap (λ (a : Option OwnWait). is_for a t m) (safe.but_slots.table.promise.spent.no_wait s dead)) ∙ awaits)

  strong-done : (s : ℕ) (t : Tag) (m : Mode) → is_strong_on t m ≡ true → stands_with w s t m ≡ true → is_done w.numbers.limit (w.sessions.counted s) t m ≡ true
  strong-done s t m strong stands =
      elim (stands-own_or_awaited s t m stands) [
        | inl own ↦ safe.done.held s t m strong own
        | inr awaits ↦ safe.done.awaits s t m strong awaits
      ]

  pub headline : Headline w
  headline = record {
    no_two_conflict = no_conflict;
    own_or_granted = own-or_granted;
    one_place = in_one_place;
    nowhere_else = nowhere_else;
    as_many = λ t m.
        how_many-either w.numbers.limit (λ s. slots s t m) (λ s. content t s t m) (λ s shown. shown-in_no_content w safe (partition_of t) s t m shown);
    within = stands-within;
    counters = safe.counters.shown;
    strong_is_counted = strong-done;
  }
