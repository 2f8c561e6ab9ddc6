use Rattle.std.proofs.Common.{◌≡◌, ◌≢◌, ◌⊎◌, ℕ, ◌<◌, ◌≤◌, true, false, not, Some, ap, ◌∙◌, inl, inr, arith}
use Rattle.std.specs.Prelude.{◌↔◌}
use Rattle.std.proofs.lemmas.Bool.{cases_Bool, both_ways, false_from_ne_true, and_parts, and_from, not-true}
use Rattle.modes_core.specs.declared.modes.Mode.{Mode}
use Rattle.modes_core.specs.declared.tags.Tag.{Tag}
use Rattle.modes_core.specs.Conflict.{conflict}
use Rattle.modes_core.specs.Tag.{index_of, partition_of, is_strong_on}
use Rattle.modes_core.proofs.Lemmas.Conflicts.{conflict_comm}
use Rattle.lock_table.specs.Content.{Holds}
use Rattle.lock_table.specs.OwnWait.{OwnWait, is_for}
use Rattle.lock_world.specs.WaitWord.{wait_state}
use Rattle.lock_world.specs.SlotHolds.{IsHeldIn}
use Rattle.lock_world.specs.Counted.{is_done}
use Rattle.lock_world.specs.World.{World, is_unmarked}
use Rattle.lock_world.specs.SafeWorld.{SafeWorld, slots_of, own_but, tabled}
use Rattle.lock_world.proofs.Lemmas.Slots.Eligible.{shown-in_use}
use Rattle.lock_world.proofs.Lemmas.Counters.Passing.{is_at-past}
use Rattle.lock_world.proofs.Lemmas.SlotsAgainstTable.{slot-no_conflict_own, slot-no_conflict_awaited}
use Rattle.lock_world.proofs.Lemmas.FromSafe.{IsOwnOrPending, no_conflict-own, held-own_or_pending, own_or_pending-held, granted-held}
use Rattle.lock_world.proofs.Lemmas.SafeWorld.OneSession.{is_for-itself}

-- What a safe World says of slots and contents together.

module _ (w : World) (safe : SafeWorld w) where
  abbrev slots : Holds
  slots = slots_of w.words.database w.words.slot

  -- An own hold is in a slot, or it is own in the table.
  in_place : (s : ℕ) (t : Tag) (m : Mode) → w.sessions.own s t m ≡ true → (slots s t m ≡ true) ⊎ (own_but w.sessions.own slots s t m ≡ true)
  in_place s t m own =
      elim (cases_Bool (slots s t m)) [
        | inl shown ↦ inl shown
        | inr not_shown ↦ inr (and_from (w.sessions.own s t m) (not (slots s t m)) own (ap not not_shown))
      ]

  -- Whoever is live is below the limit,
  pub live-within : (s : ℕ) → w.numbers.live s ≡ true → s < w.numbers.limit
  live-within s alive =
      let given : s < w.numbers.issued = safe.but_slots.table.carriers.numbers.live_is_issued s alive in
      let all : w.numbers.issued ≤ w.numbers.limit = safe.but_slots.table.carriers.numbers.within in
      omega (arith, given, all)

  -- and so is whoever has a hold,
  pub holder-within : (s : ℕ) (t : Tag) (m : Mode) → w.sessions.own s t m ≡ true → s < w.numbers.limit
  holder-within s t m own =
      elim (cases_Bool (w.numbers.live s)) [
        | inl alive ↦ live-within s alive
        | inr dead ↦ absurd (both_ways (w.sessions.own s t m) (safe.order.no_hold s t m dead) own)
      ]

  -- and whoever has read a counter as 0.
  reader-within : (s index : ℕ) → w.sessions.zero s ≡ Some index → s < w.numbers.limit
  reader-within s index read =
      elim (cases_Bool (w.numbers.live s)) [
        | inl alive ↦ live-within s alive
        | inr dead ↦ absurd (both_ways (w.sessions.holds_fast s s) (safe.but_slots.locks.no_fast s s dead) (safe.zero.holds s index read))
      ]

  slot_against_own : (s o : ℕ) (t : Tag) (m n : Mode) → slots s t m ≡ true → w.sessions.own o t n ≡ true → conflict m n ≡ false
  slot_against_own s o t m n shown own =
      slot-no_conflict_own w.numbers.limit w.sessions.counted w.sessions.own w.sessions.awaited w.words.database w.words.slot safe.done safe.past s o t m n
      (holder-within s t m (safe.slots.are_own s t m shown)) shown own

  -- No two sessions have conflicting holds on an object by their own accounts,
  pub no_conflict-own_world : (s o : ℕ) (t : Tag) (m n : Mode) → s ≢ o → w.sessions.own s t m ≡ true → w.sessions.own o t n ≡ true → conflict m n ≡ false
  no_conflict-own_world s o t m n apart own its =
      elim (in_place s t m own) [
        | inl shown ↦ slot_against_own s o t m n shown its
        | inr there ↦ elim (in_place o t n its) [
          | inl its_shown ↦ conflict_comm m n ∙ slot_against_own o s t n m its_shown own
          | inr its_there ↦ no_conflict-own (tabled w) safe.but_slots s o t m n apart there its_there
        ]
      ]

  -- and no hold in a slot conflicts with one in a content.
  pub no_conflict-slot_content : (p s o : ℕ) (t : Tag) (m n : Mode) → slots s t m ≡ true → (w.contents.now p).holds o t n ≡ true → conflict m n ≡ false
  no_conflict-slot_content p s o t m n shown its = at (held-own_or_pending (tabled w) safe.but_slots p o t n its).1 where
    at : IsOwnOrPending (tabled w) p o t n → conflict m n ≡ false
    at (inl own) = slot_against_own s o t m n shown (and_parts (w.sessions.own o t n) (not (slots o t n)) own).0
    at (inr pending) =
        slot-no_conflict_awaited w.numbers.limit w.sessions.counted w.sessions.own w.sessions.awaited w.words.database w.words.slot safe.done safe.past s o t m n
        (holder-within s t m (safe.slots.are_own s t m shown)) shown pending.0

  -- A hold stands in a content where it is own and in no slot, or a pending grant.
  abbrev pub IsInTable : ℕ → ℕ → Tag → Mode → Type 0
  IsInTable p s t m =
      (partition_of t ≡ p)
      × (((w.sessions.own s t m ≡ true) × (slots s t m ≡ false))
      ⊎ ((is_for (w.sessions.awaited s) t m ≡ true) × ((wait_state (w.words.wait s) ≡ 2) ⊎ (is_unmarked (w.contents.hand p) s ≡ true))))

  pub held-in_table : (p s : ℕ) (t : Tag) (m : Mode) → ((w.contents.now p).holds s t m ≡ true) ↔ IsInTable p s t m
  held-in_table p s t m = (
    λ has. let found = held-own_or_pending (tabled w) safe.but_slots p s t m has in (found.0, there found.1),
    λ is. own_or_pending-held (tabled w) safe.but_slots p s t m is.0 (back is.1),
  ) where
    there : IsOwnOrPending (tabled w) p s t m
        → ((w.sessions.own s t m ≡ true) × (slots s t m ≡ false)) ⊎ ((is_for (w.sessions.awaited s) t m ≡ true) × ((wait_state (w.words.wait s) ≡ 2) ⊎ (is_unmarked (w.contents.hand p) s ≡ true)))
    there (inl own) = let both = and_parts (w.sessions.own s t m) (not (slots s t m)) own in inl (both.0, not-true (slots s t m) both.1)
    there (inr pending) = inr pending

    back : ((w.sessions.own s t m ≡ true) × (slots s t m ≡ false)) ⊎ ((is_for (w.sessions.awaited s) t m ≡ true) × ((wait_state (w.words.wait s) ≡ 2) ⊎ (is_unmarked (w.contents.hand p) s ≡ true)))
        → IsOwnOrPending (tabled w) p s t m
    back (inl own) = inl (and_from (w.sessions.own s t m) (not (slots s t m)) own.0 (ap not own.1))
    back (inr pending) = inr pending

  -- What a slot shows is own, and in no content.
  pub shown-in_no_content : (p s : ℕ) (t : Tag) (m : Mode) → slots s t m ≡ true → (w.contents.now p).holds s t m ≡ false
  shown-in_no_content p s t m shown = false_from_ne_true ((w.contents.now p).holds s t m) (λ has. at ((held-in_table p s t m).0 has).1) where
    at : ((w.sessions.own s t m ≡ true) × (slots s t m ≡ false)) ⊎ ((is_for (w.sessions.awaited s) t m ≡ true) × ((wait_state (w.words.wait s) ≡ 2) ⊎ (is_unmarked (w.contents.hand p) s ≡ true))) → ⊥
    at (inl own) = both_ways (slots s t m) own.1 shown
    at (inr pending) = both_ways (w.sessions.own s t m) (safe.order.awaited_is_not_own s t m pending.0) (safe.slots.are_own s t m shown)

  -- A hold is in one slot only.
  pub shown-in_one_slot :
      (s place other : ℕ) (t : Tag) (m : Mode) → IsHeldIn (w.words.database s) (w.words.slot s) t m place → IsHeldIn (w.words.database s) (w.words.slot s) t m other
      → place ≡ other
  shown-in_one_slot s place other t m one two =
      safe.slots.one_each s _ place other one.within two.within (shown-in_use (w.words.slot s place) _ m one.shown) (shown-in_use (w.words.slot s other) _ m two.shown)

  -- What a wait was granted is a hold in the content, and not own yet.
  pub granted-held_world : (s : ℕ) → wait_state (w.words.wait s) ≡ 2
      → (wait : OwnWait) × (w.sessions.awaited s ≡ Some wait) × ((w.contents.now (partition_of wait.tag)).holds s wait.tag wait.mode ≡ true) × (w.sessions.own s wait.tag wait.mode ≡ false)
  granted-held_world s two =
      let found = granted-held (tabled w) safe.but_slots s two in
      let awaits : is_for (w.sessions.awaited s) found.0.tag found.0.mode ≡ true = ap (λ a. is_for a found.0.tag found.0.mode) found.1 ∙ is_for-itself found.0 in
      (found.0, found.1, found.2, safe.order.awaited_is_not_own s found.0.tag found.0.mode awaits)

  -- Where a session has read a counter as 0, nobody has a strong mode on an object of its index, nor awaits
  -- one.
  pub permitted-none : (s o : ℕ) (t : Tag) (m : Mode) → w.sessions.zero s ≡ Some (index_of t) → is_strong_on t m ≡ true
      → (w.sessions.own o t m ≡ false) × (is_for (w.sessions.awaited o) t m ≡ false)
  permitted-none s o t m read strong = (
    false_from_ne_true (w.sessions.own o t m) (λ own. not_done (safe.done.held o t m strong own)),
    false_from_ne_true (is_for (w.sessions.awaited o) t m) (λ awaits. not_done (safe.done.awaits o t m strong awaits)),
  ) where
    not_done : is_done w.numbers.limit (w.sessions.counted o) t m ≡ true → ⊥
    not_done done =
        both_ways _ (safe.zero.nobody_is_past s o t read) (is_at-past (w.sessions.counted o) t m w.numbers.limit s (reader-within s (index_of t) read) done)
