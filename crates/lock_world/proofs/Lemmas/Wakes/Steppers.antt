use Rattle.std.proofs.Common.{◌≡◌, ◌⊎◌, ℕ, Bool, true, false, Option, Some, None, refl, sym, ◌∙◌, inl, inr}
use Rattle.std.proofs.lemmas.Bool.{both_ways}
use Rattle.lock_world.specs.declared.events.Step.{Step}
use Rattle.lock_world.specs.declared.events.Step.TheVariants.{SplitSeat, JoinSeat}
use Rattle.lock_world.specs.World.{World, Numbers, MakesSteps}
use Rattle.lock_world.specs.Happens.{HappensStep}
use Rattle.lock_world.specs.Wakes.{MakesNoStep}
use Rattle.lock_world.proofs.Lemmas.Wakes.Readings.{none-some}
use Rattle.lock_world.proofs.Lemmas.LawfulSteps.{LawfulStep, step_of, world_after, taking_partition, taking_fast, putting_partition, putting_recorded, putting_fast, sharing_partition, sharing_fast, unsharing_partition, unsharing_fast, being_issued, going_on, being_kept_apart, closing, asking_to_cancel, loading_wait, setting_waiting, marking_first, marking_next, clearing_seen, clearing_in_hand, leaving_queue, passing, reading_counter, loading, setting_slot, clearing_slot, storing_database, counting, uncounting, transferring, locking_partition_list, locking_fast_list, unlocking_partition_list, unlocking_fast_list, joining_list, leaving_list, taking_off, telling, loading_sleep, setting_partition_release_ok, setting_fast_release_ok, setting_partition_has_waiters, setting_fast_has_waiters, after_each}

-- A session that makes a step, but for splitting and joining its seat, makes steps, and the numbers stay.

-- all steps but the two of seats
abbrev pub IsNoSeat : Step → Type 0
IsNoSeat SplitSeat = ⊥
IsNoSeat (JoinSeat joiner) = ⊥
IsNoSeat step = Unit {0}

module _ {w : World} {s : ℕ} where
  pub makes_steps : (it : LawfulStep w s) → IsNoSeat (step_of it) → MakesSteps w.numbers s
  makes_steps (taking_partition p may) it = may.steps
  makes_steps (taking_fast o may) it = may.steps
  makes_steps (putting_partition p done content may) it = may.may_move.steps
  makes_steps (putting_recorded p done may) it = may.steps
  makes_steps (putting_fast o may) it = may.steps
  makes_steps (sharing_partition p exists may) it = may.steps
  makes_steps (sharing_fast o exists may) it = may.steps
  makes_steps (unsharing_partition p may) it = may.steps
  makes_steps (unsharing_fast o may) it = may.steps
  makes_steps (being_issued may) it = absurd it
  makes_steps (going_on may) it = absurd it
  makes_steps (being_kept_apart joiner may) it = absurd it
  makes_steps (closing may) it = absurd it
  makes_steps (asking_to_cancel o steps) it = steps
  makes_steps (loading_wait n may) it = may.steps
  makes_steps (setting_waiting t m content may) it = may.steps
  makes_steps (marking_first o p done granted content may) it = may.may_move.steps
  makes_steps (marking_next o p done may) it = may.steps
  makes_steps (clearing_seen wait may) it = may.steps
  makes_steps (clearing_in_hand wait leaving may) it = may.steps
  makes_steps (leaving_queue wait granted content may) it = may.may_move.steps
  makes_steps (passing o t m may) it = may.steps
  makes_steps (reading_counter i n may) it = may.steps
  makes_steps (loading word n may) it = may.steps
  makes_steps (setting_slot i t m may) it = may.steps
  makes_steps (clearing_slot i t m may) it = may.steps
  makes_steps (storing_database d may) it = may.steps
  makes_steps (counting t m may) it = may.steps
  makes_steps (uncounting t m may) it = may.steps
  makes_steps (transferring o i t m strong may) it = may.steps
  makes_steps (locking_partition_list p exists may) it = may.steps
  makes_steps (locking_fast_list o exists may) it = may.steps
  makes_steps (unlocking_partition_list p waiters release has) it = has.steps
  makes_steps (unlocking_fast_list o waiters release has) it = has.steps
  makes_steps (joining_list mode lock may) it = may.has.steps
  makes_steps (leaving_list lock may) it = may.has.steps
  makes_steps (taking_off o lock may) it = may.has.steps
  makes_steps (telling o may) it = may.steps
  makes_steps (loading_sleep n may) it = may.steps
  makes_steps (setting_partition_release_ok p n exists may) it = may.steps
  makes_steps (setting_fast_release_ok o n exists may) it = may.steps
  makes_steps (setting_partition_has_waiters p n may) it = may.has.steps
  makes_steps (setting_fast_has_waiters o n may) it = may.has.steps

  numbers_stay : (it : LawfulStep w s) → IsNoSeat (step_of it) → (world_after it).numbers ≡ w.numbers
  numbers_stay (being_issued may) it = absurd it
  numbers_stay (going_on may) it = absurd it
  numbers_stay (being_kept_apart joiner may) it = absurd it
  numbers_stay (closing may) it = absurd it
  numbers_stay step it = refl

pub step-makes : (w v : World) (s : ℕ) (step : Step) → IsNoSeat step → HappensStep w s step v → MakesSteps w.numbers s × (v.numbers ≡ w.numbers)
step-makes w v s step it h =
    after_each w s (λ made u. IsNoSeat made → MakesSteps w.numbers s × (u.numbers ≡ w.numbers)) (λ made no_seat. (makes_steps made no_seat, numbers_stay made no_seat)) step v h it

-- A number makes steps, or it makes none; never both.
pub makes-some : (numbers : Numbers) (s : ℕ) → MakesSteps numbers s → MakesNoStep numbers s → ⊥
makes-some numbers s makes (inl dead) = both_ways (numbers.live s) dead makes.live
makes-some numbers s makes (inr kept) = none-some (kept.0) (sym makes.by_itself ∙ kept.1)

pub makes-or-not : (numbers : Numbers) (s : ℕ) → MakesSteps numbers s ⊎ MakesNoStep numbers s
makes-or-not numbers s = by (numbers.live s) (numbers.kept_by s) refl refl where
  by : (live : Bool) (kept : Option ℕ) → numbers.live s ≡ live → numbers.kept_by s ≡ kept → MakesSteps numbers s ⊎ MakesNoStep numbers s
  by false kept dead its = inr (inl dead)
  by true None live its = inl (record { live = live; by_itself = its })
  by true (Some j) live its = inr (inr (j, its))
