use Rattle.std.proofs.Common.{◌≡◌, ℕ, ◌<◌, ◌≤◌, Bool, true, false, List, [], length, get_or, Some, None, sym, ap, ◌∙◌, subst, inl, inr, arith}
use Rattle.std.proofs.lemmas.Bool.{cases_lt, both_ways}
use Rattle.std.proofs.lemmas.List.{get_or_past}
use Rattle.modes_core.specs.declared.modes.Mode.{Mode}
use Rattle.modes_core.specs.declared.tags.Tag.{Tag}
use Rattle.modes_core.specs.Sessions.{usual_sessions}
use Rattle.lw_word.specs.LightweightWord.{IsListLocked}
use Rattle.lw_word.specs.LockState.{LockState, opening_state, state_of}
use Rattle.lw_word.proofs.Lemmas.States.{bit_is_set}
use Rattle.lock_table.specs.declared.moves.Move.{Move}
use Rattle.lock_world.specs.declared.events.Step.{Step}
use Rattle.lock_world.specs.declared.events.Step.TheVariants.{TakeExclusive, PutExclusive, TakeShared, PutShared, SplitSeat, JoinSeat, PutPassing, TransferSlot, LockList, UnlockList, TakeOff, Tell, SetReleaseOk, SetHasWaiters}
use Rattle.lock_world.specs.declared.events.Word.TheVariants.{Fast}
use Rattle.lock_world.specs.World.{World}
use Rattle.lock_world.specs.WaitLists.{fast_lock}
use Rattle.lock_world.specs.Happens.{HappensStep, Next}
use Rattle.lock_world.specs.Happens.Lists.{HasList}
use Rattle.lock_world.specs.SafeWorld.{SafeWorld}
use Rattle.lock_world.proofs.Lemmas.ListWords.{lock_word-fast}
use Rattle.lock_world.proofs.Lemmas.Wakes.Steppers.{step-makes}
use Rattle.lock_model.specs.declared.machine.state.Machine.{Machine}
use Rattle.lock_model.specs.Shows.{Shows, ShowsMarks}
use Rattle.lock_model.proofs.Lemmas.Follows.Skipped.{skipped}

-- The machine has 64 sessions. No other one makes a lawful step, and no lawful step is on the lock, the seat,
-- the slots or the sleep word of another one.

-- only locks that there are have marks
marked-within : (marks : List (List Bool)) (has : ℕ → ℕ → Bool) (s o : ℕ) → ShowsMarks marks usual_sessions has → has s o ≡ true → o < usual_sessions
marked-within marks has s o shown marked =
    elim (cases_lt o usual_sessions) [
      | inl within ↦ within
      | inr past ↦
          let beyond : length marks ≤ o = omega (arith, shown.as_many, past) in
          absurd (both_ways (has s o) (sym (shown.mark s o) ∙ ap (λ row. get_or row s false) (get_or_past marks o [] beyond)) marked)
    ]

module _ (m : Machine) (w : World) (safe : SafeWorld w) (shows : Shows m w) where
  live-within : (s : ℕ) → w.numbers.live s ≡ true → s < usual_sessions
  live-within s live =
      let numbers = safe.but_slots.table.carriers.numbers in
      omega (arith, numbers.live_is_issued s live, numbers.within, shows.numbers.limit)

  limit-within : (o : ℕ) → o < w.numbers.limit → o < usual_sessions
  limit-within o exists = subst (λ n. o < n) shows.numbers.limit exists

  asleep-within : (o n : ℕ) → w.words.sleep o ≡ n → 0 < n → o < usual_sessions
  asleep-within o n is some =
      elim (cases_lt o usual_sessions) [
        | inl within ↦ within
        | inr past ↦
            let beyond : length m.lists.sleep ≤ o = omega (arith, shows.lists.sixty_four, past) in
            let none : w.words.sleep o ≡ 0 = sym (shows.lists.sleep o) ∙ get_or_past m.lists.sleep o 0 beyond in
            absurd (omega (arith, none, is, some))
      ]

  -- The lock of a session that there is not has a free word, so that nobody has its list in hand.
  has_list-within : (s o : ℕ) → HasList w s (fast_lock o) → o < usual_sessions
  has_list-within s o has =
      elim (cases_lt o usual_sessions) [
        | inl within ↦ within
        | inr past ↦
            let beyond : length m.words.fast ≤ o = omega (arith, shows.words.sixty_four_fast, past) in
            let free : opening_state ≡ state_of (w.words.fast o) = sym (get_or_past m.words.fast o opening_state beyond) ∙ (shows.words.fast o).says in
            let locked : IsListLocked (w.words.fast o) =
            subst IsListLocked (lock_word-fast w.words.partition w.words.fast o) ((safe.lists.shown (fast_lock o)).had_is_shown s has.in_hand) in
            absurd (both_ways (state_of (w.words.fast o)).list_locked (sym (ap (λ (state : LockState). state.list_locked) free)) ((bit_is_set _).1 locked))
      ]

  steps-within : (s : ℕ) (step : Step) (v : World) → HappensStep w s step v → s < usual_sessions
  steps-within s SplitSeat v (inl issued) = limit-within s issued.0.within
  steps-within s SplitSeat v (inr on) = live-within s (safe.but_slots.table.carriers.numbers.kept_is_live s on.0.0 on.0.1)
  steps-within s (JoinSeat None) v h = live-within s h.0.steps.live
  steps-within s (JoinSeat (Some joiner)) v h = live-within s h.0.steps.live
  steps-within s step v h = live-within s (step-makes w v s step tt h).0.live

  -- What is lawful of this session only is skipped where it is another one.
  nothing-beyond : (s o : ℕ) (step : Step) → usual_sessions ≤ o → ((v : World) → HappensStep w s step v → o < usual_sessions)
      → (v : World) × Next w (record { session = s; step = step }) v × Shows m v
  nothing-beyond s o step past within = skipped m w safe shows s step (λ lawful. let below : o < usual_sessions = within lawful.0 lawful.1 in absurd (omega (arith, past, below)))

  pub step-beyond : (s : ℕ) (step : Step) → usual_sessions ≤ s → (v : World) × Next w (record { session = s; step = step }) v × Shows m v
  step-beyond s step past = nothing-beyond s s step past (steps-within s step)

  pub taking-beyond : (s o : ℕ) → usual_sessions ≤ o → (v : World) × Next w (record { session = s; step = TakeExclusive (Fast o) }) v × Shows m v
  taking-beyond s o past = nothing-beyond s o (TakeExclusive (Fast o)) past (λ v h. limit-within o h.0.exists)

  pub putting-beyond : (s o : ℕ) (done : Move) → usual_sessions ≤ o → (v : World) × Next w (record { session = s; step = PutExclusive (Fast o) done }) v × Shows m v
  putting-beyond s o done past =
      nothing-beyond s o (PutExclusive (Fast o) done) past (λ v h. marked-within m.locks.fast_holders w.sessions.holds_fast s o shows.locks.fast_holders h.1.0.holding)

  pub sharing-beyond : (s o : ℕ) → usual_sessions ≤ o → (v : World) × Next w (record { session = s; step = TakeShared (Fast o) }) v × Shows m v
  sharing-beyond s o past = nothing-beyond s o (TakeShared (Fast o)) past (λ v h. limit-within o h.0)

  pub unsharing-beyond : (s o : ℕ) → usual_sessions ≤ o → (v : World) × Next w (record { session = s; step = PutShared (Fast o) }) v × Shows m v
  unsharing-beyond s o past =
      nothing-beyond s o (PutShared (Fast o)) past (λ v h. marked-within m.locks.fast_sharers w.sessions.shares_fast s o shows.locks.fast_sharers h.0.sharing)

  pub joining-beyond : (s o : ℕ) → usual_sessions ≤ o → (v : World) × Next w (record { session = s; step = JoinSeat (Some o) }) v × Shows m v
  joining-beyond s o past = nothing-beyond s o (JoinSeat (Some o)) past (λ v h. live-within o h.0.joiner_steps.live)

  pub passing-beyond : (s o : ℕ) (t : Tag) (n : Mode) → usual_sessions ≤ o → (v : World) × Next w (record { session = s; step = PutPassing o t n }) v × Shows m v
  passing-beyond s o t n past = nothing-beyond s o (PutPassing o t n) past (λ v h. limit-within o h.0.exists)

  pub transferring-beyond : (s o place : ℕ) (t : Tag) (n strong : Mode) → usual_sessions ≤ o
      → (v : World) × Next w (record { session = s; step = TransferSlot o place t n strong }) v × Shows m v
  transferring-beyond s o place t n strong past = nothing-beyond s o (TransferSlot o place t n strong) past (λ v h. limit-within o h.0.exists)

  pub locking-beyond : (s o : ℕ) → usual_sessions ≤ o → (v : World) × Next w (record { session = s; step = LockList (Fast o) }) v × Shows m v
  locking-beyond s o past = nothing-beyond s o (LockList (Fast o)) past (λ v h. limit-within o h.0)

  pub unlocking-beyond : (s o : ℕ) (waiters release : Bool) → usual_sessions ≤ o → (v : World) × Next w (record { session = s; step = UnlockList (Fast o) waiters release }) v × Shows m v
  unlocking-beyond s o waiters release past = nothing-beyond s o (UnlockList (Fast o) waiters release) past (λ v h. has_list-within s o h.0)

  pub release_ok-beyond : (s o shown : ℕ) → usual_sessions ≤ o → (v : World) × Next w (record { session = s; step = SetReleaseOk (Fast o) shown }) v × Shows m v
  release_ok-beyond s o shown past = nothing-beyond s o (SetReleaseOk (Fast o) shown) past (λ v h. limit-within o h.0)

  pub has_waiters-beyond : (s o shown : ℕ) → usual_sessions ≤ o → (v : World) × Next w (record { session = s; step = SetHasWaiters (Fast o) shown }) v × Shows m v
  has_waiters-beyond s o shown past = nothing-beyond s o (SetHasWaiters (Fast o) shown) past (λ v h. has_list-within s o h.0.has)

  pub taking_off-beyond : (s o : ℕ) → usual_sessions ≤ o → (v : World) × Next w (record { session = s; step = TakeOff o }) v × Shows m v
  taking_off-beyond s o past = nothing-beyond s o (TakeOff o) past (λ v h. asleep-within o 1 h.1.waits (omega arith))

  pub telling-beyond : (s o : ℕ) → usual_sessions ≤ o → (v : World) × Next w (record { session = s; step = Tell o }) v × Shows m v
  telling-beyond s o past = nothing-beyond s o (Tell o) past (λ v h. asleep-within o 2 h.0.untold (omega arith))
