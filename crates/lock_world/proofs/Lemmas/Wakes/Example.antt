use Rattle.std.proofs.Common.{◌≡◌, ℕ, ◌^◌, true, false, List, [], ◌∷◌, None, refl, subst, inl, inr, arith}
use Rattle.lw_word.specs.declared.words.LwMode.TheVariants.{Exclusive}
use Rattle.lw_word.specs.LightweightWord.{release_ok_word, has_waiters_word}
use Rattle.lock_table.specs.declared.moves.Move.TheVariants.{Keep}
use Rattle.lock_world.specs.declared.events.Step.{Step}
use Rattle.lock_world.specs.declared.events.Step.TheVariants.{TakeExclusive, PutExclusive, SplitSeat, LockList, UnlockList, JoinList, TakeOff, Tell, LoadSleep, SetReleaseOk, SetHasWaiters}
use Rattle.lock_world.specs.declared.events.Word.TheVariants.{Fast}
use Rattle.lock_world.specs.World.{World, MakesSteps, opening}
use Rattle.lock_world.specs.Happens.Seats.{after_issuing}
use Rattle.lock_world.specs.Happens.Slots.{after_taking_fast, after_putting_fast}
use Rattle.lock_world.specs.Happens.Lists.{after_locking_fast_list, after_unlocking_fast_list, after_flagging_fast, after_joining_list, after_taking_off_the_list, after_telling_one, after_loading_sleep}
use Rattle.lock_world.specs.Wakes.Waking.{HasLock, IsAsleep, tries_next, nobody_waits}
use Rattle.lock_world.specs.Wakes.Owing.{waking, MaySleep, IsLatest}
use Rattle.lock_world.specs.Wakes.{Beside, nothing_beside, Turn, happened, saw_held, called_sleeper, parks_asleep, KeepsInOrder, beside_after, RunsBy, IsParkedAsleep, SleepAndWakeup}
use Rattle.lock_world.proofs.Lemmas.Wakes.Readings.{none-some, some-same}
use Rattle.lock_world.proofs.Lemmas.Wakes.Runs.{none-held}

-- A run in which session 1 sleeps for the lock of the slots of session 0, which has it, and is woken as
-- session 0 puts it.

abbrev made : ℕ → Step → Turn
made session step = happened (record { session = session; step = step })

-- Two numbers are issued, and session 0 takes the lock.
abbrev first_live : World
first_live = after_issuing (opening 2 1) 0

abbrev both_live : World
both_live = after_issuing first_live 1

abbrev taken : World
taken = after_taking_fast both_live 0 0

-- Session 1 locks the list, sets has-waiters, joins, and unlocks it; it sees the lock held, and loads its
-- sleep word.
abbrev list_locked : World
list_locked = after_locking_fast_list taken 1 0

abbrev flagged : World
flagged = after_flagging_fast list_locked 0 (has_waiters_word (list_locked.words.fast 0))

abbrev joined : World
joined = after_joining_list flagged 1 1 Exclusive

abbrev queued : World
queued = after_unlocking_fast_list joined 1 0 true true

abbrev asleep : World
asleep = after_loading_sleep queued 1 1

-- Session 0 puts the lock, locks the list, takes session 1 off, unlocks the list, and tells it.
abbrev put : World
put = after_putting_fast asleep 0 0

abbrev looked_at : World
looked_at = after_locking_fast_list put 0 0

abbrev taken_off : World
taken_off = after_taking_off_the_list looked_at 0 1 1

abbrev left : World
left = after_unlocking_fast_list taken_off 0 0 false false

abbrev told : World
told = after_telling_one left 0 1

-- Session 1 loads its sleep word, sets release-ok, and takes the lock.
abbrev awake : World
awake = after_loading_sleep told 1 0

abbrev released : World
released = after_flagging_fast awake 0 (release_ok_word (awake.words.fast 0))

abbrev won : World
won = after_taking_fast released 1 0

abbrev to_sleep : List Turn
to_sleep =
    made 0 SplitSeat ∷ made 1 SplitSeat ∷ made 0 (TakeExclusive (Fast 0)) ∷ made 1 (LockList (Fast 0))
    ∷ made 1 (SetHasWaiters (Fast 0) (list_locked.words.fast 0)) ∷ made 1 (JoinList Exclusive) ∷ made 1 (UnlockList (Fast 0) true true)
    ∷ saw_held 1 1 ∷ made 1 (LoadSleep 1) ∷ parks_asleep 1 1 ∷ []

abbrev to_wake : List Turn
to_wake =
    made 0 (PutExclusive (Fast 0) Keep) ∷ made 0 (LockList (Fast 0)) ∷ made 0 (TakeOff 1) ∷ made 0 (UnlockList (Fast 0) false false)
    ∷ made 0 (Tell 1) ∷ called_sleeper 0 1 ∷ made 1 (LoadSleep 0) ∷ made 1 (SetReleaseOk (Fast 0) (awake.words.fast 0))
    ∷ made 1 (TakeExclusive (Fast 0)) ∷ []

-- what stands beside each of these Worlds
abbrev beside_first_live : Beside
beside_first_live = beside_after (opening 2 1) nothing_beside (made 0 SplitSeat)

abbrev beside_both_live : Beside
beside_both_live = beside_after first_live beside_first_live (made 1 SplitSeat)

abbrev beside_taken : Beside
beside_taken = beside_after both_live beside_both_live (made 0 (TakeExclusive (Fast 0)))

abbrev beside_list_locked : Beside
beside_list_locked = beside_after taken beside_taken (made 1 (LockList (Fast 0)))

abbrev beside_flagged : Beside
beside_flagged = beside_after list_locked beside_list_locked (made 1 (SetHasWaiters (Fast 0) (list_locked.words.fast 0)))

abbrev beside_joined : Beside
beside_joined = beside_after flagged beside_flagged (made 1 (JoinList Exclusive))

abbrev beside_queued : Beside
beside_queued = beside_after joined beside_joined (made 1 (UnlockList (Fast 0) true true))

abbrev beside_held_seen : Beside
beside_held_seen = beside_after queued beside_queued (saw_held 1 1)

abbrev beside_loaded : Beside
beside_loaded = beside_after queued beside_held_seen (made 1 (LoadSleep 1))

abbrev beside_asleep : Beside
beside_asleep = beside_after asleep beside_loaded (parks_asleep 1 1)

abbrev beside_put : Beside
beside_put = beside_after asleep beside_asleep (made 0 (PutExclusive (Fast 0) Keep))

abbrev beside_looked_at : Beside
beside_looked_at = beside_after put beside_put (made 0 (LockList (Fast 0)))

abbrev beside_taken_off : Beside
beside_taken_off = beside_after looked_at beside_looked_at (made 0 (TakeOff 1))

abbrev beside_left : Beside
beside_left = beside_after taken_off beside_taken_off (made 0 (UnlockList (Fast 0) false false))

abbrev beside_told : Beside
beside_told = beside_after left beside_left (made 0 (Tell 1))

abbrev beside_called : Beside
beside_called = beside_after told beside_told (called_sleeper 0 1)

abbrev beside_awake : Beside
beside_awake = beside_after told beside_called (made 1 (LoadSleep 0))

abbrev beside_released : Beside
beside_released = beside_after awake beside_awake (made 1 (SetReleaseOk (Fast 0) (awake.words.fast 0)))

abbrev beside_won : Beside
beside_won = beside_after released beside_released (made 1 (TakeExclusive (Fast 0)))

steps : (w : World) (s : ℕ) → w.numbers.live s ≡ true → w.numbers.kept_by s ≡ None → MakesSteps w.numbers s
steps w s live by_itself = record { live = live; by_itself = by_itself }

may-sleep-there : MaySleep asleep beside_loaded.duties beside_loaded.waits beside_loaded.sleeps 1
may-sleep-there = record {
  lock = 1;
  stands = refl;
  not_won = λ has. absurd (none-held 1 has);
  no_look = refl;
  no_try = refl;
  no_list = refl;
  tells_nobody = λ o. refl;
  calls_no_waiter = λ o. refl;
  calls_no_sleeper = λ o. refl;
}

pub goes-to-sleep : RunsBy KeepsInOrder (opening 2 1) nothing_beside to_sleep asleep beside_asleep
goes-to-sleep = (
  first_live,
  ((inl (record { next = refl; within = omega arith }, refl), tt), tt),
  (
    both_live,
    ((inl (record { next = refl; within = omega arith }, refl), tt), tt),
    (
      taken,
      (((record { steps = steps both_live 0 refl refl; exists = omega arith; free = refl }, refl), inl refl), λ awaited stands. absurd (none-some awaited stands)),
      (
        list_locked,
        (((omega arith, record { steps = steps taken 1 refl refl; unlocked = refl; no_list = refl }, refl), record { no_other = inl refl; tells_nobody = λ o. refl }), tt),
        (
          flagged,
          (((record { has = record { steps = steps list_locked 1 refl refl; in_hand = refl }; is_word = refl }, refl), tt), tt),
          (
            joined,
            (
              (
                (1, record { has = record { steps = steps flagged 1 refl refl; in_hand = refl }; idle = refl }, refl),
                record { flagged = refl; owes_no_ok = refl; no_other = λ lock has. inl refl },
              ),
              λ lock has. subst (λ l. IsLatest flagged 1 l) (some-same 1 lock has) (record { bound = omega arith; earlier = λ held has. absurd (none-held held has) }),
            ),
            (
              queued,
              (((record { steps = steps joined 1 refl refl; in_hand = refl }, refl), record { waiters_stay = inl refl; release_stays = inl refl; left_well = tries_next refl }), tt),
              (
                queued,
                ((λ free. let e : 2 ^ 24 ≡ 0 = free in omega (arith, e), inr refl, refl), tt),
                (
                  asleep,
                  (((record { steps = steps queued 1 refl refl; is_word = refl }, refl), tt), tt),
                  (
                    asleep,
                    ((refl, may-sleep-there, refl), tt),
                    (refl, refl),
                  ),
                ),
              ),
            ),
          ),
        ),
      ),
    ),
  ),
)

pub sleeps-there : IsAsleep (waking asleep beside_asleep.duties) 1 1
sleeps-there = record {
  stands = refl;
  not_told = λ none. let e : 1 ≡ 0 = none in omega (arith, e);
  no_list = refl;
  no_look = refl;
  no_try = refl;
  tells_nobody = λ o. refl;
  not_won = λ has. absurd (none-held 1 has);
}

pub parks-there : IsParkedAsleep beside_asleep 1 1
parks-there = record { by_last_turn = refl; looked = refl; parks_on = λ none. let e : 1 ≡ 0 = none in omega (arith, e); uncalled = refl }

pub wakes-up : RunsBy KeepsInOrder asleep beside_asleep to_wake won beside_won
wakes-up = (
  put,
  (((refl, (record { steps = steps asleep 0 refl refl; holding = refl }, refl)), refl), tt),
  (
    looked_at,
    (((omega arith, record { steps = steps put 0 refl refl; unlocked = refl; no_list = refl }, refl), record { no_other = inr refl; tells_nobody = λ o. refl }), tt),
    (
      taken_off,
      (((1, record { another = λ e. omega (arith, e); has = record { steps = steps looked_at 0 refl refl; in_hand = refl }; stands = refl; waits = refl }, refl), tt), tt),
      (
        left,
        (((record { steps = steps taken_off 0 refl refl; in_hand = refl }, refl), record { waiters_stay = inr refl; release_stays = inr (1, refl); left_well = nobody_waits refl }), tt),
        (
          told,
          (((record { steps = steps left 0 refl refl; taken_off = refl; untold = refl }, refl), tt), tt),
          (
            told,
            (refl, tt),
            (
              awake,
              (((record { steps = steps told 1 refl refl; is_word = refl }, refl), tt), tt),
              (
                released,
                (
                  (
                    (omega arith, record { steps = steps awake 1 refl refl; is_word = refl }, refl),
                    record { no_other = λ owes stands. inl refl; tells_nobody = λ owes has. absurd (none-some 1 has) },
                  ),
                  tt,
                ),
                (
                  won,
                  (((record { steps = steps released 1 refl refl; exists = omega arith; free = refl }, refl), inr refl), λ awaited stands. absurd (none-some awaited stands)),
                  (refl, refl),
                ),
              ),
            ),
          ),
        ),
      ),
    ),
  ),
)

pub has-it : HasLock (waking won beside_won.duties) 1 1
has-it = inl refl

pub sleep-and-wakeup : SleepAndWakeup
sleep-and-wakeup = record {
  limit = 2;
  groups = 1;
  session = 1;
  lock = 1;
  to_sleep = to_sleep;
  asleep = asleep;
  beside = beside_asleep;
  falls_asleep = (omega arith, goes-to-sleep);
  sleeps = sleeps-there;
  parked = parks-there;
  to_wake = to_wake;
  awake = won;
  beside_awake = beside_won;
  wakes_up = wakes-up;
  has_it = has-it;
}
