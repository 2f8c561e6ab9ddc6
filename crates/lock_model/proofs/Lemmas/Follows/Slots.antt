use Rattle.std.proofs.Common.{◌≡◌, ◌≢◌, ℕ, ◌<◌, Bool, true, false, [], get_or, nat_eq, Option, None, refl, sym, ◌∙◌, subst, inl}
use Rattle.std.proofs.Math.ListN.{set}
use Rattle.std.proofs.lemmas.Bool.{cond-true, cond-false, eq-eqb, ne_eqb}
use Rattle.lock_table.specs.declared.moves.Move.TheVariants.{Keep}
use Rattle.lock_world.specs.declared.events.Step.TheVariants.{TakeExclusive, PutExclusive}
use Rattle.lock_world.specs.declared.events.Word.TheVariants.{Fast}
use Rattle.lock_model.specs.declared.machine.state.FastPath.{FastPath}
use Rattle.lock_model.specs.declared.machine.state.Machine.{Machine}
use Rattle.lock_table.specs.Put.{set_at}
use Rattle.lw_word.specs.LightweightWord.{put_word}
use Rattle.lw_word.specs.LockState.{LockState, IsFreeFor, taken_in, put_in}
use Rattle.lw_word.specs.declared.words.LwMode.TheVariants.{Exclusive}
use Rattle.lock_world.specs.World.{World}
use Rattle.lock_world.specs.Happens.{Next}
use Rattle.lock_world.specs.Happens.Slots.{after_taking_fast, zero_after_putting, after_putting_fast}
use Rattle.lock_world.specs.SafeWorld.{SafeWorld}
use Rattle.lock_model.specs.Shows.{Shows, ShowsLock, ShowsFastPath, makes_steps}
use Rattle.lock_model.proofs.Lemmas.Shows.Changes.{fast_word-set}
use Rattle.lock_model.proofs.Lemmas.Shows.Locks.{marks-set}
use Rattle.lock_model.proofs.Lemmas.Shows.Looks.{steps_from}
use Rattle.lock_model.proofs.Lemmas.Shows.LwWords.{holder_shown, made_shown, free_shown, taken_shown, put_shown}
use Rattle.lock_model.proofs.Lemmas.Shows.SlotLooks.{zero-set}
use Rattle.lock_model.proofs.Lemmas.Shows.Kept.{fast_path_shown}

-- The machine, once the word of the owner's slots shows this, and the session holds it exclusively or not.
abbrev pub with_holder : Machine → ℕ → ℕ → LockState → Bool → Machine
with_holder m s o word b = record m {
  words = record (m.words) { fast = set m.words.fast o word };
  locks = record (m.locks) { fast_holders = set m.locks.fast_holders o (set (get_or m.locks.fast_holders o []) s b) };
}

module _ (m : Machine) (w : World) (safe : SafeWorld w) (shows : Shows m w) where
  pub taken_fast : (s o : ℕ) (its word : LockState) → makes_steps m s ≡ true → s < 64 → o < 64 → ShowsLock its (w.words.fast o) → IsFreeFor Exclusive its × (word ≡ taken_in Exclusive its)
      → (v : World) × Next w (record { session = s; step = TakeExclusive (Fast o) }) v × Shows (with_holder m s o word true) v
  taken_fast s o its word steps below exists says answer = (
    after_taking_fast w s o,
    inl (
      record {
        steps = steps_from m w safe shows s steps;
        exists = subst (λ n. o < n) (sym shows.numbers.limit) exists;
        free = (free_shown its _ says).0 answer.0;
      },
      refl,
    ),
    fast_path_shown shows (after_taking_fast w s o)
        (fast_word-set m.words w.words o word _ shows.words exists (made_shown word _ answer.1 (taken_shown its _ says Exclusive tt answer.0)))
        (record {
          fast_holders = marks-set m.locks.fast_holders 64 w.sessions.holds_fast s o true shows.locks.fast_holders below exists;
          fast_sharers = shows.locks.fast_sharers;
          partition_sharers = shows.locks.partition_sharers;
        })
        shows.fast_path
        shows.counted,
  )

  zero_after : (s o : ℕ) (shown : FastPath) (zeros : ℕ → Option ℕ) → ShowsFastPath shown w.words.database w.words.slot zeros → zeros ≡ zero_after_putting w.sessions.zero s o
      → ShowsFastPath shown w.words.database w.words.slot (zero_after_putting w.sessions.zero s o)
  zero_after s o shown zeros is same = subst (ShowsFastPath shown w.words.database w.words.slot) same is

  -- The owner's word once the session that holds it has put it.
  pub put_fast_shown : (s o : ℕ) (its word : LockState) → ShowsLock its (w.words.fast o) → w.sessions.holds_fast s o ≡ true → word ≡ put_in Exclusive its → ShowsLock word (put_word (w.words.fast o))
  put_fast_shown s o its word says holding is =
      made_shown word _ is (put_shown its _ says Exclusive (holder_shown w.numbers.limit (w.words.fast o) _ _ (safe.but_slots.locks.fast_words o) s holding))

  was_put : (s o : ℕ) (its word : LockState) (path : FastPath) → makes_steps m s ≡ true → s < 64 → o < 64 → ShowsLock its (w.words.fast o)
      → get_or (get_or m.locks.fast_holders o []) s false ≡ true → word ≡ put_in Exclusive its
      → ShowsFastPath path w.words.database w.words.slot (zero_after_putting w.sessions.zero s o)
      → (v : World) × Next w (record { session = s; step = PutExclusive (Fast o) Keep }) v
      × Shows (record (with_holder m s o word false) { fast_path = path }) v
  was_put s o its word path steps below exists says held put is = let holding = sym (shows.locks.fast_holders.mark s o) ∙ held in (
    after_putting_fast w s o,
    inl (refl, (record { steps = steps_from m w safe shows s steps; holding = holding }, refl)),
    fast_path_shown shows (after_putting_fast w s o)
        (fast_word-set m.words w.words o word _ shows.words exists (put_fast_shown s o its word says holding put))
        (record {
          fast_holders = marks-set m.locks.fast_holders 64 w.sessions.holds_fast s o false shows.locks.fast_holders below exists;
          fast_sharers = shows.locks.fast_sharers;
          partition_sharers = shows.locks.partition_sharers;
        })
        is
        shows.counted,
  )

  -- Another session's lock is put,
  pub was_put_fast : (s o : ℕ) (its word : LockState) → makes_steps m s ≡ true → s < 64 → o < 64 → ShowsLock its (w.words.fast o)
      → get_or (get_or m.locks.fast_holders o []) s false ≡ true → word ≡ put_in Exclusive its → o ≢ s
      → (v : World) × Next w (record { session = s; step = PutExclusive (Fast o) Keep }) v
      × Shows (with_holder m s o word false) v
  was_put_fast s o its word steps below exists says holding put other =
      was_put s o its word m.fast_path steps below exists says holding put
      (zero_after s o m.fast_path w.sessions.zero shows.fast_path
      (sym (cond-false (nat_eq o s) (set_at w.sessions.zero s None) w.sessions.zero (ne_eqb o s other))))

  -- or its own, with which what was read of a counter is gone.
  pub was_put_own : (s o : ℕ) (its word : LockState) → makes_steps m s ≡ true → s < 64 → o < 64 → ShowsLock its (w.words.fast o)
      → get_or (get_or m.locks.fast_holders o []) s false ≡ true → word ≡ put_in Exclusive its → o ≡ s
      → (v : World) × Next w (record { session = s; step = PutExclusive (Fast o) Keep }) v
      × Shows (record (with_holder m s o word false) { fast_path = record (m.fast_path) { zeros = set m.fast_path.zeros s None } }) v
  was_put_own s o its word steps below exists says holding put own =
      was_put s o its word (record (m.fast_path) { zeros = set m.fast_path.zeros s None }) steps below exists says holding put
      (zero_after s o (record (m.fast_path) { zeros = set m.fast_path.zeros s None }) (set_at w.sessions.zero s None)
      (zero-set m.fast_path w.words.database w.words.slot w.sessions.zero s None shows.fast_path below)
      (sym (cond-true (nat_eq o s) (set_at w.sessions.zero s None) w.sessions.zero (eq-eqb o s own))))
