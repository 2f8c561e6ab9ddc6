use Rattle.std.proofs.Common.{◌≡◌, ℕ, ◌<◌, ◌≤◌, Bool, true, false, List, [], length, get_or, refl, sym, ◌∙◌, subst, inl, arith}
use Rattle.std.proofs.Math.ListN.{set}
use Rattle.lock_world.specs.declared.events.Step.TheVariants.{TakeShared, PutShared}
use Rattle.lock_world.specs.declared.events.Word.TheVariants.{Partition, Fast}
use Rattle.lock_model.specs.declared.machine.state.Machine.{Machine}
use Rattle.lw_word.specs.LightweightWord.{IsFreeToShare}
use Rattle.lw_word.specs.LockState.{LockState, IsFreeFor, taken_in, put_in}
use Rattle.lw_word.specs.declared.words.LwMode.TheVariants.{Shared}
use Rattle.lock_world.specs.World.{World}
use Rattle.lock_world.specs.Happens.{Next}
use Rattle.lock_world.specs.Happens.Sharing.{with_shared_partition, with_shared_fast, MayShare, MayUnshare, after_sharing_partition, after_unsharing_partition, after_sharing_fast, after_unsharing_fast}
use Rattle.lock_world.specs.Happens.Slots.{remembered_after_taking}
use Rattle.lock_world.specs.Safe.{ShowsHolders}
use Rattle.lock_world.specs.SafeWorld.{SafeWorld}
use Rattle.lock_model.specs.Shows.{Shows, ShowsLock, ShowsMarks, makes_steps}
use Rattle.lock_model.proofs.Lemmas.Follows.Skipped.{skipped}
use Rattle.lock_model.proofs.Lemmas.Shows.Changes.{partition_word-set, fast_word-set}
use Rattle.lock_model.proofs.Lemmas.Shows.Locks.{marks-set}
use Rattle.lock_model.proofs.Lemmas.Shows.Looks.{steps_from}
use Rattle.lock_model.proofs.Lemmas.Shows.LwWords.{sharer_shown, sharers_shown, made_shown, free_to_share_shown, taken_shown, put_shown}
use Rattle.lock_model.proofs.Lemmas.Shows.Kept.{fast_path_shown}

-- The machine, once a partition's word shows this, and the session shares it or not.
abbrev pub with_partition_sharer : Machine → ℕ → ℕ → LockState → Bool → Machine
with_partition_sharer m s p word b = record m {
  words = record (m.words) { partitions = set m.words.partitions p word };
  locks = record (m.locks) { partition_sharers = set m.locks.partition_sharers p (set (get_or m.locks.partition_sharers p []) s b) };
}

-- Sharing the word of the owner's slots.
abbrev pub with_fast_sharer : Machine → ℕ → ℕ → LockState → Bool → Machine
with_fast_sharer m s o word b = record m {
  words = record (m.words) { fast = set m.words.fast o word };
  locks = record (m.locks) { fast_sharers = set m.locks.fast_sharers o (set (get_or m.locks.fast_sharers o []) s b) };
}

module _ (m : Machine) (w : World) (safe : SafeWorld w) (shows : Shows m w) where
  -- What the machine tests before a session shares a word, or gives it back.
  may_share : (s lock number : ℕ) (its : LockState) (marks : List (List Bool)) (locks : ℕ) (has : ℕ → ℕ → Bool) → ShowsMarks marks locks has → ShowsLock its number
      → makes_steps m s ≡ true → IsFreeFor Shared its → get_or (get_or marks lock []) s false ≡ false → MayShare w.numbers number has s lock
  may_share s lock number its marks locks has marked says steps free new = record {
    steps = steps_from m w safe shows s steps;
    free = (free_to_share_shown its number says).0 free;
    new = sym (marked.mark s lock) ∙ new;
  }

  may_unshare : (s lock : ℕ) (marks : List (List Bool)) (locks : ℕ) (has : ℕ → ℕ → Bool) → ShowsMarks marks locks has
      → makes_steps m s ≡ true → get_or (get_or marks lock []) s false ≡ true → MayUnshare w.numbers has s lock
  may_unshare s lock marks locks has marked steps sharing = record { steps = steps_from m w safe shows s steps; sharing = sym (marked.mark s lock) ∙ sharing }

  -- A word that nobody holds exclusively has room for one more sharer.
  may_be_shared : {number : ℕ} {holds shares : ℕ → Bool} (its : LockState) → ShowsLock its number → ShowsHolders w.numbers.limit number holds shares → IsFreeToShare number
      → IsFreeFor Shared its × (its.shared ≤ 64)
  may_be_shared {number} {holds} {shares} its says shown free = (
    (free_to_share_shown its number says).1 free,
    subst (λ (state : LockState). state.shared ≤ 64) (sym says.says) (sharers_shown w.numbers.limit number holds shares shown shows.numbers.limit),
  )

  -- A partition's word.
  shown_partition : (s p number : ℕ) (word : LockState) (b : Bool) → s < 64 → p < 16 → p < length m.words.partitions → ShowsLock word number
      → Shows (with_partition_sharer m s p word b) (with_shared_partition w s p number b)
  shown_partition s p number word b below exists in_words says = fast_path_shown shows (with_shared_partition w s p number b)
      (partition_word-set m.words w.words p word number shows.words in_words says)
      (record {
        fast_holders = shows.locks.fast_holders;
        fast_sharers = shows.locks.fast_sharers;
        partition_sharers = marks-set m.locks.partition_sharers 16 w.sessions.shares_partition s p b shows.locks.partition_sharers below exists;
      })
      shows.fast_path
      shows.counted

  pub shared_partition : (s p : ℕ) (its word : LockState) → makes_steps m s ≡ true → s < 64 → p < 16 → p < length m.words.partitions → ShowsLock its (w.words.partition p)
      → (IsFreeFor Shared its × (its.shared ≤ 64)) × (word ≡ taken_in Shared its) → get_or (get_or m.locks.partition_sharers p []) s false ≡ false
      → (v : World) × Next w (record { session = s; step = TakeShared (Partition p) }) v × Shows (with_partition_sharer m s p word true) v
  shared_partition s p its word steps below exists in_words says answer new = (
    after_sharing_partition w s p,
    inl (exists, may_share s p _ its m.locks.partition_sharers 16 w.sessions.shares_partition shows.locks.partition_sharers says steps answer.0.0 new, refl),
    shown_partition s p _ word true below exists in_words (made_shown word _ answer.1 (taken_shown its _ says Shared (omega (arith, answer.0.1)) answer.0.0)),
  )

  pub not_shared_partition : (s p : ℕ) (its : LockState) → ShowsLock its (w.words.partition p) → (IsFreeFor Shared its × (its.shared ≤ 64) → ⊥)
      → (v : World) × Next w (record { session = s; step = TakeShared (Partition p) }) v × Shows m v
  not_shared_partition s p its says none =
      skipped m w safe shows s (TakeShared (Partition p))
      (λ lawful. none (may_be_shared its says (safe.but_slots.table.promise.words p) lawful.1.1.free))

  pub unshared_partition : (s p : ℕ) (its word : LockState) → makes_steps m s ≡ true → s < 64 → p < 16 → p < length m.words.partitions → ShowsLock its (w.words.partition p)
      → word ≡ put_in Shared its → get_or (get_or m.locks.partition_sharers p []) s false ≡ true
      → (v : World) × Next w (record { session = s; step = PutShared (Partition p) }) v × Shows (with_partition_sharer m s p word false) v
  unshared_partition s p its word steps below exists in_words says is sharing =
      let may = may_unshare s p m.locks.partition_sharers 16 w.sessions.shares_partition shows.locks.partition_sharers steps sharing in
      let held = sharer_shown w.numbers.limit (w.words.partition p) _ _ (safe.but_slots.table.promise.words p) s may.sharing in (
        after_unsharing_partition w s p,
        inl (may, refl),
        shown_partition s p _ word false below exists in_words (made_shown word _ is (put_shown its _ says Shared held)),
      )

  -- The word of a session's fast-path slots. What sessions remember of their slots the machine does not show.
  shown_fast : (s o number : ℕ) (word : LockState) (b : Bool) (remembered : ℕ → ℕ → ℕ) → s < 64 → o < 64 → ShowsLock word number
      → Shows (with_fast_sharer m s o word b) (with_shared_fast w s o number b remembered)
  shown_fast s o number word b remembered below exists says = fast_path_shown shows (with_shared_fast w s o number b remembered)
      (fast_word-set m.words w.words o word number shows.words exists says)
      (record {
        fast_holders = shows.locks.fast_holders;
        fast_sharers = marks-set m.locks.fast_sharers 64 w.sessions.shares_fast s o b shows.locks.fast_sharers below exists;
        partition_sharers = shows.locks.partition_sharers;
      })
      shows.fast_path
      shows.counted

  pub shared_fast : (s o : ℕ) (its word : LockState) → makes_steps m s ≡ true → s < 64 → o < 64 → ShowsLock its (w.words.fast o)
      → (IsFreeFor Shared its × (its.shared ≤ 64)) × (word ≡ taken_in Shared its) → get_or (get_or m.locks.fast_sharers o []) s false ≡ false
      → (v : World) × Next w (record { session = s; step = TakeShared (Fast o) }) v × Shows (with_fast_sharer m s o word true) v
  shared_fast s o its word steps below exists says answer new = (
    after_sharing_fast w s o,
    inl (subst (λ n. o < n) (sym shows.numbers.limit) exists, may_share s o _ its m.locks.fast_sharers 64 w.sessions.shares_fast shows.locks.fast_sharers says steps answer.0.0 new, refl),
    shown_fast s o _ word true (remembered_after_taking w.sessions.remembered w.words.slot s o) below exists (made_shown word _ answer.1 (taken_shown its _ says Shared (omega (arith, answer.0.1)) answer.0.0)),
  )

  pub not_shared_fast : (s o : ℕ) (its : LockState) → ShowsLock its (w.words.fast o) → (IsFreeFor Shared its × (its.shared ≤ 64) → ⊥)
      → (v : World) × Next w (record { session = s; step = TakeShared (Fast o) }) v × Shows m v
  not_shared_fast s o its says none =
      skipped m w safe shows s (TakeShared (Fast o)) (λ lawful. none (may_be_shared its says (safe.but_slots.locks.fast_words o) lawful.1.1.free))

  pub unshared_fast : (s o : ℕ) (its word : LockState) → makes_steps m s ≡ true → s < 64 → o < 64 → ShowsLock its (w.words.fast o)
      → word ≡ put_in Shared its → get_or (get_or m.locks.fast_sharers o []) s false ≡ true
      → (v : World) × Next w (record { session = s; step = PutShared (Fast o) }) v × Shows (with_fast_sharer m s o word false) v
  unshared_fast s o its word steps below exists says is sharing =
      let may = may_unshare s o m.locks.fast_sharers 64 w.sessions.shares_fast shows.locks.fast_sharers steps sharing in
      let held = sharer_shown w.numbers.limit (w.words.fast o) _ _ (safe.but_slots.locks.fast_words o) s may.sharing in (
        after_unsharing_fast w s o,
        inl (may, refl),
        shown_fast s o _ word false w.sessions.remembered below exists (made_shown word _ is (put_shown its _ says Shared held)),
      )
