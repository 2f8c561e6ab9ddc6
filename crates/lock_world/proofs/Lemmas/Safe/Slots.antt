use Rattle.std.proofs.Common.{◌≡◌, ℕ, Bool, true, false, Option}
use Rattle.lw_word.specs.LightweightWord.{taken_word, put_word}
use Rattle.lock_world.specs.World.{World}
use Rattle.lock_world.specs.Happens.Slots.{MayTakeFast, after_taking_fast, MayPutFast, after_putting_fast, with_held_fast}
use Rattle.lock_table.specs.Put.{set_at}
use Rattle.lock_world.specs.Safe.{SafeButSlots, ShowsHolders}
use Rattle.lock_world.proofs.Lemmas.Words.Holders.{ShowsHolders-taken, ShowsHolders-put, WordsShowHolders-set}
use Rattle.lock_world.proofs.Lemmas.Table.Sharing.{with_fast_words-table}
use Rattle.lock_world.proofs.Lemmas.Safe.Sharing.{none-else}

-- Another word of the lock of a session's fast-path slots, which a live session holds or not, is safe where
-- it shows who holds it.
held_fast-safe :
    (w : World) (s o n : ℕ) (b : Bool) (zero : ℕ → Option ℕ) (remembered : ℕ → ℕ → ℕ) → SafeButSlots w → w.numbers.live s ≡ true
    → ShowsHolders w.numbers.limit n (set_at (λ k. w.sessions.holds_fast k o) s b) (λ k. w.sessions.shares_fast k o) → SafeButSlots (with_held_fast w s o n b zero remembered)
held_fast-safe w s o n b zero remembered safe live shows = record {
  table = with_fast_words-table w _ _ w.sessions.shares_fast _ _ safe.table;
  locks = record {
    fast_words = WordsShowHolders-set w.numbers.limit w.words.fast w.sessions.holds_fast w.sessions.shares_fast s o b n shows safe.locks.fast_words;
    no_fast = none-else w.numbers.live w.sessions.holds_fast s o b live safe.locks.no_fast;
    no_shared_fast = safe.locks.no_shared_fast;
    no_shared_partition = safe.locks.no_shared_partition;
  };
  traces = safe.traces;
}

-- Taking that lock is safe, and so is putting it.
pub taking_fast-safe : (w : World) (s o : ℕ) → SafeButSlots w → MayTakeFast w s o → SafeButSlots (after_taking_fast w s o)
taking_fast-safe w s o safe may = held_fast-safe w s o (taken_word (w.words.fast o)) true _ _ safe may.steps.live
    (ShowsHolders-taken w.numbers.limit (w.words.fast o) (λ k. w.sessions.holds_fast k o) (λ k. w.sessions.shares_fast k o) s (safe.locks.fast_words o) may.free)

pub putting_fast-safe : (w : World) (s o : ℕ) → SafeButSlots w → MayPutFast w s o → SafeButSlots (after_putting_fast w s o)
putting_fast-safe w s o safe may = held_fast-safe w s o (put_word (w.words.fast o)) false _ _ safe may.steps.live
    (ShowsHolders-put w.numbers.limit (w.words.fast o) (λ k. w.sessions.holds_fast k o) (λ k. w.sessions.shares_fast k o) s (safe.locks.fast_words o) may.holding)
