use Rattle.std.proofs.Common.{◌≡◌, ℕ, ◌<◌, Bool, true, false, ap, ◌∙◌, arith, inl, inr}
use Rattle.std.proofs.lemmas.Bool.{cases_eq, both_ways}
use Rattle.lw_word.specs.LightweightWord.{shared_word, unshared_word}
use Rattle.lock_table.specs.Put.{set_at}
use Rattle.lock_world.specs.World.{World}
use Rattle.lock_world.specs.Happens.Sharing.{MayShare, MayUnshare, after_sharing_partition, after_unsharing_partition, after_sharing_fast, after_unsharing_fast, with_shared_partition, with_shared_fast}
use Rattle.lock_world.specs.Safe.{SafeButSlots, ShowsHolders}
use Rattle.lock_table.proofs.Lemmas.Put.{row-else}
use Rattle.lock_world.proofs.Lemmas.Words.Holders.{ShowsHolders-shared, ShowsHolders-unshared, WordsShowHolders-share}
use Rattle.lock_world.proofs.Lemmas.Table.Sharing.{with_partition_words-table, with_fast_words-table}

-- Whoever is live is below the limit.
pub live-within : (w : World) (s : ℕ) → SafeButSlots w → w.numbers.live s ≡ true → s < w.numbers.limit
live-within w s safe alive =
    let given : s < w.numbers.issued = safe.table.carriers.numbers.live_is_issued s alive in
    let all = safe.table.carriers.numbers.within in
    omega (arith, given, all)

-- A step of a live session on one word leaves those who are not live with none.
pub none-else : (live : ℕ → Bool) (has : ℕ → ℕ → Bool) (s lock : ℕ) (b : Bool) → live s ≡ true → ((k q : ℕ) → live k ≡ false → has k q ≡ false)
    → (k q : ℕ) → live k ≡ false → set_at has s (set_at (has s) lock b) k q ≡ false
none-else live has s lock b alive none k q dead =
    elim (cases_eq k s) [
      | inl same ↦ absurd (both_ways (live k) dead (ap live same ∙ alive))
      | inr other ↦ row-else has s lock b k q other ∙ none k q dead
    ]

-- Another word of a partition, which a live session shares or not, is safe where it shows who holds it and
-- who shares it.
shared_partition-safe :
    (w : World) (s p n : ℕ) (b : Bool) → SafeButSlots w → w.numbers.live s ≡ true
    → ShowsHolders w.numbers.limit n (λ k. w.sessions.holds_partition k p) (set_at (λ k. w.sessions.shares_partition k p) s b) → SafeButSlots (with_shared_partition w s p n b)
shared_partition-safe w s p n b safe live shows = record {
  table = with_partition_words-table w _ _ safe.table
      (WordsShowHolders-share w.numbers.limit w.words.partition w.sessions.holds_partition w.sessions.shares_partition s p b n shows safe.table.promise.words);
  locks = record {
    fast_words = safe.locks.fast_words;
    no_fast = safe.locks.no_fast;
    no_shared_fast = safe.locks.no_shared_fast;
    no_shared_partition = none-else w.numbers.live w.sessions.shares_partition s p b live safe.locks.no_shared_partition;
  };
  traces = safe.traces;
}

-- Another word of the lock of a session's fast-path slots, which a live session shares or not, is safe
-- likewise.
shared_fast-safe :
    (w : World) (s o n : ℕ) (b : Bool) (remembered : ℕ → ℕ → ℕ) → SafeButSlots w → w.numbers.live s ≡ true
    → ShowsHolders w.numbers.limit n (λ k. w.sessions.holds_fast k o) (set_at (λ k. w.sessions.shares_fast k o) s b) → SafeButSlots (with_shared_fast w s o n b remembered)
shared_fast-safe w s o n b remembered safe live shows = record {
  table = with_fast_words-table w _ w.sessions.holds_fast _ _ _ safe.table;
  locks = record {
    fast_words = WordsShowHolders-share w.numbers.limit w.words.fast w.sessions.holds_fast w.sessions.shares_fast s o b n shows safe.locks.fast_words;
    no_fast = safe.locks.no_fast;
    no_shared_fast = none-else w.numbers.live w.sessions.shares_fast s o b live safe.locks.no_shared_fast;
    no_shared_partition = safe.locks.no_shared_partition;
  };
  traces = safe.traces;
}

-- Sharing a word is safe, and so is giving it back.
pub sharing_partition-safe : (w : World) (s p : ℕ) → SafeButSlots w → MayShare w.numbers (w.words.partition p) w.sessions.shares_partition s p → SafeButSlots (after_sharing_partition w s p)
sharing_partition-safe w s p safe may = shared_partition-safe w s p (shared_word (w.words.partition p)) true safe may.steps.live
    (ShowsHolders-shared w.numbers.limit (w.words.partition p) (λ k. w.sessions.holds_partition k p) (λ k. w.sessions.shares_partition k p) s safe.table.carriers.numbers.few
    (live-within w s safe may.steps.live) (safe.table.promise.words p) may.free may.new)

pub unsharing_partition-safe : (w : World) (s p : ℕ) → SafeButSlots w → MayUnshare w.numbers w.sessions.shares_partition s p → SafeButSlots (after_unsharing_partition w s p)
unsharing_partition-safe w s p safe may = shared_partition-safe w s p (unshared_word (w.words.partition p)) false safe may.steps.live
    (ShowsHolders-unshared w.numbers.limit (w.words.partition p) (λ k. w.sessions.holds_partition k p) (λ k. w.sessions.shares_partition k p) s (safe.table.promise.words p) may.sharing)

pub sharing_fast-safe : (w : World) (s o : ℕ) → SafeButSlots w → MayShare w.numbers (w.words.fast o) w.sessions.shares_fast s o → SafeButSlots (after_sharing_fast w s o)
sharing_fast-safe w s o safe may = shared_fast-safe w s o (shared_word (w.words.fast o)) true _ safe may.steps.live
    (ShowsHolders-shared w.numbers.limit (w.words.fast o) (λ k. w.sessions.holds_fast k o) (λ k. w.sessions.shares_fast k o) s safe.table.carriers.numbers.few
    (live-within w s safe may.steps.live) (safe.locks.fast_words o) may.free may.new)

pub unsharing_fast-safe : (w : World) (s o : ℕ) → SafeButSlots w → MayUnshare w.numbers w.sessions.shares_fast s o → SafeButSlots (after_unsharing_fast w s o)
unsharing_fast-safe w s o safe may = shared_fast-safe w s o (unshared_word (w.words.fast o)) false _ safe may.steps.live
    (ShowsHolders-unshared w.numbers.limit (w.words.fast o) (λ k. w.sessions.holds_fast k o) (λ k. w.sessions.shares_fast k o) s (safe.locks.fast_words o) may.sharing)
