use Rattle.std.proofs.Common.{◌≡◌, ℕ, true, false, sym, ◌∙◌, arith}
use Rattle.std.proofs.lemmas.Bool.{false≢true}
use Rattle.lock_table.specs.Put.{set_at}
use Rattle.lock_table.proofs.Lemmas.Put.{set_at-each}
use Rattle.lock_world.specs.World.{World}
use Rattle.lock_world.specs.Happens.Seats.{MayBeIssued, after_issuing, MayGoOn, after_going_on, MayBeKeptApart, after_keeping_apart, MayClose, after_closing}
use Rattle.lock_world.specs.Safe.{SafeButSlots}
use Rattle.lock_world.proofs.Lemmas.Table.Seats.{issuing-table, going_on-table, keeping_apart-table, closing-table}
use Rattle.lock_world.proofs.Lemmas.Traces.{TracesTell-issued, TracesTell-emptied, taken_in-other}

-- Issuing a number is safe.
pub issuing-safe : (w : World) (s : ℕ) → SafeButSlots w → MayBeIssued w s → SafeButSlots (after_issuing w s)
issuing-safe w s safe may = record {
  table = issuing-table w s safe.table may;
  locks = record {
    fast_words = safe.locks.fast_words;
    no_fast = λ k o dead. safe.locks.no_fast k o (was_dead k dead);
    no_shared_fast = λ k o dead. safe.locks.no_shared_fast k o (was_dead k dead);
    no_shared_partition = λ k p dead. safe.locks.no_shared_partition k p (was_dead k dead);
  };
  traces = TracesTell-issued w.contents w.sessions.trace w.numbers.issued safe.traces _ (let next : s ≡ w.numbers.issued = may.next in omega arith);
} where
  was_dead : (k : ℕ) → set_at w.numbers.live s true k ≡ false → w.numbers.live k ≡ false
  was_dead = set_at-each (λ k b. b ≡ false → w.numbers.live k ≡ false) w.numbers.live s true (λ e. absurd (false≢true (sym e))) (λ _ _ e. e)

-- Going on by itself is safe.
pub going_on-safe : (w : World) (s : ℕ) → SafeButSlots w → MayGoOn w s → SafeButSlots (after_going_on w s)
going_on-safe w s safe may = record { table = going_on-table w s safe.table may; locks = safe.locks; traces = safe.traces }

-- Being kept apart is safe.
pub keeping_apart-safe : (w : World) (s joiner : ℕ) → SafeButSlots w → MayBeKeptApart w s joiner → SafeButSlots (after_keeping_apart w s joiner)
keeping_apart-safe w s joiner safe may = record { table = keeping_apart-table w s joiner safe.table may; locks = safe.locks; traces = safe.traces }

-- Closing is safe.
pub closing-safe : (w : World) (s : ℕ) → SafeButSlots w → MayClose w s → SafeButSlots (after_closing w s)
closing-safe w s safe may = record {
  table = closing-table w s safe.table may;
  locks = record {
    fast_words = safe.locks.fast_words;
    no_fast = λ k o. set_at-each (λ k b. b ≡ false → w.sessions.holds_fast k o ≡ false) w.numbers.live s false (λ _. may.no_fast_word o) (λ k _ dead. safe.locks.no_fast k o dead) k;
    no_shared_fast =
        λ k o. set_at-each (λ k b. b ≡ false → w.sessions.shares_fast k o ≡ false) w.numbers.live s false (λ _. may.no_shared_fast_word o) (λ k _ dead. safe.locks.no_shared_fast k o dead) k;
    no_shared_partition =
        λ k p. set_at-each (λ k b. b ≡ false → w.sessions.shares_partition k p ≡ false) w.numbers.live s false (λ _. may.no_shared_word p) (λ k _ dead. safe.locks.no_shared_partition k p dead) k;
  };
  traces = TracesTell-emptied w.contents w.sessions.trace w.numbers.issued safe.traces s
      (λ p. taken_in-other (w.contents.hand p) s (sym (safe.table.carriers.hands p s) ∙ may.no_word p));
}
