use Rattle.std.proofs.Common.{◌≡◌, ℕ, ◌<◌, true, [], Some, sym, ◌∙◌, subst, inl}
use Rattle.lock_table.specs.declared.moves.Move.{Move}
use Rattle.lock_table.specs.Content.{Content}
use Rattle.lock_table.specs.Moves.{Moves}
use Rattle.lock_world.specs.World.{World}
use Rattle.lock_world.specs.Happens.Partitions.{MayTakePartition, after_taking_partition, MayPutPartition, after_putting_partition, MayPutRecorded, after_putting_recorded, content_taken}
use Rattle.lock_world.specs.Safe.{SafeButSlots, is_hand_of, taken_in, IsOneMove}
use Rattle.lock_world.proofs.Lemmas.Table.Partitions.{at_home-free, taking_partition-table, putting_partition-table, putting_recorded-table}
use Rattle.lock_world.proofs.Lemmas.Traces.{TracesTell-take, TracesTell-put, taken_in-content, taken-one, unmoved-taken, moved-taken}

-- Whoever makes steps was given out, and has in hand what it holds.
pub live-given : (w : World) (s : ℕ) → SafeButSlots w → w.numbers.live s ≡ true → s < w.numbers.issued
live-given w s safe alive = safe.table.carriers.numbers.live_is_issued s alive

pub holding-hand : (w : World) (s p : ℕ) → SafeButSlots w → w.sessions.holds_partition s p ≡ true → is_hand_of (w.contents.hand p) s ≡ true
holding-hand w s p safe holding = sym (safe.table.carriers.hands p s) ∙ holding

-- Taking a partition is safe.
pub taking_partition-safe : (w : World) (s p : ℕ) → SafeButSlots w → MayTakePartition w s p → SafeButSlots (after_taking_partition w s p)
taking_partition-safe w s p safe may = record {
  table = taking_partition-table w s p safe.table may;
  locks = safe.locks;
  traces = TracesTell-take w.contents w.sessions.trace w.numbers.issued safe.traces s p (live-given w s safe may.steps.live) (at_home-free w p safe.table may.free);
}

-- Putting a partition by a move of the session's own is safe.
pub putting_partition-safe : (w : World) (s p : ℕ) (done : Move) (content : Content) → SafeButSlots w → MayPutPartition w s p done content → SafeButSlots (after_putting_partition w s p done content)
putting_partition-safe w s p done content safe may = record {
  table = putting_partition-table w s p done content safe.table may;
  locks = safe.locks;
  traces = TracesTell-put w.contents w.sessions.trace w.numbers.issued safe.traces s p (live-given w s safe may.may_move.steps.live) holds
      (content_taken (w.contents.now p) (w.contents.hand p)) content (taken_in-content (w.contents.hand p) (w.contents.now p) s holds) (done, inl ([], may.may_move.object, moved));
} where
  holds : is_hand_of (w.contents.hand p) s ≡ true
  holds = holding-hand w s p safe may.may_move.holding

  moved : Moves (content_taken (w.contents.now p) (w.contents.hand p)) s done [] content
  moved =
      subst (λ taken. Moves taken s done [] content)
      (taken-one (w.contents.hand p) (w.contents.now p) s (w.contents.now p) holds
      (unmoved-taken w.contents w.sessions.trace w.numbers.issued safe.traces s p holds may.may_move.unrecorded)) may.may_move.moved

-- Putting a partition with a move recorded is safe.
pub putting_recorded-safe : (w : World) (s p : ℕ) (done : Move) → SafeButSlots w → MayPutRecorded w s p done → SafeButSlots (after_putting_recorded w s p)
putting_recorded-safe w s p done safe may = record {
  table = putting_recorded-table w s p done safe.table may;
  locks = safe.locks;
  traces = TracesTell-put w.contents w.sessions.trace w.numbers.issued safe.traces s p (live-given w s safe may.steps.live) holds
      (content_taken (w.contents.now p) (w.contents.hand p)) (w.contents.now p) (taken_in-content (w.contents.hand p) (w.contents.now p) s holds)
      (subst (λ content. IsOneMove p content s (w.contents.now p)) (taken-one (w.contents.hand p) (w.contents.now p) s taken.0 holds taken.1) taken.2);
} where
  holds : is_hand_of (w.contents.hand p) s ≡ true
  holds = holding-hand w s p safe may.holding

  taken : (content : Content) × (taken_in (w.contents.hand p) s ≡ Some content) × IsOneMove p content s (w.contents.now p)
  taken = moved-taken w.contents w.sessions.trace w.numbers.issued safe.traces s p done holds may.recorded
