use Rattle.std.proofs.Common.{ℕ, Bool, false, List, [], refl, subst}
use Rattle.modes_core.specs.declared.modes.Mode.{Mode}
use Rattle.modes_core.specs.declared.tags.Tag.{Tag}
use Rattle.modes_core.specs.Tag.{partition_of}
use Rattle.lock_table.specs.declared.moves.Move.{Move}
use Rattle.lock_table.specs.declared.moves.Move.TheVariants.{Join, Leave}
use Rattle.lock_table.specs.Content.{Wait, Content}
use Rattle.lock_table.specs.OwnWait.{OwnWait}
use Rattle.lock_table.specs.Put.{set_at}
use Rattle.lock_world.specs.World.{World, MakesSteps, AskedToCancel, Loaded, is_unmarked}
use Rattle.lock_world.specs.declared.events.Word.TheVariants as word
use Rattle.lock_world.specs.Happens.Partitions.{MayMove}
use Rattle.lock_world.specs.Happens.Waits.{after_asking, after_loading_wait, recording, unmarked_but, after_setting_waiting, MayMarkFirst, after_marking_first, MayMarkNext, after_marking_next, MayClearSeen, MayClearInHand, after_clearing, MayLeave, after_leaving}
use Rattle.lock_table.specs.Queue.{waits_there}
use Rattle.lock_world.specs.Safe.{SafeButSlots, TracesTell}
use Rattle.lock_world.proofs.Lemmas.Safe.Partitions.{live-given, holding-hand}
use Rattle.lock_world.proofs.Lemmas.Waits.Steps.{GrantsOthers}
use Rattle.lock_world.proofs.Lemmas.Table.Waits.{asking-table, loading_wait-table, setting_waiting-table, marking_first-table, marking_next-table, clearing_seen-table, clearing_in_hand-table, leaving-table}
use Rattle.lock_world.proofs.Lemmas.Traces.{TracesTell-entry, TracesTell-record, recorded-made, recorded-again}
use Rattle.lock_table.proofs.Lemmas.Put.{set_at-same}

-- A move made on a content in hand is recorded.
recording-traces :
    (w : World) (s p : ℕ) (done : Move) (granted : List Wait) (content : Content) (unmarked : ℕ → Bool) → SafeButSlots w → MayMove w s p done granted content
    → TracesTell (record { now = set_at w.contents.now p content; hand = set_at w.contents.hand p (recording (w.contents.hand p) done unmarked) }) w.sessions.trace w.numbers.issued
recording-traces w s p done granted content unmarked safe may =
    TracesTell-record w.contents w.sessions.trace w.numbers.issued safe.traces p done unmarked content
    (recorded-made w.contents w.sessions.trace w.numbers.issued safe.traces s p done unmarked granted content (holding-hand w s p safe may.holding) may.unrecorded may.object may.moved)

-- Asking a session to cancel is safe.
pub asking-safe : (w : World) (s k : ℕ) → SafeButSlots w → MakesSteps w.numbers s → SafeButSlots (after_asking w s k)
asking-safe w s k safe steps = record {
  table = asking-table w s k safe.table;
  locks = safe.locks;
  traces = TracesTell-entry w.contents w.sessions.trace w.numbers.issued safe.traces s (live-given w s safe steps.live) (AskedToCancel k (w.words.wait k)) tt (λ q. refl);
}

-- Loading one's own wait word is safe.
pub loading_wait-safe : (w : World) (s n : ℕ) → SafeButSlots w → MakesSteps w.numbers s → SafeButSlots (after_loading_wait w s n)
loading_wait-safe w s n safe steps = record {
  table = loading_wait-table w s n safe.table;
  locks = safe.locks;
  traces = TracesTell-entry w.contents w.sessions.trace w.numbers.issued safe.traces s (live-given w s safe steps.live) (Loaded (word.Wait s) n) tt (λ q. refl);
}

-- Setting one's own wait word to waiting is safe.
pub setting_waiting-safe : (w : World) (s : ℕ) (t : Tag) (m : Mode) (content : Content) → SafeButSlots w → MayMove w s (partition_of t) (Join t m) [] content → SafeButSlots (after_setting_waiting w s t m content)
setting_waiting-safe w s t m content safe may = record {
  table = setting_waiting-table w s t m content safe.table may;
  locks = safe.locks;
  traces = recording-traces w s (partition_of t) (Join t m) [] content (λ _. false) safe may;
}

-- Marking a wait granted is safe: the first one of a move, and each further one.
pub marking_first-safe : (w : World) (s k p : ℕ) (done : Move) (granted : List Wait) (content : Content) → GrantsOthers done → SafeButSlots w → MayMarkFirst w s k p done granted content
    → SafeButSlots (after_marking_first w s k p done granted content)
marking_first-safe w s k p done granted content grants safe may = record {
  table = marking_first-table w s k p done granted content grants safe.table may;
  locks = safe.locks;
  traces = recording-traces w s p done granted content (unmarked_but (waits_there granted) k) safe may.may_move;
}

pub marking_next-safe : (w : World) (s k p : ℕ) (done : Move) → SafeButSlots w → MayMarkNext w s k p done → SafeButSlots (after_marking_next w k p done)
marking_next-safe w s k p done safe may = record {
  table = marking_next-table w s k p done safe.table may;
  locks = safe.locks;
  traces = subst (λ now. TracesTell (record { now = now; hand = set_at w.contents.hand p (recording (w.contents.hand p) done unmarked) }) w.sessions.trace w.numbers.issued)
      (set_at-same w.contents.now p (w.contents.now p) refl)
      (TracesTell-record w.contents w.sessions.trace w.numbers.issued safe.traces p done unmarked (w.contents.now p)
      (recorded-again w.contents w.sessions.trace w.numbers.issued safe.traces p done unmarked may.recorded));
} where
  unmarked : ℕ → Bool
  unmarked = unmarked_but (is_unmarked (w.contents.hand p)) k

-- Clearing one's own wait word is safe.
pub clearing_seen-safe : (w : World) (s : ℕ) (wait : OwnWait) → SafeButSlots w → MayClearSeen w s wait → SafeButSlots (after_clearing w s wait)
clearing_seen-safe w s wait safe may = record { table = clearing_seen-table w s wait safe.table may; locks = safe.locks; traces = safe.traces }

pub clearing_in_hand-safe : (w : World) (s : ℕ) (wait : OwnWait) → SafeButSlots w → MayClearInHand w s wait → SafeButSlots (after_clearing w s wait)
clearing_in_hand-safe w s wait safe may = record { table = clearing_in_hand-table w s wait safe.table may; locks = safe.locks; traces = safe.traces }

-- So is a step that takes the wait out of the queue itself.
pub leaving-safe : (w : World) (s : ℕ) (wait : OwnWait) (granted : List Wait) (content : Content) → SafeButSlots w → MayLeave w s wait granted content → SafeButSlots (after_leaving w s wait granted content)
leaving-safe w s wait granted content safe may = record {
  table = leaving-table w s wait granted content safe.table may;
  locks = safe.locks;
  traces = recording-traces w s (partition_of wait.tag) (Leave wait.tag) granted content (waits_there granted) safe may.may_move;
}
