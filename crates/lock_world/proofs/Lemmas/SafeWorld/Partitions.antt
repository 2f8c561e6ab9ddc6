use Rattle.std.proofs.Common.{ℕ, List, [], refl}
use Rattle.lock_table.specs.declared.moves.Move.{Move}
use Rattle.lock_table.specs.Content.{Holds, Wait, Content}
use Rattle.lock_world.specs.World.{World}
use Rattle.lock_world.specs.Happens.Partitions.{MayTakePartition, after_taking_partition, MayMove, MayPutPartition, after_putting_partition, MayPutRecorded, after_putting_recorded, own_after}
use Rattle.lock_world.specs.Counted.{StrongIsDone}
use Rattle.lock_world.specs.SafeWorld.{SafeWorld, SlotsAreOwn, OwnIsInOrder, tabled}
use Rattle.lw_word.specs.LightweightWord.{taken_word, put_word}
use Rattle.lw_word.proofs.Lemmas.Words.{taken_word-flags, put_word-flags}
use Rattle.lock_world.specs.Happens.Lists.{sleepers}
use Rattle.lock_world.proofs.Lemmas.ListWords.{flags-partition}
use Rattle.lock_world.proofs.Lemmas.Table.Partitions.{own_after-else}
use Rattle.lock_world.proofs.Lemmas.Safe.Partitions.{taking_partition-safe, putting_partition-safe, putting_recorded-safe}
use Rattle.lock_world.proofs.Lemmas.SafeWorld.Tabled.{with_own-safe, MayMove-tabled, tabled-after, released-no_slot}
use Rattle.lock_world.proofs.Lemmas.SafeWorld.OneSession.{SlotsAreOwn-one, OwnIsInOrder-one, StrongIsDone-one, own_after-shown, own_after-awaited, own_after-done}
use Rattle.lock_world.proofs.Lemmas.SafeWorld.Beside.{beside-safe_world}

-- Taking a partition is safe.
pub taking_partition-safe_world : (w : World) (s p : ℕ) → SafeWorld w → MayTakePartition w s p → SafeWorld (after_taking_partition w s p)
taking_partition-safe_world w s p safe may = beside-safe_world w (after_taking_partition w s p) safe
    (taking_partition-safe (tabled w) s p safe.but_slots (record { steps = may.steps; exists = may.exists; free = may.free }))
    (flags-partition w.words.partition w.words.fast (sleepers w) w.sessions.has_list w.numbers.live safe.lists p (taken_word (w.words.partition p))
    (taken_word-flags (w.words.partition p) may.free)) safe.zero safe.remembered

-- What own holds are after a move of a session.
module _ (w : World) (safe : SafeWorld w) (s p : ℕ) (done : Move) (granted : List Wait) (content : Content) (may : MayMove w s p done granted content) where
  abbrev own' : Holds
  own' = own_after w.sessions.own s done

  pub slots-moved : SlotsAreOwn w.numbers.groups w.words.database w.words.slot own'
  slots-moved = SlotsAreOwn-one w.sessions.own own' w.sessions.awaited w.sessions.awaited s (own_after-else w.sessions.own s done) (λ _ _. refl)
      w.numbers.groups w.words.database w.words.slot safe.slots
      (own_after-shown w.sessions.own w.sessions.awaited s w.words.database w.words.slot done (released-no_slot w safe s p done granted content may))

  pub order-moved : OwnIsInOrder w.numbers.live own' w.sessions.awaited w.sessions.counted
  order-moved = OwnIsInOrder-one w.sessions.own own' w.sessions.awaited w.sessions.awaited s (own_after-else w.sessions.own s done) (λ _ _. refl)
      w.numbers.live w.sessions.counted may.steps.live safe.order
      (own_after-awaited w.sessions.own w.sessions.awaited s done may.own (safe.order.awaited_is_not_own s))

  pub done-moved : StrongIsDone w.numbers.limit w.sessions.counted own' w.sessions.awaited
  done-moved = StrongIsDone-one w.sessions.own own' w.sessions.awaited w.sessions.awaited s (own_after-else w.sessions.own s done) (λ _ _. refl)
      w.numbers.limit w.sessions.counted safe.done
      (own_after-done w.sessions.own w.sessions.awaited s w.numbers.limit (w.sessions.counted s) done may.counted (safe.done.held s))
      (safe.done.awaits s)

-- Putting a partition by a move of the session's own is safe.
pub putting_partition-safe_world :
    (w : World) (s p : ℕ) (done : Move) (content : Content) → SafeWorld w → MayPutPartition w s p done content
    → SafeWorld (after_putting_partition w s p done content)
putting_partition-safe_world w s p done content safe may = record {
  but_slots = with_own-safe (after_putting_partition w s p done content) _ _ (tabled-after w safe s p done [] content may.may_move)
      (putting_partition-safe (tabled w) s p done content safe.but_slots
      (record { may_move = MayMove-tabled w safe s p done [] content may.may_move; by_putting = may.by_putting }));
  lists = flags-partition w.words.partition w.words.fast (sleepers w) w.sessions.has_list w.numbers.live safe.lists p (put_word (w.words.partition p))
      (put_word-flags (w.words.partition p) ((safe.but_slots.table.promise.words p).held_is_shown s may.may_move.holding));
  slots = slots-moved w safe s p done [] content may.may_move;
  order = order-moved w safe s p done [] content may.may_move;
  counters = safe.counters;
  past = safe.past;
  done = done-moved w safe s p done [] content may.may_move;
  zero = safe.zero;
  remembered = safe.remembered;
}

-- Putting a partition with a move recorded is safe.
pub putting_recorded-safe_world : (w : World) (s p : ℕ) (done : Move) → SafeWorld w → MayPutRecorded w s p done → SafeWorld (after_putting_recorded w s p)
putting_recorded-safe_world w s p done safe may = beside-safe_world w (after_putting_recorded w s p) safe
    (putting_recorded-safe (tabled w) s p done safe.but_slots (record {
      steps = may.steps;
      holding = may.holding;
      recorded = may.recorded;
      all_marked = may.all_marked;
      wait_is_over = may.wait_is_over;
    }))
    (flags-partition w.words.partition w.words.fast (sleepers w) w.sessions.has_list w.numbers.live safe.lists p (put_word (w.words.partition p))
    (put_word-flags (w.words.partition p) ((safe.but_slots.table.promise.words p).held_is_shown s may.holding))) safe.zero safe.remembered
