use Rattle.std.proofs.Common.{◌≡◌, ℕ, true, false, Option, Some, None, refl, sym, ap, ◌∙◌}
use Rattle.modes_core.specs.declared.modes.Mode.{Mode}
use Rattle.modes_core.specs.declared.tags.Tag.{Tag}
use Rattle.modes_core.specs.Tag.{partition_of, is_eligible_for}
use Rattle.lock_table.specs.declared.moves.Move.{Move}
use Rattle.lock_table.specs.declared.moves.Move.TheVariants.{Adopt}
use Rattle.lock_table.specs.Content.{Holds, Content, set_hold, add_hold}
use Rattle.lock_table.specs.Clash.{NoConflictingHolder}
use Rattle.lock_table.specs.OwnWait.{is_for}
use Rattle.lock_table.specs.Put.{set_at}
use Rattle.lock_table.proofs.Lemmas.Put.{set_at-each}
use Rattle.lock_table.proofs.Lemmas.Holds.{set_hold-other_session}
use Rattle.lock_world.specs.World.{World, Hand, recorded_in, is_unmarked}
use Rattle.lock_world.specs.Happens.Waits.{recording}
use Rattle.lock_world.specs.Happens.Transfers.{MayAdopt}
use Rattle.lock_world.specs.Safe.{SafeButSlots, is_hand_of, is_leave_of, stage_of}
use Rattle.lock_world.proofs.Lemmas.Moves.Each.{LeavesSafe, LeavesSafe-added}
use Rattle.lock_world.proofs.Lemmas.Moves.Moved.{AreInOnePlace-stage}
use Rattle.lock_world.proofs.Lemmas.Waits.Stages.{hand-same, stage_of-set, recording-hand, recording-recorded, recording-unmarked, recording-by_move}
use Rattle.lock_world.proofs.Lemmas.Waits.Shown.{WaitsAreSafe, UnmarkedWell}
use Rattle.lock_world.proofs.Lemmas.Waits.Group.{waits_of, with_waits-table, SpentHaveNothing-own}
use Rattle.lock_world.proofs.Lemmas.Table.Waits.{recording-holders}
use Rattle.lock_world.proofs.Lemmas.Safe.Partitions.{holding-hand}
use Rattle.lock_world.proofs.Lemmas.Traces.{TracesTell-record, recorded-adopted}

-- An adopt, as partitions know it: a session in whose hand the partition is adds a hold of another, or of its
-- own, to the content, and so to that session's own holds. It conflicts with no hold of others.

-- No leave is recorded where an adopt may be.
MayAdopt-no_leave : (recorded : Option Move) (owner place : ℕ) (t : Tag) → MayAdopt recorded owner place → is_leave_of recorded t ≡ false
MayAdopt-no_leave None owner place t may = refl
MayAdopt-no_leave (Some done) owner place t same = ap (λ made. is_leave_of (Some made) t) same

-- The World after it, with own holds as the table knows them.
abbrev pub with_adopted : World → ℕ → ℕ → Tag → Mode → World
with_adopted w owner place t m = record {
  words = w.words;
  contents = record {
    now = set_at w.contents.now (partition_of t) (add_hold (w.contents.now (partition_of t)) owner t m);
    hand = set_at w.contents.hand (partition_of t) (recording (w.contents.hand (partition_of t)) (Adopt owner place) (is_unmarked (w.contents.hand (partition_of t))));
  };
  sessions = record (w.sessions) { own = set_hold w.sessions.own owner t m true };
  numbers = w.numbers;
}

module _ (w : World) (s owner place : ℕ) (t : Tag) (m : Mode) (safe : SafeButSlots w) (holding : w.sessions.holds_partition s (partition_of t) ≡ true) (live : w.numbers.live owner ≡ true)
    (may : MayAdopt (recorded_in (w.contents.hand (partition_of t))) owner place) (free : NoConflictingHolder (w.contents.now (partition_of t)).holds owner t m)
    (not_awaited : is_for (w.sessions.awaited owner) t m ≡ false) (database : ℕ) (eligible : is_eligible_for database t m ≡ true) where
  abbrev p : ℕ
  p = partition_of t

  abbrev hand : Option Hand
  hand = w.contents.hand p

  abbrev new : Option Hand
  new = recording hand (Adopt owner place) (is_unmarked hand)

  abbrev own : Holds
  own = set_hold w.sessions.own owner t m true

  abbrev now : ℕ → Content
  now = set_at w.contents.now p (add_hold (w.contents.now p) owner t m)

  its : is_hand_of hand s ≡ true
  its = holding-hand w s p safe holding

  waits : WaitsAreSafe w.contents.now w.sessions.own w.sessions.awaited w.sessions.seen w.words.wait w.contents.hand
  waits = waits_of w safe.table

  added : LeavesSafe now own w.sessions.awaited (λ k. stage_of (w.words.wait k) w.contents.hand k (w.sessions.awaited k))
  added = LeavesSafe-added w.contents.now w.sessions.own w.sessions.awaited (λ k. stage_of (w.words.wait k) w.contents.hand k (w.sessions.awaited k)) p owner t
      (record { no_conflict = waits.no_conflict; one_place = waits.one_place; none_free = waits.none_free }) refl m free not_awaited

  same_unmarked : (k : ℕ) → is_unmarked new k ≡ is_unmarked hand k
  same_unmarked = recording-unmarked hand (Adopt owner place) (is_unmarked hand) s its

  same_stage : (k : ℕ) → stage_of (w.words.wait k) w.contents.hand k (w.sessions.awaited k) ≡ stage_of (w.words.wait k) (set_at w.contents.hand p new) k (w.sessions.awaited k)
  same_stage k = stage_of-set (w.words.wait k) w.contents.hand p new k (w.sessions.awaited k) (λ wait is here.
      hand-same hand new k wait.tag (sym (same_unmarked k)) (sym (recording-hand hand (Adopt owner place) (is_unmarked hand) k))
      (MayAdopt-no_leave (recorded_in hand) owner place wait.tag may
      ∙ sym (ap (λ made. is_leave_of made wait.tag) (recording-recorded hand (Adopt owner place) (is_unmarked hand) s its))))

  unmarked_well : UnmarkedWell w.words.wait w.sessions.awaited p new
  unmarked_well k stands =
      let was = waits.owing p k (sym (same_unmarked k) ∙ stands) in
      record {
        wait = was.wait;
        is_wait = was.is_wait;
        in_partition = was.in_partition;
        shows_waiting = was.shows_waiting;
        by_another = recording-hand hand (Adopt owner place) (is_unmarked hand) k ∙ was.by_another;
      }

  adopted-waits : WaitsAreSafe now own w.sessions.awaited w.sessions.seen w.words.wait (set_at w.contents.hand p new)
  adopted-waits = record {
    no_conflict = added.no_conflict;
    one_place = AreInOnePlace-stage now own w.sessions.awaited (λ k. stage_of (w.words.wait k) w.contents.hand k (w.sessions.awaited k))
        (λ k. stage_of (w.words.wait k) (set_at w.contents.hand p new) k (w.sessions.awaited k)) (λ k wait is. same_stage k) added.one_place;
    none_free = added.none_free;
    showing = waits.showing;
    owing = set_at-each (λ q h. UnmarkedWell w.words.wait w.sessions.awaited q h) w.contents.hand p new unmarked_well (λ q _. waits.owing q);
    by_move = set_at-each (λ _ h. recorded_in h ≡ None → (k : ℕ) → is_unmarked h k ≡ false) w.contents.hand p new
        (recording-by_move hand (Adopt owner place) (is_unmarked hand)) (λ q _. waits.by_move q);
  }

  -- The adopt is safe.
  pub adopting-safe : SafeButSlots (with_adopted w owner place t m)
  adopting-safe = record {
    table = with_waits-table w now own w.sessions.awaited w.sessions.seen w.words.wait (set_at w.contents.hand p new) w.sessions.trace safe.table adopted-waits
        (SpentHaveNothing-own w.numbers.live w.sessions.own own w.sessions.awaited w.sessions.awaited w.sessions.holds_partition owner live
        (λ k o n other. set_hold-other_session w.sessions.own owner t m true k o n other) (λ _ _. refl) safe.table.promise.spent)
        (recording-holders w.contents.hand p (Adopt owner place) (is_unmarked hand));
    locks = safe.locks;
    traces = TracesTell-record w.contents w.sessions.trace w.numbers.issued safe.traces p (Adopt owner place) (is_unmarked hand) (add_hold (w.contents.now p) owner t m)
        (recorded-adopted w.contents w.sessions.trace w.numbers.issued safe.traces p owner place t m (is_unmarked hand) may
        (record { object = refl; database = database; eligible = eligible }));
  }
