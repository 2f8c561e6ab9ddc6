use Rattle.std.proofs.Common.{◌≡◌, ◌≢◌, ℕ, true, List, sym, ap, ◌∙◌}
use Rattle.std.proofs.lemmas.Bool.{both_ways, eq-eqb}
use Rattle.lock_table.specs.declared.moves.Move.{Move}
use Rattle.lock_table.specs.Content.{Wait, Content}
use Rattle.lock_table.specs.Queue.{waits_there}
use Rattle.lock_world.specs.WaitWord.{wait_state}
use Rattle.lock_world.specs.World.{World, MakesSteps, recorded_in, is_unmarked}
use Rattle.lock_world.specs.Account.{InHand, account}
use Rattle.lock_world.specs.AccountLaw.{MayMarkFirstBy, MayMarkNextBy}
use Rattle.lock_world.specs.Happens.Partitions.{MayMove}
use Rattle.lock_world.specs.Happens.Waits.{MayMarkFirst, MayMarkNext}
use Rattle.lock_world.specs.Safe.{is_hand_of, stages}
use Rattle.lock_world.specs.SafeWorld.{SafeWorld, tabled}
use Rattle.lock_world.proofs.Lemmas.Moves.Moved.{granted-stood, granted-another}
use Rattle.lock_world.proofs.Lemmas.Waits.Group.{waits_of}
use Rattle.lock_world.proofs.Lemmas.Waits.Steps.{queued-waits}
use Rattle.lock_world.proofs.Lemmas.SafeWorld.Tabled.{MayMove-tabled}
use Rattle.lock_world.proofs.Lemmas.Accounts.Lawful.{hand-known, move-lawful}

-- Whom a move grants waits and is another than who makes it, so marking is lawful where the account of that
-- one says so.

module _ (w : World) (safe : SafeWorld w) (s p : ℕ) (done : Move) (granted : List Wait) (content : Content) (may : MayMove w s p done granted content) where
  abbrev in_table : MayMove (tabled w) s p done granted content
  in_table = MayMove-tabled w safe s p done granted content may

  pub granted-is_another : (k : ℕ) → waits_there granted k ≡ true → k ≢ s
  granted-is_another k among same =
      both_ways (waits_there granted s)
      (granted-another w.contents.now (tabled w).sessions.own w.sessions.awaited (stages w) p s done granted content safe.but_slots.table.promise.one_place
      safe.but_slots.table.promise.none_free in_table.object in_table.own in_table.moved)
      (ap (waits_there granted) (sym same) ∙ among)

  pub granted-shows_waiting : (k : ℕ) → waits_there granted k ≡ true → wait_state (w.words.wait k) ≡ 1
  granted-shows_waiting k among =
      let stood = granted-stood w.contents.now (tabled w).sessions.own w.sessions.awaited (stages w) p s done granted content safe.but_slots.table.promise.one_place
      safe.but_slots.table.promise.none_free in_table.object in_table.own in_table.moved k among in
      queued-waits w.contents.now (tabled w).sessions.own w.sessions.awaited w.sessions.seen w.words.wait w.contents.hand (waits_of (tabled w) safe.but_slots.table) k stood.wait
      stood.is_wait stood.in_queue

module _ (w : World) (safe : SafeWorld w) (s : ℕ) (steps : MakesSteps w.numbers s) where
  pub mark_first-lawful :
      (p : ℕ) (its : InHand) (done : Move) (granted : List Wait) (content : Content) (k : ℕ) → MayMarkFirstBy w.numbers.limit s (account w s) p its done granted content k
      → MayMarkFirst w s k p done granted content
  mark_first-lawful p its done granted content k may =
      let made = move-lawful w safe s steps p its done granted content may.may_move in
      record {
        may_move = made;
        may_mark = record {
          another = granted-is_another w safe s p done granted content made k may.among;
          waiting = granted-shows_waiting w safe s p done granted content made k may.among;
        };
        among = may.among;
      }

  pub mark_next-lawful : (p : ℕ) (its : InHand) (done : Move) (k : ℕ) → MayMarkNextBy (account w s) p its done k → MayMarkNext w s k p done
  mark_next-lawful p its done k may =
      let own = hand-known (w.contents.hand p) (w.contents.now p) s its may.in_hand in
      let of_s : is_hand_of (w.contents.hand p) s ≡ true = ap (λ h. is_hand_of h s) own.is_hand ∙ eq-eqb own.hand_of.holder s own.whose in
      let unmarked : is_unmarked (w.contents.hand p) k ≡ true = ap (λ h. is_unmarked h k) own.is_hand ∙ ap (λ known. known.unmarked k) (sym own.as_known) ∙ may.still_unmarked in
      record {
        steps = steps;
        holding = safe.but_slots.table.carriers.hands p s ∙ of_s;
        recorded = ap recorded_in own.is_hand ∙ ap (λ known. known.recorded) (sym own.as_known) ∙ may.recorded;
        may_mark = record {
          another = λ same. both_ways (is_hand_of (w.contents.hand p) s)
              (ap (is_hand_of (w.contents.hand p)) (sym same) ∙ safe.but_slots.table.promise.wait_words.unmarked_of_another p k unmarked) of_s;
          waiting = safe.but_slots.table.promise.wait_words.unmarked_shows_waiting p k unmarked;
        };
        is_unmarked_in = unmarked;
      }
