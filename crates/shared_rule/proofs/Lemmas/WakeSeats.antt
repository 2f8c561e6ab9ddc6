use Rattle.std.proofs.Common.{◌≡◌, ℕ, ◌≤◌, true, List, [], ◌∷◌, ◌++◌, sym, ap, ◌∙◌, subst}
use Rattle.lock_world.specs.declared.events.Event.{Event}
use Rattle.lock_world.specs.World.{World, opening}
use Rattle.lock_world.specs.Happens.{Happens}
use Rattle.lock_world.specs.Wakes.{Beside, nothing_beside, Turn, happened, beside_after, KeepsInOrder}
use Rattle.lock_world.specs.Wakes.Calling.{Calls}
use Rattle.lock_world.specs.Wakes.Owing.{Duties, Asks, AsksInOrder}
use Rattle.lock_world.proofs.Lemmas.Wakes.Runs.{run-push}
use Rattle.shared_rule.specs.declared.history.History.{History}
use Rattle.shared_rule.specs.declared.history.View.{View}
use Rattle.shared_rule.specs.declared.rule.TableSizes.{TableSizes}
use Rattle.shared_rule.specs.Owed.{owed_told}
use Rattle.shared_rule.specs.Ruled.{todo_of, todo_with, OwesAsTold, StandsAtSeat, StandsClosed, WakesAreKept}
use Rattle.shared_rule.specs.Tells.{AreTurnsTold, is_of_seats, turns_of}
use Rattle.shared_rule.specs.Todos.{without_lost, todo_told_by, flagged_told_by}
use Rattle.shared_rule.proofs.Lemmas.Told.{of_seats}
use Rattle.shared_rule.proofs.Lemmas.Turns.{events-push, turns-beside}

-- Seats that are cut in two and joined leave what stands beside the World as it is.

-- A history tells the turns of its session, and what stands beside the World of it.
pub record TellsSo {T : Type 0} (beside : Beside) (turns : List Turn) (history : History T) : Type 0 where
  pub todo : without_lost (todo_told_by history.number history.marks) ≡ todo_of beside history.number
  pub flagged : flagged_told_by history.marks ≡ beside.duties.flagged history.number
  pub owed : OwesAsTold beside history.number (owed_told history.marks)
  pub turns_ : AreTurnsTold history.number history.marks (turns_of history.number turns)

-- Each does so that has a seat,
pub each-tells : {T : Type 0} (sizes : TableSizes) (views : List (View T)) (events : List Event) (w : World) (kept : WakesAreKept sizes views events w)
    (h : History T) → StandsAtSeat views h → TellsSo kept.beside kept.turns h
each-tells sizes views events w kept h stands = record { todo = kept.todo h stands; flagged = kept.flagged h stands; owed = kept.owed h stands; turns_ = kept.told.at_seat h stands }

-- and so does that of a number that was not given out, with no step.
pub new-tells : {T : Type 0} (sizes : TableSizes) (views : List (View T)) (events : List Event) (w : World) (kept : WakesAreKept sizes views events w) (number : ℕ) → w.numbers.issued ≤ number
    → TellsSo {T = T} kept.beside kept.turns (record { number = number; marks = [] })
new-tells sizes views events w kept number later =
    record { todo = kept.none_todo number later; flagged = kept.none_flagged number later; owed = kept.none_owed number later; turns_ = kept.told.none number later }

module _ {T : Type 0} (sizes : TableSizes) (views after : List (View T)) (events : List Event) (w v : World) (event : Event) (happens : Happens w event v) (kept : WakesAreKept sizes views events w)
    (asks : Asks w kept.beside.duties kept.beside.waits kept.beside.sleeps event.session event.step) (in_order : AsksInOrder w event.session event.step)
    (seats : is_of_seats event.step ≡ true) (duties : (beside_after w kept.beside (happened event)).duties ≡ kept.beside.duties)
    (waits : (beside_after w kept.beside (happened event)).waits ≡ kept.beside.waits) (sleeps : (beside_after w kept.beside (happened event)).sleeps ≡ kept.beside.sleeps) where
  abbrev beside_next : Beside
  beside_next = beside_after w kept.beside (happened event)

  todo-still : (k : ℕ) → todo_of beside_next k ≡ todo_of kept.beside k
  todo-still k i = todo_with (duties i) ((sleeps i).owed k) k

  owed-still : (k : ℕ) (owed : List ℕ) → OwesAsTold kept.beside k owed → OwesAsTold beside_next k owed
  owed-still k owed was o owes = was o (ap (λ (c : Calls). c.owed k o) (sym waits) ∙ owes)

  still : (k : ℕ) → turns_of k (kept.turns ++ happened event ∷ []) ≡ turns_of k kept.turns
  still k = turns-beside k kept.turns (happened event) (of_seats k event seats)

  pub wakes-seated : ((h : History T) → StandsAtSeat after h → TellsSo kept.beside kept.turns h)
      → ((h : History T) → StandsClosed after h → AreTurnsTold h.number h.marks (turns_of h.number kept.turns))
      → ((k : ℕ) → v.numbers.issued ≤ k → w.numbers.issued ≤ k) → WakesAreKept sizes after (events ++ event ∷ []) v
  wakes-seated each closed issued = record {
    turns = kept.turns ++ happened event ∷ [];
    beside = beside_next;
    run = (kept.run.0, run-push KeepsInOrder (opening sizes.sessions sizes.groups) w v nothing_beside kept.beside kept.turns (happened event) kept.run.1 ((happens, asks), in_order));
    events_ = events-push kept.turns event ∙ ap (λ its. its ++ event ∷ []) kept.events_;
    told = record {
      at_seat = λ h stands. subst (AreTurnsTold h.number h.marks) (sym (still h.number)) (each h stands).turns_;
      closed = λ h stands. subst (AreTurnsTold h.number h.marks) (sym (still h.number)) (closed h stands);
      none = λ k later. still k ∙ kept.told.none k (issued k later);
    };
    todo = λ h stands. (each h stands).todo ∙ sym (todo-still h.number);
    flagged = λ h stands. (each h stands).flagged ∙ ap (λ (d : Duties). d.flagged h.number) (sym duties);
    owed = λ h stands. owed-still h.number (owed_told h.marks) (each h stands).owed;
    none_todo = λ k later. kept.none_todo k (issued k later) ∙ sym (todo-still k);
    none_flagged = λ k later. kept.none_flagged k (issued k later) ∙ ap (λ (d : Duties). d.flagged k) (sym duties);
    none_owed = λ k later. owed-still k [] (kept.none_owed k (issued k later));
  }

-- Where nothing happened but that histories stand elsewhere.
pub wakes-moved : {T : Type 0} (sizes : TableSizes) (views after : List (View T)) (events : List Event) (w : World) (kept : WakesAreKept sizes views events w)
    → ((h : History T) → StandsAtSeat after h → TellsSo kept.beside kept.turns h) → ((h : History T) → StandsClosed after h → StandsClosed views h) → WakesAreKept sizes after events w
wakes-moved sizes views after events w kept each closed = record {
  turns = kept.turns;
  beside = kept.beside;
  run = kept.run;
  events_ = kept.events_;
  told = record { at_seat = λ h stands. (each h stands).turns_; closed = λ h stands. kept.told.closed h (closed h stands); none = kept.told.none };
  todo = λ h stands. (each h stands).todo;
  flagged = λ h stands. (each h stands).flagged;
  owed = λ h stands. (each h stands).owed;
  none_todo = kept.none_todo;
  none_flagged = kept.none_flagged;
  none_owed = kept.none_owed;
}
