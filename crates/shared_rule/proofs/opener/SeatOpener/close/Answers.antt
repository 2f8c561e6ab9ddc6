use Rattle.std.proofs.Common.{◌≡◌, List, ◌∷◌, ◌++◌, refl, sym, ap, ◌∙◌}
use Rattle.shared_rule.specs.declared.history.History.{History}
use Rattle.shared_rule.specs.declared.history.View.{View}
use Rattle.shared_rule.specs.Boards.{first_marks}
use Rattle.shared_rule.specs.History.{first_account}
use Rattle.shared_rule.specs.Openers.{OpenerState}
use Rattle.shared_rule.specs.Plays.{side_of, Side}
use Rattle.shared_rule.specs.Seats.{first_of}
use Rattle.shared_rule.specs.Quiet.{first_quiet}
use Rattle.shared_rule.proofs.opener.SeatOpener.close.Goals as goal
use Rattle.shared_rule.specs.Boards.{Stack}
use Rattle.shared_rule.specs.Owed.{first_owed}

pub tell_closed-requires-clause-opener : goal.tell_closed-requires-clause-opener
tell_closed-requires-clause-opener g c = record {
  number = c.self.inside.issued;
  next = ap (λ (side : Side g.row.T.Denot). side.0.next) c.close.ensures.side ∙ c.self.invariant.0;
}

pub returns-clause-closed : goal.returns-clause-closed
returns-clause-closed g c =
    let board = c.args.board in
    let had = c.self.inside.seat in
    let last : History g.row.T.Denot = record { number = board.number; marks = first_marks (side_of board.seat).0.sessions } in
    let came : (side_of c.into_seat-seat.result.1).0 ≡ (side_of board.seat).0 = ap (λ seat. (side_of seat).0) c.into_seat-seat.ensures.1 in
    let closed : (side_of c.tell_closed.new.opener).0.closed ≡ last ∷ (side_of had).0.closed =
    ap (λ (side : Side g.row.T.Denot). side.0.closed) (c.tell_closed.ensures.side ∙ c.close.ensures.side)
    ∙ ap (λ (view : View g.row.T.Denot). first_of view.sessions ++ (side_of had).0.closed) (came ∙ board.rests.lone) in
    let gathered : (side_of c.tell_closed.new.opener).0.sessions ≡ (side_of had).0.sessions =
    ap (λ (side : Side g.row.T.Denot). side.0.sessions) (c.tell_closed.ensures.side ∙ c.close.ensures.side) in
    let table : c.tell_closed.new.opener.table_id ≡ had.table_id = c.tell_closed.ensures.same_seat.table_id ∙ c.close.ensures.same_seat.table_id in
    record {
      last = last;
      number_ = refl;
      trace_ = ap (λ (view : View g.row.T.Denot). (first_account g.T.PartTable.content view.sessions).trace) (sym board.rests.lone);
      opener = (λ i. record { table = table i; issued = c.self.inside.issued; limit = c.self.inside.sizes.sessions; groups = c.self.inside.sizes.groups; closed = closed i; gathered = gathered i })
          ∙ ap (λ (old : OpenerState g.row.T.Denot). record old { closed = last ∷ old.closed }) c.self.view_is;
    }

-- The history that came last is the session's.
pub returns-clause-quiet : goal.returns-clause-quiet
returns-clause-quiet g c = λ its others is.
    let board = c.args.board in
    let came : (side_of c.into_seat-seat.result.1).0 ≡ (side_of board.seat).0 = ap (λ seat. (side_of seat).0) c.into_seat-seat.ensures.1 in
    sym (ap (λ (histories : List (History g.row.T.Denot)). first_quiet histories) is)
    ∙ ap (λ (side : Side g.row.T.Denot). first_quiet side.0.closed) (c.tell_closed.ensures.side ∙ c.close.ensures.side)
    ∙ ap (λ (view : View g.row.T.Denot). first_quiet (first_of view.sessions ++ (side_of c.self.inside.seat).0.closed)) (came ∙ board.rests.lone)
    ∙ ap (λ (view : View g.row.T.Denot). first_quiet view.sessions) (sym board.rests.lone)

pub close-requires-clause-wakes_nobody : goal.close-requires-clause-wakes_nobody
close-requires-clause-wakes_nobody g c =
    ap (λ seat. first_owed (side_of seat).0.sessions) c.into_seat-seat.ensures.1 ∙ ap (λ (s : Stack). s.owed) c.requires.stack
