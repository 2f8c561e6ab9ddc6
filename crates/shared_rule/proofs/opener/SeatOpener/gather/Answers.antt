use Rattle.std.proofs.Common.{◌≡◌, [], ◌∷◌, ◌++◌, refl, sym, ap, ◌∙◌, subst}
use Rattle.shared_rule.specs.declared.history.History.{History}
use Rattle.shared_rule.specs.declared.history.View.{View}
use Rattle.shared_rule.specs.Boards.{first_marks, AreFree}
use Rattle.shared_rule.specs.History.{first_account}
use Rattle.shared_rule.specs.Openers.{OpenerState}
use Rattle.shared_rule.specs.Plays.{side_of, Side}
use Rattle.shared_rule.specs.Layout.{IsSized}
use Rattle.shared_rule.specs.Quiet.{first_quiet}
use Rattle.shared_rule.proofs.Lemmas.Idle.{free-with, free-lone}
use Rattle.shared_rule.proofs.opener.SeatOpener.gather.Goals as goal
use Rattle.shared_rule.specs.Boards.{Stack, IsFree}

pub invariant_of-self : goal.invariant_of-self
invariant_of-self g c =
    let board = c.args.board in
    let side = ap (λ (m : Side g.row.T.Denot). m.0) c.keep_apart.ensures.side in
    let came : (side_of c.into_seat-seat.result.1).0 ≡ (side_of board.seat).0 = ap (λ seat. (side_of seat).0) c.into_seat-seat.ensures.1 in
    let its : AreFree (side_of board.seat).0.sessions = free-lone (side_of board.seat).0 board.number (first_marks (side_of board.seat).0.sessions) board.rests.lone board.rests.idle (ap (λ (s : Stack). s.owed) c.requires.stack) in (
      ap (λ (view : View g.row.T.Denot). view.next) side ∙ c.self.invariant.0,
      c.self.invariant.1,
      c.self.invariant.2,
      subst (IsSized c.self.inside.sizes) (sym c.keep_apart.ensures.same_seat.table_id) c.self.invariant.3,
      subst (λ (view : View g.row.T.Denot). AreFree view.sessions) (sym side)
          (free-with (side_of c.self.inside.seat).0.sessions (side_of c.into_seat-seat.result.1).0.sessions c.self.invariant.4
          (subst (λ (view : View g.row.T.Denot). AreFree view.sessions) (sym came) its)),
    )

pub returns-clause-gathered : goal.returns-clause-gathered
returns-clause-gathered g c =
    let board = c.args.board in
    let had = c.self.inside.seat in
    let last : History g.row.T.Denot = record { number = board.number; marks = first_marks (side_of board.seat).0.sessions } in
    let side = ap (λ (m : Side g.row.T.Denot). m.0) c.keep_apart.ensures.side in
    let came : (side_of c.into_seat-seat.result.1).0 ≡ (side_of board.seat).0 = ap (λ seat. (side_of seat).0) c.into_seat-seat.ensures.1 in
    let table = c.keep_apart.ensures.same_seat.table_id in
    let closed = ap (λ (view : View g.row.T.Denot). view.closed) side in
    let gathered = ap (λ (view : View g.row.T.Denot). view.sessions) side
    ∙ ap (λ (view : View g.row.T.Denot). (side_of had).0.sessions ++ view.sessions) (came ∙ board.rests.lone) in
    record {
      last = last;
      number_ = refl;
      account_ = ap (λ (view : View g.row.T.Denot). first_account g.T.PartTable.content view.sessions) (sym board.rests.lone);
      quiet_ = ap (λ (view : View g.row.T.Denot). first_quiet view.sessions) (sym board.rests.lone);
      opener = (λ i. record { table = table i; issued = c.self.inside.issued; limit = c.self.inside.sizes.sessions; groups = c.self.inside.sizes.groups; closed = closed i; gathered = gathered i })
          ∙ ap (λ (old : OpenerState g.row.T.Denot). record old { gathered = old.gathered ++ last ∷ [] }) c.self.view_is;
    }

pub keep_apart-requires-clause-free : goal.keep_apart-requires-clause-free
keep_apart-requires-clause-free g c =
    subst (λ seat. IsFree (side_of seat).0.sessions) (sym c.into_seat-seat.ensures.1)
    (record { idle = c.args.board.rests.idle; wakes_nobody = ap (λ (s : Stack). s.owed) c.requires.stack })
