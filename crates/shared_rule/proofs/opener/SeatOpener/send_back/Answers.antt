use Rattle.std.proofs.Common.{◌≡◌, [], sym, ap, ◌∙◌, subst}
use Rattle.shared_rule.specs.declared.history.View.{View}
use Rattle.shared_rule.specs.Boards.{parts_in_hand, Seated, first_marks, IsIdle, AreFree}
use Rattle.shared_rule.specs.History.{lone, first_account}
use Rattle.shared_rule.specs.Openers.{OpenerState}
use Rattle.shared_rule.specs.Plays.{side_of, Side}
use Rattle.shared_rule.specs.Layout.{IsSized}
use Rattle.shared_rule.specs.Quiet.{first_quiet}
use Rattle.shared_rule.specs.Seats.{all_but_last, last_of}
use Rattle.shared_rule.proofs.Lemmas.Idle.{free-one, free-last, free-left, first-wakes}
use Rattle.shared_rule.proofs.Lemmas.MetViews.{all_but_last-of, last_of-of, lone-last}
use Rattle.shared_rule.proofs.opener.SeatOpener.send_back.Goals as goal
use Rattle.shared_rule.specs.Owed.{first_owed}

pub at-requires-clause-lone : goal.at-requires-clause-lone
at-requires-clause-lone g c =
    let came = ap (λ (m : Side g.row.T.Denot). m.0) c.hand_back-seat.ensures.other in
    let last = c.requires.last in
    let is = ap (λ (o : OpenerState g.row.T.Denot). o.gathered) c.self.view_is ∙ last.gathered in
    let number = last.number_ ∙ sym (ap (λ (s : Seated). s.number) c.absent.view_is) in
    came ∙ lone-last (side_of c.self.inside.seat).0 last.before last.last c.absent.inside.number is number
    ∙ sym (ap (λ (v : View g.row.T.Denot). lone c.absent.inside.number (first_marks v.sessions)) came)

pub returns-clause-left : goal.returns-clause-left
returns-clause-left g c = λ before last gathered.
    let left = ap (λ (m : Side g.row.T.Denot). m.0) c.hand_back-seat.ensures.side in
    let came = ap (λ (m : Side g.row.T.Denot). m.0) c.hand_back-seat.ensures.other in
    let is = ap (λ (o : OpenerState g.row.T.Denot). o.gathered) c.self.view_is ∙ gathered in
    let table = c.hand_back-seat.ensures.same_seat.table_id in
    let closed = ap (λ (v : View g.row.T.Denot). v.closed) left in
    let rest = ap (λ (v : View g.row.T.Denot). v.sessions) left ∙ ap all_but_last is ∙ all_but_last-of before last in
    let there = ap (λ (v : View g.row.T.Denot). v.sessions) came ∙ ap last_of is ∙ last_of-of before last in (
      (λ i. record { table = table i; issued = c.self.inside.issued; limit = c.self.inside.sizes.sessions; groups = c.self.inside.sizes.groups; closed = closed i; gathered = rest i })
          ∙ ap (λ (o : OpenerState g.row.T.Denot). record o { gathered = before }) c.self.view_is,
      ap (λ seat. first_account g.T.PartTable.content (side_of seat).0.sessions) c.at.ensures.1 ∙ ap (first_account g.T.PartTable.content) there,
    )

pub returns-clause-quiet : goal.returns-clause-quiet
returns-clause-quiet g c = λ before last gathered.
    let came = ap (λ (m : Side g.row.T.Denot). m.0) c.hand_back-seat.ensures.other in
    let is = ap (λ (o : OpenerState g.row.T.Denot). o.gathered) c.self.view_is ∙ gathered in
    let there = ap (λ (v : View g.row.T.Denot). v.sessions) came ∙ ap last_of is ∙ last_of-of before last in
    ap (λ seat. first_quiet (side_of seat).0.sessions) c.at.ensures.1 ∙ ap first_quiet there

pub at-requires-clause-idle : goal.at-requires-clause-idle
at-requires-clause-idle g c =
    let came = ap (λ (m : Side g.row.T.Denot). m.0) c.hand_back-seat.ensures.other in
    subst (λ (v : View g.row.T.Denot). IsIdle v.sessions) (sym came)
    (free-one (last_of (side_of c.self.inside.seat).0.sessions) (free-last (side_of c.self.inside.seat).0.sessions c.self.invariant.4))

pub invariant_of-self : goal.invariant_of-self
invariant_of-self g c =
    let left = ap (λ (m : Side g.row.T.Denot). m.0) c.hand_back-seat.ensures.side in (
      ap (λ (v : View g.row.T.Denot). v.next) left ∙ c.self.invariant.0,
      c.self.invariant.1,
      c.self.invariant.2,
      subst (IsSized c.self.inside.sizes) (sym c.hand_back-seat.ensures.same_seat.table_id) c.self.invariant.3,
      subst (λ (v : View g.row.T.Denot). AreFree v.sessions) (sym left) (free-left (side_of c.self.inside.seat).0.sessions c.self.invariant.4),
    )

pub returns-clause-stack : goal.returns-clause-stack
returns-clause-stack g c =
    let came = ap (λ (m : Side g.row.T.Denot). m.0) c.hand_back-seat.ensures.other in
    let none : first_owed (side_of c.hand_back-seat.result).0.sessions ≡ [] =
    ap (λ (v : View g.row.T.Denot). first_owed v.sessions) came
    ∙ first-wakes (last_of (side_of c.self.inside.seat).0.sessions) (free-last (side_of c.self.inside.seat).0.sessions c.self.invariant.4) in
    let owed : first_owed (side_of c.at.result.seat).0.sessions ≡ [] = ap (λ seat. first_owed (side_of seat).0.sessions) c.at.ensures.1 ∙ none in
    let parts : (side_of c.at.result.seat).1 ≡ [] = ap (λ seat. (side_of seat).1) c.at.ensures.1 ∙ ap (λ (m : Side g.row.T.Denot). m.1) c.hand_back-seat.ensures.other in
    λ i. record { parts = parts_in_hand (parts i); owed = owed i }
