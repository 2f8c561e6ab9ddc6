use Rattle.std.proofs.Common.{◌≡◌, ◌≢◌, ℕ, List, [], ◌++◌, ap, ◌∙◌}
use Rattle.shared_rule.specs.declared.history.Mark.{Mark}
use Rattle.shared_rule.specs.declared.history.View.{View}
use Rattle.shared_rule.specs.History.{lone}
use Rattle.shared_rule.specs.Boards.{first_marks, Stack}
use Rattle.shared_rule.specs.Plays.{Side, side_of}
use Rattle.shared_rule.specs.Seats.{HaveTwoNumbers}
use Rattle.shared_rule.proofs.Lemmas.Sides.{told-of_both}
use Rattle.shared_rule.proofs.seat_board.SeatBoard.meet.Goals as goal

-- Of two sessions that each were alone at a seat, and are at one, the numbers are those that they had.
numbers-of_both : {T : Type 0} (view its joined : View T) (number other : ℕ) (marks theirs : List (Mark T)) → view ≡ lone number marks → its ≡ lone other theirs → joined.sessions ≡ view.sessions ++ its.sessions
    → HaveTwoNumbers joined.sessions → number ≢ other
numbers-of_both {T} view its joined number other marks theirs is is_other both apart =
    apart (record { number = number; marks = marks }) (record { number = other; marks = theirs }) []
    (both ∙ (λ i. (ap (λ (v : View T). v.sessions) is) i ++ (ap (λ (v : View T). v.sessions) is_other) i))

pub returns-clause-told : goal.returns-clause-told
returns-clause-told g c =
    let seat = c.args.self.now.seat in
    told-of_both g.T.PartTable.content (side_of seat).0 (side_of c.keep_apart.new.seat).0 c.args.self.now.number (first_marks (side_of seat).0.sessions) (side_of c.args.other.seat).0.sessions
    c.args.self.now.rests.lone (ap (λ (m : Side g.row.T.Denot). m.0.sessions) c.keep_apart.ensures.side) c.tell_apart.ensures.apart

pub returns-clause-apart : goal.returns-clause-apart
returns-clause-apart g c =
    let mine = (side_of c.args.self.now.seat).0 in
    let its = (side_of c.args.other.seat).0 in
    numbers-of_both mine its (side_of c.keep_apart.new.seat).0 c.args.self.now.number c.args.other.number (first_marks mine.sessions) (first_marks its.sessions)
    c.args.self.now.rests.lone c.args.other.rests.lone (ap (λ (m : Side g.row.T.Denot). m.0.sessions) c.keep_apart.ensures.side) c.tell_apart.ensures.numbers

pub keep_apart-requires-clause-free : goal.keep_apart-requires-clause-free
keep_apart-requires-clause-free g c = record { idle = c.args.other.rests.idle; wakes_nobody = ap (λ (s : Stack). s.owed) c.requires.stack }
