use Rattle.std.proofs.Common.{◌≢◌, subst}
use Rattle.lock_manager.specs.Sessions.{DontConflict}
use Rattle.shared_rule.specs.Boards.{Seated}
use Rattle.connections.proofs.desk.DeskOf.meet.Goals as goal

pub returns-clause-told : goal.returns-clause-told
returns-clause-told g c =
    let entries = c.args.self.now.shows.entries in
    let first = c.args.first.now.session in
    let second = c.args.second.session in
    subst (λ held. DontConflict held second.owned.entries) (entries first)
    (subst (λ held. DontConflict (g.D.Desk.entries first) held) (entries second)
    (subst (λ session. DontConflict (g.D.Desk.entries first) (g.D.Desk.entries session)) c.into_session.ensures.session
    c.meet-session.ensures.told))

pub returns-clause-apart : goal.returns-clause-apart
returns-clause-apart g c =
    let seats = c.args.self.now.shows.seats in
    let first = c.args.first.now.session in
    let second = c.args.second.session in
    subst (λ (seat : Seated). seat.number ≢ (g.B.Board.seat second.board).number) (seats first)
    (subst (λ (seat : Seated). (g.D.Desk.seat first).number ≢ seat.number) (seats second)
    (subst (λ session. (g.D.Desk.seat first).number ≢ (g.D.Desk.seat session).number) c.into_session.ensures.session
    c.meet-session.ensures.apart))
