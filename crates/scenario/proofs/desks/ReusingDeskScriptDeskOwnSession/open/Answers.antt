use Rattle.std.proofs.Common.{◌≡◌, ◌<◌, ◌∙◌, ap, arith, inr, refl}
use Rattle.shared_rule.specs.Boards.{Seated}
use Rattle.scenario.proofs.Lemmas.Lent.{left-so, lent-so, one-less}
use Rattle.scenario.proofs.Lemmas.Numbers.{kept-known}
use Rattle.scenario.proofs.desks.ReusingDeskScriptDeskOwnSession.open.Goals as goal

pub invariant_of-self : goal.invariant_of-self
invariant_of-self g c =
    let lent = c.in-Some.ensures.lent in
    let fewer = one-less c.args.self.now.pool.free c.lend.new.self.free lent.place lent.lent lent.there (ap (λ pool. pool.free) lent.pool) in
    record {
      is = c.args.self.now.is;
      seats = c.args.self.now.seats;
      sees = c.args.self.now.sees;
      own = left-so (λ session. (g.B.Board.seat session.board).table ≡ g.M.ManagerName.manager.table)
          c.args.self.now.pool.free lent.place lent.lent c.lend.new.self.free lent.there (ap (λ pool. pool.free) lent.pool) c.args.self.now.own;
      known = left-so (λ session. (g.B.Board.seat session.board).number < g.D.Desk.issued c.args.self.now.desk)
          c.args.self.now.pool.free lent.place lent.lent c.lend.new.self.free lent.there (ap (λ pool. pool.free) lent.pool) c.args.self.now.known;
      none_closed = c.args.self.now.none_closed;
      free = omega (arith, fewer, c.args.self.now.free);
      issued = c.args.self.now.issued;
      room = rw (ap (λ pool. pool.lives) lent.pool) c.args.self.now.room;
    }

pub returns-in-Some-clause-known : goal.returns-in-Some-clause-known
returns-in-Some-clause-known g c =
    let lent = c.in-Some.ensures.lent in
    let own = lent-so (λ session. (g.B.Board.seat session.board).table ≡ g.M.ManagerName.manager.table)
    c.args.self.now.pool.free lent.place lent.lent lent.there c.args.self.now.own in
    let number = lent-so (λ session. (g.B.Board.seat session.board).number < g.D.Desk.issued c.args.self.now.desk)
    c.args.self.now.pool.free lent.place lent.lent lent.there c.args.self.now.known in
    kept-known _ _ _ _ (c.args.self.now.seats c.in-Some.session ∙ lent.next.seat_) (record { table = own; number = number })

pub returns-in-Some-clause-numbered : goal.returns-in-Some-clause-numbered
returns-in-Some-clause-numbered g c =
    let lent = c.in-Some.ensures.lent in
    let its = lent-so (λ session. (g.B.Board.seat session.board).number < g.D.Desk.issued c.args.self.now.desk)
    c.args.self.now.pool.free lent.place lent.lent lent.there c.args.self.now.known in
    let same = ap (λ (seat : Seated). seat.number) (c.args.self.now.seats c.in-Some.session ∙ lent.next.seat_) in
    inr (refl, omega (arith, its, same), refl)

pub returns-in-Some-clause-live : goal.returns-in-Some-clause-live
returns-in-Some-clause-live g c =
    let lent = c.in-Some.ensures.lent in
    let fewer = one-less c.args.self.now.pool.free c.lend.new.self.free lent.place lent.lent lent.there (ap (λ pool. pool.free) lent.pool) in
    omega (arith, fewer, c.args.self.now.free, c.args.self.now.none_closed)
