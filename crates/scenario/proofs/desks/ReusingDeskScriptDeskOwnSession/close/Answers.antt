use Rattle.std.proofs.Common.{◌≡◌, ℕ, List, ◌≤◌, ◌<◌, ◌∙◌, ap, arith, length, length-set, subst, sym}
use Rattle.std.specs.Prelude.{All}
use Rattle.std.proofs.lemmas.List.Elements.{All-push}
use Rattle.shared_rule.specs.Boards.{Seated}
use Rattle.scenario.proofs.Lemmas.Lent.{has-room}
use Rattle.scenario.proofs.desks.ReusingDeskScriptDeskOwnSession.close.Goals as goal

pub close-requires-clause-own : goal.close-requires-clause-own
close-requires-clause-own g c =
    ap (λ (seat : Seated). seat.table) (sym (c.args.self.now.seats c.args.session)) ∙ c.requires.known.table ∙ sym (ap (λ manager. manager.table) c.args.self.now.is)

pub invariant_of-self-clause-own : goal.invariant_of-self-clause-own
invariant_of-self-clause-own g c = rw c.args.self.now.is at c.close.ensures.free

pub invariant_of-self-clause-known : goal.invariant_of-self-clause-known
invariant_of-self-clause-known g c =
    let number = ap (λ (seat : Seated). seat.number) (c.args.self.now.seats c.args.session) in
    let room = has-room c.args.self.now.pool (g.B.Board.seat c.args.session.board).number _ _ _ c.requires.some c.args.self.now.none_closed
    c.args.self.now.issued c.args.self.now.room (omega (arith, number, c.requires.known.number)) in
    let taken = c.close.ensures.taken room in
    let seat = ap (λ (seat : Seated). seat.number) (taken.0.next.seat_ ∙ sym (c.args.self.now.seats c.args.session)) in
    subst (λ desk. All (λ session. (g.B.Board.seat session.board).number < g.D.Desk.issued desk) c.close.new.self.free) (sym taken.1)
    (subst (λ those. All (λ session. (g.B.Board.seat session.board).number < g.D.Desk.issued c.args.self.now.desk) those) (sym taken.0.free)
    (All-push (λ session. (g.B.Board.seat session.board).number < g.D.Desk.issued c.args.self.now.desk) c.args.self.now.pool.free taken.0.rests
    c.args.self.now.known (omega (arith, seat, c.requires.known.number))))

pub invariant_of-self-clause-none_closed : goal.invariant_of-self-clause-none_closed
invariant_of-self-clause-none_closed g c =
    let number = ap (λ (seat : Seated). seat.number) (c.args.self.now.seats c.args.session) in
    let room = has-room c.args.self.now.pool (g.B.Board.seat c.args.session.board).number _ _ _ c.requires.some c.args.self.now.none_closed
    c.args.self.now.issued c.args.self.now.room (omega (arith, number, c.requires.known.number)) in
    subst (λ desk. g.D.Desk.live desk ≡ g.D.Desk.issued desk) (sym (c.close.ensures.taken room).1) c.args.self.now.none_closed

pub invariant_of-self-clause-free : goal.invariant_of-self-clause-free
invariant_of-self-clause-free g c =
    let number = ap (λ (seat : Seated). seat.number) (c.args.self.now.seats c.args.session) in
    let room = has-room c.args.self.now.pool (g.B.Board.seat c.args.session.board).number _ _ _ c.requires.some c.args.self.now.none_closed
    c.args.self.now.issued c.args.self.now.room (omega (arith, number, c.requires.known.number)) in
    let same = ap g.D.Desk.issued (c.close.ensures.taken room).1 in
    let more = c.close.ensures.one_more room in
    omega (arith, same, more, c.requires.some, c.args.self.now.none_closed)

pub invariant_of-self-clause-issued : goal.invariant_of-self-clause-issued
invariant_of-self-clause-issued g c =
    let number = ap (λ (seat : Seated). seat.number) (c.args.self.now.seats c.args.session) in
    let room = has-room c.args.self.now.pool (g.B.Board.seat c.args.session.board).number _ _ _ c.requires.some c.args.self.now.none_closed
    c.args.self.now.issued c.args.self.now.room (omega (arith, number, c.requires.known.number)) in
    subst (λ desk. g.D.Desk.issued desk ≤ g.M.ManagerName.manager.limit) (sym (c.close.ensures.taken room).1) c.args.self.now.issued

pub invariant_of-self-clause-room : goal.invariant_of-self-clause-room
invariant_of-self-clause-room g c =
    let number = ap (λ (seat : Seated). seat.number) (c.args.self.now.seats c.args.session) in
    let room = has-room c.args.self.now.pool (g.B.Board.seat c.args.session.board).number _ _ _ c.requires.some c.args.self.now.none_closed
    c.args.self.now.issued c.args.self.now.room (omega (arith, number, c.requires.known.number)) in
    let taken = c.close.ensures.taken room in
    let lives = ap (λ (lives : List ℕ). length lives) taken.0.lives ∙ length-set c.args.self.now.pool.lives _ _ in
    omega (arith, lives, c.args.self.now.room)

pub returns-clause-live : goal.returns-clause-live
returns-clause-live g c =
    let number = ap (λ (seat : Seated). seat.number) (c.args.self.now.seats c.args.session) in
    let room = has-room c.args.self.now.pool (g.B.Board.seat c.args.session.board).number _ _ _ c.requires.some c.args.self.now.none_closed
    c.args.self.now.issued c.args.self.now.room (omega (arith, number, c.requires.known.number)) in
    let same = ap g.D.Desk.live (c.close.ensures.taken room).1 in
    let more = c.close.ensures.one_more room in
    omega (arith, same, more, c.requires.some)

pub returns-clause-issued : goal.returns-clause-issued
returns-clause-issued g c =
    let number = ap (λ (seat : Seated). seat.number) (c.args.self.now.seats c.args.session) in
    let room = has-room c.args.self.now.pool (g.B.Board.seat c.args.session.board).number _ _ _ c.requires.some c.args.self.now.none_closed
    c.args.self.now.issued c.args.self.now.room (omega (arith, number, c.requires.known.number)) in
    ap g.D.Desk.issued (c.close.ensures.taken room).1
