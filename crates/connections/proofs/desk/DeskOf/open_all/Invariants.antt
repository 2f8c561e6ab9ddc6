use Rattle.std.proofs.Common.{◌≡◌, ◌≤◌, ◌+◌, [], All, length}
use Rattle.std.specs.Vec.{vec_capacity}
use Rattle.connections.specs.Shown.{AreNumberedFrom}
use Rattle.connections.proofs.desk.DeskOf.open_all.Given as goal

abbrev pub invariant-numbers : goal.invariant-numbers
invariant-numbers g l = record {
  all : length l.opened.items ≡ l.place;
  room : l.number ≤ vec_capacity l.opened;
  nothing : All (λ its. its.session.owned.entries ≡ []) l.opened.items;
  database : All (λ its. its.session.database ≡ l.database) l.opened.items;
  numbers : AreNumberedFrom (λ its. (g.B.Board.seat its.session.board).number) (g.D.Desk.issued l.fn.self.desk) l.opened.items;
  live : g.D.Desk.live l.self.desk ≡ g.D.Desk.live l.fn.self.desk + l.place;
  issued : g.D.Desk.issued l.self.desk ≡ g.D.Desk.issued l.fn.self.desk + l.place;
}
