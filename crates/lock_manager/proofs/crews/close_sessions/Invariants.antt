use Rattle.std.proofs.Common.{◌≡◌, ◌-◌, length}
use Rattle.std.specs.Prelude.{vec_len}
use Rattle.lock_manager.specs.Crews.{AreOf}
use Rattle.lock_manager.proofs.crews.close_sessions.Given as goal

abbrev pub invariant-sessions : goal.invariant-sessions
invariant-sessions g l = record {
  manager : g.D.Desk.manager l.desk ≡ g.D.Desk.manager l.fn.desk;
  own : AreOf g.B.Board.seat (g.D.Desk.manager l.fn.desk) l.crew.items;
  issued : g.D.Desk.issued l.desk ≡ g.D.Desk.issued l.fn.desk;
  live : g.D.Desk.live l.desk - length l.crew.items ≡ g.D.Desk.live l.fn.desk - length l.fn.crew.items;
}

abbrev pub decreases-sessions : goal.decreases-sessions
decreases-sessions g l = vec_len l.crew
