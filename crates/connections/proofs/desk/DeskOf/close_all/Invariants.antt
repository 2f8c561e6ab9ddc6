use Rattle.std.proofs.Common.{◌≡◌, ◌-◌, length}
use Rattle.std.specs.Prelude.{vec_len}
use Rattle.connections.proofs.desk.DeskOf.close_all.Given as goal

abbrev pub invariant-connections : goal.invariant-connections
invariant-connections g l = record {
  live : g.D.Desk.live l.self.desk - length l.connections.items
      ≡ g.D.Desk.live l.fn.self.desk - length l.fn.connections.items;
  issued : g.D.Desk.issued l.self.desk ≡ g.D.Desk.issued l.fn.self.desk;
}

abbrev pub decreases-connections : goal.decreases-connections
decreases-connections g l = vec_len l.connections
