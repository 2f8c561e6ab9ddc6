use Rattle.scenario.specs.Waits.{LooksAround}
use Rattle.scenario.proofs.calls.draw.Given as goal

abbrev pub invariant-rows : goal.invariant-rows
invariant-rows g l = LooksAround g.B.Board.seat l.fn.session l.session
