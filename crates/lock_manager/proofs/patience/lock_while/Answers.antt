use Rattle.std.proofs.Common.{subst, sym, inr, Bool}
use Rattle.std.specs.Prelude.{Ok, true, false}
use Rattle.shared_rule.specs.Boards.{Seated}
use Rattle.fast_path.specs.declared.use_counts.UseCounts.{UseCounts}
use Rattle.wait_queue.specs.declared.requests.Kind.TheVariants.{Waiting}
use Rattle.lock_manager.specs.declared.requests.Begun.{Begun}
use Rattle.lock_manager.specs.declared.requests.Begun.TheVariants.{Queued}
use Rattle.lock_manager.specs.Acquires.{Begins}
use Rattle.lock_manager.specs.Patience.{WaitsWhile}
use Rattle.lock_manager.proofs.patience.lock_while.Goals as goal

pub returns-in-Ok-true-clause-steps : goal.returns-in-Ok-true-clause-steps
returns-in-Ok-true-clause-steps g c = inr (record {
  queued = g.B.Board.view c.acquire.new.board;
  starts = subst (λ (left : UseCounts). Begins Waiting (g.B.Board.seat c.args.board.now) c.args.own.now.locals (g.B.Board.view c.args.board.now) c.args.own.now.uses c.args.tag c.args.mode (Ok Queued) (g.B.Board.view c.acquire.new.board) left)
      (sym c.wait_while.ensures.uses)
      (subst (λ (begun : Begun). Begins Waiting (g.B.Board.seat c.args.board.now) c.args.own.now.locals (g.B.Board.view c.args.board.now) c.args.own.now.uses c.args.tag c.args.mode (Ok begun) (g.B.Board.view c.acquire.new.board) c.acquire.new.own.uses)
      c.in-Ok-Queued.field-0-is c.in-Ok-Queued.ensures.steps);
  waits = subst (λ (s : Seated). WaitsWhile (goal.K-step g) c.args.keep_waiting s.number (g.B.Board.view c.acquire.new.board).trace c.args.tag c.args.mode (Ok true) (g.B.Board.view c.wait_while.new.board).trace)
      c.acquire.ensures.kept.seat_
      (subst (λ (granted : Bool). WaitsWhile (goal.K-step g) c.args.keep_waiting (g.B.Board.seat c.acquire.new.board).number (g.B.Board.view c.acquire.new.board).trace c.args.tag c.args.mode (Ok granted) (g.B.Board.view c.wait_while.new.board).trace)
      c.in-Ok-true.field-0-test c.in-Ok-true.ensures.steps);
})

pub returns-in-Ok-false-clause-steps : goal.returns-in-Ok-false-clause-steps
returns-in-Ok-false-clause-steps g c = record {
  queued = g.B.Board.view c.acquire.new.board;
  starts = subst (λ (left : UseCounts). Begins Waiting (g.B.Board.seat c.args.board.now) c.args.own.now.locals (g.B.Board.view c.args.board.now) c.args.own.now.uses c.args.tag c.args.mode (Ok Queued) (g.B.Board.view c.acquire.new.board) left)
      (sym c.wait_while.ensures.uses)
      (subst (λ (begun : Begun). Begins Waiting (g.B.Board.seat c.args.board.now) c.args.own.now.locals (g.B.Board.view c.args.board.now) c.args.own.now.uses c.args.tag c.args.mode (Ok begun) (g.B.Board.view c.acquire.new.board) c.acquire.new.own.uses)
      c.in-Ok-Queued.field-0-is c.in-Ok-Queued.ensures.steps);
  waits = subst (λ (s : Seated). WaitsWhile (goal.K-step g) c.args.keep_waiting s.number (g.B.Board.view c.acquire.new.board).trace c.args.tag c.args.mode (Ok false) (g.B.Board.view c.wait_while.new.board).trace)
      c.acquire.ensures.kept.seat_
      (subst (λ (granted : Bool). WaitsWhile (goal.K-step g) c.args.keep_waiting (g.B.Board.seat c.acquire.new.board).number (g.B.Board.view c.acquire.new.board).trace c.args.tag c.args.mode (Ok granted) (g.B.Board.view c.wait_while.new.board).trace)
      c.in-Ok-false.field-0-test c.in-Ok-false.ensures.steps);
}
