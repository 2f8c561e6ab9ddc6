use Rattle.std.proofs.Common.{◌∙◌, ◌++◌, ◌∷◌, [], ap, subst, sym}
use Rattle.shared_rule.specs.Boards.{Seated}
use Rattle.lock_world.specs.declared.events.Word.TheVariants.{Wait}
use Rattle.lock_world.specs.World.{Loaded}
use Rattle.lock_manager.specs.declared.sessions.Own.{Own}
use Rattle.lock_manager.specs.Waiting.{IsWaiting}
use Rattle.lock_manager.proofs.Lemmas.Waiting.Watch.{still_not_granted}
use Rattle.lock_manager.proofs.Lemmas.Waiting.Patience.{watching_while-next}
use Rattle.lock_manager.proofs.patience.wait_while.Goals as goal

pub looks-preserved : goal.looks-preserved
looks-preserved g c =
    let own = c.in-Still.ensures.same_own still_not_granted ∙ c.looks.invariant.own in
    let polled = c.in-Still.ensures.polled in
    record {
      waiting = subst (λ (s : Seated). IsWaiting s.groups s.limit c.args.own.now.database c.args.own.now.uses (g.B.Board.view c.poll.new.board) (g.B.Board.stack c.poll.new.board) c.args.own.now.locals.entries c.args.tag c.args.mode) c.looks.invariant.seat
          (subst (λ (its : Own). IsWaiting (g.B.Board.seat c.looks.board).groups (g.B.Board.seat c.looks.board).limit its.database its.uses (g.B.Board.view c.poll.new.board) (g.B.Board.stack c.poll.new.board) c.args.own.now.locals.entries c.args.tag c.args.mode)
          c.looks.invariant.own
          (subst (λ (its : Own). IsWaiting (g.B.Board.seat c.looks.board).groups (g.B.Board.seat c.looks.board).limit c.looks.own.database c.looks.own.uses (g.B.Board.view c.poll.new.board) (g.B.Board.stack c.poll.new.board) its.locals.entries c.args.tag c.args.mode)
          own (c.in-Still.ensures.waiting still_not_granted)));
      watching = watching_while-next (goal.K-step g) c.args.keep_waiting c.looks.keep_waiting c.keep_waiting.new.self (g.B.Board.seat c.args.board.now).number (g.B.Board.view c.args.board.now).trace (g.B.Board.view c.looks.board).trace (g.B.Board.view c.poll.new.board).trace
          polled.shown c.looks.invariant.watching
          (polled.trace ∙ ap (λ (s : Seated). (g.B.Board.view c.looks.board).trace ++ Loaded (Wait s.number) polled.shown ∷ []) c.looks.invariant.seat)
          (sym polled.answered) c.if-not-keep_waiting.ensures;
      own = own;
      quiet = c.poll.ensures.quiet ∙ c.looks.invariant.quiet;
      seat = c.poll.ensures.seat ∙ c.looks.invariant.seat;
      callable = record { at = λ xs. (c.looks.invariant.callable.at (tt ∷ xs)).1 c.keep_waiting.result c.keep_waiting.new.self c.keep_waiting.ensures };
    }
