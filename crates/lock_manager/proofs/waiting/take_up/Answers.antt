use Rattle.std.proofs.Common.{◌∙◌, sym}
use Rattle.lock_manager.proofs.Lemmas.Waiting.Looks.{may_clear_seen, rest-seen}
use Rattle.lock_manager.proofs.waiting.take_up.Goals as goal

pub clear_wait-requires : goal.clear_wait-requires
clear_wait-requires g c = record {
  lawful = may_clear_seen (g.B.Board.seat c.args.board.now).groups (g.B.Board.seat c.args.board.now).limit c.args.own.now.database c.args.own.now.uses (g.B.Board.seat c.args.board.now).number (g.B.Board.view c.args.board.now) (g.B.Board.stack c.args.board.now)
      c.args.own.now.locals.entries c.args.tag c.args.mode c.args.shown c.requires.looked (sym c.wait_state.ensures ∙ c.if-wait_state.true);
}

pub returns-then-wait_state-clause-rest : goal.returns-then-wait_state-clause-rest
returns-then-wait_state-clause-rest g c granted =
    rest-seen (g.B.Board.seat c.args.board.now).groups (g.B.Board.seat c.args.board.now).limit c.args.own.now.database c.args.own.now.uses (g.B.Board.seat c.args.board.now).number (g.B.Board.view c.args.board.now) (g.B.Board.stack c.args.board.now)
    c.args.own.now.locals.entries c.args.tag c.args.mode c.args.shown c.requires.looked (sym c.wait_state.ensures ∙ c.if-wait_state.true)
    (g.B.Board.view c.clear_wait.new.self) (g.B.Board.stack c.clear_wait.new.self) c.add.new.self.entries c.args.owner
    c.clear_wait.ensures.view c.clear_wait.ensures.stack c.add.ensures.entries
