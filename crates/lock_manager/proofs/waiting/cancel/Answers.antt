use Rattle.std.proofs.Common.{◌≡◌, ◌∙◌, sym, subst}
use Rattle.lock_manager.specs.Waiting.{account_cancelled}
use Rattle.lock_manager.proofs.Lemmas.Waiting.Cancels.{rest-was_granted, rest-removed_strong}
use Rattle.lock_manager.proofs.waiting.cancel.Goals as goal

pub returns-then-leave_in_part-clause-rest : goal.returns-then-leave_in_part-clause-rest
returns-then-leave_in_part-clause-rest g c =
    rest-was_granted (g.B.Board.seat c.args.board.now).groups (g.B.Board.seat c.args.board.now).limit c.args.own.now.database c.args.own.now.uses (g.B.Board.view c.args.board.now) (g.B.Board.stack c.args.board.now) c.args.own.now.locals.entries c.args.tag c.args.mode c.requires.waiting
    (g.B.Board.view c.leave_in_part.new.board) (g.B.Board.stack c.leave_in_part.new.board) c.add.new.self.entries c.args.owner (subst (λ was. g.B.Board.view c.leave_in_part.new.board ≡ account_cancelled (g.B.Board.view c.args.board.now) c.args.tag c.args.mode was (g.B.Board.view c.leave_in_part.new.board).trace) c.if-leave_in_part.true c.leave_in_part.ensures.account) c.leave_in_part.ensures.stack c.add.ensures.entries

pub returns-clause-rest : goal.returns-clause-rest
returns-clause-rest g c =
    rest-removed_strong (g.B.Board.seat c.args.board.now).groups (g.B.Board.seat c.args.board.now).limit c.args.own.now.database c.args.own.now.uses (g.B.Board.view c.args.board.now) (g.B.Board.stack c.args.board.now) c.args.own.now.locals.entries c.args.tag c.args.mode c.requires.waiting
    (g.B.Board.view c.leave_in_part.new.board) (g.B.Board.view c.sub_strong.new.self) (g.B.Board.stack c.sub_strong.new.self)
    (sym c.if-not-is_strong.ensures) (subst (λ was. g.B.Board.view c.leave_in_part.new.board ≡ account_cancelled (g.B.Board.view c.args.board.now) c.args.tag c.args.mode was (g.B.Board.view c.leave_in_part.new.board).trace) c.if-leave_in_part.false c.leave_in_part.ensures.account) c.sub_strong.ensures.view (c.sub_strong.ensures.stack ∙ c.leave_in_part.ensures.stack)
