use Rattle.fast_path.proofs.Lemmas.Adopts.{has-both, may_put-moved, adopts-moved}
use Rattle.fast_path.proofs.transfers.adopt.Goals as goal

pub move_modes-moved-requires-clause-in_hand : goal.move_modes-moved-requires-clause-in_hand
move_modes-moved-requires-clause-in_hand g c =
    has-both (g.B.Board.seat c.args.board.now).number (g.B.Board.view c.args.board.now)
    (g.B.Board.view c.take_part-content.new.self) c.args.turn.now.owner c.args.turn.now.slot c.args.turn.now.word
    c.partition-part.result c.args.turn.now.tag.now (g.T.PartTable.content c.take_part-content.result) c.requires.in_hand
    c.partition-part.ensures.value
    c.take_part-content.ensures.view c.take_part-content.ensures.knows

pub put_part-requires-clause-lawful : goal.put_part-requires-clause-lawful
put_part-requires-clause-lawful g c =
    may_put-moved (g.B.Board.seat c.move_modes-moved.new.board).limit
    (g.B.Board.seat c.move_modes-moved.new.board).number
    (g.B.Board.view c.take_part-content.new.self) (g.B.Board.view c.move_modes-moved.new.board) c.args.turn.now.owner
    c.args.turn.now.slot c.args.turn.now.word
    c.partition-part.result c.args.turn.now.tag.now (g.T.PartTable.content c.take_part-content.result)
    (g.T.PartTable.content c.move_modes-moved.new.content)
    c.move_modes-moved.result c.partition-part.ensures.value c.move_modes-moved.ensures.moved

pub returns-clause-adopted : goal.returns-clause-adopted
returns-clause-adopted g c =
    adopts-moved (g.B.Board.view c.args.board.now) (g.B.Board.view c.take_part-content.new.self)
    (g.B.Board.view c.move_modes-moved.new.board) (g.B.Board.view c.put_part.new.self)
    c.args.turn.now.owner c.args.turn.now.slot c.args.turn.now.word c.partition-part.result c.args.turn.now.tag.now
    (g.T.PartTable.content c.take_part-content.result)
    (g.T.PartTable.content c.move_modes-moved.new.content) c.move_modes-moved.result c.partition-part.ensures.value
    c.requires.in_hand
    c.take_part-content.ensures.view c.move_modes-moved.ensures.moved c.put_part.ensures.view
