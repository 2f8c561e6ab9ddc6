use Rattle.std.proofs.Common.{refl}
use Rattle.lock_manager.proofs.Lemmas.Requests.InPart.{may_put-kept}
use Rattle.lock_manager.proofs.queues.queue_of_own.Goals as goal

pub put_part-requires-clause-lawful : goal.put_part-requires-clause-lawful
put_part-requires-clause-lawful g c =
    may_put-kept (g.B.Board.seat c.take_part-content.new.self).limit (g.B.Board.seat c.take_part-content.new.self).number (g.B.Board.view c.args.board.now) (g.B.Board.view c.take_part-content.new.self)
    c.partition-part.result (g.T.PartTable.content c.take_part-content.result) (g.T.PartTable.content c.take_part-content.result) c.take_part-content.ensures.view refl
