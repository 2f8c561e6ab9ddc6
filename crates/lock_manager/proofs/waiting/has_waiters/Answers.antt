use Rattle.std.proofs.Common.{refl, sym, ◌∙◌}
use Rattle.local_locks.proofs.Lemmas.Entries.{has_entry-none}
use Rattle.lock_manager.proofs.Lemmas.Requests.InPart.{may_put-kept}
use Rattle.lock_manager.proofs.waiting.has_waiters.Goals as goal

pub returns-then-total-eq0-clause-not_held : goal.returns-then-total-eq0-clause-not_held
returns-then-total-eq0-clause-not_held g c = (
  λ is. has_entry-none c.args.own.now.locals.entries c.args.tag c.args.mode c.total.ensures.well_owned.counted (sym c.total.ensures.total ∙ c.if-total-eq0.true),
  λ none. refl,
)

pub put_part-requires-clause-lawful : goal.put_part-requires-clause-lawful
put_part-requires-clause-lawful g c =
    may_put-kept (g.B.Board.seat c.take_part-content.new.self).limit (g.B.Board.seat c.take_part-content.new.self).number (g.B.Board.view c.args.board.now) (g.B.Board.view c.take_part-content.new.self)
    c.partition-part.result (g.T.PartTable.content c.take_part-content.result) (g.T.PartTable.content c.take_part-content.result) c.take_part-content.ensures.view refl
