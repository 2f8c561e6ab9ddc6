use Rattle.std.proofs.Common.{arith, ◌≡◌, ℕ, ◌+◌, ◌∷◌, ◌++◌, ap, sym}
use Rattle.lock_table.proofs.Lemmas.PartitionRows.{rows-ok}
use Rattle.shared_rule.proofs.Lemmas.Episodes.{may_keep-since, kept-since}
use Rattle.shared_rule.specs.Boards.{Seated}
use Rattle.lock_manager.specs.Listings.{listing_steps, AreOfCaller}
use Rattle.lock_manager.specs.Blocked.{AppendsBlocked}
use Rattle.lock_manager.proofs.Lemmas.Blocked.{blocked-more}
use Rattle.lock_manager.proofs.Lemmas.Listings.Own.{taken-last, caller-first}
use Rattle.lock_manager.proofs.blocked.+blocked_from.Given as given
use Rattle.lock_manager.proofs.blocked.+blocked_from.Goals as goal
use Rattle.lock_manager.proofs.blocked.+blocked_from.Goals.{After-put_part}

pub put_part-requires-clause-lawful : goal.put_part-requires-clause-lawful
put_part-requires-clause-lawful g t c =
    may_keep-since _ _ _ (g.B.Board.view c.take_part-content.new.self) _ _ _ _ c.take_part-content.ensures.view c.blocked_from-others.ensures.listed.account

pub put_part-requires-clause-in_hand : goal.put_part-requires-clause-in_hand
put_part-requires-clause-in_hand g t c = taken-last _ _ _ _ c.take_part-content.ensures.stack c.blocked_from-others.ensures.stack

-- What the session knows of itself in the partitions,
of_caller : (g : given.Over) (t : ℕ) (c : goal.After-put_part g t)
    → AreOfCaller (g.B.Board.seat c.args.board.now).number (g.B.Board.view c.args.board.now).own (g.B.Board.view c.args.board.now).awaited
    (g.B.Board.view c.args.board.now).fast.database (g.B.Board.view c.args.board.now).fast.remembered c.args.part
    (g.T.PartTable.content c.take_part-content.result ∷ c.blocked_from-others.ensures.listed.contents)
of_caller g t c =
    let listed = c.blocked_from-others.ensures.listed in
    caller-first (g.B.Board.seat c.args.board.now).number (g.B.Board.seat c.take_part-content.new.self).number
    (g.B.Board.view c.args.board.now) (g.B.Board.view c.take_part-content.new.self) c.args.part (g.T.PartTable.content c.take_part-content.result) listed.contents
    (ap (λ (s : Seated). s.number) c.take_part-content.ensures.seat) c.take_part-content.ensures.view c.take_part-content.ensures.knows listed.of_caller

-- and its account once they are put.
account : (g : given.Over) (t : ℕ) (c : goal.After-put_part g t)
    → g.B.Board.view c.put_part.new.self ≡ record (g.B.Board.view c.args.board.now) {
      trace = (g.B.Board.view c.args.board.now).trace
          ++ listing_steps c.args.part (g.T.PartTable.content c.take_part-content.result ∷ c.blocked_from-others.ensures.listed.contents);
    }
account g t c =
    let listed = c.blocked_from-others.ensures.listed in
    kept-since (g.B.Board.view c.args.board.now) (g.B.Board.view c.take_part-content.new.self) (g.B.Board.view c.blocked_from-others.new.board) (g.B.Board.view c.put_part.new.self)
    c.args.part (g.T.PartTable.content c.take_part-content.result) (listing_steps (c.args.part + 1) listed.contents)
    (c.requires.none_in_hand c.args.part (omega arith)) c.take_part-content.ensures.view listed.account c.put_part.ensures.view

pub returns-then-is_err-clause-listed : goal.returns-then-is_err-clause-listed
returns-then-is_err-clause-listed g t c =
    let its = (goal.at.returns-then-is_err-clause-listed g t c).After-put_part in
    let listed = c.blocked_from-others.ensures.listed in
    record {
      contents = g.T.PartTable.content c.take_part-content.result ∷ listed.contents;
      last = omega (arith, listed.last);
      of_caller = of_caller g t its;
      account = account g t its;
      waits = tt;
    }

pub returns-clause-listed : goal.returns-clause-listed
returns-clause-listed g t c =
    let its = (goal.at.returns-clause-listed g t c).After-put_part in
    let listed = c.blocked_from-others.ensures.listed in
    let content = g.T.PartTable.content c.take_part-content.result in
    let first = rows-ok c.append_blocked-appended.result (AppendsBlocked content c.args.found.now.items c.append_blocked-appended.new.found.items)
    (sym c.if-is_err.ensures.value) c.append_blocked-appended.ensures in
    record {
      contents = content ∷ listed.contents;
      last = omega (arith, listed.last);
      of_caller = of_caller g t its;
      account = account g t its;
      waits = blocked-more c.blocked_from-others.result content listed.contents c.args.found.now.items c.append_blocked-appended.new.found.items c.blocked_from-others.new.found.items
          first listed.waits;
    }
