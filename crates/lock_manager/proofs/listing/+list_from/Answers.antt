use Rattle.std.proofs.Common.{arith, ◌+◌, ◌∷◌, ap, sym}
use Rattle.lock_table.proofs.Lemmas.PartitionRows.{rows-then, rows-refused}
use Rattle.shared_rule.proofs.Lemmas.Episodes.{may_keep-since, kept-since}
use Rattle.lock_manager.specs.Listings.{listing_steps}
use Rattle.lock_manager.proofs.Lemmas.Listings.Own.{taken-last, caller-first}
use Rattle.shared_rule.specs.Boards.{Seated}
use Rattle.lock_manager.proofs.listing.+list_from.Goals as goal
use Rattle.lock_manager.proofs.listing.+list_from.Goals.{then-is_ok, else-is_ok}

pub put_part-requires-clause-lawful : goal.put_part-requires-clause-lawful
put_part-requires-clause-lawful g t c =
    may_keep-since _ _ _ (g.B.Board.view c.take_part-content.new.self) _ _ _ _ c.take_part-content.ensures.view c.list_from-listed.ensures.listed.account

pub put_part-requires-clause-in_hand : goal.put_part-requires-clause-in_hand
put_part-requires-clause-in_hand g t c = taken-last _ _ _ _ c.take_part-content.ensures.stack c.list_from-listed.ensures.stack

pub returns-clause-listed : goal.returns-clause-listed
returns-clause-listed g t c =
    let listed = c.list_from-listed.ensures.listed in
    let content = g.T.PartTable.content c.take_part-content.result in
    record {
      contents = content ∷ listed.contents;
      last = omega (arith, listed.last);
      of_partitions = (record { holds = c.take_part-content.ensures.knows.holds_of_it; waits = c.take_part-content.ensures.knows.waits_of_it }, listed.of_partitions);
      of_caller =
          caller-first (g.B.Board.seat c.args.board.now).number (g.B.Board.seat c.take_part-content.new.self).number
          (g.B.Board.view c.args.board.now) (g.B.Board.view c.take_part-content.new.self) c.args.part content listed.contents
          (ap (λ (s : Seated). s.number) c.take_part-content.ensures.seat) c.take_part-content.ensures.view c.take_part-content.ensures.knows listed.of_caller;
      account =
          kept-since (g.B.Board.view c.args.board.now) (g.B.Board.view c.take_part-content.new.self) (g.B.Board.view c.list_from-listed.new.board) (g.B.Board.view c.put_part.new.self)
          c.args.part content (listing_steps (c.args.part + 1) listed.contents) (c.requires.none_in_hand c.args.part (omega arith)) c.take_part-content.ensures.view listed.account c.put_part.ensures.view;
      rows =
          elim c.if-is_ok.branch [
            | then-is_ok w ↦
                rw w.rows-is
                (rows-then content listed.contents c.args.rows.now.items c.list_from-listed.new.rows.items w.rows-listed.new.rows.items
                c.list_from-listed.result w.rows-listed.result c.if-is_ok.listed (sym w.if-is_ok.ensures.value) listed.rows w.listed-is w.rows-listed.ensures.ok)
            | else-is_ok w ↦ rows-refused c.list_from-listed.result c.if-is_ok.listed _ (sym w.if-is_ok.ensures.value) w.listed-is
          ];
    }
