use Rattle.std.proofs.Common.{◌∙◌, sym}
use Rattle.fast_path.proofs.Lemmas.Turns.{looks, may_pass-elsewhere}
use Rattle.fast_path.proofs.transfers.pass.Goals as goal

pub pass_fast-requires-clause-lawful : goal.pass_fast-requires-clause-lawful
pass_fast-requires-clause-lawful g c =
    let a = g.B.Board.view c.args.board.now in
    let groups = (g.B.Board.seat c.args.board.now).groups in
    let looked = looks groups (g.B.Board.seat c.args.board.now).number a (g.B.Board.view c.take_fast.new.self)
    (g.B.Board.view c.load_database.new.self) c.args.owner
    c.load_database.result c.take_fast.ensures.taken c.load_database.ensures.of_slots c.load_database.ensures.view in
    may_pass-elsewhere groups a (g.B.Board.view c.load_database.new.self) c.args.owner c.load_database.result c.args.tag.now
    c.args.mode looked
    (λ same. c.if-load_database-from.true (same ∙ sym c.database.ensures ∙ sym c.from.ensures)) c.requires.strong
    c.requires.next
