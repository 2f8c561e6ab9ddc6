use Rattle.std.proofs.Common.{◌∙◌, sym, ap, subst, inl, inr}
use Rattle.modes_core.specs.Tag.{is_eligible_for}
use Rattle.shared_rule.specs.Boards.{Seated}
use Rattle.lock_manager.specs.Quiet.{OfStrong, OfTry, OfTable}
use Rattle.lock_manager.specs.Requests.{DecidesInPart}
use Rattle.lock_manager.proofs.Lemmas.Requests.Whole.{led-by_table, led-refused, led-decides, led-weak_account, requests-decided}
use Rattle.lock_manager.proofs.Lemmas.Quiet.{quiet-refused}
use Rattle.lock_manager.proofs.requests.request.Goals as goal

pub returns-then-is_strong-clause-use_count : goal.returns-then-is_strong-clause-use_count
returns-then-is_strong-clause-use_count g c = c.request_strong.ensures.use_count c.args.uses.now c.requires.use_count

pub returns-then-not-is_eligible-clause-steps : goal.returns-then-not-is_eligible-clause-steps
returns-then-not-is_eligible-clause-steps g c =
    let seat = g.B.Board.seat c.args.board.now in
    let before = g.B.Board.view c.args.board.now in
    requests-decided c.args.kind seat before (g.B.Board.view c.decide_in_part.new.board) c.args.uses.now c.args.uses.now c.args.tag.now c.args.mode c.decide_in_part.result
    (led-decides c.args.kind seat before before (g.B.Board.view c.decide_in_part.new.board) c.args.uses.now c.args.uses.now c.args.tag.now c.args.mode before.fast.counted
    (led-by_table seat.groups seat.limit before c.args.uses.now c.args.tag.now c.args.mode (sym c.if-is_strong.ensures)
    (inl (ap (λ database. is_eligible_for database c.args.tag.now c.args.mode) c.requires.database ∙ sym c.if-not-is_eligible.ensures)))
    c.decide_in_part.result c.decide_in_part.ensures.decided)

pub returns-then-not-is_eligible-clause-account : goal.returns-then-not-is_eligible-clause-account
returns-then-not-is_eligible-clause-account g c =
    let seat = g.B.Board.seat c.args.board.now in
    let before = g.B.Board.view c.args.board.now in
    led-weak_account c.args.kind seat before before (g.B.Board.view c.decide_in_part.new.board) c.args.uses.now c.args.uses.now c.args.tag.now c.args.mode
    (led-by_table seat.groups seat.limit before c.args.uses.now c.args.tag.now c.args.mode (sym c.if-is_strong.ensures)
    (inl (ap (λ database. is_eligible_for database c.args.tag.now c.args.mode) c.requires.database ∙ sym c.if-not-is_eligible.ensures)))
    (sym c.if-is_strong.ensures) c.decide_in_part.result c.decide_in_part.ensures.decided

pub returns-in-Err-clause-steps : goal.returns-in-Err-clause-steps
returns-in-Err-clause-steps g c =
    let seat = g.B.Board.seat c.args.board.now in
    let before = g.B.Board.view c.args.board.now in
    let between = g.B.Board.view c.grant.new.board in
    requests-decided c.args.kind seat before (g.B.Board.view c.decide_in_part-in-Err.new.board) c.args.uses.now c.grant.new.uses c.args.tag.now c.args.mode c.decide_in_part-in-Err.result
    (led-decides c.args.kind seat before between (g.B.Board.view c.decide_in_part-in-Err.new.board) c.args.uses.now c.grant.new.uses c.args.tag.now c.args.mode before.fast.counted
    (led-refused seat.groups seat.number seat.limit before between c.args.uses.now c.grant.new.uses c.args.tag.now c.args.mode c.in-Err.field-0
    (ap (λ database. is_eligible_for database c.args.tag.now c.args.mode) c.requires.database ∙ sym c.if-not-is_eligible.ensures) c.in-Err.ensures.granted)
    c.decide_in_part-in-Err.result
    (subst (λ (s : Seated). DecidesInPart c.args.kind s.number between c.args.tag.now c.args.mode c.decide_in_part-in-Err.result (g.B.Board.view c.decide_in_part-in-Err.new.board))
    c.in-Err.ensures.seat c.decide_in_part-in-Err.ensures.decided))

pub returns-in-Err-clause-account : goal.returns-in-Err-clause-account
returns-in-Err-clause-account g c =
    let seat = g.B.Board.seat c.args.board.now in
    let before = g.B.Board.view c.args.board.now in
    let between = g.B.Board.view c.grant.new.board in
    led-weak_account c.args.kind seat before between (g.B.Board.view c.decide_in_part-in-Err.new.board) c.args.uses.now c.grant.new.uses c.args.tag.now c.args.mode
    (led-refused seat.groups seat.number seat.limit before between c.args.uses.now c.grant.new.uses c.args.tag.now c.args.mode c.in-Err.field-0
    (ap (λ database. is_eligible_for database c.args.tag.now c.args.mode) c.requires.database ∙ sym c.if-not-is_eligible.ensures) c.in-Err.ensures.granted)
    (sym c.if-is_strong.ensures) c.decide_in_part-in-Err.result
    (subst (λ (s : Seated). DecidesInPart c.args.kind s.number between c.args.tag.now c.args.mode c.decide_in_part-in-Err.result (g.B.Board.view c.decide_in_part-in-Err.new.board))
    c.in-Err.ensures.seat c.decide_in_part-in-Err.ensures.decided)

-- Its quiet steps.

pub returns-then-is_strong-clause-quiet : goal.returns-then-is_strong-clause-quiet
returns-then-is_strong-clause-quiet g c = OfStrong c.request_strong.ensures.quiet

pub returns-then-not-is_eligible-clause-quiet : goal.returns-then-not-is_eligible-clause-quiet
returns-then-not-is_eligible-clause-quiet g c = OfTable (record {
  weak = sym c.if-is_strong.ensures;
  not_tried = inl (ap (λ database. is_eligible_for database c.args.tag.now c.args.mode) c.requires.database ∙ sym c.if-not-is_eligible.ensures);
  quiet = c.decide_in_part.ensures.quiet;
})

pub returns-in-Ok-clause-quiet : goal.returns-in-Ok-clause-quiet
returns-in-Ok-clause-quiet g c =
    let eligible = ap (λ database. is_eligible_for database c.args.tag.now c.args.mode) c.requires.database ∙ sym c.if-not-is_eligible.ensures in
    OfTry (record { eligible = eligible; room = c.in-Ok.ensures.granted.0 }) (inr c.in-Ok.ensures.quiet)

pub returns-in-Err-clause-quiet : goal.returns-in-Err-clause-quiet
returns-in-Err-clause-quiet g c =
    let seat = g.B.Board.seat c.args.board.now in
    quiet-refused seat (g.B.Board.view c.args.board.now) (g.B.Board.view c.grant.new.board) c.args.uses.now c.grant.new.uses c.args.tag.now c.args.mode c.in-Err.field-0
    (g.B.Board.quiet c.args.board.now) (g.B.Board.quiet c.decide_in_part-in-Err.new.board)
    (ap (λ database. is_eligible_for database c.args.tag.now c.args.mode) c.requires.database ∙ sym c.if-not-is_eligible.ensures)
    c.in-Err.ensures.granted (c.decide_in_part-in-Err.ensures.quiet ∙ c.in-Err.ensures.quiet)
