use Rattle.std.proofs.Common.{List, refl, ap, sym, ◌∙◌, inl, inr}
use Rattle.modes_core.specs.Tag.{is_eligible_for}
use Rattle.local_locks.specs.declared.records.Entry.{Entry}
use Rattle.local_locks.specs.Owned.{has_entry, with_one_more}
use Rattle.lock_manager.proofs.Lemmas.Rest.Acquires.{rest-database, not_held_yet, rest-granted, rest-again}
use Rattle.lock_manager.proofs.Lemmas.Requests.BySlot.{by_slot-account, tried-untouched}
use Rattle.lock_manager.proofs.Lemmas.Quiet.{quiet-tried}
use Rattle.lock_manager.proofs.requests.acquire_by_slot.Goals as goal

pub returns-then-branch-clause-rest : goal.returns-then-branch-clause-rest
returns-then-branch-clause-rest g c =
    rest-again (g.B.Board.seat c.args.board.now).groups (g.B.Board.seat c.args.board.now).limit c.args.own.now.database c.args.own.now.uses (g.B.Board.view c.args.board.now) (g.B.Board.stack c.args.board.now)
    c.args.own.now.locals c.add_held.new.self c.args.tag c.args.mode c.args.owner c.add_held.result c.in_ok-add_held.field-0 (c.in_ok-add_held.was {u = tt}) c.if-branch.true
    c.add_held.ensures.held.0 c.add_held.ensures.entries c.requires.rest

pub add_new-requires-clause-new : goal.add_new-requires-clause-new
add_new-requires-clause-new g c =
    let yet = not_held_yet c.args.own.now.locals c.add_held.new.self c.args.tag c.args.mode c.add_held.result c.in_ok-add_held.field-0 (c.in_ok-add_held.was {u = tt}) c.if-branch.false c.add_held.ensures.not_held.0 c.add_held.ensures.same in
    ap (λ (es : List Entry). has_entry es c.args.tag c.args.mode) (c.reserve_new.ensures.entries ∙ yet.1) ∙ yet.0

pub returns-in-Ok-clause-rest : goal.returns-in-Ok-clause-rest
returns-in-Ok-clause-rest g c =
    let yet = not_held_yet c.args.own.now.locals c.add_held.new.self c.args.tag c.args.mode c.add_held.result c.in_ok-add_held.field-0 (c.in_ok-add_held.was {u = tt}) c.if-branch.false c.add_held.ensures.not_held.0 c.add_held.ensures.same in
    let entries = c.args.own.now.locals.entries in
    let seat = g.B.Board.seat c.args.board.now in
    let its = g.B.Board.view c.args.board.now in
    rest-granted seat.groups seat.limit c.args.own.now.database c.args.own.now.uses c.try_grant.new.uses its (g.B.Board.view c.try_grant.new.board) (g.B.Board.stack c.args.board.now)
    (g.B.Board.stack c.try_grant.new.board) entries c.add_new.new.self.entries c.args.tag c.args.mode c.args.owner yet.0
    (by_slot-account seat.groups seat.limit seat.number its (g.B.Board.view c.try_grant.new.board) _ c.args.own.now.uses c.try_grant.new.uses c.args.tag c.args.mode
    (ap (λ database. is_eligible_for database c.args.tag c.args.mode)
    (rest-database seat.groups seat.limit c.args.own.now.database c.args.own.now.uses its (g.B.Board.stack c.args.board.now) entries c.requires.rest)
    ∙ sym c.if-not-is_eligible.ensures) c.in-Ok.ensures.granted.3)
    (record {
      in_groups = c.in-Ok.ensures.ready.in_groups;
      enough = c.in-Ok.ensures.ready.enough;
      within = c.in-Ok.ensures.ready.within;
    }) c.try_grant.ensures.stack
    (c.add_new.ensures.entries ∙ ap (λ (es : List Entry). with_one_more es c.args.tag c.args.mode c.args.owner) (c.reserve_new.ensures.entries ∙ yet.1)) c.requires.rest

pub returns-in-Err-clause-untouched : goal.returns-in-Err-clause-untouched
returns-in-Err-clause-untouched g c own =
    tried-untouched _ (g.B.Board.seat c.args.board.now).groups (g.B.Board.seat c.args.board.now).number (g.B.Board.view c.args.board.now) (g.B.Board.view c.try_grant.new.board)
    c.args.own.now.uses c.try_grant.new.uses c.args.tag c.args.mode c.in-Err.refusal c.in-Err.ensures.granted own c.in-Err.ensures.untouched

-- Its quiet steps.

pub returns-then-branch-clause-quiet : goal.returns-then-branch-clause-quiet
returns-then-branch-clause-quiet g c = inl refl

pub returns-then-not-is_eligible-clause-quiet : goal.returns-then-not-is_eligible-clause-quiet
returns-then-not-is_eligible-clause-quiet g c = inl refl

pub returns-in-Ok-clause-quiet : goal.returns-in-Ok-clause-quiet
returns-in-Ok-clause-quiet g c = inr (inr c.in-Ok.ensures.quiet)

pub returns-in-Err-clause-quiet : goal.returns-in-Err-clause-quiet
returns-in-Err-clause-quiet g c =
    quiet-tried (g.B.Board.seat c.args.board.now).number c.args.tag c.args.mode c.in-Err.refusal (g.B.Board.quiet c.args.board.now)
    (g.B.Board.quiet c.try_grant.new.board) c.in-Err.ensures.quiet
