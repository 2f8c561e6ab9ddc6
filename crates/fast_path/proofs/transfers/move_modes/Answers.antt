use Rattle.std.proofs.Common.{◌≡◌, ◌*◌, ◌<◌, ◌∙◌, ◌+◌, IfSome, refl, sym, ap, subst, arith}
use Rattle.modes_core.specs.Mode.{number_of}
use Rattle.lock_world.specs.SlotHolds.{group_size}
use Rattle.shared_rule.specs.Boards.{Seated}
use Rattle.lock_table.specs.Content.{add_hold}
use Rattle.fast_path.specs.Turns.{MovesSome}
use Rattle.fast_path.proofs.Lemmas.Shows.{weak_mode-exists}
use Rattle.fast_path.proofs.Lemmas.Moves.{moving-begun, moving-skips, not_there-yet, not_awaited-yet, moving-stops}
use Rattle.fast_path.proofs.Lemmas.Moves.{may_transfer, moving-next, moving-same}
use Rattle.fast_path.proofs.transfers.move_modes.Goals as goal
use Rattle.fast_path.proofs.transfers.move_modes.Goals.{then-has+else-is_err, else-has}

pub transfer_slot-requires-clause-within : goal.transfer_slot-requires-clause-within
transfer_slot-requires-clause-within g c =
    subst (λ (s : Seated). c.args.turn.now.slot < group_size * s.groups) (sym c.loop-number.invariant.seat) c.requires.there

pub loop-number-init : goal.loop-number-init
loop-number-init g c = record {
  moving = moving-begun (g.B.Board.view c.args.board.now) c.args.turn.now.owner c.args.turn.now.slot c.args.turn.now.word c.args.turn.now.tag.now
      (g.T.PartTable.content c.args.content.now) c.requires.in_hand;
  begun = c.requires.none_begun;
  stack = refl;
  quiet = refl;
  seat = refl;
}

pub unwrap-mode-requires : goal.unwrap-mode-requires
unwrap-mode-requires g c =
    weak_mode-exists c.from_number.result c.loop-number.number c.from_number.ensures.unknown c.loop-number.auto.number
    (omega (arith, c.loop-number-test.true))

pub begin-requires-clause-new : goal.begin-requires-clause-new
begin-requires-clause-new g c =
    let next : number_of c.unwrap-mode.result ≡ c.loop-number.number =
    subst (λ found. IfSome found (λ mode. number_of mode ≡ c.loop-number.number)) c.unwrap-mode.ensures
    c.from_number.ensures.found in
    not_there-yet (g.B.Board.view c.args.board.now) c.args.turn.now.owner c.args.turn.now.slot c.args.turn.now.word c.args.turn.now.tag.now
    (g.T.PartTable.content c.args.content.now) c.requires.in_hand
    c.loop-number.number c.loop-number.left (g.T.PartTable.content c.loop-number.content)
    (g.B.Board.view c.loop-number.board) c.unwrap-mode.result c.args.turn.now.strong c.requires.strong next
    (omega (arith, c.loop-number-test.true)) c.loop-number.invariant.moving (sym c.has.ensures ∙ c.if-has.true)

pub begin-requires-clause-not_awaited : goal.begin-requires-clause-not_awaited
begin-requires-clause-not_awaited g c =
    let next : number_of c.unwrap-mode.result ≡ c.loop-number.number =
    subst (λ found. IfSome found (λ mode. number_of mode ≡ c.loop-number.number)) c.unwrap-mode.ensures
    c.from_number.ensures.found in
    not_awaited-yet (g.B.Board.view c.args.board.now) c.args.turn.now.owner c.args.turn.now.slot c.args.turn.now.word c.args.turn.now.tag.now
    (g.T.PartTable.content c.args.content.now) c.requires.in_hand
    c.loop-number.number c.loop-number.left (g.T.PartTable.content c.loop-number.content)
    (g.B.Board.view c.loop-number.board) c.unwrap-mode.result c.args.turn.now.strong c.requires.strong next
    (omega (arith, c.loop-number-test.true)) c.loop-number.invariant.moving (sym c.has.ensures ∙ c.if-has.true)

pub returns-then-is_err-clause-moved : goal.returns-then-is_err-clause-moved
returns-then-is_err-clause-moved g c =
    let next : number_of c.unwrap-mode.result ≡ c.loop-number.number =
    subst (λ found. IfSome found (λ mode. number_of mode ≡ c.loop-number.number)) c.unwrap-mode.ensures
    c.from_number.ensures.found in
    subst (λ now. MovesSome (g.B.Board.view c.args.board.now) c.args.turn.now.owner c.args.turn.now.slot c.args.turn.now.word c.args.turn.now.tag.now
    (g.T.PartTable.content c.args.content.now) now (g.B.Board.view c.loop-number.board))
    (sym c.begin.ensures.content)
    (moving-stops (g.B.Board.view c.args.board.now) c.args.turn.now.owner c.args.turn.now.slot c.args.turn.now.word c.args.turn.now.tag.now
    (g.T.PartTable.content c.args.content.now) c.requires.in_hand
    c.loop-number.number c.loop-number.left (g.T.PartTable.content c.loop-number.content)
    (g.B.Board.view c.loop-number.board) c.unwrap-mode.result c.args.turn.now.strong c.requires.strong next
    (omega (arith, c.loop-number-test.true)) c.loop-number.invariant.moving (sym c.has.ensures ∙ c.if-has.true))

pub transfer_slot-requires-clause-lawful : goal.transfer_slot-requires-clause-lawful
transfer_slot-requires-clause-lawful g c =
    let next : number_of c.unwrap-mode.result ≡ c.loop-number.number =
    subst (λ found. IfSome found (λ mode. number_of mode ≡ c.loop-number.number)) c.unwrap-mode.ensures
    c.from_number.ensures.found in
    may_transfer (g.B.Board.view c.args.board.now) c.args.turn.now.owner c.args.turn.now.slot c.args.turn.now.word c.args.turn.now.tag.now
    (g.T.PartTable.content c.args.content.now) c.requires.in_hand
    c.loop-number.number c.loop-number.left (g.T.PartTable.content c.loop-number.content)
    (g.B.Board.view c.loop-number.board) c.unwrap-mode.result c.args.turn.now.strong c.requires.strong next
    (omega (arith, c.loop-number-test.true)) c.loop-number.invariant.moving
    (g.B.Board.seat c.loop-number.board).limit (g.T.PartTable.content c.grant.new.self)
    (subst (λ (s : Seated). c.args.turn.now.owner < s.limit) (sym c.loop-number.invariant.seat) c.requires.exists)
    c.requires.next (sym c.has.ensures ∙ c.if-has.true)
    (c.grant.ensures.content
    ∙ ap (λ content. add_hold content c.args.turn.now.owner c.args.turn.now.tag.now c.unwrap-mode.result) c.begin.ensures.content)

pub loop-number-preserved : goal.loop-number-preserved
loop-number-preserved g c =
    let next : number_of c.unwrap-mode.result ≡ c.loop-number.number =
    subst (λ found. IfSome found (λ mode. number_of mode ≡ c.loop-number.number)) c.unwrap-mode.ensures
    c.from_number.ensures.found in
    let a = g.B.Board.view c.args.board.now in
    let b = g.B.Board.view c.loop-number.board in
    let taken = g.T.PartTable.content c.args.content.now in
    let now = g.T.PartTable.content c.loop-number.content in
    elim c.if-has.branch [
      | then-has+else-is_err w ↦ record {
        moving = moving-next a c.args.turn.now.owner c.args.turn.now.slot c.args.turn.now.word c.args.turn.now.tag.now taken c.requires.in_hand
            c.loop-number.number c.loop-number.left now b c.unwrap-mode.result c.args.turn.now.strong c.requires.strong next
            (omega (arith, c.loop-number-test.true)) c.loop-number.invariant.moving
            (g.T.PartTable.content c.if-has.content) (g.B.Board.view c.if-has.board) c.if-has.left
            (sym c.has.ensures ∙ w.if-has.true)
            (ap g.T.PartTable.content w.content-is ∙ w.grant.ensures.content
            ∙ ap (λ content. add_hold content c.args.turn.now.owner c.args.turn.now.tag.now c.unwrap-mode.result)
            w.begin.ensures.content)
            (ap g.B.Board.view w.board-is ∙ w.transfer_slot.ensures.view) (w.left-is ∙ w.without-left.ensures.number);
        begun = ap g.T.PartTable.begun w.content-is ∙ w.grant.ensures.ended;
        stack = ap g.B.Board.stack w.board-is ∙ w.transfer_slot.ensures.stack ∙ c.loop-number.invariant.stack;
        quiet = ap g.B.Board.quiet w.board-is ∙ w.transfer_slot.ensures.quiet ∙ c.loop-number.invariant.quiet;
        seat = ap g.B.Board.seat w.board-is ∙ w.transfer_slot.ensures.seat ∙ c.loop-number.invariant.seat;
      }
      | else-has w ↦ record {
        moving = moving-same a c.args.turn.now.owner c.args.turn.now.slot c.args.turn.now.word c.args.turn.now.tag.now taken (c.loop-number.number + 1)
            c.loop-number.left c.if-has.left now (g.T.PartTable.content c.if-has.content) b
            (g.B.Board.view c.if-has.board)
            w.left-is (ap g.T.PartTable.content w.content-is) (ap g.B.Board.view w.board-is)
            (moving-skips a c.args.turn.now.owner c.args.turn.now.slot c.args.turn.now.word c.args.turn.now.tag.now taken c.requires.in_hand
            c.loop-number.number c.loop-number.left now b c.unwrap-mode.result c.args.turn.now.strong c.requires.strong next
            (omega (arith, c.loop-number-test.true)) c.loop-number.invariant.moving
            (sym c.has.ensures ∙ w.if-has.false));
        begun = ap g.T.PartTable.begun w.content-is ∙ c.loop-number.invariant.begun;
        stack = ap g.B.Board.stack w.board-is ∙ c.loop-number.invariant.stack;
        quiet = ap g.B.Board.quiet w.board-is ∙ c.loop-number.invariant.quiet;
        seat = ap g.B.Board.seat w.board-is ∙ c.loop-number.invariant.seat;
      }
    ]
