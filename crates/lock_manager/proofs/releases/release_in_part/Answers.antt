use Rattle.std.proofs.Common.{List, [], refl, sym, ap, subst}
use Rattle.lock_table.specs.Content.{Wait, Content}
use Rattle.lock_table.specs.Queue.{Wakes}
use Rattle.lock_table.specs.declared.moves.Move.TheVariants.{Release}
use Rattle.lock_table.specs.Moves.{Moves}
use Rattle.lock_manager.proofs.Lemmas.Releases.InPart.{may_put_released, release-tells, woken-released}
use Rattle.lock_manager.proofs.releases.release_in_part.Goals as goal

pub put_part-requires-clause-lawful : goal.put_part-requires-clause-lawful
put_part-requires-clause-lawful g c =
    let taken = g.T.PartTable.content c.take_part-content.result in
    let put = g.T.PartTable.content c.take_hold_out.new.part in
    let moved = subst (λ number. Moves taken number (Release c.args.tag.now c.args.mode) [] put) c.number-number.ensures.value (c.take_hold_out.ensures.over c.if-take_hold_out.false) in
    may_put_released (g.B.Board.seat c.args.board.now) (g.B.Board.view c.args.board.now) c.partition-part.result c.args.tag.now c.args.mode
    taken put [] [] (sym c.partition-part.ensures.value) c.requires.held moved refl
    (g.B.Board.seat c.take_part-content.new.self) (g.B.Board.view c.take_part-content.new.self)
    c.take_part-content.ensures.seat c.take_part-content.ensures.view refl

pub wake_and_put-requires-clause-lawful : goal.wake_and_put-requires-clause-lawful
wake_and_put-requires-clause-lawful g c =
    let taken = g.T.PartTable.content c.take_part-content.result in
    let before = g.T.PartTable.content c.take_hold_out.new.part in
    let moves : (granted : List Wait) (after : Content) → Wakes before c.args.tag.now granted after → Moves taken (g.B.Board.seat c.args.board.now).number (Release c.args.tag.now c.args.mode) granted after = λ granted after wakes.
    subst (λ number. Moves taken number (Release c.args.tag.now c.args.mode) granted after) c.number-number.ensures.value (c.take_hold_out.ensures.to_wake c.if-take_hold_out.true granted after wakes) in
    record {
      nobody = λ after wakes.
          may_put_released (g.B.Board.seat c.args.board.now) (g.B.Board.view c.args.board.now) c.partition-part.result c.args.tag.now c.args.mode
          taken after [] [] (sym c.partition-part.ensures.value) c.requires.held (moves [] after wakes) refl
          (g.B.Board.seat c.take_part-content.new.self) (g.B.Board.view c.take_part-content.new.self)
          c.take_part-content.ensures.seat c.take_part-content.ensures.view refl;
      some = λ granted woken after wakes whose some.
          release-tells (g.B.Board.seat c.args.board.now) (g.B.Board.view c.args.board.now) c.partition-part.result c.args.tag.now c.args.mode
          taken after granted woken (sym c.partition-part.ensures.value) c.requires.held (moves granted after wakes) whose
          (g.B.Board.seat c.take_part-content.new.self) (g.B.Board.view c.take_part-content.new.self)
          c.take_part-content.ensures.seat c.take_part-content.ensures.view c.take_part-content.ensures.knows c.take_part-content.ensures.waiters some;
    }

pub returns-then-take_hold_out-clause-released : goal.returns-then-take_hold_out-clause-released
returns-then-take_hold_out-clause-released g c =
    let seat = g.B.Board.seat c.args.board.now in
    let taken = g.T.PartTable.content c.take_part-content.result in
    let ended = c.wake_and_put.ensures.account in
    let moved = subst (λ number. Moves taken number (Release c.args.tag.now c.args.mode) ended.granted ended.after) c.number-number.ensures.value
    (c.take_hold_out.ensures.to_wake c.if-take_hold_out.true ended.granted ended.after ended.wakes) in
    woken-released seat.number (g.B.Board.view c.args.board.now) (g.B.Board.view c.take_part-content.new.self) (g.B.Board.view c.wake_and_put.new.board)
    c.partition-part.result c.args.tag.now c.args.mode taken ended.after ended.granted c.partition-part.ensures.value
    (ap (λ hand. hand c.partition-part.result) c.requires.idle.no_content) c.take_part-content.ensures.view c.take_part-content.ensures.knows.own_stand moved ended.account
