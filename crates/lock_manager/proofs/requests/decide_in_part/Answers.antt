use Rattle.std.proofs.Common.{◌≡◌, ◌∙◌, Ok, sym, ap, subst, [], false}
use Rattle.lock_table.specs.declared.moves.Move.TheVariants.{Grant, Join, Keep}
use Rattle.lock_table.specs.Moves.{Moves}
use Rattle.lock_table.specs.Queue.{waits_there}
use Rattle.wait_queue.specs.declared.requests.Decision.TheVariants.{Queued}
use Rattle.wait_queue.specs.Decide.{IsDecided}
use Rattle.lock_world.specs.Account.{Account, InHand}
use Rattle.lock_world.specs.AccountFacts.{OwnHoldsStand}
use Rattle.lock_world.specs.AccountLaw.{MayMoveBy}
use Rattle.shared_rule.specs.Boards.{Seated}
use Rattle.shared_rule.specs.Lawful.{MayPutPart}
use Rattle.lock_manager.proofs.Lemmas.Requests.InPart.{granted-moves, queued-moves, may_put-granted, may_wait, may_put-joined, may_put-kept, queues-in_part}
use Rattle.lock_manager.proofs.Lemmas.Requests.Room.{room-had}
use Rattle.lock_manager.proofs.requests.decide_in_part.Goals as goal

pub put_part-requires-clause-lawful : goal.put_part-requires-clause-lawful
put_part-requires-clause-lawful g c =
    let seat = g.B.Board.seat c.args.board.now in
    let taken = g.T.PartTable.content c.take_part-content.result in
    let put = g.T.PartTable.content c.decide.new.part in
    let moved = subst (λ number. Moves taken number (Grant c.args.tag.now c.args.mode) [] put) c.number-number.ensures.value
    (granted-moves c.args.kind taken put c.number-number.result c.args.tag.now c.args.mode (subst (λ d. IsDecided c.args.kind taken c.number-number.result c.args.tag.now c.args.mode d put) c.in-Ok-Granted.field-0-is c.in-Ok-Granted.ensures.decided)) in
    subst (λ (s : Seated). (mine : InHand) × MayPutPart s.limit s.number (g.B.Board.view c.take_part-content.new.self) c.partition-part.result mine (Grant c.args.tag.now c.args.mode) put)
    (sym c.take_part-content.ensures.seat)
    (may_put-granted seat.limit seat.number (g.B.Board.view c.args.board.now) (g.B.Board.stack c.args.board.now) c.partition-part.result c.args.tag.now c.args.mode taken put
    c.requires.idle c.partition-part.ensures.value c.requires.new c.requires.counted (g.B.Board.view c.take_part-content.new.self) c.take_part-content.ensures.view moved)

pub set_waiting-requires : goal.set_waiting-requires
set_waiting-requires g c =
    let seat = g.B.Board.seat c.args.board.now in
    let taken = g.T.PartTable.content c.take_part-content.result in
    let put = g.T.PartTable.content c.decide.new.part in
    let moved = subst (λ number. Moves taken number (Join c.args.tag.now c.args.mode) [] put) c.number-number.ensures.value
    (queued-moves c.args.kind taken put c.number-number.result c.args.tag.now c.args.mode (subst (λ d. IsDecided c.args.kind taken c.number-number.result c.args.tag.now c.args.mode d put) c.in-Ok-Queued.field-0-is c.in-Ok-Queued.ensures.decided)) in
    record {
      lawful = subst (λ (s : Seated). (mine : InHand) × MayMoveBy s.limit s.number (g.B.Board.view c.take_part-content.new.self) (Rattle.modes_core.specs.Tag.partition_of c.args.tag.now) mine (Join c.args.tag.now c.args.mode) [] put)
          (sym c.take_part-content.ensures.seat)
          (may_wait seat.limit seat.number (g.B.Board.view c.args.board.now) (g.B.Board.stack c.args.board.now) c.partition-part.result c.args.tag.now c.args.mode taken put
          c.requires.idle c.partition-part.ensures.value c.requires.new c.requires.counted (g.B.Board.view c.take_part-content.new.self) c.take_part-content.ensures.view moved);
    }

pub put_part-requires-in-Ok-Queued-clause-lawful : goal.put_part-requires-in-Ok-Queued-clause-lawful
put_part-requires-in-Ok-Queued-clause-lawful g c =
    let taken = g.T.PartTable.content c.take_part-content.result in
    let put = g.T.PartTable.content c.decide.new.part in
    let seat = g.B.Board.seat c.take_part-content.new.self in
    subst (λ (s : Seated). (mine : InHand) × MayPutPart s.limit s.number (g.B.Board.view c.set_waiting.new.self) c.partition-part.result mine Keep put) (sym c.set_waiting.ensures.seat)
    (may_put-joined seat.limit seat.number (g.B.Board.view c.args.board.now) (g.B.Board.view c.take_part-content.new.self) (g.B.Board.stack c.args.board.now)
    c.partition-part.result c.args.tag.now c.args.mode taken put c.requires.idle c.partition-part.ensures.value c.take_part-content.ensures.view
    (g.B.Board.view c.set_waiting.new.self) c.set_waiting.ensures.view)

pub put_part-requires-in-Err-clause-lawful : goal.put_part-requires-in-Err-clause-lawful
put_part-requires-in-Err-clause-lawful g c =
    may_put-kept (g.B.Board.seat c.take_part-content.new.self).limit (g.B.Board.seat c.take_part-content.new.self).number (g.B.Board.view c.args.board.now) (g.B.Board.view c.take_part-content.new.self)
    c.partition-part.result (g.T.PartTable.content c.take_part-content.result) (g.T.PartTable.content c.decide.new.part) c.take_part-content.ensures.view c.in-Err.ensures.unchanged

pub returns-in-Ok-Queued-clause-decided : goal.returns-in-Ok-Queued-clause-decided
returns-in-Ok-Queued-clause-decided g c =
    let seat = g.B.Board.seat c.take_part-content.new.self in
    let before = g.B.Board.view c.args.board.now in
    let taken = g.T.PartTable.content c.take_part-content.result in
    let put = g.T.PartTable.content c.decide.new.part in
    let stand = subst (λ (s : Seated). OwnHoldsStand s.number before.own before.fast.database before.fast.remembered c.partition-part.result taken) (sym c.take_part-content.ensures.seat) c.take_part-content.ensures.knows.own_stand in
    let no_own_wait = subst (λ (s : Seated). waits_there (taken.waits c.args.tag.now) s.number ≡ false) (sym c.take_part-content.ensures.seat)
    (c.take_part-content.ensures.knows.no_wait c.args.tag.now c.requires.idle.no_wait) in
    let number : c.number-number.result ≡ seat.number = c.number-number.ensures.value ∙ ap (λ (s : Seated). s.number) (sym c.take_part-content.ensures.seat) in
    subst (λ (s : Seated). Rattle.lock_manager.specs.Requests.DecidesInPart c.args.kind s.number before c.args.tag.now c.args.mode (Ok Queued) (g.B.Board.view c.put_part-in-Ok-Queued.new.self)) c.take_part-content.ensures.seat
    (queues-in_part seat.limit seat.number before (g.B.Board.view c.take_part-content.new.self) (g.B.Board.stack c.args.board.now) c.partition-part.result c.args.tag.now c.args.mode
    taken put c.requires.idle c.partition-part.ensures.value c.take_part-content.ensures.view c.args.kind (g.B.Board.view c.set_waiting.new.self) (g.B.Board.view c.put_part-in-Ok-Queued.new.self)
    stand no_own_wait
    c.set_waiting.ensures.view c.put_part-in-Ok-Queued.ensures.view
    (subst (λ k. IsDecided c.args.kind taken k c.args.tag.now c.args.mode Queued put) number
    (subst (λ d. IsDecided c.args.kind taken c.number-number.result c.args.tag.now c.args.mode d put) c.in-Ok-Queued.field-0-is c.in-Ok-Queued.ensures.decided)))

pub returns-in-Err-clause-room_first : goal.returns-in-Err-clause-room_first
returns-in-Err-clause-room_first g c =
    room-had g.T.PartTable.content g.T.PartTable.prepared c.decide.new.part c.number-number.result (g.B.Board.seat c.args.board.now).number c.args.tag.now c.args.mode c.number-number.ensures.value
    (g.B.Board.view c.take_part-content.new.self).trace c.partition-part.result _ (g.B.Board.view c.put_part-in-Err.new.self).trace c.partition-part.ensures.value
    (ap (λ (a : Account). a.trace) c.put_part-in-Err.ensures.view) c.in-Err.refusal c.in-Err.ensures.room_first
