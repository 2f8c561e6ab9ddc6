use Rattle.std.proofs.Common.{◌≡◌, ◌∙◌, List, true, false, refl, sym, subst}
use Rattle.std.specs.Prelude.{map}
use Rattle.lock_table.specs.declared.moves.Move.TheVariants.{Leave}
use Rattle.lock_table.specs.Content.{Wait}
use Rattle.lock_table.specs.Moves.{Moves}
use Rattle.lock_table.specs.OwnWait.{OwnWait}
use Rattle.lock_table.specs.Queue.{waits_there}
use Rattle.lock_table.specs.Waiter.{whose_and_mode}
use Rattle.lock_world.specs.Account.{InHand}
use Rattle.lock_world.specs.AccountLaw.{MayLeaveBy}
use Rattle.shared_rule.specs.Boards.{Seated}
use Rattle.shared_rule.specs.Lawful.{MayClearBy}
use Rattle.lock_manager.specs.Waiting.{FindsGrant, account_cancelled}
use Rattle.lock_manager.proofs.Lemmas.Waiting.InPart.{removal-found, removal-left, cleared-same, may_clear_gone, may_put-over, over-steps, over-account, may_leave, leave-tells}
use Rattle.lock_manager.proofs.waiting.leave_in_part.Given as given
use Rattle.lock_manager.proofs.waiting.leave_in_part.Goals as goal
use Rattle.lock_manager.proofs.waiting.leave_in_part.Goals.{After-put_part, After-remove_waiter}

-- Where it was granted, it isn't in the queue, and nothing of the content has changed.
found : (g : given.Over) (c : goal.After-remove_waiter g) → c.remove_waiter.result ≡ true
    → (waits_there ((g.T.PartTable.content c.take_part-content.result).waits c.args.tag.now) (g.B.Board.seat c.args.board.now).number ≡ false)
    × (g.T.PartTable.content c.remove_waiter.new.part ≡ g.T.PartTable.content c.take_part-content.result)
found g c was =
    removal-found (g.T.PartTable.content c.take_part-content.result) (g.T.PartTable.content c.remove_waiter.new.part) c.args.tag.now c.number-number.result
    (g.B.Board.seat c.args.board.now).number c.remove_waiter.result c.number-number.ensures.value c.remove_waiter.ensures.found c.remove_waiter.ensures.unchanged was

pub clear_wait-requires : goal.clear_wait-requires
clear_wait-requires g c =
    let seat = g.B.Board.seat c.args.board.now in
    let gone = found g (goal.at.clear_wait-requires g c).After-remove_waiter c.if-remove_waiter.true in
    record {
      lawful = subst (λ (s : Seated). (its : OwnWait) × MayClearBy s.number (g.B.Board.view c.take_part-content.new.self) its) (sym c.take_part-content.ensures.seat)
          (may_clear_gone seat.number (g.B.Board.view c.args.board.now) (g.B.Board.stack c.args.board.now) c.partition-part.result c.args.tag.now c.args.mode
          (g.T.PartTable.content c.take_part-content.result) c.requires.waiting c.partition-part.ensures.value
          (g.B.Board.view c.take_part-content.new.self) c.take_part-content.ensures.view c.take_part-content.ensures.knows gone.0);
    }

pub put_part-requires-clause-lawful : goal.put_part-requires-clause-lawful
put_part-requires-clause-lawful g c =
    let gone = found g (goal.at.put_part-requires-clause-lawful g c).After-remove_waiter c.if-remove_waiter.true in
    may_put-over _ _ _ _ _ _ _ c.requires.waiting c.partition-part.ensures.value
    (g.B.Board.view c.take_part-content.new.self) c.take_part-content.ensures.view c.take_part-content.ensures.knows gone.0
    (g.B.Board.seat c.clear_wait.new.self).limit (g.B.Board.seat c.clear_wait.new.self).number (g.B.Board.view c.clear_wait.new.self)
    (g.T.PartTable.content c.remove_waiter.new.part) (cleared-same _ _ (g.B.Board.view c.take_part-content.new.self) _ c.take_part-content.ensures.seat c.clear_wait.ensures.view) gone.1

-- The episode that finds the grant, and the account after it.
finds_grant : (g : given.Over) (c : goal.After-put_part g)
    → FindsGrant (g.B.Board.seat c.args.board.now).number (g.B.Board.view c.args.board.now).trace c.args.tag.now c.args.mode (g.B.Board.view c.put_part.new.self).trace
    × (g.B.Board.view c.put_part.new.self
    ≡ account_cancelled (g.B.Board.view c.args.board.now) c.args.tag.now c.args.mode true (g.B.Board.view c.put_part.new.self).trace)
finds_grant g c =
    let seat = g.B.Board.seat c.args.board.now in
    let before = g.B.Board.view c.args.board.now in
    let taken = g.T.PartTable.content c.take_part-content.result in
    let put = g.T.PartTable.content c.remove_waiter.new.part in
    let gone = removal-found taken put c.args.tag.now c.number-number.result seat.number c.remove_waiter.result c.number-number.ensures.value
    c.remove_waiter.ensures.found c.remove_waiter.ensures.unchanged c.if-remove_waiter.true in
    let clears = cleared-same seat (g.B.Board.seat c.take_part-content.new.self) (g.B.Board.view c.take_part-content.new.self) (g.B.Board.view c.clear_wait.new.self)
    c.take_part-content.ensures.seat c.clear_wait.ensures.view in (
      over-steps seat.number before (g.B.Board.stack c.args.board.now) c.partition-part.result c.args.tag.now c.args.mode taken c.requires.waiting
          c.partition-part.ensures.value (g.B.Board.view c.take_part-content.new.self) c.take_part-content.ensures.view c.take_part-content.ensures.knows gone.0
          (g.B.Board.view c.clear_wait.new.self) (g.B.Board.view c.put_part.new.self) put clears gone.1 c.put_part.ensures.view,
      over-account seat.number before (g.B.Board.stack c.args.board.now) c.partition-part.result c.args.tag.now c.args.mode taken c.requires.waiting
          c.partition-part.ensures.value (g.B.Board.view c.take_part-content.new.self) c.take_part-content.ensures.view c.take_part-content.ensures.knows gone.0
          (g.B.Board.view c.clear_wait.new.self) (g.B.Board.view c.put_part.new.self) put clears gone.1 c.put_part.ensures.view,
    )

pub returns-then-remove_waiter-clause-steps : goal.returns-then-remove_waiter-clause-steps
returns-then-remove_waiter-clause-steps g c = (finds_grant g (goal.at.returns-then-remove_waiter-clause-steps g c).After-put_part).0

pub returns-then-remove_waiter-clause-account : goal.returns-then-remove_waiter-clause-account
returns-then-remove_waiter-clause-account g c = (finds_grant g (goal.at.returns-then-remove_waiter-clause-account g c).After-put_part).1

-- Where it still stood in the queue, it is taken out, and those go on whom that lets go.
left : (g : given.Over) (c : goal.After-remove_waiter g) → c.remove_waiter.result ≡ false
    → (granted : List Wait)
    × Moves (g.T.PartTable.content c.take_part-content.result) (g.B.Board.seat c.args.board.now).number (Leave c.args.tag.now) granted
    (g.T.PartTable.content c.remove_waiter.new.part)
    × (g.T.PartTable.woken c.remove_waiter.new.part ≡ map whose_and_mode granted)
left g c waits =
    removal-left (g.T.PartTable.content c.take_part-content.result) (g.T.PartTable.content c.remove_waiter.new.part) c.args.tag.now c.number-number.result
    (g.B.Board.seat c.args.board.now).number c.remove_waiter.result (g.T.PartTable.woken c.remove_waiter.new.part) c.number-number.ensures.value
    c.remove_waiter.ensures.found c.remove_waiter.ensures.removed waits

pub leave_queue-requires : goal.leave_queue-requires
leave_queue-requires g c =
    let seat = g.B.Board.seat c.args.board.now in
    let put = g.T.PartTable.content c.remove_waiter.new.part in
    let out = left g (goal.at.leave_queue-requires g c).After-remove_waiter c.if-remove_waiter.false in
    record {
      lawful = subst (λ (s : Seated). (its : OwnWait) × (mine : InHand) × (others : List Wait) × (c.woken.result.now ≡ map whose_and_mode others)
          × MayLeaveBy s.limit s.number (g.B.Board.view c.take_part-content.new.self) its mine others put) (sym c.take_part-content.ensures.seat)
          (may_leave seat.number (g.B.Board.view c.args.board.now) (g.B.Board.stack c.args.board.now) c.partition-part.result c.args.tag.now c.args.mode
          (g.T.PartTable.content c.take_part-content.result) c.requires.waiting c.partition-part.ensures.value put out.0 c.woken.result.now out.1 (c.woken.ensures ∙ out.2)
          (g.B.Board.view c.take_part-content.new.self) c.take_part-content.ensures.view seat.limit);
    }

pub put_with_woken-requires-clause-lawful : goal.put_with_woken-requires-clause-lawful
put_with_woken-requires-clause-lawful g c =
    let seat = g.B.Board.seat c.args.board.now in
    let out = left g (goal.at.put_with_woken-requires-clause-lawful g c).After-remove_waiter c.if-remove_waiter.false in
    leave-tells seat.number (g.B.Board.view c.args.board.now) (g.B.Board.stack c.args.board.now) c.partition-part.result c.args.tag.now c.args.mode
    (g.T.PartTable.content c.take_part-content.result) c.requires.waiting c.partition-part.ensures.value
    (g.T.PartTable.content c.remove_waiter.new.part) out.0 (g.T.PartTable.woken c.remove_waiter.new.part) out.1 out.2
    (g.B.Board.view c.take_part-content.new.self) c.take_part-content.ensures.view
    seat (g.B.Board.seat c.leave_queue.new.self) (g.B.Board.view c.leave_queue.new.self) refl
    (c.leave_queue.ensures.seat ∙ c.take_part-content.ensures.seat) c.take_part-content.ensures.knows c.take_part-content.ensures.waiters (rw c.woken.ensures at c.leave_queue.ensures.view)
