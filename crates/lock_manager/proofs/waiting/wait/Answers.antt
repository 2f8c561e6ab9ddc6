use Rattle.std.proofs.Common.{◌∙◌, ◌++◌, ◌∷◌, [], ap, subst, sym}
use Rattle.lock_world.specs.Account.{Account}
use Rattle.shared_rule.specs.Boards.{Seated, Stack}
use Rattle.lock_world.specs.declared.events.Word.TheVariants.{Wait}
use Rattle.lock_world.specs.World.{Loaded}
use Rattle.lock_manager.specs.declared.sessions.Own.{Own}
use Rattle.lock_manager.specs.Waiting.{IsWaiting}
use Rattle.lock_manager.proofs.Lemmas.Waiting.Watch.{IsWatching, watching-next, still_not_granted, just_looked}
use Rattle.lock_manager.proofs.waiting.wait.Goals as goal

pub loop-preserved : goal.loop-preserved
loop-preserved g c =
    let seat = c.load_wait-shown.ensures.seat ∙ c.loop.invariant.seat in
    let own = c.in-Still.ensures.same_own still_not_granted ∙ c.loop.invariant.own in
    record {
      waiting = subst (λ (v : Account). IsWaiting (g.B.Board.seat c.args.board.now).groups (g.B.Board.seat c.args.board.now).limit c.args.own.now.database c.args.own.now.uses v (g.B.Board.stack c.sleep.new.self) c.args.own.now.locals.entries c.args.tag c.args.mode) (sym c.sleep.ensures.view)
          (subst (λ (k : Stack). IsWaiting (g.B.Board.seat c.args.board.now).groups (g.B.Board.seat c.args.board.now).limit c.args.own.now.database c.args.own.now.uses (g.B.Board.view c.take_up.new.board) k c.args.own.now.locals.entries c.args.tag c.args.mode) (sym c.sleep.ensures.stack)
          (subst (λ (s : Seated). IsWaiting s.groups s.limit c.args.own.now.database c.args.own.now.uses (g.B.Board.view c.take_up.new.board) (g.B.Board.stack c.take_up.new.board) c.args.own.now.locals.entries c.args.tag c.args.mode) seat
          (subst (λ (its : Own). IsWaiting (g.B.Board.seat c.load_wait-shown.new.self).groups (g.B.Board.seat c.load_wait-shown.new.self).limit its.database its.uses (g.B.Board.view c.take_up.new.board) (g.B.Board.stack c.take_up.new.board) c.args.own.now.locals.entries c.args.tag c.args.mode)
          c.loop.invariant.own
          (subst (λ (its : Own). IsWaiting (g.B.Board.seat c.load_wait-shown.new.self).groups (g.B.Board.seat c.load_wait-shown.new.self).limit c.loop.own.database c.loop.own.uses (g.B.Board.view c.take_up.new.board) (g.B.Board.stack c.take_up.new.board) its.locals.entries c.args.tag c.args.mode)
          own (c.in-Still.ensures.waiting still_not_granted)))));
      watching = subst (λ (v : Account). IsWatching (g.B.Board.seat c.args.board.now).number (g.B.Board.view c.args.board.now).trace v.trace) (sym c.sleep.ensures.view)
          (watching-next (g.B.Board.seat c.args.board.now).number (g.B.Board.view c.args.board.now).trace (g.B.Board.view c.loop.board).trace (g.B.Board.view c.load_wait-shown.new.self).trace
          c.load_wait-shown.result c.loop.invariant.watching
          (ap (λ (a : Account). a.trace) c.load_wait-shown.ensures.view
          ∙ ap (λ (s : Seated). (g.B.Board.view c.loop.board).trace ++ Loaded (Wait s.number) c.load_wait-shown.result ∷ []) c.loop.invariant.seat)
          (g.B.Board.view c.take_up.new.board).trace c.in-Still.ensures.no_step (sym c.in-Still.ensures.answer));
      own = own;
      quiet = c.sleep.ensures.quiet ∙ c.take_up.ensures.quiet ∙ c.load_wait-shown.ensures.quiet ∙ c.loop.invariant.quiet;
      seat = c.sleep.ensures.seat ∙ c.take_up.ensures.seat ∙ seat;
    }

pub sleep-requires-clause-looked : goal.sleep-requires-clause-looked
sleep-requires-clause-looked g c =
    let now = g.B.Board.view c.loop.board in
    let seat = c.take_up.ensures.seat ∙ c.load_wait-shown.ensures.seat in
    just_looked _ _ _ _ (g.B.Board.seat c.take_up.new.board).number (g.B.Board.view c.take_up.new.board) _ _ _ _ c.load_wait-shown.result now.trace
    (c.in-Still.ensures.waiting still_not_granted)
    (c.in-Still.ensures.no_step ∙ ap (λ (a : Account). a.trace) c.load_wait-shown.ensures.view
    ∙ ap (λ (s : Seated). now.trace ++ Loaded (Wait s.number) c.load_wait-shown.result ∷ []) (sym seat))
    (sym c.in-Still.ensures.answer)

pub sleep-requires-clause-nothing_due : goal.sleep-requires-clause-nothing_due
sleep-requires-clause-nothing_due g c = (c.in-Still.ensures.waiting still_not_granted).nothing_left

pub sleep-requires-clause-no_slots : goal.sleep-requires-clause-no_slots
sleep-requires-clause-no_slots g c = λ owner. ap (λ (a : Account). a.fast.slots owner) (c.in-Still.ensures.waiting still_not_granted).account

pub sleep-requires-clause-no_shared_slots : goal.sleep-requires-clause-no_shared_slots
sleep-requires-clause-no_shared_slots g c =
    λ owner. ap (λ (a : Account). a.fast.shared_slots owner) (c.in-Still.ensures.waiting still_not_granted).account
