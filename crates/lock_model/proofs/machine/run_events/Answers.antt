use Rattle.std.proofs.Common.{◌≡◌, [], ◌∷◌, ◌++◌, take, arith, sym, ap, ◌∙◌, subst}
use Rattle.std.proofs.lemmas.List.{take_more, take_all}
use Rattle.std.proofs.lemmas.Result.{IfOk-weaker}
use Rattle.lock_world.specs.declared.events.Event.{Event}
use Rattle.lock_world.specs.World.{World, opening}
use Rattle.lock_world.specs.Happens.{Next, Runs}
use Rattle.lock_model.specs.Shows.{Shows}
use Rattle.lock_world.proofs.Lemmas.SafeWorld.Opening.{opening-safe}
use Rattle.lock_world.proofs.Lemmas.SafeWorld.Runs.{Next-safe, Runs-none, Runs-push}
use Rattle.lock_model.proofs.machine.run_events.Goals as goal

pub loop-event-preserved : goal.loop-event-preserved
loop-event-preserved c =
    let before = c.loop-event.invariant in
    let item : Event = c.event-item.result in
    let after : (v : World) × Next before.0 item v × Shows c.step.new.self v = c.in_ok-step.ensures before.0 before.2 before.3 in
    let longer = take_more c.args.events.now c.loop-event.event-index item c.loop-event-test.true in (
      after.0,
      subst (λ events. Runs (opening 64 c.args.groups) events after.0)
          (sym (longer ∙ ap (λ e. take c.loop-event.event-index c.args.events.now ++ e ∷ []) (sym c.event-item.is)))
          (Runs-push (opening 64 c.args.groups) (take c.loop-event.event-index c.args.events.now) item before.0 after.0 before.1 after.1),
      Next-safe before.0 item after.0 before.2 after.1,
      after.2,
    )

pub loop-event-init : goal.loop-event-init
loop-event-init c = (opening 64 c.args.groups, Runs-none (opening 64 c.args.groups), opening-safe 64 c.args.groups (omega arith), c.in_ok-machine.ensures)

pub step-requires : goal.step-requires
step-requires c = let before = c.loop-event.invariant in record { shown = (before.0, before.2, before.3) }

pub returns-clause-ran : goal.returns-clause-ran
returns-clause-ran c =
    let last = c.loop-event.invariant in
    let all : take c.loop-event.event-index c.args.events.now ≡ c.args.events.now = take_all c.loop-event.event-index c.args.events.now c.loop-event-test.false in
    IfOk-weaker c.into_plain.result _ _
    (λ plain is. (last.0, subst (λ events. Runs (opening 64 c.args.groups) events last.0) all last.1, last.2, is last.0 last.2 last.3))
    c.into_plain.ensures.shown

pub returns-clause-in_order : goal.returns-clause-in_order
returns-clause-in_order c = c.into_plain.ensures.in_order
