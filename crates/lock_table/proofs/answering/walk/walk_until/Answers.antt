use Rattle.std.proofs.Common.{◌<◌, length, take, refl, sym, ◌∙◌, arith}
use Rattle.std.proofs.lemmas.Option.{slice_get_within}
use Rattle.modes_core.specs.ModeSet.{set_has}
use Rattle.lock_table.specs.Waiter.{shown_wait}
use Rattle.lock_table.specs.Queue.{conflicts_with_some}
use Rattle.lock_table.proofs.Lemmas.Find.{take-at, none-at}
use Rattle.lock_table.proofs.Lemmas.Walk.{StandFor-none, StandFor-more}
use Rattle.lock_table.proofs.answering.walk.walk_until.Goals as goal

pub loop-waiter-init : goal.loop-waiter-init
loop-waiter-init g c = record {
  within = omega arith;
  passed = refl;
  ahead = StandFor-none (set_has c.empty-ahead.result) c.empty-ahead.ensures;
}

pub overflow_add-place : goal.overflow_add-place
overflow_add-place g c =
    let queue = (g.P.PartTable.content c.args.part.now).waits c.args.tag.now in
    let within : c.loop-waiter.place < length queue = slice_get_within queue c.loop-waiter.place (shown_wait c.in-Some.waiter) (sym c.in-Some.ensures.wait) in
    omega (arith, c.in-Some.ensures.countable)

pub loop-waiter-smaller : goal.loop-waiter-smaller
loop-waiter-smaller g c =
    let queue = (g.P.PartTable.content c.args.part.now).waits c.args.tag.now in
    let within : c.loop-waiter.place < length queue = slice_get_within queue c.loop-waiter.place (shown_wait c.in-Some.waiter) (sym c.in-Some.ensures.wait) in
    omega arith

pub loop-waiter-preserved : goal.loop-waiter-preserved
loop-waiter-preserved g c =
    let queue = (g.P.PartTable.content c.args.part.now).waits c.args.tag.now in
    let place = c.loop-waiter.place in
    let wait = shown_wait c.in-Some.waiter in
    let within : place < length queue = slice_get_within queue place wait (sym c.in-Some.ensures.wait) in
    let more = take-at queue place wait (sym c.in-Some.ensures.wait) in
    record {
      within = omega arith;
      passed = rw more (none-at (λ w. conflicts_with_some w.mode (set_has c.args.modes)) (take place queue) wait c.loop-waiter.invariant.passed (sym c.is_against.ensures ∙ c.if-is_against.false));
      ahead = rw more (StandFor-more (set_has c.loop-waiter.ahead) (set_has c.with-ahead.result) (take place queue) wait c.loop-waiter.invariant.ahead c.with-ahead.ensures);
    }
