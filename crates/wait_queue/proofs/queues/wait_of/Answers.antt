use Rattle.std.proofs.Common.{◌<◌, length, take, refl, sym, ap, ◌∙◌, arith}
use Rattle.std.specs.Prelude.{◌==◌, option_map}
use Rattle.std.proofs.lemmas.Bool.{eq-eqb, ne_eqb}
use Rattle.std.proofs.lemmas.List.{take_all}
use Rattle.std.proofs.lemmas.Option.{slice_get_within}
use Rattle.lock_table.specs.Queue.{waits_there}
use Rattle.lock_table.specs.Waiter.{shown_wait}
use Rattle.lock_table.proofs.Lemmas.Find.{take-at, none-at, find-at, find-none, all-before}
use Rattle.wait_queue.proofs.Lemmas.Blockers.{before-at}
use Rattle.wait_queue.proofs.queues.wait_of.Goals as goal

pub loop-waiter-init : goal.loop-waiter-init
loop-waiter-init g c = record { within = omega arith; passed = refl }

pub returns-then-number-clause-mode : goal.returns-then-number-clause-mode
returns-then-number-clause-mode g c =
    let queue = (g.P.PartTable.content c.args.part.now).waits c.args.tag.now in
    ap (option_map (λ wait. wait.mode)) (find-at (λ wait. wait.session == c.args.session) queue c.loop-waiter.place (shown_wait c.in-Some.waiter) c.loop-waiter.invariant.passed (sym c.in-Some.ensures.wait) (eq-eqb _ _ (sym c.number.ensures.value ∙ c.if-number.true ∙ c.number-in-Some.ensures.value)))

pub returns-then-number-clause-place : goal.returns-then-number-clause-place
returns-then-number-clause-place g c =
    let queue = (g.P.PartTable.content c.args.part.now).waits c.args.tag.now in
    before-at (λ wait. wait.session == c.args.session) queue c.loop-waiter.place (shown_wait c.in-Some.waiter) c.loop-waiter.invariant.passed (sym c.in-Some.ensures.wait) (eq-eqb _ _ (sym c.number.ensures.value ∙ c.if-number.true ∙ c.number-in-Some.ensures.value))

pub returns-then-number-clause-within : goal.returns-then-number-clause-within
returns-then-number-clause-within g c = c.loop-waiter.invariant.within

pub overflow_add-place : goal.overflow_add-place
overflow_add-place g c =
    let queue = (g.P.PartTable.content c.args.part.now).waits c.args.tag.now in
    let within : c.loop-waiter.place < length queue = slice_get_within queue c.loop-waiter.place (shown_wait c.in-Some.waiter) (sym c.in-Some.ensures.wait) in
    omega (arith, c.in-Some.ensures.countable)

pub loop-waiter-smaller : goal.loop-waiter-smaller
loop-waiter-smaller g c =
    let queue = (g.P.PartTable.content c.args.part.now).waits c.args.tag.now in
    let within : c.loop-waiter.place < length queue = slice_get_within queue c.loop-waiter.place (shown_wait c.in-Some.waiter) (sym c.in-Some.ensures.wait) in
    omega arith

pub loop-waiter-preserved : goal.loop-waiter-preserved
loop-waiter-preserved g c =
    let queue = (g.P.PartTable.content c.args.part.now).waits c.args.tag.now in
    let place = c.loop-waiter.place in
    let wait = shown_wait c.in-Some.waiter in
    let within : place < length queue = slice_get_within queue place wait (sym c.in-Some.ensures.wait) in
    let more = take-at queue place wait (sym c.in-Some.ensures.wait) in
    record {
      within = omega arith;
      passed = rw more (none-at (λ w. w.session == c.args.session) (take place queue) wait c.loop-waiter.invariant.passed (ne_eqb _ _ (λ same. c.if-number.false (c.number.ensures.value ∙ same ∙ sym c.number-in-Some.ensures.value))));
    }

pub returns-clause-none : goal.returns-clause-none
returns-clause-none g c =
    let queue = (g.P.PartTable.content c.args.part.now).waits c.args.tag.now in
    let all = take_all c.loop-waiter.place queue (all-before queue c.loop-waiter.place (sym c.in_default.ensures.wait)) in
    find-none (λ wait. wait.session == c.args.session) queue (ap (λ xs. waits_there xs c.args.session) (sym all) ∙ c.loop-waiter.invariant.passed)
