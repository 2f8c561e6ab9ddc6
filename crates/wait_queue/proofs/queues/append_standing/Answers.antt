use Rattle.std.proofs.Common.{◌≡◌, ℕ, ◌++◌, take, sym, ap, ◌∙◌, arith, append-nil}
use Rattle.std.specs.Prelude.{option_map}
use Rattle.std.proofs.lemmas.List.{flat_map_more}
use Rattle.lock_table.specs.Waiter.{shown_wait}
use Rattle.lock_table.proofs.Lemmas.Find.{take-at}
use Rattle.wait_queue.specs.Queues.{standing, standing_of}
use Rattle.wait_queue.proofs.queues.append_standing.Goals as goal

pub loop-at-init : goal.loop-at-init
loop-at-init g c = sym (append-nil c.args.found.now.items)

pub loop-at-preserved : goal.loop-at-preserved
loop-at-preserved g c =
    let queue = (g.P.PartTable.content c.args.part.now).waits c.args.tag.now in
    let wait = shown_wait c.unwrap-waiter.result in
    let more = take-at queue c.loop-at.at wait (sym c.waiter.ensures.wait ∙ ap (option_map shown_wait) c.unwrap-waiter.ensures) in
    c.in_ok-append_waiter.ensures
    ∙ ap (λ (xs : _). xs ++ standing_of c.args.mode wait) c.loop-at.invariant
    ∙ flat_map_more (standing_of c.args.mode) c.args.found.now.items (take c.loop-at.at queue) wait
    ∙ ap (λ (xs : _). c.args.found.now.items ++ standing xs c.args.mode) (sym more)

pub returns : goal.returns
returns g c =
    let queue = (g.P.PartTable.content c.args.part.now).waits c.args.tag.now in
    let all : c.loop-at.at ≡ c.args.place = omega (arith, c.loop-at-test.false, c.loop-at.auto.at-end) in
    c.loop-at.invariant ∙ ap (λ (k : ℕ). c.args.found.now.items ++ standing (take k queue) c.args.mode) all
