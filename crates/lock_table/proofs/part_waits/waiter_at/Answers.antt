use Rattle.std.proofs.Common.{◌≡◌, ◌∙◌, sym, ap, length, take, List, arith}
use Rattle.std.proofs.lemmas.List.{take_all}
use Rattle.std.proofs.lemmas.Option.{slice_get_past}
use Rattle.lock_table.specs.declared.part_waits.PartWait.{PartWait}
use Rattle.lock_table.specs.PartWaits.{queues_in}
use Rattle.lock_table.proofs.Lemmas.WaitLists.{waiter-there}
use Rattle.lock_table.proofs.part_waits.waiter_at.Goals as goal

pub returns-then-before-eq0 : goal.returns-then-before-eq0
returns-then-before-eq0 c =
    sym (waiter-there c.args.waits.now c.loop-wait.wait-index c.wait-item.result c.args.tag.now c.args.place c.loop-wait-test.true c.wait-item.is
    (sym c.is_same.ensures ∙ c.if-is_same.true) (omega (arith, c.loop-wait.invariant, c.if-before-eq0.true)))

pub returns : goal.returns
returns c =
    let all : length (queues_in (take c.loop-wait.wait-index c.args.waits.now) c.args.tag.now) ≡ length (queues_in c.args.waits.now c.args.tag.now) =
    ap (λ (xs : List PartWait). length (queues_in xs c.args.tag.now)) (take_all c.loop-wait.wait-index c.args.waits.now c.loop-wait-test.false) in
    sym (slice_get_past (queues_in c.args.waits.now c.args.tag.now) c.args.place (omega (arith, c.loop-wait.invariant)))
