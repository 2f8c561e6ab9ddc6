use Rattle.std.proofs.Common.{◌≡◌, ◌≤◌, length, take, map, refl, sym, ap, subst, ◌∙◌, arith}
use Rattle.std.specs.Prelude.{slice_get}
use Rattle.std.proofs.lemmas.List.{take_all}
use Rattle.lock_table.specs.Waiter.{shown_wait}
use Rattle.lock_table.proofs.Lemmas.Find.{all-before}
use Rattle.wait_queue.proofs.Lemmas.Blockers.{copied-more}
use Rattle.wait_queue.proofs.queues.queue_of.Goals as goal

pub loop-waiter-init : goal.loop-waiter-init
loop-waiter-init g c =
    let none = c.new-rows.ensures.items in
    record {
      within = subst (λ xs. length xs ≤ length ((g.P.PartTable.content c.args.part.now).waits c.args.tag.now)) (sym none) (omega arith);
      so_far = subst (λ xs. map shown_wait xs ≡ take (length xs) ((g.P.PartTable.content c.args.part.now).waits c.args.tag.now)) (sym none) refl;
    }

pub loop-waiter-smaller : goal.loop-waiter-smaller
loop-waiter-smaller g c =
    let queue = (g.P.PartTable.content c.args.part.now).waits c.args.tag.now in
    let len : c.len.result ≡ length c.loop-waiter.rows.items = c.len.ensures ∙ c.loop-waiter.rows.ok.0 in
    let more = copied-more shown_wait queue c.loop-waiter.rows.items c.push.new.self.items c.in-Some.waiter c.loop-waiter.invariant.so_far
    (ap (slice_get queue) (sym len) ∙ sym c.in-Some.ensures.wait) c.in_ok-push.ensures.items in
    omega (arith, more.0, more.1)

pub loop-waiter-preserved : goal.loop-waiter-preserved
loop-waiter-preserved g c =
    let queue = (g.P.PartTable.content c.args.part.now).waits c.args.tag.now in
    let len : c.len.result ≡ length c.loop-waiter.rows.items = c.len.ensures ∙ c.loop-waiter.rows.ok.0 in
    let more = copied-more shown_wait queue c.loop-waiter.rows.items c.push.new.self.items c.in-Some.waiter c.loop-waiter.invariant.so_far
    (ap (slice_get queue) (sym len) ∙ sym c.in-Some.ensures.wait) c.in_ok-push.ensures.items in
    record { within = omega (arith, more.0, more.1); so_far = more.2 }

pub returns : goal.returns
returns g c =
    let queue = (g.P.PartTable.content c.args.part.now).waits c.args.tag.now in
    let len : c.len.result ≡ length c.loop-waiter.rows.items = c.len.ensures ∙ c.loop-waiter.rows.ok.0 in
    let ended = all-before queue (length c.loop-waiter.rows.items) (ap (slice_get queue) (sym len) ∙ sym c.in_default.ensures.wait) in
    record { whole = c.loop-waiter.invariant.so_far ∙ take_all (length c.loop-waiter.rows.items) queue ended }
