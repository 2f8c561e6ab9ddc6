use Rattle.std.proofs.Common.{◌+◌, not, length, Vec, Global, sym, ap, ◌∙◌, arith, refl}
use Rattle.lock_table.specs.declared.rows.TableRow.{TableRow}
use Rattle.lock_records.specs.Queues.{QueuesView, queue_at}
use Rattle.lock_records.specs.Rows.{awaited_in, awaited_at, awaited_below}
use Rattle.lock_records.proofs.Lemmas.Listings.{waits-start, waits-next, waits-none, waits-all, appends-none, appends-like, appends-more, on-ok}
use Rattle.lock_records.proofs.wait_queues.WaitQueues.push_rows.Goals as goal
use Rattle.lock_records.proofs.wait_queues.WaitQueues.push_rows.Goals.{in-Some+else-is_err, in_default}

pub loop-place-init : goal.loop-place-init
loop-place-init c = appends-none c.args.rows.now.items (awaited_below c.args.self.now.slots 0) (waits-start c.args.self.now.slots)

pub returns-clause-ok : goal.returns-clause-ok
returns-clause-ok c =
    let all = ap (λ (view : QueuesView). length view.slots) c.self.view_is in
    appends-like c.args.rows.now.items c.loop-place.rows.items c.loop-place.rows.items (awaited_below c.args.self.now.slots c.loop-place.place) _ refl
    (λ row. waits-all c.args.self.now.slots c.loop-place.place row (omega (arith, c.capacity-place-end.ensures.slots, all))) c.loop-place.invariant

pub loop-place-preserved : goal.loop-place-preserved
loop-place-preserved c =
    let slots = c.args.self.now.slots in
    let viewed = ap (λ (view : QueuesView). queue_at view.slots c.loop-place.place) c.self.view_is in
    elim c.match-get.branch [
      | in-Some+else-is_err w ↦
          appends-like c.args.rows.now.items w.push_waits.new.rows.items c.match-get.rows.items (awaited_below slots (c.loop-place.place + 1)) (awaited_below slots (c.loop-place.place + 1))
          (ap (λ (rows : Vec TableRow Global). rows.items) w.rows-is) (λ row. refl)
          (appends-more c.args.rows.now.items c.loop-place.rows.items w.push_waits.new.rows.items (awaited_below slots c.loop-place.place) (awaited_in w.in-Some.queue.now.tag w.as_slice.result.now) (awaited_below slots (c.loop-place.place + 1))
          (λ row.
          ap (λ ws. awaited_below slots c.loop-place.place row + awaited_in w.in-Some.queue.now.tag ws row) w.as_slice.ensures.value
          ∙ ap (λ slot. awaited_below slots c.loop-place.place row + awaited_at row slot) (w.in-Some.ensures {u = tt} ∙ viewed) ∙ sym (waits-next slots c.loop-place.place row))
          c.loop-place.invariant (on-ok w.push_waits.result _ (w.is_err.ensures.negation ∙ ap not w.if-is_err.false) w.push_waits.ensures.ok))
      | in_default w ↦
          appends-like c.args.rows.now.items c.loop-place.rows.items c.match-get.rows.items (awaited_below slots c.loop-place.place) (awaited_below slots (c.loop-place.place + 1))
          (ap (λ (rows : Vec TableRow Global). rows.items) w.rows-is) (λ row. waits-none slots c.loop-place.place row (sym (w.in_default.ensures {u = tt} ∙ viewed))) c.loop-place.invariant
    ]
