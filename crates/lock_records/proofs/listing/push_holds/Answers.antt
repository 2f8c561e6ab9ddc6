use Rattle.std.proofs.Common.{◌+◌, not, Some, Vec, Global, sym, ap, ◌∙◌, arith, refl}
use Rattle.lock_table.specs.declared.rows.TableRow.{TableRow}
use Rattle.lock_records.specs.Rows.{shown_below, shown_by}
use Rattle.lock_records.proofs.Lemmas.Listings.{below-start, below-next, below-none, below-all, appends-none, appends-like, appends-more, on-ok}
use Rattle.lock_records.proofs.listing.push_holds.Goals as goal
use Rattle.lock_records.proofs.listing.push_holds.Goals.{in-Some+else-is_err, in_default}

pub loop-place-init : goal.loop-place-init
loop-place-init c = appends-none c.args.rows.now.items (shown_below c.args.holders.now.slots 0) (below-start c.args.holders.now.slots)

pub returns-clause-ok : goal.returns-clause-ok
returns-clause-ok c =
    appends-like c.args.rows.now.items c.loop-place.rows.items c.loop-place.rows.items (shown_below c.args.holders.now.slots c.loop-place.place) _ refl
    (λ row. below-all c.args.holders.now.slots c.loop-place.place row (omega (arith, c.capacity-place-end.ensures.slots))) c.loop-place.invariant

pub loop-place-preserved : goal.loop-place-preserved
loop-place-preserved c =
    let slots = c.args.holders.now.slots in
    elim c.match-get.branch [
      | in-Some+else-is_err w ↦
          appends-like c.args.rows.now.items w.push_modes.new.rows.items c.match-get.rows.items (shown_below slots (c.loop-place.place + 1)) (shown_below slots (c.loop-place.place + 1))
          (ap (λ (rows : Vec TableRow Global). rows.items) w.rows-is) (λ row. refl)
          (appends-more c.args.rows.now.items c.loop-place.rows.items w.push_modes.new.rows.items (shown_below slots c.loop-place.place) (shown_by (Some w.in-Some.holder.now)) (shown_below slots (c.loop-place.place + 1))
          (λ row. ap (λ slot. shown_below slots c.loop-place.place row + shown_by slot row) (w.in-Some.ensures {u = tt}) ∙ sym (below-next slots c.loop-place.place row))
          c.loop-place.invariant (on-ok w.push_modes.result _ (w.is_err.ensures.negation ∙ ap not w.if-is_err.false) w.push_modes.ensures.ok))
      | in_default w ↦
          appends-like c.args.rows.now.items c.loop-place.rows.items c.match-get.rows.items (shown_below slots c.loop-place.place) (shown_below slots (c.loop-place.place + 1))
          (ap (λ (rows : Vec TableRow Global). rows.items) w.rows-is) (λ row. below-none slots c.loop-place.place row (sym (w.in_default.ensures {u = tt}))) c.loop-place.invariant
    ]
