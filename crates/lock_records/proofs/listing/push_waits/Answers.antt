use Rattle.std.proofs.Common.{not, take, ap, ◌∙◌}
use Rattle.std.proofs.lemmas.Bool.{cond-true}
use Rattle.lock_records.specs.Rows.{awaited_row, awaited_in}
use Rattle.lock_records.proofs.Lemmas.Listings.{appends-one, awaited-more}
use Rattle.lock_records.proofs.listing.push_waits.Goals as goal

pub loop-waiter-preserved : goal.loop-waiter-preserved
loop-waiter-preserved c =
    appends-one c.args.rows.now.items c.loop-waiter.rows.items c.push.new.self.items (awaited_row c.args.tag.now c.waiter-item.result) (awaited_in c.args.tag.now (take c.loop-waiter.waiter-index c.args.waiters.now)) _
    (c.push.ensures.items ∙ cond-true _ _ _ (c.is_err.ensures.negation ∙ ap not c.if-is_err.false))
    (λ row. awaited-more c.args.tag.now c.args.waiters.now c.loop-waiter.waiter-index c.waiter-item.result row c.loop-waiter-test.true c.waiter-item.is) c.loop-waiter.invariant
