use Rattle.std.proofs.Common.{rules, arith, ◌≡◌, ◌≢◌}
use Rattle.lock_script.proofs.Lemmas.Gathering.{CutsLine-at_end, CutsLine-at_feed, HasLongLine-goes_on}
use Rattle.lock_script.proofs.lines.gather.Goals as goal

pub returns-in-None-clause-line : goal.returns-in-None-clause-line
returns-in-None-clause-line g c = CutsLine-at_end _ _ _ (rw c.in-None.is at c.loop-at.invariant.gathers)

pub returns-in-None-next-clause-line : goal.returns-in-None-next-clause-line
returns-in-None-next-clause-line g c = CutsLine-at_end _ _ _ (rw c.in-None-next.is at c.loop-at.invariant.gathers)

pub returns-in-Some-eq10-clause-line : goal.returns-in-Some-eq10-clause-line
returns-in-Some-eq10-clause-line g c =
    let feed : c.in-Some-eq10.field-0 ≡ 10 = cc in
    CutsLine-at_feed _ _ _ (rw (c.in-Some-eq10.is, feed) at c.loop-at.invariant.gathers)

pub returns-in-Some-eq10-next-clause-line : goal.returns-in-Some-eq10-next-clause-line
returns-in-Some-eq10-next-clause-line g c =
    let feed : c.in-Some-eq10-next.field-0 ≡ 10 = cc in
    CutsLine-at_feed _ _ _ (rw (c.in-Some-eq10-next.is, feed) at c.loop-at.invariant.gathers)

pub returns-in-Some-next-clause-too_long : goal.returns-in-Some-next-clause-too_long
returns-in-Some-next-clause-too_long g c =
    let other : c.in-Some-next.field-0 ≢ 10 = search rules in
    HasLongLine-goes_on _ _ _ _ (rw c.in-Some-next.is at c.loop-at.invariant.gathers) other (omega arith)
