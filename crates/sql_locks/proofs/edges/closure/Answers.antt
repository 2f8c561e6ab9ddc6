use Rattle.std.proofs.Common.{rules, ◌≡◌, length}
use Rattle.sql_locks.proofs.Lemmas.Follow.{under_way_more, under_way_last, under_way_done}
use Rattle.sql_locks.proofs.edges.closure.Goals as goal

pub returns-then-len-before : goal.returns-then-len-before
returns-then-len-before c =
    let same : length c.in_ok-rest-2.rest.items ≡ length c.steps.rest.items = search rules in
    under_way_last _ _ c.steps.found.items c.steps.rest.items _ c.in_ok-rest-2.rest.items c.steps.invariant c.in_ok-rest-2.ensures same

pub steps-preserved : goal.steps-preserved
steps-preserved c =
    under_way_more _ _ c.steps.found.items c.steps.rest.items _ c.in_ok-rest-2.rest.items c.steps.invariant c.in_ok-rest-2.ensures

pub returns : goal.returns
returns c =
    let none : length c.steps.rest.items ≡ 0 = search rules in
    under_way_done _ _ c.steps.found.items c.steps.rest.items c.steps.invariant none
