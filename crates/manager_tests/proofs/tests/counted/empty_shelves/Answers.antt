use Rattle.manager_tests.proofs.tests.counted.empty_shelves.Goals as goal

pub in_shelves-requires-clause-new : goal.in_shelves-requires-clause-new
in_shelves-requires-clause-new c = c.in_ok-empty_parts.ensures.empty
