use Rattle.floor_tests.proofs.local.places.note.Goals as goal

pub insert-requires-clause-free : goal.insert-requires-clause-free
insert-requires-clause-free g c = c.has.ensures.free c.if-has.false
