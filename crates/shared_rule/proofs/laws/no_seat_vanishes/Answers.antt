use Rattle.shared_rule.proofs.Lemmas.GivenOut.{no-seat_vanishes}
use Rattle.shared_rule.proofs.laws.no_seat_vanishes.Goals as goal

pub returns : goal.returns
returns g c = no-seat_vanishes g.T.PartTable.content g.T.PartTable.begun
