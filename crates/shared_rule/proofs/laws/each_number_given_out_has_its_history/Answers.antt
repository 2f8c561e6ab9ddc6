use Rattle.shared_rule.proofs.Lemmas.GivenOut.{has-history}
use Rattle.shared_rule.proofs.laws.each_number_given_out_has_its_history.Goals as goal

pub returns : goal.returns
returns g c =
    λ sizes state rule number given.
    has-history g.T.PartTable.content state.views rule.world.numbers rule.steps.opener rule.closed
    (λ history stands. rule.seats.closed stands.seat stands.place stands.view history stands.there stands.stands) rule.steps.live number given
