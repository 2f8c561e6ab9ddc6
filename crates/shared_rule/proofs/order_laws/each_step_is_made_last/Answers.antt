use Rattle.shared_rule.proofs.Lemmas.MadeLast.{made-last, latest}
use Rattle.shared_rule.proofs.order_laws.each_step_is_made_last.Goals as goal

pub returns-clause-earlier : goal.returns-clause-earlier
returns-clause-earlier g c =
    λ sizes before after rule then seat first mark now made. made-last g.T.PartTable.content g.T.PartTable.begun sizes before after rule then seat first mark now made

pub returns-clause-last : goal.returns-clause-last
returns-clause-last g c =
    λ sizes before after rule then seat first mark now made. latest g.T.PartTable.content g.T.PartTable.begun sizes before after rule then seat first mark now made
