use Rattle.shared_rule.proofs.Lemmas.LastLoads.{last-load-shows}
use Rattle.shared_rule.proofs.order_laws.no_load_lies.Goals as goal

pub returns : goal.returns
returns g c =
    λ sizes state rule seat at placed number mark marks there stands word shown says exists none.
    last-load-shows g.T.PartTable.content g.T.PartTable.begun sizes state rule seat at placed number mark marks there stands word shown says exists none
