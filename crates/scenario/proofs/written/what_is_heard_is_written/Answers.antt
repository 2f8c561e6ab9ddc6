use Rattle.scenario.proofs.Lemmas.Printing.{all-printed}
use Rattle.scenario.proofs.written.what_is_heard_is_written.Goals as goal

pub returns : goal.returns
returns g c = all-printed g.W.Write.contents
