use Rattle.lock_script.proofs.Lemmas.Objects.{if-given}
use Rattle.lock_script.proofs.objects.ObjectNames.name_of.Goals as goal

pub returns-clause-reads_back : goal.returns-clause-reads_back
returns-clause-reads_back c = if-given c.args.self.now c.find_name.ensures.apart c.args.tag c.find_name.result c.find_name.ensures.given
