use Rattle.one_list.proofs.Lemmas.Runs.{alike}
use Rattle.one_list.proofs.laws.a_partition_answers_for_the_list.Goals as goal

pub returns : goal.returns
returns c = λ w safe session tag mode. alike w safe session tag mode
