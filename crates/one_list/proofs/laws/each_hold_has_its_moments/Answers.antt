use Rattle.one_list.proofs.Lemmas.Moments.{coming, going}
use Rattle.one_list.proofs.Lemmas.Requests.{owning}
use Rattle.one_list.proofs.laws.each_hold_has_its_moments.Goals as goal

pub returns-clause-comes : goal.returns-clause-comes
returns-clause-comes c = λ w events worlds session tag mode safe run none has. coming session tag mode w events worlds safe run none has

pub returns-clause-goes : goal.returns-clause-goes
returns-clause-goes c = λ w events worlds session tag mode safe run has none. going session tag mode w events worlds safe run has none

pub returns-clause-own : goal.returns-clause-own
returns-clause-own c = λ w events worlds session tag mode safe run idle new owns. owning w events worlds session tag mode safe run idle new owns
