use Rattle.lock_table.specs.Content.{empty_content}
use Rattle.one_list.proofs.Lemmas.SafeLists.{empty-safe, step-safe, run-safe}
use Rattle.one_list.proofs.Lemmas.Requests.{one_list, one_join}
use Rattle.one_list.proofs.laws.the_list_keeps_the_promise.Goals as goal

pub returns-clause-empty : goal.returns-clause-empty
returns-clause-empty c = empty-safe

pub returns-clause-step : goal.returns-clause-step
returns-clause-step c = λ session before after safe step. step-safe session before after safe step

pub returns-clause-one_list : goal.returns-clause-one_list
returns-clause-one_list c = λ before session done granted its after other sure one two. one_list before session done granted its after other sure one two

pub returns-clause-one_join : goal.returns-clause-one_join
returns-clause-one_join c = λ before session tag mode after other one two same. one_join before session tag mode after other one two same

pub returns-clause-run : goal.returns-clause-run
returns-clause-run c = λ events worlds run place w at. run-safe empty_content events worlds empty-safe run place w at
