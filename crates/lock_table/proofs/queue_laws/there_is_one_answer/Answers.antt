use Rattle.lock_table.proofs.Lemmas.OneAnswer.{waiting_answer-one}
use Rattle.lock_table.proofs.queue_laws.there_is_one_answer.Goals as goal

pub returns : goal.returns
returns c = waiting_answer-one
