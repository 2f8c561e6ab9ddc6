use Rattle.std.proofs.Common.{sym, subst}
use Rattle.one_list.specs.OneList.{list_of}
use Rattle.one_list.specs.Requests.{IsCleared, AnswersAlike}
use Rattle.one_list.proofs.Lemmas.Runs.{alike}
use Rattle.lock_manager.specs.ListAnswers.{IsAnsweredSo}
use Rattle.lock_manager.proofs.Lemmas.OneList.{answered, decided-in_world}
use Rattle.lock_manager.proofs.list_laws.an_answer_of_a_request_is_the_lists.Goals as goal

pub returns : goal.returns
returns g c =
    λ sizes state rule history stands kind seat a b uses left tag mode result same decides after gone_on.
    decided-in_world _ _ sizes state rule history stands kind seat a b uses left tag mode result same decides after gone_on
    (λ w. IsCleared w seat.number tag mode → IsAnsweredSo kind (list_of w) seat.number tag mode result)
    (λ w safe is cleared. answered kind w seat.number tag mode decides.taken decides.put result
    (subst (AnswersAlike w seat.number tag mode) (sym is) (alike w safe seat.number tag mode)) cleared decides.decided decides.refused)
