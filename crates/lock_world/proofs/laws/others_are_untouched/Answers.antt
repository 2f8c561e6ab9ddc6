use Rattle.lock_world.proofs.Lemmas.Others.Events.{event-others}
use Rattle.lock_world.proofs.Lemmas.Others.WaitWords.{left_or_marked}
use Rattle.lock_world.proofs.laws.others_are_untouched.Goals as goal

pub returns-clause-account : goal.returns-clause-account
returns-clause-account c =
    λ w v event other safe h apart. event-others w v event other safe h apart

pub returns-clause-wait_word : goal.returns-clause-wait_word
returns-clause-wait_word c =
    λ w v event other h apart. left_or_marked w v event other h apart
