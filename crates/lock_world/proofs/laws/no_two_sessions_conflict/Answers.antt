use Rattle.lock_world.proofs.Lemmas.Headline.{headline}
use Rattle.lock_world.proofs.laws.no_two_sessions_conflict.Goals as goal

pub returns-clause-no_two_conflict : goal.returns-clause-no_two_conflict
returns-clause-no_two_conflict c =
    λ w safe. (headline w safe).no_two_conflict

pub returns-clause-whole : goal.returns-clause-whole
returns-clause-whole c =
    λ w safe. headline w safe
