use Rattle.lock_world.proofs.Lemmas.Headline.{clash-in_the_way}
use Rattle.lock_manager.proofs.Lemmas.Requests.Refused.{clash-another}
use Rattle.lock_manager.proofs.laws.a_conflict_names_another_session_in_the_way.Goals as goal

pub returns-clause-another : goal.returns-clause-another
returns-clause-another c =
    λ seat a b uses left tag mode its other how decides.
    clash-another decides.taken seat.number tag mode (record { session = other; mode = its; how = how }) decides.no_own_wait
    decides.refused

pub returns-clause-in_the_way : goal.returns-clause-in_the_way
returns-clause-in_the_way c =
    λ seat a b uses left tag mode its other how decides.
    clash-in_the_way decides.taken seat.number tag mode (record { session = other; mode = its; how = how }) decides.refused
