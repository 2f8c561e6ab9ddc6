use Rattle.std.proofs.Common.{inl, inr}
use Rattle.std.proofs.lemmas.Result.{on_ok_weaker}
use Rattle.scenario.proofs.run.Scene.follow_up.Goals as goal

pub returns-in-Some-clause-followed : goal.returns-in-Some-clause-followed
returns-in-Some-clause-followed g c =
    on_ok_weaker c.tell_wait.result (λ it. (it.0, inr (c.in-Some.name, c.in-Some.ensures, it.1), it.2)) c.tell_wait.ensures.told

pub returns-in-Some-Listing-clause-followed : goal.returns-in-Some-Listing-clause-followed
returns-in-Some-Listing-clause-followed g c = on_ok_weaker c.draw.result (λ it. (it.0, inl it.1, it.2)) c.draw.ensures.drawn
