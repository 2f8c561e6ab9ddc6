use Rattle.std.proofs.Common.{[], ◌∷◌, inr, refl}
use Rattle.std.proofs.lemmas.Result.{on_ok_weaker}
use Rattle.scenario.specs.Heard.{Behind}
use Rattle.scenario.proofs.run.Scene.tell_wait.Goals as goal

pub returns-in-Ok-clause-told : goal.returns-in-Ok-clause-told
returns-in-Ok-clause-told g c = on_ok_weaker c.blocked-in-Ok.result
    (λ heard. (
      Behind c.blocked.new.self.names c.in-Ok.blocked ∷ [],
      inr (c.in-Some.place, c.in-Ok.blocked, c.in-Some.ensures.called, c.in-Ok.ensures.told, c.blocked.ensures.names, refl),
      (c.blocked-in-Ok.new.self, heard, refl),
    ))
    c.blocked-in-Ok.ensures.heard
