use Rattle.std.proofs.lemmas.Result.{on_ok_weaker}
use Rattle.scenario.proofs.Lemmas.Hearing.{hears-end}
use Rattle.scenario.proofs.run.Scene.tell_end.Goals as goal

pub returns-clause-heard : goal.returns-clause-heard
returns-clause-heard g c =
    on_ok_weaker c.ended.result
    (λ ended. hears-end g.L.Listener.hears c.args.self.now.listener c.draw_last.new.self.listener c.ended.new.self c.in_ok-draw_last.ensures.drawn ended)
    c.ended.ensures.heard
