use Rattle.std.proofs.Common.{ap}
use Rattle.scenario.specs.Staged.{stage_of}
use Rattle.scenario.proofs.Lemmas.InTurn.{on-ok}
use Rattle.scenario.proofs.run.Scene.run_heard.Goals as goal

pub returns-in_ok-show_line-in-Statements-clause-done : goal.returns-in_ok-show_line-in-Statements-clause-done
returns-in_ok-show_line-in-Statements-clause-done g c =
    rw c.in-Statements.is (on-ok c.play_statements.result
    (λ played. (
      stage_of c.show_line-in-Statements.new.self.state.sessions c.show_line-in-Statements.new.self.state.names c.show_line-in-Statements.new.self.listener,
      (
        c.in_ok-show_line-in-Statements.ensures.shown,
        ap (λ state. record { sessions = state.sessions; names = state.names }) c.show_line-in-Statements.ensures.state,
      ),
      played,
    )) c.play_statements.ensures.played)
