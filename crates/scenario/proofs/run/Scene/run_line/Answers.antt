use Rattle.std.proofs.lemmas.Result.{on_ok_weaker}
use Rattle.scenario.proofs.Lemmas.Lines.{line-plays, line-silent}
use Rattle.scenario.proofs.run.Scene.run_line.Goals as goal

pub returns-in-Ok-Some-clause-played : goal.returns-in-Ok-Some-clause-played
returns-in-Ok-Some-clause-played g c =
    let means = rw c.in-Ok-Some.field-0-is at c.in-Ok-Some.ensures-1.meaning in
    on_ok_weaker c.run.result
    (λ played. line-plays g.B.Board.seat g.B.Board.view g.B.Board.stack g.D.ScriptDesk.again g.D.ScriptDesk.database_of g.D.ScriptDesk.entries g.L.Listener.hears c.args.number (record { sessions = c.args.self.now.state.sessions; names = c.args.self.now.state.names })
    (record { sessions = c.run.new.self.state.sessions; names = c.run.new.self.state.names }) c.args.self.now.listener c.begin_line.new.self c.run.new.self.listener
    c.args.line.now c.in-Ok-Some.command c.in_ok-begin_line.ensures.heard means played)
    c.run.ensures.played

pub returns-in-Ok-None-clause-played : goal.returns-in-Ok-None-clause-played
returns-in-Ok-None-clause-played g c =
    let silent = rw c.in-Ok-None.field-0-is at c.in-Ok-None.ensures-1.meaning in
    line-silent g.B.Board.seat g.B.Board.view g.B.Board.stack g.D.ScriptDesk.again g.D.ScriptDesk.database_of g.D.ScriptDesk.entries g.L.Listener.hears c.args.number (record { sessions = c.args.self.now.state.sessions; names = c.args.self.now.state.names })
    c.args.self.now.listener c.begin_line.new.self c.args.line.now c.in_ok-begin_line.ensures.heard silent
