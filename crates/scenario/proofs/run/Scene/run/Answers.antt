use Rattle.std.proofs.lemmas.Result.{on_ok_weaker}
use Rattle.scenario.proofs.Lemmas.Playing.{plays-whole}
use Rattle.scenario.proofs.run.Scene.run.Goals as goal

pub returns-clause-played : goal.returns-clause-played
returns-clause-played g c = on_ok_weaker c.end_line.result
    (λ done. plays-whole g.B.Board.seat g.B.Board.view g.B.Board.stack g.D.ScriptDesk.again g.D.ScriptDesk.database_of g.D.ScriptDesk.entries g.L.Listener.hears (record { sessions = c.args.self.now.state.sessions; names = c.args.self.now.state.names })
    (record { sessions = c.answer-answer.new.self.sessions; names = c.answer-answer.new.self.names })
    (record { sessions = c.follow_up.new.self.state.sessions; names = c.follow_up.new.self.state.names }) (record { sessions = c.poll_all.new.self.state.sessions; names = c.poll_all.new.self.state.names }) c.args.command c.answer-answer.result
    c.args.self.now.listener c.tell_answer.new.listener c.follow_up.new.self.listener c.poll_all.new.self.listener c.end_line.new.self
    c.answer-answer.ensures.answered c.in_ok-tell_answer.ensures.heard c.in_ok-follow_up.ensures.followed c.in_ok-poll_all.ensures.settled done)
    c.end_line.ensures.heard
