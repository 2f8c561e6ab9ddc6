use Rattle.std.proofs.Common.{◌∙◌, List, ℕ, ap, map, string_bytes, subst}
use Rattle.sql_script.specs.Steps.{line_text, steps_in}
use Rattle.sql_script.specs.declared.turns.Turn.{Turn}
use Rattle.scenario.specs.InTurn.{TakesInEach, lines_at}
use Rattle.scenario.specs.Staged.{play_of, stage_of}
use Rattle.scenario.proofs.Lemmas.InTurn.{on-ok}
use Rattle.scenario.proofs.run.Scene.play_statements.Goals as goal

pub returns : goal.returns
returns g c = record {
  played =
      let texts = c.in-Ok.ensures
      ∙ ap (λ (session : List ℕ). map (line_text session) (steps_in c.as_slice.result.now)) c.as_str-session.ensures.value
      ∙ ap (λ (turns : List Turn). map (line_text (string_bytes c.args.statements.now.session)) (steps_in turns)) c.as_slice.ensures.value in
      on-ok c.take_in_each.result
      (λ taken. (
        (stage_of c.name_tables.new.self.state.sessions c.name_tables.new.self.state.names c.name_tables.new.self.listener),
        c.in_ok-name_tables.ensures.named,
        subst
            (λ (texts : List (List ℕ)). TakesInEach (play_of g.B.Board.seat g.B.Board.view g.B.Board.stack g.D.ScriptDesk.again g.D.ScriptDesk.database_of g.D.ScriptDesk.entries g.L.Listener.hears)
            (stage_of c.name_tables.new.self.state.sessions c.name_tables.new.self.state.names c.name_tables.new.self.listener)
            c.args.kept.now (lines_at c.args.line.number texts)
            (stage_of c.take_in_each.new.self.state.sessions c.take_in_each.new.self.state.names c.take_in_each.new.self.listener)
            c.take_in_each.new.kept) texts taken,
      )) c.take_in_each.ensures.taken;
}
