use Rattle.std.proofs.Common.{◌∙◌, ℕ, List, ◌++◌, ap, subst}
use Rattle.std.specs.Prelude.{codes}
use Rattle.modes_core.specs.TagText.{tag_text}
use Rattle.scenario.specs.Heard.{Hears}
use Rattle.scenario.specs.Scripts.{PlaysLine}
use Rattle.scenario.proofs.Lemmas.InTurn.{on-ok}
use Rattle.scenario.proofs.run.Scene.run_naming.Goals as goal

pub returns-in-Ok : goal.returns-in-Ok
returns-in-Ok g c = record {
  ran =
      let says = c.as_str.ensures.value ∙ c.in-Ok.ensures.ok
      ∙ ap (λ (name : List ℕ). codes "name " ++ (name ++ (codes " " ++ tag_text c.args.table.now.tag))) c.as_str-name.ensures.value in
      on-ok c.run_line.result
      (λ played. subst
      (λ (text : List ℕ). Hears g.L.Listener.hears c.args.self.now.listener c.run_line.new.self.listener (λ heard.
      PlaysLine g.B.Board.seat g.B.Board.view g.B.Board.stack g.D.ScriptDesk.again g.D.ScriptDesk.database_of g.D.ScriptDesk.entries c.args.line.number
      (record { sessions = c.args.self.now.state.sessions; names = c.args.self.now.state.names }) text heard
      (record { sessions = c.run_line.new.self.state.sessions; names = c.run_line.new.self.state.names }))) says played) c.run_line.ensures.played;
}
