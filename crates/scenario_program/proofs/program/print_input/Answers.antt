use Rattle.std.proofs.Common.{subst}
use Rattle.scenario_program.specs.Runs.{ArePassedOn}
use Rattle.scenario_program.proofs.Lemmas.Printing.{begins-empty, script-printed}
use Rattle.scenario_program.proofs.program.print_input.Goals as goal

pub returns : goal.returns
returns g c = record {
  printed = λ plain. script-printed _ _ _ c.args.options.turns.reuse _ _ g.W.Write.contents (g.R.Read.remaining c.args.reader) c.args.options
      (g.W.Write.contents c.args.output) _ c.run_in_turn-witness.result.0 c.run_in_turn-witness.result.1 c.pass_on.result.1 c.pass_on.result.0
      (c.summary_of.ensures plain.summary) c.styled.ensures.form c.styled.ensures.is_echoing c.styled.ensures.line
      (begins-empty g.W.Write.contents c.styled.result.writer c.in-Ok.buffered c.args.output c.styled.ensures.writer c.in-Ok.ensures.inner c.in-Ok.ensures.empty)
      c.run_in_turn-witness.ensures.heard c.run_in_turn-witness.ensures.heard_in_turn
      (subst (λ it. ArePassedOn g.W.Write.contents it c.run_in_turn-witness.result.1 c.pass_on.result.0 c.pass_on.result.1) c.into_writer.ensures c.pass_on.ensures);
}
