use Rattle.std.proofs.Common.{refl}
use Rattle.scenario.proofs.Lemmas.Printing.{run-written}
use Rattle.scenario.proofs.runs.run_styled_script.Goals as goal

pub returns : goal.returns
returns g c = record {
  written = run-written _ _ _ _ _ _ g.W.Write.contents (g.R.Read.remaining c.args.reader) c.args.style.json c.args.style.echo c.args.writer
      c.into_writer.result c.styled-output.result c.run_in_turn-output.result.0 c.run_in_turn-output.result.1
      c.styled-output.ensures.writer c.into_writer.ensures c.styled-output.ensures.form c.styled-output.ensures.is_echoing c.styled-output.ensures.line (c.run_in_turn-output.ensures.heard refl refl);
}
