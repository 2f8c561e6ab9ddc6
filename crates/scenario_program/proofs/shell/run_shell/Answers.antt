use Rattle.scenario_program.proofs.Lemmas.Typing.{shell-written}
use Rattle.scenario_program.proofs.shell.run_shell.Goals as goal

pub returns : goal.returns
returns g c = record {
  written = shell-written g.W.Write.contents _ c.args.writer c.into_writer.result c.new-output.result c.drive-output.result.0 c.drive-output.result.1
      c.new-output.ensures.writer c.into_writer.ensures c.new-output.ensures.form c.new-output.ensures.is_echoing c.new-output.ensures.line
      c.drive-output.ensures.acted;
}
