use Rattle.std.proofs.Common.{refl}
use Rattle.scenario_program.proofs.Lemmas.Printing.{begins-empty}
use Rattle.scenario_program.proofs.Lemmas.Typing.{typed-printed}
use Rattle.scenario_program.proofs.program.run_typed.Goals as goal

pub returns : goal.returns
returns g c = record {
  typed = typed-printed _ _ _ c.args.reuse _ _ g.W.Write.contents c.args.input.is_terminal (g.R.Read.remaining c.args.input.reader)
      (g.W.Write.contents c.args.output) c.pass_on.result.0 c.in-Ok.buffered c.run_shell-buffered.result.0 c.run_shell-buffered.result.1 c.pass_on.result.1
      (begins-empty g.W.Write.contents c.in-Ok.buffered c.in-Ok.buffered c.args.output refl c.in-Ok.ensures.inner c.in-Ok.ensures.empty)
      c.run_shell-buffered.ensures.written c.pass_on.ensures;
}
