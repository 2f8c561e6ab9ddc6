use Rattle.scenario_program.proofs.program.run_input.Goals as goal

pub returns-clause-ran : goal.returns-clause-ran
returns-clause-ran g c = λ plain. record {
  ended = c.play_input-output.result.1;
  prints = c.play_input-output.ensures.played plain;
  is_status = c.status_after-status.ensures.of_end;
}
