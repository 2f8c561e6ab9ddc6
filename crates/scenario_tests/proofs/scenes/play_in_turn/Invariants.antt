use Rattle.std.proofs.Common.{◌≡◌, []}
use Rattle.scenario_tests.proofs.scenes.play_in_turn.Given as goal

abbrev pub invariant-turns : goal.invariant-turns
invariant-turns g l = record {
  none_waits : l.scene.state.sessions.waiting ≡ [];
  none_open : l.scene.state.sessions.resting ≡ [];
}
