use Rattle.std.proofs.Common.{rules, ◌≤◌}
use Rattle.scenario.proofs.Lemmas.InTime.{in_time-later}
use Rattle.scenario.proofs.summary.Summary.read_line.Goals as goal

pub invariant_of-self-clause-in_time : goal.invariant_of-self-clause-in_time
invariant_of-self-clause-in_time c =
    let later : c.args.self.now.read ≤ c.max-self.result = search rules in
    in_time-later c.args.self.now.read c.max-self.result later c.args.self.now.waits.items c.args.self.now.in_time
