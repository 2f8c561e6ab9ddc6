use Rattle.shared_rule.specs.Tells.{steps_of}
use Rattle.shared_rule.proofs.Lemmas.QuietSteps.{told-quiet}
use Rattle.shared_rule.proofs.laws.the_quiet_steps_are_those_of_the_run.Goals as goal

pub returns-clause-at_seat : goal.returns-clause-at_seat
returns-clause-at_seat g c = λ sizes state rule history stands.
    told-quiet history.number history.marks (steps_of history.number rule.events) (rule.steps.at_seat history stands)

pub returns-clause-closed : goal.returns-clause-closed
returns-clause-closed g c = λ sizes state rule history stands.
    told-quiet history.number history.marks (steps_of history.number rule.events) (rule.steps.closed history stands)
