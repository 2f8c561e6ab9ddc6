use Rattle.std.proofs.Common.{◌≡◌, Bool, true, false, inr, rules, subst}
use Rattle.scenario.specs.Waits.{GivesUp}
use Rattle.scenario.proofs.waits.poll_wait.Goals as goal

pub returns-in_default-true-clause-goes_on : goal.returns-in_default-true-clause-goes_on
returns-in_default-true-clause-goes_on g c =
    let was : c.cancel.result.1 ≡ true = search rules in
    inr (record {
      asked = c.in-CancelAsked.waiting;
      polled = c.in-CancelAsked.ensures.polled;
      still = c.in-CancelAsked.ensures.waiting;
      gave_up = subst (λ (granted : Bool). GivesUp g.B.Board.seat g.B.Board.view g.B.Board.stack c.in-CancelAsked.waiting granted c.cancel.result.0) was c.cancel.ensures;
    })

pub returns-in_default-false-clause-goes_on : goal.returns-in_default-false-clause-goes_on
returns-in_default-false-clause-goes_on g c =
    let was : c.cancel.result.1 ≡ false = search rules in
    record {
      asked = c.in-CancelAsked.waiting;
      polled = c.in-CancelAsked.ensures.polled;
      still = c.in-CancelAsked.ensures.waiting;
      gave_up = subst (λ (granted : Bool). GivesUp g.B.Board.seat g.B.Board.view g.B.Board.stack c.in-CancelAsked.waiting granted c.cancel.result.0) was c.cancel.ensures;
    }
