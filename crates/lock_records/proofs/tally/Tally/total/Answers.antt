use Rattle.std.proofs.Common.{◌≤◌, ◌*◌, sum, ap, ◌∙◌, arith, List, ℕ}
use Rattle.lock_records.specs.Tally.{counts_in, most_tallied}
use Rattle.lock_records.specs.Counting.{total_of}
use Rattle.lock_records.proofs.Lemmas.Tallies.{sum-small, sum-modes}
use Rattle.lock_records.proofs.tally.Tally.total.Goals as goal

pub returns-clause-value : goal.returns-clause-value
returns-clause-value c =
    c.self.invariant.summed ∙ sum-modes c.self.inside.by_mode c.self.invariant.nine c.self.invariant.unused ∙ ap (λ (xs : List ℕ). total_of (counts_in xs)) c.self.view_is

pub returns-clause-few : goal.returns-clause-few
returns-clause-few c =
    let small : sum c.self.inside.by_mode ≤ 9 * most_tallied = sum-small c.self.inside.by_mode c.self.invariant.nine c.self.invariant.each in
    omega (arith, c.self.invariant.summed)
