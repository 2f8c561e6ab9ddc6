use Rattle.std.proofs.Common.{◌<◌, sym, ap, ◌∙◌, arith}
use Rattle.std.proofs.lemmas.Bool.{not-true, not-false, eqb-true, eqb-false, both_ways, false_from_ne_true}
use Rattle.lock_records.specs.Tally.{counts_in}
use Rattle.lock_records.proofs.Lemmas.ModeSets.{meet-some}
use Rattle.lock_records.proofs.Lemmas.Lowest.{unmet}
use Rattle.lock_records.proofs.tally.Tally.meets.Goals as goal

pub returns-clause-some : goal.returns-clause-some
returns-clause-some c = λ met.
    let some = meet-some c.self.inside.mask c.args.modes (sym c.meets.ensures ∙ met) in
    let more = eqb-false _ _ (not-true _ (sym (c.self.invariant.modes some.0) ∙ some.1)) in
    (some.0, some.2, rw (← c.self.view_is) (let it : 0 < counts_in c.self.inside.by_mode some.0 = omega (arith, more) in it))

pub returns-clause-none : goal.returns-clause-none
returns-clause-none c = λ none mode has.
    ap (λ xs. counts_in xs mode) (sym c.self.view_is)
    ∙ eqb-true _ _ (not-false _ (sym (c.self.invariant.modes mode)
    ∙ false_from_ne_true _ (λ there. both_ways _ (unmet c.self.inside.mask c.args.modes mode (sym c.meets.ensures ∙ none) there) has)))
