use Rattle.std.proofs.Common.{◌<◌, ap, sym, ◌∙◌, arith}
use Rattle.std.proofs.lemmas.Bool.{not-true, not-false, eqb-true, eqb-false}
use Rattle.lock_records.specs.Tally.{counts_in}
use Rattle.lock_records.proofs.tally.Tally.is_empty.Goals as goal

pub returns-clause-nothing : goal.returns-clause-nothing
returns-clause-nothing c = λ empty mode.
    ap (λ xs. counts_in xs mode) (sym c.self.view_is)
    ∙ eqb-true _ _ (not-false _ (sym (c.self.invariant.modes mode) ∙ c.has_some.ensures.none (not-true _ empty) mode))

pub returns-clause-something : goal.returns-clause-something
returns-clause-something c = λ full.
    let some = c.has_some.ensures.some (not-false _ full) in
    let more = eqb-false _ _ (not-true _ (sym (c.self.invariant.modes some.0) ∙ some.1)) in
    (some.0, rw (← c.self.view_is) (let it : 0 < counts_in c.self.inside.by_mode some.0 = omega (arith, more) in it))
