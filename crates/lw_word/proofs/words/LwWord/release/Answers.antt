use Rattle.std.proofs.Common.{◌+◌, ◌-◌, ◌≡◌, arith, sym, subst, ap, ◌∙◌}
use Rattle.lw_word.specs.LockState.{state_of, amount_of, IsHeldIn}
use Rattle.lw_word.specs.Packing.{word_of-state_of}
use Rattle.lw_word.proofs.Lemmas.States.{state_of-put, IsLightweightWord-put, held-amount, number_is}
use Rattle.lw_word.proofs.words.LwWord.release.Goals as goal

pub invariant_of-result : goal.invariant_of-result
invariant_of-result c =
    let held : IsHeldIn c.args.mode (state_of c.self.inside.number) = subst (IsHeldIn c.args.mode) (sym c.self.view_is) c.requires in
    rw c.amount.ensures (IsLightweightWord-put c.args.mode c.self.inside.number held c.self.invariant)

pub returns-clause-after : goal.returns-clause-after
returns-clause-after c =
    let held : IsHeldIn c.args.mode (state_of c.self.inside.number) = subst (IsHeldIn c.args.mode) (sym c.self.view_is) c.requires in
    rw (c.amount.ensures, ← c.self.view_is) (state_of-put c.args.mode c.self.inside.number held)

pub returns-clause-number : goal.returns-clause-number
returns-clause-number c =
    let held : IsHeldIn c.args.mode (state_of c.self.inside.number) = subst (IsHeldIn c.args.mode) (sym c.self.view_is) c.requires in
    let enough = held-amount c.args.mode c.self.inside.number held in
    let whole : c.self.inside.number - amount_of c.args.mode + amount_of c.args.mode ≡ c.self.inside.number = omega (arith, enough) in
    rw c.amount.ensures
    (ap (λ n. n + amount_of c.args.mode) (word_of-state_of (c.self.inside.number - amount_of c.args.mode) (IsLightweightWord-put c.args.mode c.self.inside.number held c.self.invariant))
    ∙ whole
    ∙ sym (number_is c.self.inside.number c.args.self c.self.invariant c.self.view_is))
