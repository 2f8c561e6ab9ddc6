use Rattle.std.proofs.Common.{arith, ◌∙◌, sym}
use Rattle.lock_script.specs.declared.faults.Defect.TheVariants.{BadOwner}
use Rattle.lock_script.proofs.Lemmas.Defects.{of_err, no_value, some_value, owned-named, owned-named_owner, owner_wrong}
use Rattle.lock_script.proofs.command.parse_owned_target.Goals as goal

pub returns-in_err-owner-in-len4-clause-refused : goal.returns-in_err-owner-in-len4-clause-refused
returns-in_err-owner-in-len4-clause-refused g c =
    let none = no_value c.parse_owner.result c.in_err-owner-in-len4.field-0.0 BadOwner c.in_err-owner-in-len4.ensures.value in
    let its = c.in_ok-target-in-len4.ensures in
    of_err _ c.from_residual-in_err-owner-in-len4.result c.in_err-owner-in-len4.field-0.0 c.from_residual-in_err-owner-in-len4.ensures.1
    (owner_wrong c.args.sessions.now c.args.objects.now c.args.words.now _ _ _ _ c.in_ok-target-in-len4.target c.in_err-owner-in-len4.field-0.0 (omega arith)
    (its.named, its.tag, its.mode) (none.0, sym c.parse_owner.ensures ∙ none.1))

pub returns-in_ok-target-in-len3-clause-named : goal.returns-in_ok-target-in-len3-clause-named
returns-in_ok-target-in-len3-clause-named g c =
    let its = c.in_ok-target-in-len3.ensures in
    owned-named c.args.sessions.now c.args.objects.now c.args.words.now _ _ _ c.in_ok-target-in-len3.target (omega arith) (its.named, its.tag, its.mode)

pub returns-in_ok-owner-in-len4-clause-named : goal.returns-in_ok-owner-in-len4-clause-named
returns-in_ok-owner-in-len4-clause-named g c =
    let owner = some_value c.parse_owner.result c.in_ok-owner-in-len4.owner BadOwner c.in_ok-owner-in-len4.ensures.value in
    let its = c.in_ok-target-in-len4.ensures in
    owned-named_owner c.args.sessions.now c.args.objects.now c.args.words.now _ _ _ _ c.in_ok-target-in-len4.target c.in_ok-owner-in-len4.owner (omega arith)
    (its.named, its.tag, its.mode) (sym c.parse_owner.ensures ∙ owner)
