use Rattle.std.proofs.Common.{◌∙◌, inl, inr, sym}
use Rattle.std.specs.Prelude.{◌≢◌}
use Rattle.modes_core.specs.declared.modes.Mode.{Mode}
use Rattle.modes_core.specs.Mode.{name_of}
use Rattle.lock_script.specs.declared.faults.Defect.TheVariants.{BadObject, BadMode}
use Rattle.lock_script.proofs.Lemmas.Defects.{of_err, no_value, of_none, some_value, caller-right, tag-right}
use Rattle.lock_script.proofs.command.parse_target.Goals as goal

pub returns-in_err-tag-clause-refused : goal.returns-in_err-tag-clause-refused
returns-in_err-tag-clause-refused g c =
    let none = no_value c.parse_object.result c.in_err-tag.field-0.0 BadObject c.in_err-tag.ensures.value in
    of_err _ c.from_residual-in_err-tag.result c.in_err-tag.field-0.0 c.from_residual-in_err-tag.ensures.1 (inr (
      caller-right c.args.sessions.now c.args.name.now c.in_ok-caller.caller c.in_ok-caller.ensures.named,
      inl (none.0, sym c.parse_object.ensures ∙ none.1),
    ))

pub returns-in_err-mode-clause-refused : goal.returns-in_err-mode-clause-refused
returns-in_err-mode-clause-refused g c =
    let none = no_value c.from_name.result c.in_err-mode.field-0.0 BadMode c.in_err-mode.ensures.value in
    let tag = some_value c.parse_object.result c.in_ok-tag.tag BadObject c.in_ok-tag.ensures.value in
    of_err _ c.from_residual-in_err-mode.result c.in_err-mode.field-0.0 c.from_residual-in_err-mode.ensures.1 (inr (
      caller-right c.args.sessions.now c.args.name.now c.in_ok-caller.caller c.in_ok-caller.ensures.named,
      inr (
        tag-right c.args.sessions.now c.args.objects.now c.args.tag.now c.in_ok-tag.tag (sym c.parse_object.ensures ∙ tag),
        inl (none.0, of_none ((mode : Mode) → name_of mode ≢ c.args.mode.now) c.from_name.result none.1 c.from_name.ensures.unknown),
      ),
    ))
