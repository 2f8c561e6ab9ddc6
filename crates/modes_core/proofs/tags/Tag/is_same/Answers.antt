use Rattle.std.proofs.Common.{sym, ap, ◌∙◌}
use Rattle.std.proofs.lemmas.Bool.{false_from_ne_true}
use Rattle.modes_core.specs.Tag.{own_number_of, tag_eq}
use Rattle.modes_core.proofs.Lemmas.Conflicts.{tag_eq-same}
use Rattle.modes_core.proofs.Lemmas.Equality.{tag_equals}
use Rattle.modes_core.proofs.tags.Tag.is_same.Goals as goal

-- Tags with other numbers of their own are not the same.
pub returns-then-own_number : goal.returns-then-own_number
returns-then-own_number c =
    sym (false_from_ne_true (tag_eq c.args.self c.args.other) (λ same.
    c.if-own_number.true (c.own_number.ensures ∙ ap own_number_of (tag_eq-same c.args.self c.args.other same) ∙ sym c.own_number-2.ensures)))

pub returns : goal.returns
returns c = c.eq.ensures ∙ tag_equals c.args.self c.args.other
