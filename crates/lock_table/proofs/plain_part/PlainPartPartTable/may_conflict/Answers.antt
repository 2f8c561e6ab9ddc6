use Rattle.std.proofs.Common.{ℕ, ◌∙◌, ap, subst}
use Rattle.crossbeam_utils.specs.Padded.{padded_value}
use Rattle.lock_table.specs.PartView.{PartView, holds_in}
use Rattle.lock_table.specs.Clash.{NoConflictingHolder}
use Rattle.lock_table.proofs.plain_part.PlainPartPartTable.may_conflict.Goals as goal

pub returns-clause-held : goal.returns-clause-held
returns-clause-held c = λ none.
    subst (λ (part : PartView). (session : ℕ) → NoConflictingHolder (holds_in part.holds) session c.args.tag.now c.args.mode)
    (c.deref-2.ensures ∙ ap padded_value c.deref.ensures ∙ c.self.view_is) (c.may_conflict.ensures.held none)
