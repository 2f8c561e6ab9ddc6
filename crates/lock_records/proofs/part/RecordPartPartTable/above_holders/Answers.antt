use Rattle.std.proofs.Common.{◌≡◌, ◌<◌, ◌≤◌, false, ℕ, ◌∙◌, ap, subst}
use Rattle.crossbeam_utils.specs.Padded.{padded_value}
use Rattle.modes_core.specs.declared.modes.Mode.{Mode}
use Rattle.modes_core.specs.Sessions.{most_sessions}
use Rattle.lock_records.specs.Holders.{holds_in}
use Rattle.lock_records.specs.View.{RecordView}
use Rattle.lock_records.proofs.part.RecordPartPartTable.above_holders.Goals as goal

pub returns-clause-above : goal.returns-clause-above
returns-clause-above c =
    subst (λ (part : RecordView). c.above_holders.result < most_sessions → (session : ℕ) (mode : Mode) → c.above_holders.result ≤ session → holds_in part.holders session c.args.tag.now mode ≡ false)
    (c.deref-2.ensures ∙ ap padded_value c.deref.ensures ∙ c.self.view_is) c.above_holders.ensures.above
