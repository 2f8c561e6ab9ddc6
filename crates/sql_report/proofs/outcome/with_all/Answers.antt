use Rattle.std.proofs.Common.{◌≡◌, ◌||◌, ◌&&◌, Bool}
use Rattle.modes_core.specs.declared.modes.Mode.{Mode}
use Rattle.modes_core.specs.declared.modes.Mode.TheVariants.{AccessShare, RowShare, RowExclusive, ShareUpdateExclusive, Share, ShareRowExclusive, Exclusive, AccessExclusive}
use Rattle.modes_core.specs.ModeSet.{set_has}
use Rattle.sql_report.proofs.outcome.with_all.Goals as goal

pub returns : goal.returns
returns c = λ mode.
    elim mode as (λ m. set_has c.with_shared.result m ≡ (set_has c.args.others m || set_has c.args.modes m)) [
      | AccessShare ↦ cc (c.with_shared-all.ensures AccessShare, c.with_shared-all-2.ensures AccessShare, c.with_shared-all-3.ensures AccessShare, c.with_shared-all-4.ensures AccessShare, c.with_shared-all-5.ensures AccessShare, c.with_shared-all-6.ensures AccessShare, c.with_shared-all-7.ensures AccessShare, c.with_shared.ensures AccessShare)
      | RowShare ↦ cc (c.with_shared-all.ensures RowShare, c.with_shared-all-2.ensures RowShare, c.with_shared-all-3.ensures RowShare, c.with_shared-all-4.ensures RowShare, c.with_shared-all-5.ensures RowShare, c.with_shared-all-6.ensures RowShare, c.with_shared-all-7.ensures RowShare, c.with_shared.ensures RowShare)
      | RowExclusive ↦ cc (c.with_shared-all.ensures RowExclusive, c.with_shared-all-2.ensures RowExclusive, c.with_shared-all-3.ensures RowExclusive, c.with_shared-all-4.ensures RowExclusive, c.with_shared-all-5.ensures RowExclusive, c.with_shared-all-6.ensures RowExclusive, c.with_shared-all-7.ensures RowExclusive, c.with_shared.ensures RowExclusive)
      | ShareUpdateExclusive ↦ cc (c.with_shared-all.ensures ShareUpdateExclusive, c.with_shared-all-2.ensures ShareUpdateExclusive, c.with_shared-all-3.ensures ShareUpdateExclusive, c.with_shared-all-4.ensures ShareUpdateExclusive, c.with_shared-all-5.ensures ShareUpdateExclusive, c.with_shared-all-6.ensures ShareUpdateExclusive, c.with_shared-all-7.ensures ShareUpdateExclusive, c.with_shared.ensures ShareUpdateExclusive)
      | Share ↦ cc (c.with_shared-all.ensures Share, c.with_shared-all-2.ensures Share, c.with_shared-all-3.ensures Share, c.with_shared-all-4.ensures Share, c.with_shared-all-5.ensures Share, c.with_shared-all-6.ensures Share, c.with_shared-all-7.ensures Share, c.with_shared.ensures Share)
      | ShareRowExclusive ↦ cc (c.with_shared-all.ensures ShareRowExclusive, c.with_shared-all-2.ensures ShareRowExclusive, c.with_shared-all-3.ensures ShareRowExclusive, c.with_shared-all-4.ensures ShareRowExclusive, c.with_shared-all-5.ensures ShareRowExclusive, c.with_shared-all-6.ensures ShareRowExclusive, c.with_shared-all-7.ensures ShareRowExclusive, c.with_shared.ensures ShareRowExclusive)
      | Exclusive ↦ cc (c.with_shared-all.ensures Exclusive, c.with_shared-all-2.ensures Exclusive, c.with_shared-all-3.ensures Exclusive, c.with_shared-all-4.ensures Exclusive, c.with_shared-all-5.ensures Exclusive, c.with_shared-all-6.ensures Exclusive, c.with_shared-all-7.ensures Exclusive, c.with_shared.ensures Exclusive)
      | AccessExclusive ↦ cc (c.with_shared-all.ensures AccessExclusive, c.with_shared-all-2.ensures AccessExclusive, c.with_shared-all-3.ensures AccessExclusive, c.with_shared-all-4.ensures AccessExclusive, c.with_shared-all-5.ensures AccessExclusive, c.with_shared-all-6.ensures AccessExclusive, c.with_shared-all-7.ensures AccessExclusive, c.with_shared.ensures AccessExclusive)
    ]
