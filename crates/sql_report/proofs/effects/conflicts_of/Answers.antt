use Rattle.std.proofs.Common.{◌≡◌, ◌||◌, ◌&&◌, Bool, false, ap}
use Rattle.modes_core.specs.declared.modes.Mode.{Mode}
use Rattle.modes_core.specs.declared.modes.Mode.TheVariants.{AccessShare, RowShare, RowExclusive, ShareUpdateExclusive, Share, ShareRowExclusive, Exclusive, AccessExclusive}
use Rattle.modes_core.specs.ModeSet.{set_has}
use Rattle.sql_report.specs.Clash.{clashes}
use Rattle.sql_report.proofs.Lemmas.BoolSteps.{or_false}
use Rattle.sql_report.proofs.effects.conflicts_of.Goals as goal

pub returns : goal.returns
returns c = λ other.
    let none : (m : Mode) → set_has c.empty.result m ≡ false = λ m. ap (λ (f : Mode → Bool). f m) c.empty.ensures in
    elim other as (λ m. set_has c.with_clashing.result m ≡ clashes c.args.modes m) [
      | AccessShare ↦ cc (c.with_clashing-all.ensures AccessShare, c.with_clashing-all-2.ensures AccessShare, c.with_clashing-all-3.ensures AccessShare, c.with_clashing-all-4.ensures AccessShare, c.with_clashing-all-5.ensures AccessShare, c.with_clashing-all-6.ensures AccessShare, c.with_clashing-all-7.ensures AccessShare, c.with_clashing.ensures AccessShare, none AccessShare, or_false (clashes c.args.modes AccessShare))
      | RowShare ↦ cc (c.with_clashing-all.ensures RowShare, c.with_clashing-all-2.ensures RowShare, c.with_clashing-all-3.ensures RowShare, c.with_clashing-all-4.ensures RowShare, c.with_clashing-all-5.ensures RowShare, c.with_clashing-all-6.ensures RowShare, c.with_clashing-all-7.ensures RowShare, c.with_clashing.ensures RowShare, none RowShare, or_false (clashes c.args.modes RowShare))
      | RowExclusive ↦ cc (c.with_clashing-all.ensures RowExclusive, c.with_clashing-all-2.ensures RowExclusive, c.with_clashing-all-3.ensures RowExclusive, c.with_clashing-all-4.ensures RowExclusive, c.with_clashing-all-5.ensures RowExclusive, c.with_clashing-all-6.ensures RowExclusive, c.with_clashing-all-7.ensures RowExclusive, c.with_clashing.ensures RowExclusive, none RowExclusive, or_false (clashes c.args.modes RowExclusive))
      | ShareUpdateExclusive ↦ cc (c.with_clashing-all.ensures ShareUpdateExclusive, c.with_clashing-all-2.ensures ShareUpdateExclusive, c.with_clashing-all-3.ensures ShareUpdateExclusive, c.with_clashing-all-4.ensures ShareUpdateExclusive, c.with_clashing-all-5.ensures ShareUpdateExclusive, c.with_clashing-all-6.ensures ShareUpdateExclusive, c.with_clashing-all-7.ensures ShareUpdateExclusive, c.with_clashing.ensures ShareUpdateExclusive, none ShareUpdateExclusive, or_false (clashes c.args.modes ShareUpdateExclusive))
      | Share ↦ cc (c.with_clashing-all.ensures Share, c.with_clashing-all-2.ensures Share, c.with_clashing-all-3.ensures Share, c.with_clashing-all-4.ensures Share, c.with_clashing-all-5.ensures Share, c.with_clashing-all-6.ensures Share, c.with_clashing-all-7.ensures Share, c.with_clashing.ensures Share, none Share, or_false (clashes c.args.modes Share))
      | ShareRowExclusive ↦ cc (c.with_clashing-all.ensures ShareRowExclusive, c.with_clashing-all-2.ensures ShareRowExclusive, c.with_clashing-all-3.ensures ShareRowExclusive, c.with_clashing-all-4.ensures ShareRowExclusive, c.with_clashing-all-5.ensures ShareRowExclusive, c.with_clashing-all-6.ensures ShareRowExclusive, c.with_clashing-all-7.ensures ShareRowExclusive, c.with_clashing.ensures ShareRowExclusive, none ShareRowExclusive, or_false (clashes c.args.modes ShareRowExclusive))
      | Exclusive ↦ cc (c.with_clashing-all.ensures Exclusive, c.with_clashing-all-2.ensures Exclusive, c.with_clashing-all-3.ensures Exclusive, c.with_clashing-all-4.ensures Exclusive, c.with_clashing-all-5.ensures Exclusive, c.with_clashing-all-6.ensures Exclusive, c.with_clashing-all-7.ensures Exclusive, c.with_clashing.ensures Exclusive, none Exclusive, or_false (clashes c.args.modes Exclusive))
      | AccessExclusive ↦ cc (c.with_clashing-all.ensures AccessExclusive, c.with_clashing-all-2.ensures AccessExclusive, c.with_clashing-all-3.ensures AccessExclusive, c.with_clashing-all-4.ensures AccessExclusive, c.with_clashing-all-5.ensures AccessExclusive, c.with_clashing-all-6.ensures AccessExclusive, c.with_clashing-all-7.ensures AccessExclusive, c.with_clashing.ensures AccessExclusive, none AccessExclusive, or_false (clashes c.args.modes AccessExclusive))
    ]
