use Rattle.std.proofs.Common.{◌∙◌, sym, take}
use Rattle.lock_table.proofs.Lemmas.HoldLists.{take_one_more, held-take, held-skip}
use Rattle.lock_table.proofs.part_lists.PartListsPartTable.held.Goals as goal
use Rattle.lock_table.proofs.part_lists.PartListsPartTable.held.Goals.{then-is_on, else-is_on}

pub loop-hold-preserved : goal.loop-hold-preserved
loop-hold-preserved c =
    let hold = c.hold-item.result in
    let xs = take c.loop-hold.hold-index c.deref-hold-items.result.now in
    let more = take_one_more c.deref-hold-items.result.now c.loop-hold.hold-index hold c.loop-hold-test.true c.hold-item.is in
    elim c.if-is_on.branch [
      | then-is_on w ↦
          rw (more, w.modes-is) (
          w.with-modes.ensures ∙
          held-take xs hold c.args.session c.args.tag.now _ c.loop-hold.invariant (sym c.is_on.ensures ∙ w.if-is_on.true)
          )
      | else-is_on w ↦
          rw (more, w.modes-is) (c.loop-hold.invariant ∙ held-skip xs hold c.args.session c.args.tag.now (sym c.is_on.ensures ∙ w.if-is_on.false))
    ]
