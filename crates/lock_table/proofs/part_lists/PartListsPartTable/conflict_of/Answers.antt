use Rattle.std.proofs.Common.{◌≡◌, ◌∙◌, sym, ap, subst, take, List, arith}
use Rattle.std.proofs.lemmas.Grind.{common_steps}
use Rattle.lock_table.specs.declared.request.Request.{Request}
use Rattle.lock_table.specs.Request.{is_in_the_way_of}
use Rattle.lock_table.specs.PartView.{holds_in}
use Rattle.lock_table.specs.Clash.{HolderInTheWay}
use Rattle.lock_table.proofs.Lemmas.HoldLists.{take_one_more}
use Rattle.lock_table.proofs.Lemmas.Holders.{HolderInTheWay-skip, HolderInTheWay-take}
use Rattle.lock_table.proofs.part_lists.PartListsPartTable.conflict_of.Goals as goal
use Rattle.lock_table.proofs.part_lists.PartListsPartTable.conflict_of.Goals.{then-is_in_the_way, else-is_in_the_way}

pub loop-hold-preserved : goal.loop-hold-preserved
loop-hold-preserved c =
    let hold = c.hold-item.result in
    let xs = take c.loop-hold.hold-index c.deref-hold-items.result.now in
    let more = take_one_more c.deref-hold-items.result.now c.loop-hold.hold-index hold c.loop-hold-test.true c.hold-item.is in
    let tested = ap (is_in_the_way_of hold c.args.session c.args.tag.now) (sym c.conflicts-conflicting.ensures) ∙ sym c.is_in_the_way.ensures in
    elim c.if-is_in_the_way.branch [
      | then-is_in_the_way w ↦
          rw (more, w.lowest-is, w.lower_holder.ensures)
          (HolderInTheWay-take xs hold c.args.session c.args.tag.now c.args.mode c.loop-hold.lowest (tested ∙ w.if-is_in_the_way.true) c.loop-hold.invariant)
      | else-is_in_the_way w ↦
          rw (more, w.lowest-is)
          (HolderInTheWay-skip xs hold c.args.session c.args.tag.now c.args.mode c.loop-hold.lowest (tested ∙ w.if-is_in_the_way.false) c.loop-hold.invariant)
    ]

pub returns : goal.returns
returns c =
    let all : take c.loop-hold.hold-index c.deref-hold-items.result.now ≡ c.args.self.now.holds = grind (arith, common_steps) in
    subst (λ (xs : List Request). HolderInTheWay (holds_in xs) c.args.session c.args.tag.now c.args.mode c.loop-hold.lowest) all c.loop-hold.invariant
