use Rattle.std.proofs.Common.{arith, ◌≡◌, ◌++◌, ap, ◌∙◌, subst}
use Rattle.std.specs.List.{flat_map}
use Rattle.std.specs.List.Sorted.{IsPermutation}
use Rattle.std.specs.Prelude.{List}
use Rattle.lock_model.specs.declared.machine.plain.Hold.{Hold}
use Rattle.lock_model.specs.PlainLists.{table_holds_of}
use Rattle.lock_model.specs.SlotRows.{fast_path_rows}
use Rattle.lock_model.proofs.Lemmas.HoldOrder.{IsSorted-hold}
use Rattle.lock_model.proofs.Lemmas.PlainLists.{gathered-more, gathered-all, EachOnce-more}
use Rattle.lock_model.proofs.machine.plain_lists.gather_holds.Goals as goal

pub loop-part-preserved : goal.loop-part-preserved
loop-part-preserved c =
    record {
      so_far =
          gathered-more table_holds_of c.args.parts.now c.loop-part.part-index c.part-item.result c.loop-part.holds.items c.append_holds.new.list.items
          c.loop-part-test.true c.part-item.is c.loop-part.invariant.so_far c.in_ok-append_holds.ensures.added;
      each_once =
          EachOnce-more c.args.parts.now c.loop-part.part-index c.part-item.result c.loop-part-test.true c.part-item.is c.loop-part.invariant.each_once
          c.append_holds.ensures.each_once;
    }

pub returns-clause-all : goal.returns-clause-all
returns-clause-all c =
    let rows = fast_path_rows c.args.fast_path.now.databases c.args.fast_path.now.slots in
    let parts = gathered-all table_holds_of c.args.parts.now c.loop-part.part-index c.loop-part.holds.items c.loop-part-test.false c.loop-part.invariant.so_far in
    let gathered : c.append_slot_holds.new.list.items ≡ flat_map table_holds_of c.args.parts.now ++ rows = c.in_ok-append_slot_holds.ensures ∙ ap (λ list. list ++ rows) parts in
    subst (λ (list : List Hold). IsPermutation list c.sort_unstable.new.self.items) gathered c.sort_unstable.ensures.permutation

pub returns-clause-each_once : goal.returns-clause-each_once
returns-clause-each_once c = λ p below. c.loop-part.invariant.each_once p (omega (arith, below, c.loop-part-test.false))

pub returns-clause-in_order : goal.returns-clause-in_order
returns-clause-in_order c = IsSorted-hold c.sort_unstable.new.self.items c.sort_unstable.ensures.sorted
