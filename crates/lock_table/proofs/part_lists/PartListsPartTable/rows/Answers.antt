use Rattle.std.proofs.Common.{◌≡◌, ◌-◌, ◌++◌, ap, subst, ◌∙◌, take, length, List, arith, rules, refl, append_assoc}
use Rattle.std.specs.Prelude.{map, IsPermutation}
use Rattle.std.proofs.lemmas.Grind.{common_steps}
use Rattle.std.proofs.lemmas.List.Sorted.{length_permutation}
use Rattle.lock_table.specs.declared.part_waits.PartWait.{PartWait}
use Rattle.lock_table.specs.declared.rows.TableRow.{TableRow}
use Rattle.lock_table.specs.PartView.{PartView, row_of}
use Rattle.lock_table.specs.PartWaits.{EachOnce, awaited_row_of}
use Rattle.lock_table.proofs.Lemmas.Listing.{IsListing-lists, sorted_behind, behind_old}
use Rattle.lock_table.proofs.part_lists.PartListsPartTable.rows.Goals as goal

pub returns-clause-ok : goal.returns-clause-ok
returns-clause-ok c =
    let added = map row_of c.args.self.now.holds ++ map awaited_row_of c.args.self.now.waits in
    let waits : take c.loop-wait.wait-index c.deref-wait-items.result.now ≡ c.args.self.now.waits = grind (arith, common_steps) in
    let all : c.deref_mut.result.now ≡ c.args.rows.now.items ++ added =
    c.deref_mut.ensures.value ∙ c.loop-wait.invariant.appended
    ∙ ap (λ (xs : List PartWait). (c.args.rows.now.items ++ map row_of c.args.self.now.holds) ++ map awaited_row_of xs) waits
    ∙ append_assoc c.args.rows.now.items (map row_of c.args.self.now.holds) (map awaited_row_of c.args.self.now.waits) in
    let before : c.len-before.result ≡ length c.args.rows.now.items = search rules in
    let total : c.loop-wait.rows.len ≡ length c.deref_mut.result.now = search rules in
    let moved : IsPermutation added c.sort_rows.new.rows =
    subst (λ (xs : List TableRow). IsPermutation xs c.sort_rows.new.rows)
    (behind_old c.args.rows.now.items added c.deref_mut.result.now c.len-before.result (length c.deref_mut.result.now - c.len-before.result) before all refl)
    c.sort_rows.ensures.same_rows in
    record {
      added = c.sort_rows.new.rows;
      behind =
          sorted_behind c.args.rows.now.items added c.sort_rows.new.rows c.deref_mut.result.now _ _ _ _ before all total
          (length_permutation added c.sort_rows.new.rows moved);
      listed =
          IsListing-lists c.args.self.now.holds c.args.self.now.waits c.sort_rows.new.rows
          (subst (λ (part : PartView). EachOnce part.holds part.waits) c.self.view_is c.self.invariant.each_once) c.sort_rows.ensures.in_order moved;
    }
