use Rattle.std.proofs.Common.{◌≡◌, ◌++◌, ◌∙◌, List, [], arith, ap, sym, subst, take, drop, length}
use Rattle.std.proofs.Math.Seq.{take-append_seam}
use Rattle.std.proofs.lemmas.List.Sorted.{length_permutation}
use Rattle.lock_table.specs.declared.rows.TableRow.{TableRow}
use Rattle.lock_table.specs.Listing.{IsListing}
use Rattle.lock_table.specs.WholeContent.{whole_of, content_at}
use Rattle.lock_table.proofs.Lemmas.PartitionRows.{RowsMore, IsListing-all, rows-ok}
use Rattle.lock_manager.proofs.listing.list_table.Goals as goal

pub returns-clause-listed : goal.returns-clause-listed
returns-clause-listed g c =
    let listed = c.list_from.ensures.listed in
    let sorted = c.sort_rows.new.rows in
    let rest = drop (length sorted) c.list_from.new.rows.items in
    let moved = rw c.deref_mut.ensures.value at c.sort_rows.ensures.same_rows in
    let same_length : c.list_from.new.rows.len ≡ length sorted =
    sym c.deref_mut.ensures.len ∙ sym (length_permutation c.deref_mut.result.now sorted c.sort_rows.ensures.same_rows) in
    let whole : take c.list_from.new.rows.len (sorted ++ rest) ≡ sorted = rw same_length (take-append_seam sorted rest) in
    let all : RowsMore listed.contents [] c.list_from.new.rows.items =
    subst (λ (none : List TableRow). RowsMore listed.contents none c.list_from.new.rows.items) c.requires.empty
    (rows-ok c.list_from.result (RowsMore listed.contents c.args.rows.now.items c.list_from.new.rows.items) (sym c.if-is_err.ensures.value) listed.rows) in
    record {
      contents = listed.contents;
      sixteen = omega (arith, listed.last);
      of_caller = listed.of_caller;
      trace = ap (λ a. a.trace) listed.account;
      table =
          subst (λ (rows : List TableRow). IsListing (whole_of (content_at listed.contents)) rows) (sym whole)
          (IsListing-all listed.contents c.list_from.new.rows.items sorted (omega (arith, listed.last)) listed.of_partitions all c.sort_rows.ensures.in_order moved);
    }
