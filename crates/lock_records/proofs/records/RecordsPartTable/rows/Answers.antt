use Rattle.std.proofs.Common.{◌≡◌, ◌-◌, ◌++◌, subst, ◌∙◌, length, List, rules, refl}
use Rattle.std.specs.Prelude.{IsPermutation, if◌then◌else◌}
use Rattle.std.proofs.lemmas.List.Sorted.{length_permutation, sum_by-IsPermutation}
use Rattle.lock_table.specs.declared.rows.TableRow.{TableRow}
use Rattle.lock_table.specs.Listing.{row_eq}
use Rattle.lock_table.proofs.Lemmas.Listing.{sorted_behind, behind_old}
use Rattle.lock_records.proofs.records.RecordsPartTable.rows.Goals as goal

pub returns-in-Ok-clause-ok : goal.returns-in-Ok-clause-ok
returns-in-Ok-clause-ok c =
    let appends = (c.in-Ok.ensures {u = tt}).ok in
    let added = appends.added in
    let all : c.deref_mut.result.now ≡ c.args.rows.now.items ++ added = c.deref_mut.ensures.value ∙ appends.behind in
    let before : c.len-before.result ≡ length c.args.rows.now.items = search rules in
    let total : c.push_rows.new.rows.len ≡ length c.deref_mut.result.now = search rules in
    let moved : IsPermutation added c.sort_rows.new.rows =
    subst (λ (xs : List TableRow). IsPermutation xs c.sort_rows.new.rows)
    (behind_old c.args.rows.now.items added c.deref_mut.result.now c.len-before.result (length c.deref_mut.result.now - c.len-before.result) before all refl)
    c.sort_rows.ensures.same_rows in
    record {
      added = c.sort_rows.new.rows;
      behind =
          sorted_behind c.args.rows.now.items added c.sort_rows.new.rows c.deref_mut.result.now _ _ _ _ before all total
          (length_permutation added c.sort_rows.new.rows moved);
      listed = record {
        in_order = c.sort_rows.ensures.in_order;
        each_once = λ row. sum_by-IsPermutation (λ other. if row_eq row other then 1 else 0) added c.sort_rows.new.rows moved ∙ appends.counted row;
      };
    }
