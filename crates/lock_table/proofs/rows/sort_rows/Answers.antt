use Rattle.std.proofs.Common.{◌≡◌, rules}
use Rattle.std.proofs.lemmas.List.Sorted.{answers_always}
use Rattle.lock_table.specs.Listing.{row_key}
use Rattle.lock_table.proofs.rows.sort_rows.Goals as goal

pub returns-clause-in_order : goal.returns-clause-in_order
returns-clause-in_order c =
    c.sort_unstable_by_key.ensures.sorted row_key (answers_always _ (λ a r. r ≡ row_key a.0.now) _ (λ f a r g called. search rules))
