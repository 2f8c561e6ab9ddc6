use Rattle.std.proofs.Common.{◌≡◌, ℕ, ◌+◌, ◌/◌, ◌<◌, ◌≤◌, length, slice_get, vec_len, vec_capacity}
use Rattle.shared_rule.specs.Layout.{content_shelf_of, list_shelf_of, lock_count, shelves_of}
use Rattle.lock_table.specs.Parts.{AreEmptyParts}
use Rattle.shared_rule.specs.Opening.{IsNew, IsEmptyList}
use Rattle.shared_rule.proofs.table.in_shelves.Given as goal

abbrev pub invariant-loop-index : goal.invariant-loop-index
invariant-loop-index g l = record {
  number : vec_len l.shelves ≡ l.index;
  room : vec_capacity l.shelves ≡ shelves_of l.sessions;
  left : length l.parts.items + (l.index + 7) / 8 ≡ 16;
  empty : AreEmptyParts g.T.PartTable.content g.T.PartTable.begun l.parts.items;
  there : (p : ℕ) → p < 16 → content_shelf_of p < l.index → IsNew g.T.PartTable.content g.T.PartTable.begun (slice_get l.shelves.items (content_shelf_of p));
}

abbrev pub invariant-loop-index-2 : goal.invariant-loop-index-2
invariant-loop-index-2 g l = record {
  number : vec_len l.shelves ≡ l.index;
  room : vec_capacity l.shelves ≡ shelves_of l.sessions;
  past : 128 ≤ l.index;
  there : (p : ℕ) → p < 16 → IsNew g.T.PartTable.content g.T.PartTable.begun (slice_get l.shelves.items (content_shelf_of p));
  empty : (lock : ℕ) → lock < lock_count l.sessions → list_shelf_of lock < l.index → IsEmptyList l.sessions (slice_get l.shelves.items (list_shelf_of lock));
}
