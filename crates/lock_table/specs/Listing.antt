use Rattle.std.specs.Prelude.{◌≡◌, ℕ, Bool, not, ◌&&◌, ◌==◌, if◌then◌else◌, List, ◌++◌, count_by, IsSorted}
use Rattle.std.specs.declared.cmp.Ordering.{Ordering}
use Rattle.std.specs.Ordering.{nat_cmp, bool_cmp, on, then_cmp}
use Rattle.std.specs.Cmp.Lexicographic.{slice_cmp}
use Rattle.std.specs.List.{list_any}
use Rattle.modes_core.specs.declared.tags.Tag.{Tag}
use Rattle.modes_core.specs.Mode.{number_of, mode_eq}
use Rattle.modes_core.specs.Tag.{numbers_of, tag_eq}
use Rattle.lock_table.specs.declared.rows.TableRow.{TableRow}
use Rattle.lock_table.specs.declared.rows.SlotRow.{SlotRow}
use Rattle.lock_table.specs.Content.{Content}

-- what the order of a listing goes by: the tag, the session, granted before awaited, the mode
abbrev pub row_key : TableRow → Tag × ℕ × Bool × ℕ
row_key row = (row.tag, row.session, not row.granted, number_of row.mode)

-- what the order of the rows of fast-path slots goes by: the session, the slot, the mode
abbrev pub slot_row_key : SlotRow → ℕ × ℕ × ℕ
slot_row_key row = (row.session, row.slot, number_of row.mode)

-- whether two rows are the same one
abbrev pub row_eq : TableRow → TableRow → Bool
row_eq a b = (a.session == b.session) && (tag_eq a.tag b.tag && (mode_eq a.mode b.mode && (if a.granted then b.granted else not b.granted)))

-- whether the content has what the row says
abbrev pub has_row : Content → TableRow → Bool
has_row content row =
    if row.granted
    then content.holds row.session row.tag row.mode
    else list_any (λ w. (w.session == row.session) && mode_eq w.mode row.mode) (content.waits row.tag)

-- the listing's order of two rows: by the tag, then the session, then granted before awaited, then the mode
abbrev pub row_cmp : TableRow → TableRow → Ordering
row_cmp =
    then_cmp
    (then_cmp
    (then_cmp (on (λ row. numbers_of row.tag) (slice_cmp nat_cmp)) (on (λ row. row.session) nat_cmp))
    (on (λ row. not row.granted) bool_cmp))
    (on (λ row. number_of row.mode) nat_cmp)

-- The rows are the content's holds and waits, each once, in whatever order.
abbrev pub HasEachRow : Content → List TableRow → Type 0
HasEachRow content rows = (row : TableRow) → count_by (row_eq row) rows ≡ (if has_row content row then 1 else 0)

-- The rows are the content's holds and waits, each once, in the listing's order.
pub record IsListing (content : Content) (rows : List TableRow) : Type 0 where
  pub in_order : IsSorted row_cmp rows
  pub each_once : (row : TableRow) → count_by (row_eq row) rows ≡ (if has_row content row then 1 else 0)

-- The list has the content's listing after what it had.
pub record AppendsListing (content : Content) (old new : List TableRow) : Type 0 where
  pub added : List TableRow
  pub behind : new ≡ old ++ added
  pub listed : IsListing content added
