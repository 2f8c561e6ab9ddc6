use Rattle.std.specs.Prelude.{◌≡◌, ℕ, zero, suc, ◌+◌, ◌&&◌, false, List, ◌++◌, count_by, Option, Some, None, if◌then◌else◌}
use Rattle.modes_core.specs.declared.tags.Tag.{Tag}
use Rattle.lock_table.specs.declared.rows.TableRow.{TableRow}
use Rattle.lock_table.specs.declared.waits.Waiter.{Waiter}
use Rattle.lock_table.specs.Listing.{row_eq}
use Rattle.lock_records.specs.declared.holders.HolderRecord.{HolderRecord}
use Rattle.lock_records.specs.declared.wait_queues.QueueRecord.{QueueRecord}
use Rattle.lock_records.specs.Holders.{holder_at, slot_holds}
use Rattle.lock_records.specs.Queues.{queue_at}

-- The list has rows after those that it had, each row as many times as `times` says.
pub record AppendsRows (old new : List TableRow) (times : TableRow → ℕ) : Type 0 where
  pub added : List TableRow
  pub behind : new ≡ old ++ added
  pub counted : (row : TableRow) → count_by (row_eq row) added ≡ times row

-- The list has the rows that it had, and some more after them.
pub record HasMoreRows (old new : List TableRow) : Type 0 where
  pub added : List TableRow
  pub behind : new ≡ old ++ added

-- how often a place shows a row: once where its record shows the hold
abbrev pub shown_by : Option HolderRecord → TableRow → ℕ
shown_by slot row = if row.granted && slot_holds row.session row.tag row.mode slot then 1 else 0

-- how often the places below a number show a row
unfoldable pub shown_below : List (Option HolderRecord) → ℕ → TableRow → ℕ
shown_below slots zero row = 0
shown_below slots (suc n) row = shown_below slots n row + shown_by (holder_at slots n) row

-- the row of a wait on an object
abbrev pub awaited_row : Tag → Waiter → TableRow
awaited_row tag waiter = record { session = waiter.session; tag = tag; mode = waiter.mode; granted = false }

-- how often waits on an object show a row
abbrev pub awaited_in : Tag → List Waiter → TableRow → ℕ
awaited_in tag waiters row = count_by (λ waiter. row_eq row (awaited_row tag waiter)) waiters

-- how often a place with a queue shows a row
abbrev pub awaited_at : TableRow → Option QueueRecord → ℕ
awaited_at row None = 0
awaited_at row (Some queue) = awaited_in queue.tag queue.waiters.items row

-- how often the places with a queue below a number show a row
unfoldable pub awaited_below : List (Option QueueRecord) → ℕ → TableRow → ℕ
awaited_below slots zero row = 0
awaited_below slots (suc n) row = awaited_below slots n row + awaited_at row (queue_at slots n)
