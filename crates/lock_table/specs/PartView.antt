use Rattle.std.specs.Prelude.{ℕ, true, List, Option}
use Rattle.std.specs.List.{list_any}
use Rattle.modes_core.specs.declared.modes.Mode.{Mode}
use Rattle.lock_table.specs.declared.request.Request.{Request}
use Rattle.lock_table.specs.declared.rows.TableRow.{TableRow}
use Rattle.lock_table.specs.declared.part_waits.PartWait.{PartWait}
use Rattle.lock_table.specs.Request.{is_request_of}
use Rattle.lock_table.specs.Content.{Holds, Content}
use Rattle.lock_table.specs.Capacity.{Capacity}
use Rattle.lock_table.specs.PartWaits.{queues_in}

-- what contracts see of a `PlainPart`: its list of holds, its list of waits, whom its last wakeup granted,
-- the request that is begun, the one that room was made for last, and for how many entries there is room
pub record PartView : Type 0 where
  pub holds : List Request
  pub waits : List PartWait
  pub woken : List (ℕ × Mode)
  pub begun : Option Request
  pub prepared : Option Request
  pub capacity : Capacity

-- room for this many holds, waits and names of those woken
abbrev pub capacity_of_lists : ℕ → ℕ → ℕ → Capacity
capacity_of_lists holds waits woken = record { locks = 0; holders = holds; queues = 0; waits = waits; woken = woken; places = 0 }

-- the holds of a list
abbrev pub holds_in : List Request → Holds
holds_in holds session tag mode = list_any (λ hold. is_request_of hold session tag mode) holds

-- the content that these holds and these waits stand for
abbrev pub content_in : List Request → List PartWait → Content
content_in holds waits = record { holds = holds_in holds; waits = queues_in waits }

-- the content that the part stands for
abbrev pub content_of : PartView → Content
content_of part = content_in part.holds part.waits

-- the row of a hold
abbrev pub row_of : Request → TableRow
row_of hold = record { session = hold.session; tag = hold.tag; mode = hold.mode; granted = true }
