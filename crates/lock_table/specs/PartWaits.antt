use Rattle.std.specs.Prelude.{ℕ, Bool, not, false, ◌&&◌, ◌+◌, ◌≤◌, List, map, filter, count_by}
use Rattle.std.specs.List.{list_any}
use Rattle.modes_core.specs.declared.modes.Mode.{Mode}
use Rattle.modes_core.specs.declared.tags.Tag.{Tag}
use Rattle.modes_core.specs.Tag.{tag_eq}
use Rattle.modes_core.specs.Conflict.{conflict}
use Rattle.lock_table.specs.declared.request.Request.{Request}
use Rattle.lock_table.specs.declared.rows.TableRow.{TableRow}
use Rattle.lock_table.specs.declared.part_waits.PartWait.{PartWait}
use Rattle.lock_table.specs.Request.{is_request_of, is_request_on, is_in_the_way_of}
use Rattle.lock_table.specs.Content.{Wait}
use Rattle.lock_table.specs.Waiter.{shown_wait}

-- One list has the waits of all objects. The queue of an object is the sub-list of the waits on that object.

-- the request that a wait is for
abbrev pub request_of : PartWait → Request
request_of wait = record { session = wait.waiter.session; tag = wait.tag; mode = wait.waiter.mode }

-- the row of a wait
abbrev pub awaited_row_of : PartWait → TableRow
awaited_row_of wait = record { session = wait.waiter.session; tag = wait.tag; mode = wait.waiter.mode; granted = false }

-- the queue of an object
abbrev pub queues_in : List PartWait → Tag → List Wait
queues_in waits tag = map (λ wait. shown_wait wait.waiter) (filter (λ wait. tag_eq tag wait.tag) waits)

-- how often a request is among these holds and these waits
abbrev pub times_in : List Request → List PartWait → ℕ → Tag → Mode → ℕ
times_in holds waits session tag mode =
    count_by (λ hold. is_request_of hold session tag mode) holds + count_by (λ wait. is_request_of (request_of wait) session tag mode) waits

-- No request is held twice, awaited twice, or both held and awaited.
abbrev pub EachOnce : List Request → List PartWait → Type 0
EachOnce holds waits = (session : ℕ) (tag : Tag) (mode : Mode) → times_in holds waits session tag mode ≤ 1

-- Each session waits at most once on each object.
abbrev pub OneWaitEach : List PartWait → Type 0
OneWaitEach waits = (session : ℕ) (tag : Tag) → count_by (λ wait. is_request_on (request_of wait) session tag) waits ≤ 1

-- whether the wait is on the object, for one of the modes
abbrev pub awaits_one_of : PartWait → Tag → (Mode → Bool) → Bool
awaits_one_of wait tag modes = tag_eq tag wait.tag && modes wait.waiter.mode

-- whether the wait is on the object, and free to go beside these holds and behind these waits
abbrev pub goes_now : List Request → List PartWait → PartWait → Tag → Bool
goes_now holds ahead wait tag =
    tag_eq tag wait.tag
    && (not (list_any (λ hold. is_in_the_way_of hold wait.waiter.session tag (conflict wait.waiter.mode)) holds)
    && not (list_any (λ other. awaits_one_of other tag (conflict wait.waiter.mode)) ahead))
