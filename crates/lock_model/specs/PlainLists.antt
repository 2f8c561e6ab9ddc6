use Rattle.std.specs.Prelude.{List, map}
use Rattle.lock_table.specs.declared.request.Request.{Request}
use Rattle.lock_table.specs.declared.part_waits.PartWait.{PartWait}
use Rattle.lock_table.specs.PartView.{PartView}
use Rattle.lock_model.specs.declared.machine.plain.Hold.{Hold}
use Rattle.lock_model.specs.declared.machine.plain.QueuedWait.{QueuedWait}
use Rattle.lock_model.specs.declared.machine.plain.Spot.TheVariants.{Table}

-- What is in a part, as entries of the plain lists that a run answers with.

-- a hold of a part, as one of the plain list: its place is the lock table
abbrev pub table_hold_of : Request → Hold
table_hold_of hold = record { session = hold.session; tag = hold.tag; mode = hold.mode; spot = Table }

-- the holds of a part, as the plain list has them
abbrev pub table_holds_of : PartView → List Hold
table_holds_of part = map table_hold_of part.holds

-- a wait of a part, as one of the plain list
abbrev pub queued_of : PartWait → QueuedWait
queued_of wait = record { session = wait.waiter.session; tag = wait.tag; mode = wait.waiter.mode; held = wait.waiter.held }
