use Rattle.std.specs.Prelude.{◌≡◌, ℕ, List, ◌∷◌, ◌++◌, slice_get, Some}
use Rattle.modes_core.specs.declared.modes.Mode.{Mode}
use Rattle.modes_core.specs.declared.tags.Tag.{Tag}
use Rattle.lock_table.specs.Content.{Content}
use Rattle.lock_world.specs.declared.events.Event.{Event}
use Rattle.lock_world.specs.World.{World, Hand, TraceEntry, opening}
use Rattle.lock_world.specs.SlotHolds.{IsHeldIn}
use Rattle.lock_world.specs.Happens.{RunsThrough, last_of}
use Rattle.lock_world.specs.Telling.{TellsWhatIs}
use Rattle.shared_rule.specs.declared.rule.TableSizes.{TableSizes}
use Rattle.shared_rule.specs.Tells.{Leads}

-- What an entry of a session's trace tells was so: events lead from the World before the first step to the
-- World `now`, and a World on the way, in which the session's trace was just what stands before the entry,
-- was as it tells, or the next one was.
pub record WasSo (sizes : TableSizes) (now : World) (session : ℕ) (before : List TraceEntry) (entry : TraceEntry) : Type 0 where
  pub events : List Event
  pub worlds : List World
  pub run : RunsThrough (opening sizes.sessions sizes.groups) events worlds
  pub ends : now ≡ last_of (opening sizes.sessions sizes.groups) worlds
  pub place : ℕ
  pub world : World
  pub on_the_way : slice_get (opening sizes.sessions sizes.groups ∷ worlds) place ≡ Some world
  pub next : World
  pub then : slice_get worlds place ≡ Some next
  pub trace : world.sessions.trace session ≡ before
  pub tells : TellsWhatIs world next entry

-- On the way of these events there is a World in which the partition was in hand, with this content taken,
-- and the owner's slot had the mode on the object.
pub record WasInSlot (first now : World) (events : List Event) (partition owner slot : ℕ) (tag : Tag) (mode : Mode) (taken : Content) :
    Type 0 where
  pub before : List Event
  pub after : List Event
  pub all : events ≡ before ++ after
  pub world : World
  pub run : Leads first before world
  pub rest : Leads world after now
  pub mine : Hand
  pub in_hand : world.contents.hand partition ≡ Some mine
  pub taken_so : mine.taken ≡ taken
  pub shown : IsHeldIn (world.words.database owner) (world.words.slot owner) tag mode slot
