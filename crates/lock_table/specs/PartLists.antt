use Rattle.std.specs.Prelude.{◌≡◌, ◌<◌, ◌≤◌, ◌+◌, vec_len, vec_capacity}
use Rattle.std.specs.Option.{ForSome}
use Rattle.lock_table.specs.declared.part_lists.PartLists.TheInside.{Inside}
use Rattle.lock_table.specs.PartView.{PartView, capacity_of_lists}
use Rattle.lock_table.specs.PartWaits.{EachOnce, OneWaitEach, times_in}

-- What contracts see of a part with lists.
abbrev pub view_of : Inside → PartView
view_of part = record {
  holds = part.holds.items;
  waits = part.waits.items;
  woken = part.woken.items;
  begun = part.begun;
  prepared = part.prepared;
  capacity = capacity_of_lists (vec_capacity part.holds) (vec_capacity part.waits) (vec_capacity part.woken);
}

-- Each request is held or awaited once at most, a session waits once at most on an object, and a begun
-- request is new. There is room for the hold that each wait becomes, for each waiter in the list of those
-- woken, and for the begun request in each list.
pub record ArePartLists (part : Inside) : Type 0 where
  pub each_once : EachOnce part.holds.items part.waits.items
  pub one_wait_each : OneWaitEach part.waits.items
  pub begun_is_new : ForSome part.begun (λ request. times_in part.holds.items part.waits.items request.session request.tag request.mode ≡ 0)
  pub room : vec_len part.holds + vec_len part.waits ≤ vec_capacity part.holds
  pub begun_has_room : ForSome part.begun (λ _. vec_len part.holds + vec_len part.waits < vec_capacity part.holds)
  pub begun_may_wait : ForSome part.begun (λ _. vec_len part.waits < vec_capacity part.waits)
  pub woken_room : vec_len part.waits ≤ vec_capacity part.woken
  pub begun_may_be_woken : ForSome part.begun (λ _. vec_len part.waits < vec_capacity part.woken)
