use Rattle.std.proofs.Common.{◌≡◌, ℕ, List, [], ◌∷◌, ◌++◌, subst}
use Rattle.std.specs.Prelude.{Option, Some}
use Rattle.modes_core.specs.declared.modes.Mode.{Mode}
use Rattle.modes_core.specs.declared.tags.Tag.{Tag}
use Rattle.modes_core.specs.declared.refusals.Refusal.{Refusal}
use Rattle.modes_core.specs.declared.refusals.Refusal.TheVariants.{Conflict, SimpleDeadlock}
use Rattle.modes_core.specs.Tag.{partition_of}
use Rattle.lock_table.specs.Content.{Content}
use Rattle.lock_table.specs.declared.request.Request.{Request}
use Rattle.lock_world.specs.World.{TraceEntry, Episode}
use Rattle.wait_queue.specs.Decide.{IsAfterRoom}
use Rattle.lock_manager.specs.Requests.{HadRoom}

-- Where the part that is put has room for the request, that had it which the last episode put.
module _ {T : Type 0} (content : T → Content) (prepared : T → Option Request) (part : T) (session number : ℕ) (tag : Tag) (mode : Mode) (same : session ≡ number)
    (before : List TraceEntry) (place : ℕ) (taken : Content) (trace : List TraceEntry) (home : place ≡ partition_of tag)
    (put : trace ≡ before ++ Episode place taken (content part) ∷ []) where
  had : prepared part ≡ Some (record { session = session; tag = tag; mode = mode }) → HadRoom content prepared number tag mode trace
  had room = record {
    part = part;
    room = subst (λ k. prepared part ≡ Some (record { session = k; tag = tag; mode = mode })) same room;
    before = before;
    taken = taken;
    put = subst (λ p. trace ≡ before ++ Episode p taken (content part) ∷ []) home put;
  }

  pub room-had :
      (refusal : Refusal) → IsAfterRoom (prepared part ≡ Some (record { session = session; tag = tag; mode = mode })) refusal
      → IsAfterRoom (HadRoom content prepared number tag mode trace) refusal
  room-had (Conflict other its how) room = had room
  room-had (SimpleDeadlock other) room = had room
  room-had _ room = tt
