use Rattle.std.proofs.lemmas.Bool.{true≢false, false≢true}
use Rattle.std.specs.Prelude.{is_some, not, IfSome, IfNone, Option, Some, unwrap_or}
use Rattle.std.proofs.Common.{◌≡◌, ◌<◌, vec_capacity, ℕ, true, false, None, List, refl, sym, ap, ◌∙◌, subst, arith}
use Rattle.slab.specs.Slab.{Slab, slab_len}
use Rattle.lock_table.specs.declared.request.Request.{Request}
use Rattle.lock_records.specs.declared.wait_queues.QueueRecord.{QueueRecord}
use Rattle.lock_table.specs.Queue.{awaits_mode}
use Rattle.lock_records.specs.Queues.{HasRoomInQueue, queue_on, waiting_in}
use Rattle.lock_records.proofs.Lemmas.Objects.{no-wait}
use Rattle.lock_table.specs.Content.{Wait}
use Rattle.modes_core.specs.declared.tags.Tag.{Tag}
use Rattle.lock_records.specs.declared.locks.LockRecord.{LockRecord}
use Rattle.lock_records.specs.declared.holders.HolderRecord.{HolderRecord}
use Rattle.lock_records.specs.Holders.{holds_in}
use Rattle.lock_records.specs.Locks.{AreNoted, HasNoLock, IsLockAt}
use Rattle.lock_records.specs.Objects.{HasRoom, AreObjects, IsObject}
use Rattle.lock_table.specs.Capacity.{Capacity}
use Rattle.lock_records.specs.View.{RecordView, GrowsWhereFull}
use Rattle.lock_records.proofs.Lemmas.Parts.{objects-same, noted-grown, one-said}
use Rattle.lock_records.proofs.records.RecordsPartTable.begin.Goals as goal
use Rattle.lock_records.proofs.records.RecordsPartTable.begin.Goals.{After-make_room, After-make_room_to_wait}

found-none : {X P : Type 0} (found : Option X) → is_some found ≡ false → IfNone found P → P
found-none None none absent = absent
found-none (Some x) none absent = absurd (true≢false none)

found-some : (P : ℕ → Type 0) (found : Option ℕ) (hint : ℕ) → is_some found ≡ true → IfSome found P → P (unwrap_or found hint)
found-some P None hint some is = absurd (false≢true some)
found-some P (Some x) hint some is = is

locks : (c : After-make_room) → c.make_room.new.locks.slots ≡ c.self.inside.locks.slots
locks c = ap (λ (slab : Slab LockRecord). slab.slots) c.make_room.ensures.locks

holders : (c : After-make_room) → c.make_room.new.holders.slots ≡ c.self.inside.holders.slots
holders c = ap (λ (slab : Slab HolderRecord). slab.slots) c.make_room.ensures.holders

len : (c : After-make_room) → slab_len c.make_room.new.holders ≡ slab_len c.self.inside.holders
len c = ap (λ (slab : Slab HolderRecord). slab_len slab) c.make_room.ensures.holders

total : (c : After-make_room) → waiting_in c.make_room.new.queues.slots ≡ waiting_in c.self.inside.queues.slots
total c = ap waiting_in c.make_room.ensures.queues

objects : (c : After-make_room) → AreObjects c.make_room.new.locks.slots c.make_room.new.holders.slots c.make_room.new.queues.slots
objects c =
    objects-same c.self.inside.locks.slots c.make_room.new.locks.slots c.self.inside.holders.slots c.make_room.new.holders.slots c.self.inside.queues.slots c.make_room.new.queues.slots
    (locks c) (holders c) c.make_room.ensures.queues c.self.invariant.objects

noted : (c : After-make_room) → AreNoted c.make_room.new.locks.slots c.make_room.new.index
noted c =
    subst (λ slots. AreNoted slots c.make_room.new.index) (sym (locks c))
    (noted-grown c.self.inside.locks.slots c.self.inside.index c.make_room.new.index c.make_room.ensures.notes c.make_room.ensures.places c.self.invariant.noted)

pub invariant_of-self : goal.invariant_of-self
invariant_of-self c =
    let at = (goal.at.invariant_of-self c).After-make_room in
    let none : c.self.inside.begun.request ≡ None = ap (λ (part : RecordView). part.begun) c.self.view_is ∙ c.requires.none_begun in
    record {
      objects = objects at;
      noted = noted at;
      room = omega (arith, c.self.invariant.room, len at, total at, c.make_room.ensures.capacity);
      woken_room = omega (arith, c.self.invariant.woken_room, total at, c.make_room.ensures.woken_capacity);
      begun_new = λ request is. let no_way : ⊥ = cc in absurd no_way;
      begun_not_awaited = λ request is. let no_way : ⊥ = cc in absurd no_way;
      begun_room = λ request is. let no_way : ⊥ = cc in absurd no_way;
      begun_queue = λ request is. let no_way : ⊥ = cc in absurd no_way;
      begun_woken = λ request is. let no_way : ⊥ = cc in absurd no_way;
      absent = λ there request is. let no_way : ⊥ = cc in absurd no_way;
      known = λ there request is. let no_way : ⊥ = cc in absurd no_way;
    }

pub find_lock-found-requires : goal.find_lock-found-requires
find_lock-found-requires c = noted (goal.at.find_lock-found-requires c).After-make_room

-- what is awaited is as before, once there is room to wait
objects-after : (c : After-make_room_to_wait) → (at : After-make_room) → AreObjects c.make_room.new.locks.slots c.make_room.new.holders.slots c.make_room.new.queues.slots →
    AreObjects c.make_room.new.locks.slots c.make_room.new.holders.slots c.make_room_to_wait.new.queues.slots
objects-after c at are = λ tag.
    subst (λ (waits : Tag → List Wait). IsObject c.make_room.new.locks.slots c.make_room.new.holders.slots (waits tag) tag) (sym c.make_room_to_wait.ensures.same.waits) (are tag)

pub make_room_to_wait-requires-clause-counted : goal.make_room_to_wait-requires-clause-counted
make_room_to_wait-requires-clause-counted c = λ place is.
    let at = (goal.at.make_room_to_wait-requires-clause-counted c).After-make_room in
    let i = subst (λ found. IfSome found (IsLockAt c.make_room.new.locks.slots c.args.tag.now)) is c.find_lock-found.ensures.found in
    record { at = i; awaited = ((objects at c.args.tag.now).lock place i).awaited }

pub make_room_to_wait-requires-clause-absent : goal.make_room_to_wait-requires-clause-absent
make_room_to_wait-requires-clause-absent c = λ is.
    let at = (goal.at.make_room_to_wait-requires-clause-absent c).After-make_room in
    no-wait c.make_room.new.locks.slots c.make_room.new.holders.slots (queue_on c.make_room.new.queues.slots c.args.tag.now) c.args.tag.now (objects at c.args.tag.now)
    (subst (λ found. IfNone found (HasNoLock c.make_room.new.locks.slots c.args.tag.now)) is c.find_lock-found.ensures.absent)

pub invariant_of-self-in_err-make_room_to_wait : goal.invariant_of-self-in_err-make_room_to_wait
invariant_of-self-in_err-make_room_to_wait c =
    let at = (goal.at.invariant_of-self-in_err-make_room_to_wait c).After-make_room in
    let after = (goal.at.invariant_of-self-in_err-make_room_to_wait c).After-make_room_to_wait in
    let none : c.self.inside.begun.request ≡ None = ap (λ (part : RecordView). part.begun) c.self.view_is ∙ c.requires.none_begun in
    record {
      objects = objects-after after at (objects at);
      noted = noted at;
      room = omega (arith, c.self.invariant.room, len at, total at, c.make_room.ensures.capacity, c.make_room_to_wait.ensures.same.total);
      woken_room = omega (arith, c.self.invariant.woken_room, total at, c.make_room.ensures.woken_capacity, c.make_room_to_wait.ensures.same.total);
      begun_new = λ request is. let no_way : ⊥ = cc in absurd no_way;
      begun_not_awaited = λ request is. let no_way : ⊥ = cc in absurd no_way;
      begun_room = λ request is. let no_way : ⊥ = cc in absurd no_way;
      begun_queue = λ request is. let no_way : ⊥ = cc in absurd no_way;
      begun_woken = λ request is. let no_way : ⊥ = cc in absurd no_way;
      absent = λ there request is. let no_way : ⊥ = cc in absurd no_way;
      known = λ there request is. let no_way : ⊥ = cc in absurd no_way;
    }

pub invariant_of-self-2 : goal.invariant_of-self-2
invariant_of-self-2 c =
    let at = (goal.at.invariant_of-self-2 c).After-make_room in
    let after = (goal.at.invariant_of-self-2 c).After-make_room_to_wait in
    let room = (c.in_ok-make_room.ensures {u = tt}).room in
    let same = c.make_room_to_wait.ensures.same in
    let request : Request = record { session = c.args.session; tag = c.args.tag.now; mode = c.args.mode } in
    record {
      objects = objects-after after at (objects at);
      noted = noted at;
      room = omega (arith, c.self.invariant.room, len at, total at, c.make_room.ensures.capacity, same.total);
      woken_room = omega (arith, c.self.invariant.woken_room, total at, c.make_room.ensures.woken_capacity, same.total);
      begun_new =
          one-said (λ (x : Request). holds_in c.make_room.new.holders.slots x.session x.tag x.mode ≡ false) c.of-self-inside.result.request request c.of-self-inside.ensures
          (ap (λ slots. holds_in slots c.args.session c.args.tag.now c.args.mode) (holders at)
          ∙ ap (λ (part : RecordView). holds_in part.holders c.args.session c.args.tag.now c.args.mode) c.self.view_is ∙ c.requires.new);
      begun_not_awaited =
          one-said (λ (x : Request). awaits_mode (queue_on c.make_room_to_wait.new.queues.slots x.tag) x.session x.mode ≡ false) c.of-self-inside.result.request request c.of-self-inside.ensures
          (ap (λ (waits : Tag → List Wait). awaits_mode (waits c.args.tag.now) c.args.session c.args.mode) same.waits
          ∙ ap (λ (waits : List (Option QueueRecord)). awaits_mode (queue_on waits c.args.tag.now) c.args.session c.args.mode) c.make_room.ensures.queues
          ∙ ap (λ (part : RecordView). awaits_mode (queue_on part.queues c.args.tag.now) c.args.session c.args.mode) c.self.view_is ∙ c.requires.not_awaited);
      begun_room =
          one-said (λ (x : Request). HasRoom c.make_room.new.locks c.make_room.new.holders c.make_room_to_wait.new.queues c.make_room.new.index) c.of-self-inside.result.request request c.of-self-inside.ensures
          (record {
            lock = room.lock;
            noted = room.noted;
            holder = omega (arith, room.holder, same.total);
            queue = record { slot = omega (arith, room.queue.slot, same.count, same.capacity); wait = omega (arith, room.queue.wait, same.spare) };
          });
      begun_queue =
          one-said (λ (x : Request). HasRoomInQueue c.make_room_to_wait.new.queues.slots x.tag) c.of-self-inside.result.request request c.of-self-inside.ensures
          (c.in_ok-make_room_to_wait.ensures {u = tt}).room;
      begun_woken =
          one-said (λ (x : Request). waiting_in c.make_room_to_wait.new.queues.slots < vec_capacity c.make_room.new.woken) c.of-self-inside.result.request request c.of-self-inside.ensures
          (omega (arith, (c.in_ok-make_room.ensures {u = tt}).woken_room, same.total));
      absent = λ there.
          let none = c.is_none-self-inside.ensures ∙ ap not there in
          one-said (λ (x : Request). HasNoLock c.make_room.new.locks.slots x.tag) c.of-self-inside.result.request request c.of-self-inside.ensures
          (found-none c.find_lock-found.result none c.find_lock-found.ensures.absent);
      known = λ there.
          one-said (λ (x : Request). IsLockAt c.make_room.new.locks.slots x.tag c.unwrap_or-self-inside.result) c.of-self-inside.result.request request c.of-self-inside.ensures
          (subst (IsLockAt c.make_room.new.locks.slots c.args.tag.now) (sym c.unwrap_or-self-inside.ensures)
          (found-some (IsLockAt c.make_room.new.locks.slots c.args.tag.now) c.find_lock-found.result c.self.inside.hint (sym c.is_some-self-inside.ensures ∙ there) c.find_lock-found.ensures.found));
    }

-- each slab, list and the index grew only where it was full
grows :
    (c : After-make_room) (queues waits : ℕ) (new : RecordView) → queues ≡ c.make_room.new.queues.capacity → new.spare ≡ c.make_room.new.queues.spare →
    new.capacity ≡ record {
      locks = c.make_room.new.locks.capacity;
      holders = c.make_room.new.holders.capacity;
      queues = queues;
      waits = waits;
      woken = vec_capacity c.make_room.new.woken;
      places = c.make_room.new.index.places;
    } → GrowsWhereFull c.args.self.now new
grows c queues waits new same_queues same_spare is =
    subst (λ (old : RecordView). GrowsWhereFull old new) c.self.view_is
    (record {
      locks = λ room. ap (λ (x : Capacity). x.locks) is ∙ c.make_room.ensures.locks_grow (omega (arith, room));
      holders = λ room. ap (λ (x : Capacity). x.holders) is ∙ c.make_room.ensures.holders_grow (omega (arith, room));
      queues = λ room. ap (λ (x : Capacity). x.queues) is ∙ same_queues ∙ c.make_room.ensures.queues_grow room;
      spare = λ room. same_spare ∙ c.make_room.ensures.spare_grows room;
      woken = λ room. ap (λ (x : Capacity). x.woken) is ∙ c.make_room.ensures.woken_grows room;
      places = λ room. ap (λ (x : Capacity). x.places) is ∙ c.make_room.ensures.index_grows room;
    })

pub returns-in_err-make_room-clause-grows : goal.returns-in_err-make_room-clause-grows
returns-in_err-make_room-clause-grows c = grows (goal.at.returns-in_err-make_room-clause-grows c).After-make_room _ _ _ refl refl refl

pub returns-in_err-make_room_to_wait-clause-grows : goal.returns-in_err-make_room_to_wait-clause-grows
returns-in_err-make_room_to_wait-clause-grows c =
    grows (goal.at.returns-in_err-make_room_to_wait-clause-grows c).After-make_room _ _ _ c.make_room_to_wait.ensures.same.capacity c.make_room_to_wait.ensures.same.spare refl

pub returns-clause-grows : goal.returns-clause-grows
returns-clause-grows c = grows (goal.at.returns-clause-grows c).After-make_room _ _ _ c.make_room_to_wait.ensures.same.capacity c.make_room_to_wait.ensures.same.spare refl

-- the content once there is room to wait
content-after : (c : After-make_room_to_wait) → (holds_in c.make_room.new.holders.slots ≡ holds_in c.self.inside.holders.slots) × (queue_on c.make_room_to_wait.new.queues.slots ≡ queue_on c.self.inside.queues.slots)
content-after c = (
  ap (λ (slab : Slab HolderRecord). holds_in slab.slots) c.make_room.ensures.holders,
  c.make_room_to_wait.ensures.same.waits ∙ ap queue_on c.make_room.ensures.queues,
)

pub returns-in_err-make_room_to_wait-clause-content : goal.returns-in_err-make_room_to_wait-clause-content
returns-in_err-make_room_to_wait-clause-content c =
    let same = content-after (goal.at.returns-in_err-make_room_to_wait-clause-content c).After-make_room_to_wait in
    rw (← c.self.view_is) (λ i. record { holds = same.0 i; waits = same.1 i })

pub returns-clause-content : goal.returns-clause-content
returns-clause-content c =
    let same = content-after (goal.at.returns-clause-content c).After-make_room_to_wait in
    rw (← c.self.view_is) (λ i. record { holds = same.0 i; waits = same.1 i })
