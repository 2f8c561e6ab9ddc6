use Rattle.std.proofs.Common.{◌≡◌, ◌<◌, false, vec_capacity, Option, List, [], arith, sym, ap, subst}
use Rattle.std.specs.Prelude.{count_by, is_some}
use Rattle.lock_table.specs.declared.request.Request.{Request}
use Rattle.lock_table.specs.Queue.{awaits_mode}
use Rattle.lock_records.specs.Queues.{HasRoomInQueue, queue_on, waiting_in}
use Rattle.lock_records.proofs.Lemmas.QueueWrites.{waiting-none}
use Rattle.lock_records.specs.declared.locks.LockRecord.{LockRecord}
use Rattle.lock_records.specs.declared.holders.HolderRecord.{HolderRecord}
use Rattle.lock_records.specs.Holders.{holds_in}
use Rattle.lock_records.specs.Locks.{AreNoted}
use Rattle.lock_records.specs.Objects.{HasRoom}
use Rattle.lock_records.proofs.Lemmas.Parts.{nothing-said, objects-same, objects-none, noted-none}
use Rattle.lock_records.proofs.records.Records.new.Goals as goal

pub invariant_of-result : goal.invariant_of-result
invariant_of-result c =
    let held : count_by is_some c.new-3.result.slots ≡ 0 = ap (λ (slots : List (Option HolderRecord)). count_by is_some slots) c.new-3.ensures.empty in
    record {
      objects = objects-same [] c.new-2.result.slots [] c.new-3.result.slots [] c.new-4.result.slots c.new-2.ensures.empty c.new-3.ensures.empty c.new-4.ensures objects-none;
      noted = subst (λ (slots : List (Option LockRecord)). AreNoted slots c.in_ok-index.index) (sym c.new-2.ensures.empty) (noted-none c.in_ok-index.index (c.in_ok-index.ensures {u = tt}).empty);
      room = omega (arith, ap waiting_in c.new-4.ensures, waiting-none);
      woken_room = omega (arith, ap waiting_in c.new-4.ensures, waiting-none);
      begun_new = nothing-said (λ (request : Request). holds_in c.new-3.result.slots request.session request.tag request.mode ≡ false) _ c.nothing.ensures;
      begun_not_awaited = nothing-said (λ (request : Request). awaits_mode (queue_on c.new-4.result.slots request.tag) request.session request.mode ≡ false) _ c.nothing.ensures;
      begun_room = nothing-said (λ (request : Request). HasRoom c.new-2.result c.new-3.result c.new-4.result c.in_ok-index.index) _ c.nothing.ensures;
      begun_queue = nothing-said (λ (request : Request). HasRoomInQueue c.new-4.result.slots request.tag) _ c.nothing.ensures;
      begun_woken = nothing-said (λ (request : Request). waiting_in c.new-4.result.slots < vec_capacity c.new-5.result) _ c.nothing.ensures;
      absent = λ there. let no_way : ⊥ = cc in absurd no_way;
      known = λ there. let no_way : ⊥ = cc in absurd no_way;
    }

pub returns-clause-content : goal.returns-clause-content
unfolding holds_in queue_on
returns-clause-content c = λ i. record { holds = holds_in (c.new-3.ensures.empty i); waits = queue_on (c.new-4.ensures i) }
