use Rattle.std.proofs.Common.{◌≡◌, ◌<◌, ◌≤◌, ◌∙◌, Bool, true, length, List, sym, ap, subst, arith}
use Rattle.std.specs.Prelude.{count_by, slice_index_or}
use Rattle.std.specs.List.{list_any}
use Rattle.modes_core.specs.declared.modes.Mode.{Mode}
use Rattle.modes_core.specs.ModeSet.{set_has}
use Rattle.modes_core.specs.Conflict.{conflict}
use Rattle.lock_table.specs.declared.part_waits.PartWait.{PartWait}
use Rattle.lock_table.specs.Request.{is_request_of}
use Rattle.lock_table.specs.declared.request.Request.{Request}
use Rattle.lock_table.specs.PartView.{PartView, holds_in}
use Rattle.lock_table.specs.PartWaits.{queues_in, awaits_one_of}
use Rattle.lock_table.proofs.Lemmas.HoldLists.{remove_hold-taken_out}
use Rattle.lock_table.proofs.Lemmas.WaitLists.{times_in-taken_out, awaited-against}
use Rattle.lock_table.proofs.part_lists.PartListsPartTable.ungrant.Goals as goal

pub index_of_hold-index-requires : goal.index_of_hold-index-requires
index_of_hold-index-requires c =
    rw c.as_slice.ensures.value (ap (λ (part : PartView). holds_in part.holds c.args.session c.args.tag.now c.args.mode) c.self.view_is ∙ c.requires.held)

pub swap_remove-requires : goal.swap_remove-requires
swap_remove-requires c = omega (arith, c.index_of_hold-index.ensures.within, c.as_slice.ensures.len)

pub invariant_of-self : goal.invariant_of-self
invariant_of-self c =
    let holds = c.self.inside.holds.items in
    let within : c.index_of_hold-index.result < length holds = rw (← c.as_slice.ensures.value) c.index_of_hold-index.ensures.within in
    let fewer = times_in-taken_out holds c.self.inside.waits.items c.index_of_hold-index.result c.swap_remove.result within c.swap_remove.ensures.value in
    record {
      each_once = rw c.swap_remove.ensures.items (λ s o m. omega (arith, fewer s o m, c.self.invariant.each_once s o m));
      one_wait_each = c.self.invariant.one_wait_each;
      begun_is_new = λ x is. rw c.swap_remove.ensures.items (omega (arith, fewer x.session x.tag x.mode, c.self.invariant.begun_is_new x is));
      room = omega (arith, c.self.invariant.room, c.swap_remove.ensures.len, c.swap_remove.ensures.capacity);
      begun_has_room = λ x is. omega (arith, c.self.invariant.begun_has_room x is, c.swap_remove.ensures.len, c.swap_remove.ensures.capacity);
      begun_may_wait = c.self.invariant.begun_may_wait;
      woken_room = c.self.invariant.woken_room;
      begun_may_be_woken = c.self.invariant.begun_may_be_woken;
    }

pub returns-clause-content : goal.returns-clause-content
returns-clause-content c =
    let holds = c.self.inside.holds.items in
    let within : c.index_of_hold-index.result < length holds = rw (← c.as_slice.ensures.value) c.index_of_hold-index.ensures.within in
    let there = subst (λ (xs : List Request). is_request_of (slice_index_or xs c.index_of_hold-index.result c.swap_remove.result) c.args.session c.args.tag.now c.args.mode ≡ true)
    c.as_slice.ensures.value (c.index_of_hold-index.ensures.its c.swap_remove.result) in
    let its : is_request_of c.swap_remove.result c.args.session c.args.tag.now c.args.mode ≡ true =
    ap (λ (hold : Request). is_request_of hold c.args.session c.args.tag.now c.args.mode) c.swap_remove.ensures.value ∙ there in
    let once : count_by (λ hold. is_request_of hold c.args.session c.args.tag.now c.args.mode) holds ≤ 1 =
    omega (arith, c.self.invariant.each_once c.args.session c.args.tag.now c.args.mode) in
    rw (c.swap_remove.ensures.items, ← c.self.view_is)
    (λ i. record {
      holds = remove_hold-taken_out holds c.index_of_hold-index.result c.swap_remove.result c.args.session c.args.tag.now c.args.mode within c.swap_remove.ensures.value its once i;
      waits = queues_in c.self.inside.waits.items;
    })

pub returns-clause-awaited : goal.returns-clause-awaited
returns-clause-awaited c =
    let modes : set_has c.conflicts.result ≡ conflict c.args.mode = c.conflicts.ensures in
    rw (← c.self.view_is)
    (c.is_awaited.ensures
    ∙ ap (λ (ws : List PartWait). list_any (λ wait. awaits_one_of wait c.args.tag.now (set_has c.conflicts.result)) ws) c.as_slice-2.ensures.value
    ∙ ap (λ (set : Mode → Bool). list_any (λ wait. awaits_one_of wait c.args.tag.now set) c.self.inside.waits.items) modes
    ∙ sym (awaited-against c.self.inside.waits.items c.args.tag.now c.args.mode))
