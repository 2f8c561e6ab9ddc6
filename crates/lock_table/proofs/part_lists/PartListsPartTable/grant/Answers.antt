use Rattle.std.proofs.Common.{◌≡◌, ◌<◌, ◌+◌, ap, ◌∙◌, vec_len, vec_capacity, arith}
use Rattle.lock_table.specs.declared.request.Request.{Request}
use Rattle.lock_table.specs.PartWaits.{times_in, queues_in}
use Rattle.lock_table.proofs.Lemmas.HoldLists.{add_hold-push}
use Rattle.lock_table.proofs.Lemmas.WaitLists.{one_more_once, times_in-hold}
use Rattle.lock_table.proofs.Lemmas.Options.{ForSome-none}
use Rattle.lock_table.proofs.part_lists.PartListsPartTable.grant.Goals as goal

pub invariant_of-self : goal.invariant_of-self
invariant_of-self c =
    let request : Request = record { session = c.args.session; tag = c.args.tag.now; mode = c.args.mode } in
    let begun = ap (λ part. part.begun) c.self.view_is ∙ c.requires.begun in
    record {
      each_once =
          rw c.push_reserved.ensures.items (
          one_more_once (times_in c.self.inside.holds.items c.self.inside.waits.items) _ request (c.self.invariant.begun_is_new _ begun)
          (times_in-hold c.self.inside.holds.items c.self.inside.waits.items request) c.self.invariant.each_once
          );
      one_wait_each = c.self.invariant.one_wait_each;
      begun_is_new = ForSome-none (λ x. times_in c.push_reserved.new.self.items c.self.inside.waits.items x.session x.tag x.mode ≡ 0);
      room = omega (arith, c.self.invariant.begun_has_room _ begun, c.push_reserved.ensures.len, c.push_reserved.ensures.capacity);
      begun_has_room = ForSome-none (λ _. vec_len c.push_reserved.new.self + vec_len c.self.inside.waits < vec_capacity c.push_reserved.new.self);
      begun_may_wait = ForSome-none (λ _. vec_len c.self.inside.waits < vec_capacity c.self.inside.waits);
      woken_room = c.self.invariant.woken_room;
      begun_may_be_woken = ForSome-none (λ _. vec_len c.self.inside.waits < vec_capacity c.self.inside.woken);
    }

pub returns-clause-content : goal.returns-clause-content
returns-clause-content c =
    rw (c.push_reserved.ensures.items, ← c.self.view_is)
    (λ i. record { holds = add_hold-push c.self.inside.holds.items c.args.session c.args.tag.now c.args.mode i; waits = queues_in c.self.inside.waits.items })
