use Rattle.std.proofs.Common.{◌≡◌, ◌<◌, ◌+◌, ◌++◌, ◌∷◌, ap, sym, ◌∙◌, take, drop, length, vec_len, vec_capacity, List, Bool, arith}
use Rattle.lock_table.specs.declared.part_waits.PartWait.{PartWait}
use Rattle.lock_table.specs.PartView.{PartView, holds_in}
use Rattle.lock_table.specs.Put.{put}
use Rattle.modes_core.specs.declared.modes.Mode.{Mode}
use Rattle.modes_core.specs.ModeSet.{set_has}
use Rattle.modes_core.specs.Tag.{tag_eq}
use Rattle.lock_table.specs.PartWaits.{queues_in, times_in}
use Rattle.lock_table.proofs.Lemmas.WaitLists.{times_in-join, OneWaitEach-insert, waits-inserted}
use Rattle.lock_table.proofs.Lemmas.Options.{ForSome-none}
use Rattle.lock_table.proofs.part_lists.PartListsPartTable.join.Goals as goal

pub invariant_of-self : goal.invariant_of-self
invariant_of-self c =
    let wait : PartWait = record { tag = c.args.tag.now; waiter = record { session = c.args.session; mode = c.args.mode; held = c.held-held.result } } in
    let begun = ap (λ part. part.begun) c.self.view_is ∙ c.requires.begun in
    record {
      each_once =
          rw c.in-Ok.ensures.items
          (times_in-join c.self.inside.holds.items c.self.inside.waits.items c.index_of_place-index.result wait (c.self.invariant.begun_is_new _ begun) c.self.invariant.each_once);
      one_wait_each =
          rw c.in-Ok.ensures.items
          (OneWaitEach-insert c.self.inside.waits.items c.index_of_place-index.result wait
          (rw (ap (λ part. part.waits) c.self.view_is) c.requires.no_wait) c.self.invariant.one_wait_each);
      begun_is_new = ForSome-none (λ x. times_in c.self.inside.holds.items c.insert.new.self.items x.session x.tag x.mode ≡ 0);
      room = omega (arith, c.self.invariant.begun_has_room _ begun, c.in-Ok.ensures.len);
      begun_has_room = ForSome-none (λ _. vec_len c.self.inside.holds + vec_len c.insert.new.self < vec_capacity c.self.inside.holds);
      begun_may_wait = ForSome-none (λ _. vec_len c.insert.new.self < vec_capacity c.insert.new.self);
      woken_room = omega (arith, c.self.invariant.begun_may_be_woken _ begun, c.in-Ok.ensures.len);
      begun_may_be_woken = ForSome-none (λ _. vec_len c.insert.new.self < vec_capacity c.self.inside.woken);
    }

pub returns-clause-content : goal.returns-clause-content
returns-clause-content c =
    let wait : PartWait = record { tag = c.args.tag.now; waiter = record { session = c.args.session; mode = c.args.mode; held = c.held-held.result } } in
    let ws = c.self.inside.waits.items in
    let place : length (queues_in (take c.index_of_place-index.result ws) c.args.tag.now) ≡ c.args.place =
    ap (λ (xs : List PartWait). length (queues_in (take c.index_of_place-index.result xs) c.args.tag.now)) (sym c.as_slice.ensures.value) ∙ c.index_of_place-index.ensures.before in
    let held : set_has c.held-held.result ≡ holds_in c.self.inside.holds.items c.args.session c.args.tag.now =
    c.held-held.ensures ∙ ap (λ (part : PartView). holds_in part.holds c.args.session c.args.tag.now) (sym c.self.view_is) in
    let waits = waits-inserted ws c.index_of_place-index.result wait c.args.place place ∙
    ap (λ (its : Mode → Bool). put tag_eq (queues_in ws) c.args.tag.now (take c.args.place (queues_in ws c.args.tag.now) ++ record { session = c.args.session; mode = c.args.mode; held = its } ∷ drop c.args.place (queues_in ws c.args.tag.now))) held in
    rw (c.in-Ok.ensures.items, ← c.self.view_is) (λ i. record { holds = holds_in c.self.inside.holds.items; waits = waits i })
