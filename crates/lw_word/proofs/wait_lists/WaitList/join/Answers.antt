use Rattle.std.proofs.Common.{◌<◌, ◌≡◌, false, ap, ◌∙◌, subst, sym, arith, length}
use Rattle.std.specs.Vec.{vec_len}
use Rattle.lw_word.specs.declared.wait_lists.LwWaiter.{LwWaiter}
use Rattle.lw_word.specs.WaitList.{Waiting, stands_in}
use Rattle.lw_word.proofs.Lemmas.Waits.{EachStandsOnce-join, room_to_join}
use Rattle.lw_word.proofs.wait_lists.WaitList.join.Goals as goal

pub push_reserved-requires : goal.push_reserved-requires
push_reserved-requires c =
    let new : LwWaiter = record { session = c.args.session; mode = c.args.mode } in
    let within : c.args.session < c.self.inside.room = subst (λ (list : Waiting). c.args.session < list.room) (sym c.self.view_is) c.requires.within in
    let absent : stands_in c.args.session c.self.inside.waiters.items ≡ false = ap (λ (list : Waiting). stands_in c.args.session list.waiters) c.self.view_is ∙ c.requires.absent in
    let len : vec_len c.self.inside.waiters ≡ length c.self.inside.waiters.items = c.self.inside.waiters.ok.0 in
    omega (arith, len, room_to_join c.self.inside.room c.self.inside.waiters.items new within absent c.self.invariant.0, c.self.invariant.1)

pub invariant_of-self : goal.invariant_of-self
invariant_of-self c =
    let new : LwWaiter = record { session = c.args.session; mode = c.args.mode } in
    let within : c.args.session < c.self.inside.room = subst (λ (list : Waiting). c.args.session < list.room) (sym c.self.view_is) c.requires.within in
    let absent : stands_in c.args.session c.self.inside.waiters.items ≡ false = ap (λ (list : Waiting). stands_in c.args.session list.waiters) c.self.view_is ∙ c.requires.absent in
    rw c.push_reserved.ensures.items (
      EachStandsOnce-join c.self.inside.room c.self.inside.waiters.items new within absent c.self.invariant.0,
      omega (arith, c.push_reserved.ensures.capacity, c.self.invariant.1),
    )
