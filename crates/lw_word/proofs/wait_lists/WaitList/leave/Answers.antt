use Rattle.std.proofs.Common.{rules, not, Bool, ◌≡◌, ap, ◌∙◌, arith}
use Rattle.std.proofs.lemmas.Fn.{filter_same}
use Rattle.lw_word.specs.declared.wait_lists.LwWaiter.{LwWaiter}
use Rattle.lw_word.specs.WaitList.{Waiting, is_of, without}
use Rattle.lw_word.proofs.Lemmas.Waits.{EachStandsOnce-filter}
use Rattle.lw_word.proofs.wait_lists.WaitList.leave.Goals as goal

pub invariant_of-self : goal.invariant_of-self
invariant_of-self c =
    let others : LwWaiter → Bool = λ waiter. not (is_of c.args.session waiter) in
    let left : c.retain.new.self.items ≡ without c.args.session c.self.inside.waiters.items =
    filter_same _ others _ (λ x b q called. (search rules, search rules)) _ _ c.retain.ensures.filtered in
    rw left (
      EachStandsOnce-filter c.self.inside.room others c.self.inside.waiters.items c.self.invariant.0,
      omega (arith, c.retain.ensures.capacity, c.self.invariant.1),
    )

pub returns-clause-left : goal.returns-clause-left
returns-clause-left c =
    let others : LwWaiter → Bool = λ waiter. not (is_of c.args.session waiter) in
    let left : c.retain.new.self.items ≡ without c.args.session c.self.inside.waiters.items =
    filter_same _ others _ (λ x b q called. (search rules, search rules)) _ _ c.retain.ensures.filtered in
    ap (λ items. record { waiters = items; room = c.self.inside.room }) left
    ∙ ap (λ (list : Waiting). record list { waiters = without c.args.session list.waiters }) c.self.view_is
