use Rattle.std.proofs.Common.{ap, inl}
use Rattle.lock_world.specs.Account.{Account, ListAccount}
use Rattle.shared_rule.specs.Todos.{Todo}
use Rattle.shared_rule.proofs.queues.sleep_for.Goals as goal

pub sleep_until_told-requires-clause-may : goal.sleep_until_told-requires-clause-may
sleep_until_told-requires-clause-may g c = record {
  lock = c.args.lock.now;
  stands = ap (λ (lists : ListAccount). lists.stands) c.requires.queued;
  not_won = inl c.requires.latest;
  wakes_nobody = c.requires.wakes_nobody;
  no_look = ap (λ (todo : Todo). todo.due) c.requires.todo;
  no_try = ap (λ (todo : Todo). todo.tries) c.requires.todo;
  no_list = ap (λ (lists : ListAccount). lists.in_hand) c.requires.queued;
  tells_nobody = λ other. ap (λ (lists : ListAccount). lists.off other) c.requires.queued;
  calls_nobody = λ other. ap (λ (todo : Todo). todo.calls other) c.requires.todo;
}

pub set_release_ok-requires-clause-told : goal.set_release_ok-requires-clause-told
set_release_ok-requires-clause-told g c = λ owes. inl (ap (λ (a : Account). a.lists.stands) c.sleep_until_told.ensures.led.account)
