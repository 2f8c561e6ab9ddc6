use Rattle.std.proofs.Common.{◌≡◌, false, List, Some, inl, inr, sym, ap, ◌∙◌}
use Rattle.lw_word.specs.declared.wait_lists.LwWaiter.{LwWaiter}
use Rattle.lw_word.specs.WaitList.{Waiting, stands_in, without}
use Rattle.shared_rule.specs.LwLocks.{lock_number}
use Rattle.shared_rule.proofs.Lemmas.TakenOff.{left-alone}
use Rattle.lock_world.specs.Account.{Account, ListAccount}
use Rattle.lock_world.specs.AccountSteps.{account_unlocking_list, account_leaving_list}
use Rattle.shared_rule.specs.History.{list_here}
use Rattle.shared_rule.specs.Plays.{account_at, number_at}
use Rattle.shared_rule.specs.Todos.{Todo, still_has, lock_of_list}
use Rattle.shared_rule.proofs.Lemmas.Queueing.{list-in_hand, dequeued, taken_off-told, won-todo, got-left}
use Rattle.shared_rule.proofs.queues.dequeue_self.Goals as goal

pub leave_list-requires-clause-lawful : goal.leave_list-requires-clause-lawful
leave_list-requires-clause-lawful g c =
    let n = lock_number c.args.lock.now in (
      record { lock = n; waiters = c.lock_list-list.result.value.waiters },
      record {
        in_hand = list-in_hand g.T.PartTable.content c.args.seat.now c.lock_list-list.new.seat n c.lock_list-list.result.value.waiters c.lock_list-list.ensures.led;
        stands =
            ap (λ k. stands_in k c.lock_list-list.result.value.waiters) (c.lock_list-list.ensures.led.number ∙ sym c.requires.own)
            ∙ ap (λ (list : Waiting). stands_in c.args.number list.waiters) (sym c.deref_mut.ensures.value)
            ∙ sym c.leave.ensures.found
            ∙ c.if-leave.true;
      },
    )

pub unlock_list-requires-else-leave-clause-in_hand : goal.unlock_list-requires-else-leave-clause-in_hand
unlock_list-requires-else-leave-clause-in_hand g c =
    let n = lock_number c.args.lock.now in
    let waiters = c.lock_list-list.result.value.waiters in
    let missing : stands_in c.args.number waiters ≡ false =
    ap (λ (list : Waiting). stands_in c.args.number list.waiters) (sym c.deref_mut.ensures.value) ∙ sym c.leave.ensures.found ∙ c.if-leave.false in
    ap (λ (a : Account). a.lists.in_hand) c.set_release_ok.ensures.led.account
    ∙ list-in_hand g.T.PartTable.content c.args.seat.now c.lock_list-list.new.seat n waiters c.lock_list-list.ensures.led
    ∙ ap (λ (ws : List LwWaiter). Some (record { lock = n; waiters = ws }))
    (sym (ap (λ (list : Waiting). list.waiters) c.leave.ensures.left ∙ ap (λ (list : Waiting). without c.args.number list.waiters) c.deref_mut.ensures.value
    ∙ left-alone c.args.number waiters missing))

pub returns-then-leave-clause-led : goal.returns-then-leave-clause-led
returns-then-leave-clause-led g c =
    dequeued g.T.PartTable.content c.args.seat.now c.lock_list-list.new.seat (lock_number c.args.lock.now)
    c.lock_list-list.result.value.waiters c.lock_list-list.ensures.led
    c.leave_list.new.seat c.unlock_list.new.seat c.args.number c.requires.queued c.requires.todo
    c.leave_list.ensures.led c.unlock_list.ensures.led

pub returns-else-leave-clause-led : goal.returns-else-leave-clause-led
returns-else-leave-clause-led g c =
    let waiters = c.lock_list-list.result.value.waiters in
    let number = c.lock_list-list.ensures.led.number ∙ sym c.requires.own in
    let missing : stands_in c.args.number waiters ≡ false =
    ap (λ (list : Waiting). stands_in c.args.number list.waiters) (sym c.deref_mut.ensures.value) ∙ sym c.leave.ensures.found ∙ c.if-leave.false in
    taken_off-told g.T.PartTable.content c.args.seat.now c.lock_list-list.new.seat (lock_number c.args.lock.now)
    waiters c.lock_list-list.ensures.led
    c.set_release_ok.new.seat c.unlock_list-else-leave.new.seat c.sleep_until_told.new.seat (number_at c.lock_list-list.new.seat) c.requires.queued c.requires.todo
    (ap (λ n. stands_in n waiters) number ∙ missing)
    c.set_release_ok.ensures.led c.unlock_list-else-leave.ensures.led c.sleep_until_told.ensures.led

pub unlock_list-requires-clause-left_well : goal.unlock_list-requires-clause-left_well
unlock_list-requires-clause-left_well g c =
    still_has (got-left c.args.lock.now (account_at g.T.PartTable.content c.args.seat.now) _ _
    (c.leave_list.ensures.led.account ∙ ap (λ (a : Account). account_leaving_list a (list_here a.lists.in_hand) c.args.number) c.lock_list-list.ensures.led.account) c.requires.got)

pub unlock_list-requires-else-leave-clause-left_well : goal.unlock_list-requires-else-leave-clause-left_well
unlock_list-requires-else-leave-clause-left_well g c =
    still_has (got-left c.args.lock.now (account_at g.T.PartTable.content c.args.seat.now) _ _
    (c.set_release_ok.ensures.led.account ∙ c.lock_list-list.ensures.led.account) c.requires.got)

pub set_release_ok-requires-clause-no_other : goal.set_release_ok-requires-clause-no_other
set_release_ok-requires-clause-no_other g c = λ owes stands. inl (ap (λ (todo : Todo). todo.tries) (c.lock_list-list.ensures.led.todo ∙ c.requires.todo))

pub set_release_ok-requires-clause-tells_nobody : goal.set_release_ok-requires-clause-tells_nobody
set_release_ok-requires-clause-tells_nobody g c = λ owes in_hand other.
    ap (λ (a : Account). a.lists.off other) c.lock_list-list.ensures.led.account ∙ ap (λ (lists : ListAccount). lists.off other) c.requires.queued

pub sleep_until_told-requires-clause-may : goal.sleep_until_told-requires-clause-may
sleep_until_told-requires-clause-may g c =
    let waiters = c.lock_list-list.result.value.waiters in
    let number = c.lock_list-list.ensures.led.number ∙ sym c.requires.own in
    let missing : stands_in c.args.number waiters ≡ false =
    ap (λ (list : Waiting). stands_in c.args.number list.waiters) (sym c.deref_mut.ensures.value) ∙ sym c.leave.ensures.found ∙ c.if-leave.false in
    let done = c.unlock_list-else-leave.ensures.led.todo ∙ c.set_release_ok.ensures.led.todo
    ∙ won-todo g.T.PartTable.content c.args.seat.now c.lock_list-list.new.seat (lock_number c.args.lock.now) waiters c.lock_list-list.ensures.led
    (number_at c.lock_list-list.new.seat) c.requires.queued c.requires.todo (ap (λ n. stands_in n waiters) number ∙ missing) in
    let account = c.unlock_list-else-leave.ensures.led.account ∙ ap account_unlocking_list (c.set_release_ok.ensures.led.account ∙ c.lock_list-list.ensures.led.account) in
    record {
      lock = c.args.lock.now;
      stands = ap (λ (a : Account). a.lists.stands) account ∙ ap (λ (lists : ListAccount). lists.stands) c.requires.queued;
      not_won = inr (ap (λ (todo : Todo). todo.owes_release_ok) done);
      wakes_nobody = c.unlock_list-else-leave.ensures.led.owed ∙ c.set_release_ok.ensures.led.owed ∙ c.lock_list-list.ensures.led.owed ∙ c.requires.wakes_nobody;
      no_look = ap (λ (todo : Todo). todo.due) done;
      no_try = ap (λ (todo : Todo). todo.tries) done;
      calls_nobody = λ other. ap (λ (todo : Todo). todo.calls other) done;
      no_list = ap (λ (a : Account). a.lists.in_hand) c.unlock_list-else-leave.ensures.led.account;
      tells_nobody = λ other.
          ap (λ (a : Account). a.lists.off other) (c.unlock_list-else-leave.ensures.led.account ∙ ap account_unlocking_list (c.set_release_ok.ensures.led.account ∙ c.lock_list-list.ensures.led.account))
          ∙ ap (λ (lists : ListAccount). lists.off other) c.requires.queued;
    }

pub set_release_ok-requires-clause-told : goal.set_release_ok-requires-clause-told
set_release_ok-requires-clause-told g c = λ owes.
    inr (ap lock_of_list (list-in_hand g.T.PartTable.content c.args.seat.now c.lock_list-list.new.seat (lock_number c.args.lock.now) c.lock_list-list.result.value.waiters c.lock_list-list.ensures.led))
