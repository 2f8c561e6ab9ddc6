use Rattle.std.proofs.Common.{◌≡◌, ℕ, Option, Some, None, refl, sym, ap, ◌∙◌, subst}
use Rattle.lock_world.specs.Account.{Account, ListAccount, ListInHand}
use Rattle.shared_rule.specs.LwLocks.{lock_number}
use Rattle.shared_rule.proofs.Lemmas.Orders.{latest-with}
use Rattle.shared_rule.proofs.Lemmas.Queueing.{list-in_hand, stands-still, queued}
use Rattle.lock_world.specs.Wakes.Waking.{NoneOr}
use Rattle.shared_rule.specs.Plays.{account_at, todo_at}
use Rattle.shared_rule.specs.Todos.{Todo, IsLatestBy, tries_next, lock_of_list}
use Rattle.shared_rule.proofs.queues.queue_self.Goals as goal

-- the number of the lock whose list is in hand
abbrev number_or : Option ListInHand → ℕ
number_or None = 0
number_or (Some mine) = mine.lock

pub set_has_waiters-requires-clause-lawful : goal.set_has_waiters-requires-clause-lawful
set_has_waiters-requires-clause-lawful g c = (
  record { lock = lock_number c.args.lock.now; waiters = c.lock_list-list.result.value.waiters },
  list-in_hand g.T.PartTable.content c.args.seat.now c.lock_list-list.new.seat (lock_number c.args.lock.now)
      c.lock_list-list.result.value.waiters c.lock_list-list.ensures.led,
  refl,
)

pub join_list-requires-clause-lawful : goal.join_list-requires-clause-lawful
join_list-requires-clause-lawful g c =
    let content = g.T.PartTable.content in
    let n = lock_number c.args.lock.now in
    let flags = c.set_has_waiters.ensures.led.account in (
      record { lock = n; waiters = c.lock_list-list.result.value.waiters },
      record {
        in_hand = ap (λ (a : Account). a.lists.in_hand) flags
            ∙ list-in_hand content c.args.seat.now c.lock_list-list.new.seat n c.lock_list-list.result.value.waiters c.lock_list-list.ensures.led;
        in_none = ap (λ (a : Account). a.lists.stands) flags
            ∙ stands-still content c.args.seat.now c.lock_list-list.new.seat n c.lock_list-list.result.value.waiters c.lock_list-list.ensures.led
            ∙ ap (λ (lists : ListAccount). lists.stands) c.requires.idle;
      },
    )

pub returns-clause-led : goal.returns-clause-led
returns-clause-led g c =
    queued g.T.PartTable.content c.args.seat.now c.lock_list-list.new.seat (lock_number c.args.lock.now)
    c.lock_list-list.result.value.waiters c.lock_list-list.ensures.led
    c.set_has_waiters.new.seat c.join_list.new.seat c.unlock_list.new.seat
    (record { session = c.args.number; mode = c.args.mode }) c.requires.idle c.requires.todo
    c.set_has_waiters.ensures.led c.join_list.ensures.led c.unlock_list.ensures.led

pub join_list-requires-clause-owes_no_ok : goal.join_list-requires-clause-owes_no_ok
join_list-requires-clause-owes_no_ok g c =
    ap (λ (todo : Todo). todo.owes_release_ok) (c.set_has_waiters.ensures.led.todo ∙ c.lock_list-list.ensures.led.todo) ∙ c.requires.todo.no_ok

pub join_list-requires-clause-no_other : goal.join_list-requires-clause-no_other
join_list-requires-clause-no_other g c = λ mine in_hand.
    let n = lock_number c.args.lock.now in
    let both : Some (record { lock = n; waiters = c.lock_list-list.result.value.waiters }) ≡ Some mine =
    sym (ap (λ (a : Account). a.lists.in_hand) c.set_has_waiters.ensures.led.account
    ∙ list-in_hand g.T.PartTable.content c.args.seat.now c.lock_list-list.new.seat n c.lock_list-list.result.value.waiters c.lock_list-list.ensures.led) ∙ in_hand in
    let same : n ≡ mine.lock = ap (λ its. number_or its) both in
    subst (NoneOr (todo_at c.set_has_waiters.new.seat).tries) same
    (subst (λ (todo : Todo). NoneOr todo.tries n) (sym (c.set_has_waiters.ensures.led.todo ∙ c.lock_list-list.ensures.led.todo)) c.requires.todo.no_other)

pub unlock_list-requires-clause-left_well : goal.unlock_list-requires-clause-left_well
unlock_list-requires-clause-left_well g c =
    tries_next (ap (λ (todo : Todo). todo.tries) c.join_list.ensures.led.todo
    ∙ ap (λ (a : Account). lock_of_list a.lists.in_hand) c.set_has_waiters.ensures.led.account
    ∙ ap lock_of_list (list-in_hand g.T.PartTable.content c.args.seat.now c.lock_list-list.new.seat (lock_number c.args.lock.now) c.lock_list-list.result.value.waiters c.lock_list-list.ensures.led))

pub join_list-requires-clause-latest : goal.join_list-requires-clause-latest
join_list-requires-clause-latest g c =
    let content = g.T.PartTable.content in
    let n = lock_number c.args.lock.now in
    let list = list-in_hand content c.args.seat.now c.lock_list-list.new.seat n c.lock_list-list.result.value.waiters c.lock_list-list.ensures.led in
    record {
      sessions = c.args.words.now.key.sessions;
      lock = c.args.lock.now;
      there = c.requires.exists;
      in_hand = ap (λ (a : Account). lock_of_list a.lists.in_hand) c.set_has_waiters.ensures.led.account ∙ ap lock_of_list list;
      latest = subst (λ (a : Account). IsLatestBy a c.args.lock.now) (sym (c.set_has_waiters.ensures.led.account ∙ c.lock_list-list.ensures.led.account))
          (latest-with (account_at content c.args.seat.now) _ c.args.lock.now c.requires.latest);
    }
