use Rattle.lock_world.specs.AccountSteps.{account_unlocking_list}
use Rattle.shared_rule.specs.Plays.{account_at, todo_at}
use Rattle.shared_rule.proofs.Lemmas.Woken.{well-then}
use Rattle.shared_rule.proofs.Lemmas.Led.{led-then}
use Rattle.shared_rule.proofs.wakeups.unlock_after_wakeup.Goals as goal

pub returns-clause-led : goal.returns-clause-led
returns-clause-led g c =
    let content = g.T.PartTable.content in
    let seat = c.args.seat.now in
    led-then content seat c.set_release_ok_if.new.seat c.unlock_list.new.seat (account_at content seat)
    account_unlocking_list c.set_release_ok_if.ensures.led c.unlock_list.ensures.led

pub unlock_list-requires-clause-left_well : goal.unlock_list-requires-clause-left_well
unlock_list-requires-clause-left_well g c =
    well-then (account_at g.T.PartTable.content c.args.seat.now) (account_at g.T.PartTable.content c.set_release_ok_if.new.seat)
    (todo_at c.args.seat.now) (todo_at c.set_release_ok_if.new.seat) c.args.lock.now c.args.list.value.waiters
    c.set_release_ok_if.ensures.led.account c.set_release_ok_if.ensures.led.todo c.requires.left_well
