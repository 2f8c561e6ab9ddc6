use Rattle.shared_rule.specs.LwLocks.{lock_number}
use Rattle.shared_rule.specs.Plays.{account_at, number_at, todo_at}
use Rattle.shared_rule.proofs.Lemmas.Led.{led_by-todo, none-owed, owes-none}
use Rattle.shared_rule.proofs.wakeups.set_release_ok_if.Goals as goal

pub returns-clause-led : goal.returns-clause-led
returns-clause-led g c =
    let content = g.T.PartTable.content in
    let seat = c.args.seat.now in
    led_by-todo content seat c.set_release_ok.new.seat _ _ _ (todo_at seat) c.set_release_ok.ensures.led
    (none-owed (number_at seat) (account_at content seat).lists (todo_at seat) (lock_number c.args.lock.now) c.requires.owes_no_ok)

pub set_release_ok-requires-clause-no_other : goal.set_release_ok-requires-clause-no_other
set_release_ok-requires-clause-no_other g c = λ owes. owes-none (todo_at c.args.seat.now) (lock_number c.args.lock.now) c.requires.owes_no_ok owes

pub set_release_ok-requires-clause-tells_nobody : goal.set_release_ok-requires-clause-tells_nobody
set_release_ok-requires-clause-tells_nobody g c = λ owes. owes-none (todo_at c.args.seat.now) (lock_number c.args.lock.now) c.requires.owes_no_ok owes

pub set_release_ok-requires-clause-told : goal.set_release_ok-requires-clause-told
set_release_ok-requires-clause-told g c = λ owes. owes-none (todo_at c.args.seat.now) (lock_number c.args.lock.now) c.requires.owes_no_ok owes
