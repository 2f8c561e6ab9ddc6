use Rattle.std.proofs.Common.{refl, sym, ◌∙◌, subst, arith, drop, ◌+◌}
use Rattle.shared_rule.specs.Plays.{account_at, number_at, todo_at}
use Rattle.shared_rule.specs.Wakeups.{all_owed, MayTakeAllOff}
use Rattle.shared_rule.proofs.Lemmas.Led.{led_to-as, led_by-todo, led_to-itself, led-self}
use Rattle.shared_rule.proofs.Lemmas.Queueing.{may_take_off-first, off-next, off-last, owed-next, owed-last}
use Rattle.shared_rule.proofs.Lemmas.Waiters.{one-below}
use Rattle.shared_rule.proofs.wakeups.take_all_off.Goals as goal

pub loop-waiter-init : goal.loop-waiter-init
loop-waiter-init g c = record {
  led = led-self g.T.PartTable.content c.args.seat.now c.requires.session;
  lawful = c.requires.lawful;
  ends = refl;
  owes = refl;
  shelves = refl;
}

pub take_off-requires-clause-lawful : goal.take_off-requires-clause-lawful
take_off-requires-clause-lawful g c =
    let seat = c.loop-waiter.seat in
    (may_take_off-first g.T.PartTable.content c.args.taken.now c.loop-waiter.waiter-index c.waiter-item.result
    c.loop-waiter-test.true c.waiter-item.is (number_at seat) (account_at g.T.PartTable.content seat)
    c.loop-waiter.invariant.lawful).0

pub loop-waiter-preserved : goal.loop-waiter-preserved
loop-waiter-preserved g c =
    let content = g.T.PartTable.content in
    let items = c.args.taken.now in
    let i = c.loop-waiter.waiter-index in
    let waiter = c.waiter-item.result in
    let seat = c.loop-waiter.seat in
    let after = c.take_off.new.seat in
    let led = c.take_off.ensures.led in
    let may = may_take_off-first content items i waiter c.loop-waiter-test.true c.waiter-item.is (number_at seat)
    (account_at content seat) c.loop-waiter.invariant.lawful in
    record {
      led = led_to-itself content c.args.seat.now seat after _ _ _ _ c.loop-waiter.invariant.led led;
      lawful = subst (λ n. MayTakeAllOff n (account_at content after) (drop (i + 1) items)) (sym led.number)
          (subst (λ a. MayTakeAllOff (number_at seat) a (drop (i + 1) items)) (sym led.account) may.1);
      ends = off-next content items i waiter c.loop-waiter-test.true c.waiter-item.is (account_at content seat)
          (account_at content after) _ c.loop-waiter.invariant.ends led.account;
      owes = owed-next items i waiter c.loop-waiter-test.true c.waiter-item.is (todo_at seat) (todo_at after) _ c.loop-waiter.invariant.owes led.todo;
      shelves = c.take_off.ensures.shelves ∙ c.loop-waiter.invariant.shelves;
    }

pub returns-clause-led : goal.returns-clause-led
returns-clause-led g c =
    let content = g.T.PartTable.content in
    let seat = c.loop-waiter.seat in
    led_to-as content c.args.seat.now seat (all_owed (todo_at c.args.seat.now) c.args.taken.now) _ _
    (led_by-todo content c.args.seat.now seat _ _ _ _ c.loop-waiter.invariant.led
    (owed-last c.args.taken.now c.loop-waiter.waiter-index (todo_at seat) _ (omega arith) c.loop-waiter.invariant.owes))
    (off-last c.args.taken.now c.loop-waiter.waiter-index (account_at content seat) _ (omega arith)
    c.loop-waiter.invariant.ends)

pub take_off-requires-clause-exists : goal.take_off-requires-clause-exists
take_off-requires-clause-exists g c =
    one-below c.args.words.now.key.sessions c.args.taken.now c.loop-waiter.waiter-index c.waiter-item.result c.loop-waiter-test.true
    c.waiter-item.is c.requires.exist
