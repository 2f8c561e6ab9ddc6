use Rattle.shared_rule.specs.Todos.{todo_calling}
use Rattle.std.proofs.Common.{refl, sym, ap, ◌∙◌, subst, arith, drop, ◌+◌}
use Rattle.shared_rule.specs.Plays.{account_at, todo_at}
use Rattle.shared_rule.specs.Wakeups.{all_called, MayTellAll}
use Rattle.shared_rule.proofs.Lemmas.Led.{led_to-as, led_by-todo, led_to-itself, led-self}
use Rattle.shared_rule.proofs.Lemmas.Queueing.{may_tell-first, told-next, told-last, called-next, called-last}
use Rattle.shared_rule.proofs.Lemmas.Waiters.{one-below}
use Rattle.shared_rule.proofs.wakeups.tell_all.Goals as goal

pub loop-waiter-init : goal.loop-waiter-init
loop-waiter-init g c = record {
  led = led-self g.T.PartTable.content c.args.seat.now c.requires.session;
  lawful = c.requires.lawful;
  ends = refl;
  calls = refl;
  shelves = refl;
}

pub tell-requires-clause-lawful : goal.tell-requires-clause-lawful
tell-requires-clause-lawful g c =
    let seat = c.loop-waiter.seat in
    (may_tell-first g.T.PartTable.content c.args.taken.now c.loop-waiter.waiter-index c.waiter-item.result
    c.loop-waiter-test.true c.waiter-item.is (account_at g.T.PartTable.content seat)
    c.loop-waiter.invariant.lawful).0

pub loop-waiter-preserved : goal.loop-waiter-preserved
loop-waiter-preserved g c =
    let content = g.T.PartTable.content in
    let items = c.args.taken.now in
    let i = c.loop-waiter.waiter-index in
    let waiter = c.waiter-item.result in
    let seat = c.loop-waiter.seat in
    let told = c.tell.new.seat in
    let after = c.call_sleeper.new.seat in
    let led = c.tell.ensures.led in
    let calls = c.call_sleeper.ensures.led in
    let may = may_tell-first content items i waiter c.loop-waiter-test.true c.waiter-item.is
    (account_at content seat) c.loop-waiter.invariant.lawful in
    record {
      led = led_to-itself content c.args.seat.now told after _ _ _ _ (led_to-itself content c.args.seat.now seat told _ _ _ _ c.loop-waiter.invariant.led led) calls;
      lawful = subst (λ a. MayTellAll a (drop (i + 1) items)) (sym (calls.account ∙ led.account)) may.1;
      ends = told-next content items i waiter c.loop-waiter-test.true c.waiter-item.is (account_at content seat)
          (account_at content after) _ c.loop-waiter.invariant.ends (calls.account ∙ led.account);
      calls = called-next items i waiter c.loop-waiter-test.true c.waiter-item.is (todo_at seat) (todo_at after) _ c.loop-waiter.invariant.calls
          (calls.todo ∙ ap (λ t. todo_calling t waiter.session) led.todo);
      shelves = c.call_sleeper.ensures.shelves ∙ c.tell.ensures.shelves ∙ c.loop-waiter.invariant.shelves;
    }

pub returns-clause-led : goal.returns-clause-led
returns-clause-led g c =
    let content = g.T.PartTable.content in
    let seat = c.loop-waiter.seat in
    led_to-as content c.args.seat.now seat (all_called (todo_at c.args.seat.now) c.args.taken.now) _ _
    (led_by-todo content c.args.seat.now seat _ _ _ _ c.loop-waiter.invariant.led
    (called-last c.args.taken.now c.loop-waiter.waiter-index (todo_at seat) _ (omega arith) c.loop-waiter.invariant.calls))
    (told-last c.args.taken.now c.loop-waiter.waiter-index (account_at content seat) _ (omega arith)
    c.loop-waiter.invariant.ends)

pub tell-requires-clause-exists : goal.tell-requires-clause-exists
tell-requires-clause-exists g c =
    one-below c.args.words.now.key.sessions c.args.taken.now c.loop-waiter.waiter-index c.waiter-item.result c.loop-waiter-test.true
    c.waiter-item.is c.requires.exist

pub call_sleeper-requires-clause-exists : goal.call_sleeper-requires-clause-exists
call_sleeper-requires-clause-exists g c =
    one-below c.args.words.now.key.sessions c.args.taken.now c.loop-waiter.waiter-index c.waiter-item.result c.loop-waiter-test.true
    c.waiter-item.is c.requires.exist
