use Rattle.std.proofs.Common.{◌≡◌, ◌∷◌, true, Some, inl, sym, ap, ◌∙◌, subst}
use Rattle.lw_word.specs.WaitList.{stands_in}
use Rattle.lock_world.specs.Account.{Account}
use Rattle.lock_world.specs.AccountSteps.{account_locking_list}
use Rattle.shared_rule.specs.declared.kept.Kept.TheVariants.{Nothing}
use Rattle.shared_rule.specs.Layout.{list_shelf_of}
use Rattle.shared_rule.specs.LwLocks.{lock_number}
use Rattle.shared_rule.specs.Plays.{account_at, todo_at}
use Rattle.shared_rule.specs.Todos.{Todo, todo_looked}
use Rattle.shared_rule.proofs.Lemmas.Acquires.{nothing-then_got}
use Rattle.shared_rule.proofs.Lemmas.Led.{led-self, led_by-todo, led_to-then, looked-same}
use Rattle.shared_rule.proofs.queues.lock_list.Goals as goal

pub loop-init : goal.loop-init
loop-init g c = record { led = led-self g.T.PartTable.content c.args.seat.now c.requires.session; shelves = Rattle.std.proofs.Common.refl }

pub returns-in-Some-try_lock_list-clause-led : goal.returns-in-Some-try_lock_list-clause-led
returns-in-Some-try_lock_list-clause-led g c =
    let content = g.T.PartTable.content in
    let seat = c.args.seat.now in
    led_by-todo content seat c.try_lock_list.new.seat _ _ (todo_looked (todo_at seat)) (todo_at seat)
    (led_to-then content seat c.loop.seat c.try_lock_list.new.seat (account_at content seat) (todo_at seat)
    (λ a. account_locking_list a (lock_number c.args.lock.now) c.in-Some-try_lock_list.list.value.waiters) todo_looked
    c.loop.invariant.led (c.in-Some-try_lock_list.ensures {u = tt}).led)
    (looked-same (todo_at seat) c.requires.no_look)

pub returns-in-Some-try_lock_list-clause-shelves : goal.returns-in-Some-try_lock_list-clause-shelves
returns-in-Some-try_lock_list-clause-shelves g c =
    (c.in-Some-try_lock_list.ensures {u = tt}).shelves
    ∙ ap (λ slots. (list_shelf_of (lock_number c.args.lock.now), Nothing) ∷ slots) c.loop.invariant.shelves

pub returns-in-Some-try_lock_list-clause-stands : goal.returns-in-Some-try_lock_list-clause-stands
returns-in-Some-try_lock_list-clause-stands g c = λ there.
    ap (λ (a : Account). a.lists.stands) (sym c.loop.invariant.led.account)
    ∙ (c.in-Some-try_lock_list.ensures {u = tt}).stands
    (ap (λ n. stands_in n c.in-Some-try_lock_list.list.value.waiters) c.loop.invariant.led.number ∙ there)

pub try_lock_list-requires-clause-no_list : goal.try_lock_list-requires-clause-no_list
try_lock_list-requires-clause-no_list g c = ap (λ (a : Account). a.lists.in_hand) c.loop.invariant.led.account ∙ c.requires.no_list

pub try_lock_list-requires-clause-no_other_look : goal.try_lock_list-requires-clause-no_other_look
try_lock_list-requires-clause-no_other_look g c = inl (ap (λ (todo : Todo). todo.due) c.loop.invariant.led.todo ∙ c.requires.no_look)

pub try_lock_list-requires-clause-tells_nobody : goal.try_lock_list-requires-clause-tells_nobody
try_lock_list-requires-clause-tells_nobody g c = λ other. ap (λ (a : Account). a.lists.off other) c.loop.invariant.led.account ∙ c.requires.tells_nobody other

pub loop-preserved : goal.loop-preserved
loop-preserved g c =
    let content = g.T.PartTable.content in
    let seat = c.args.seat.now in
    let next = nothing-then_got content seat c.loop.seat c.try_lock_list.new.seat c.loop.invariant todo_looked (c.in_default.ensures {u = tt}).none in
    record {
      led = led_by-todo content seat c.try_lock_list.new.seat _ _ (todo_looked (todo_at seat)) (todo_at seat) next.led (looked-same (todo_at seat) c.requires.no_look);
      shelves = next.shelves;
    }
