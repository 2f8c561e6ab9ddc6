use Rattle.std.proofs.Common.{◌≡◌, ℕ, ◌≤◌, List, ap, ◌∙◌, subst}
use Rattle.lw_word.specs.declared.wait_lists.LwWaiter.{LwWaiter}
use Rattle.lw_word.specs.WaitList.{Waiting, times_in, taken_off, left_waiting}
use Rattle.lw_word.proofs.Lemmas.Waits.{wakeup-somebody}
use Rattle.shared_rule.specs.LwLocks.{lock_number}
use Rattle.shared_rule.specs.Plays.{account_at, number_at, todo_at}
use Rattle.lock_world.specs.Account.{ListAccount}
use Rattle.shared_rule.specs.Todos.{Todo, todo_looked}
use Rattle.std.proofs.Common.{sym}
use Rattle.std.proofs.lemmas.Bool.{both_ways}
use Rattle.shared_rule.proofs.Lemmas.Woken.{some-off, not-there, may-take_all_off, left-in_hand, may-tell_all, woken, left-well, owed-else}
use Rattle.shared_rule.specs.Waiters.{WaitersExist}
use Rattle.shared_rule.proofs.Lemmas.Waiters.{taken-below}
use Rattle.shared_rule.proofs.wakeups.wake_waiters.Goals as goal

pub take_all_off-requires-clause-lawful : goal.take_all_off-requires-clause-lawful
take_all_off-requires-clause-lawful g c =
    let content = g.T.PartTable.content in
    let seat = c.args.seat.now in
    let n = lock_number c.args.lock.now in
    let ws = c.in-Some.list.value.waiters in
    let locks = (c.in-Some.ensures {u = tt}).led in
    let once : (k : ℕ) → times_in k ws ≤ 1 =
    λ k. subst (λ (l : List LwWaiter). times_in k l ≤ 1) (c.waiters-each_once.ensures.value ∙ ap (λ (list : Waiting). list.waiters) c.deref.ensures)
    (c.waiters-each_once.ensures.once.once k) in
    let other = not-there (account_at content seat).lists (number_at seat) n ws c.requires.idle
    (c.in-Some.ensures {u = tt}).stands in
    let taken : c.wake_split-wakeup.result.taken.items ≡ taken_off ws =
    c.wake_split-wakeup.ensures.taken ∙ ap (λ (list : Waiting). taken_off list.waiters) c.deref_mut.ensures.value in
    may-take_all_off content seat c.try_lock_list.new.seat n ws (todo_looked (todo_at seat)) locks c.requires.idle once other c.as_slice.result.now (c.as_slice.ensures.value ∙ taken)

pub unlock_after_wakeup-requires-clause-in_hand : goal.unlock_after_wakeup-requires-clause-in_hand
unlock_after_wakeup-requires-clause-in_hand g c =
    let content = g.T.PartTable.content in
    let seat = c.args.seat.now in
    let n = lock_number c.args.lock.now in
    let ws = c.in-Some.list.value.waiters in
    let locks = (c.in-Some.ensures {u = tt}).led in
    let once : (k : ℕ) → times_in k ws ≤ 1 =
    λ k. subst (λ (l : List LwWaiter). times_in k l ≤ 1) (c.waiters-each_once.ensures.value ∙ ap (λ (list : Waiting). list.waiters) c.deref.ensures)
    (c.waiters-each_once.ensures.once.once k) in
    let other = not-there (account_at content seat).lists (number_at seat) n ws c.requires.idle
    (c.in-Some.ensures {u = tt}).stands in
    let taken : c.wake_split-wakeup.result.taken.items ≡ taken_off ws =
    c.wake_split-wakeup.ensures.taken ∙ ap (λ (list : Waiting). taken_off list.waiters) c.deref_mut.ensures.value in
    left-in_hand content seat c.try_lock_list.new.seat n ws (todo_looked (todo_at seat)) locks c.requires.idle once other c.as_slice.result.now (c.as_slice.ensures.value ∙ taken)
    c.take_all_off.new.seat c.take_all_off.ensures.led c.wake_split-wakeup.new.self.waiters
    (ap (λ (list : Waiting). list.waiters) c.wake_split-wakeup.ensures.left ∙ ap (λ (list : Waiting). left_waiting list.waiters) c.deref_mut.ensures.value)

pub tell_all-requires-clause-lawful : goal.tell_all-requires-clause-lawful
tell_all-requires-clause-lawful g c =
    let content = g.T.PartTable.content in
    let seat = c.args.seat.now in
    let n = lock_number c.args.lock.now in
    let ws = c.in-Some.list.value.waiters in
    let locks = (c.in-Some.ensures {u = tt}).led in
    let once : (k : ℕ) → times_in k ws ≤ 1 =
    λ k. subst (λ (l : List LwWaiter). times_in k l ≤ 1) (c.waiters-each_once.ensures.value ∙ ap (λ (list : Waiting). list.waiters) c.deref.ensures)
    (c.waiters-each_once.ensures.once.once k) in
    let other = not-there (account_at content seat).lists (number_at seat) n ws c.requires.idle
    (c.in-Some.ensures {u = tt}).stands in
    let taken : c.wake_split-wakeup.result.taken.items ≡ taken_off ws =
    c.wake_split-wakeup.ensures.taken ∙ ap (λ (list : Waiting). taken_off list.waiters) c.deref_mut.ensures.value in
    may-tell_all content seat c.try_lock_list.new.seat n ws (todo_looked (todo_at seat)) locks c.requires.idle once other c.as_slice.result.now (c.as_slice.ensures.value ∙ taken)
    c.take_all_off.new.seat c.take_all_off.ensures.led c.unlock_after_wakeup.new.seat c.unlock_after_wakeup.ensures.led
    c.as_slice-2.result.now (c.as_slice-2.ensures.value ∙ taken)

pub returns-clause-led : goal.returns-clause-led
returns-clause-led g c =
    let content = g.T.PartTable.content in
    let seat = c.args.seat.now in
    let n = lock_number c.args.lock.now in
    let ws = c.in-Some.list.value.waiters in
    let locks = (c.in-Some.ensures {u = tt}).led in
    let once : (k : ℕ) → times_in k ws ≤ 1 =
    λ k. subst (λ (l : List LwWaiter). times_in k l ≤ 1) (c.waiters-each_once.ensures.value ∙ ap (λ (list : Waiting). list.waiters) c.deref.ensures)
    (c.waiters-each_once.ensures.once.once k) in
    let other = not-there (account_at content seat).lists (number_at seat) n ws c.requires.idle
    (c.in-Some.ensures {u = tt}).stands in
    let taken : c.wake_split-wakeup.result.taken.items ≡ taken_off ws =
    c.wake_split-wakeup.ensures.taken ∙ ap (λ (list : Waiting). taken_off list.waiters) c.deref_mut.ensures.value in
    woken content seat c.try_lock_list.new.seat n ws (todo_looked (todo_at seat)) locks c.requires.idle once other c.as_slice.result.now (c.as_slice.ensures.value ∙ taken)
    c.take_all_off.new.seat c.take_all_off.ensures.led c.unlock_after_wakeup.new.seat c.unlock_after_wakeup.ensures.led
    c.tell_all.new.seat c.as_slice-2.result.now (c.as_slice-2.ensures.value ∙ taken) c.requires.calls_nobody c.tell_all.ensures.led

pub unlock_after_wakeup-requires-clause-release_stays : goal.unlock_after_wakeup-requires-clause-release_stays
unlock_after_wakeup-requires-clause-release_stays g c = λ clear.
    let content = g.T.PartTable.content in
    let ws = c.in-Some.list.value.waiters in
    let taken : c.wake_split-wakeup.result.taken.items ≡ taken_off ws =
    c.wake_split-wakeup.ensures.taken ∙ ap (λ (list : Waiting). taken_off list.waiters) c.deref_mut.ensures.value in
    let f = some-off c.as_slice.result.now (account_at content c.try_lock_list.new.seat)
    (λ none. both_ways c.wake_split-wakeup.result.release_ok clear
    (c.wake_split-wakeup.ensures.release_ok.1 (ap (λ (list : Waiting). list.waiters) c.deref_mut.ensures.value ∙ wakeup-somebody ws (sym (c.as_slice.ensures.value ∙ taken) ∙ none)))) in
    (f.0, ap (λ a. a.lists.off (f.0)) (c.take_all_off.ensures.led).account ∙ f.1)

pub try_lock_list-requires-clause-tells_nobody : goal.try_lock_list-requires-clause-tells_nobody
try_lock_list-requires-clause-tells_nobody g c = λ other. ap (λ (lists : ListAccount). lists.off other) c.requires.idle

pub unlock_after_wakeup-requires-clause-owes_no_ok : goal.unlock_after_wakeup-requires-clause-owes_no_ok
unlock_after_wakeup-requires-clause-owes_no_ok g c =
    ap (λ (todo : Todo). todo.owes_release_ok) c.take_all_off.ensures.led.todo
    ∙ ap (λ (todo : Todo). todo.owes_release_ok) (owed-else c.as_slice.result.now (todo_at c.try_lock_list.new.seat))
    ∙ ap (λ (todo : Todo). todo.owes_release_ok) (c.in-Some.ensures {u = tt}).led.todo ∙ c.requires.owes_no_ok

pub unlock_after_wakeup-requires-clause-left_well : goal.unlock_after_wakeup-requires-clause-left_well
unlock_after_wakeup-requires-clause-left_well g c =
    let content = g.T.PartTable.content in
    let ws = c.in-Some.list.value.waiters in
    let taken : c.wake_split-wakeup.result.taken.items ≡ taken_off ws =
    c.wake_split-wakeup.ensures.taken ∙ ap (λ (list : Waiting). taken_off list.waiters) c.deref_mut.ensures.value in
    left-well (account_at content c.try_lock_list.new.seat) (account_at content c.take_all_off.new.seat) (todo_at c.take_all_off.new.seat) c.args.lock.now ws
    c.as_slice.result.now c.wake_split-wakeup.new.self.waiters (c.as_slice.ensures.value ∙ taken)
    (ap (λ (list : Waiting). list.waiters) c.wake_split-wakeup.ensures.left ∙ ap (λ (list : Waiting). left_waiting list.waiters) c.deref_mut.ensures.value) c.take_all_off.ensures.led.account

pub take_all_off-requires-clause-exist : goal.take_all_off-requires-clause-exist
take_all_off-requires-clause-exist g c =
    let sessions = c.args.words.now.key.sessions in
    subst (WaitersExist sessions) (sym (c.as_slice.ensures.value ∙ c.wake_split-wakeup.ensures.taken ∙ ap (λ (list : Waiting). taken_off list.waiters) c.deref_mut.ensures.value))
    (taken-below sessions c.in-Some.list.value.waiters (c.in-Some.ensures {u = tt}).exist)

pub tell_all-requires-clause-exist : goal.tell_all-requires-clause-exist
tell_all-requires-clause-exist g c =
    let sessions = c.args.words.now.key.sessions in
    subst (WaitersExist sessions) (sym (c.as_slice-2.ensures.value ∙ c.wake_split-wakeup.ensures.taken ∙ ap (λ (list : Waiting). taken_off list.waiters) c.deref_mut.ensures.value))
    (taken-below sessions c.in-Some.list.value.waiters (c.in-Some.ensures {u = tt}).exist)
