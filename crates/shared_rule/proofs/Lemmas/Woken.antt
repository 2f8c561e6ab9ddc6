use Rattle.std.proofs.Common.{◌≡◌, ◌≢◌, ℕ, ◌≤◌, Bool, true, false, List, [], ◌∷◌, Some, None, refl, sym, ap, ◌∙◌, subst, inl, inr}
use Rattle.std.proofs.lemmas.Bool.{false_from_ne_true, cases_eq, cases_Bool, both_ways, eq-eqb, ne_eqb, false≢true}
use Rattle.std.specs.Prelude.{◌||◌}
use Rattle.atomic_table.specs.declared.shared.Seat.{Seat}
use Rattle.lw_word.specs.declared.wait_lists.LwWaiter.{LwWaiter}
use Rattle.lw_word.specs.WaitList.{stands_in, times_in, taken_off, left_waiting}
use Rattle.lw_word.proofs.Lemmas.Waits.{wakeup-somebody}
use Rattle.lock_table.specs.Content.{Content}
use Rattle.lock_world.specs.Account.{Account, ListAccount}
use Rattle.lock_world.specs.AccountSteps.{account_locking_list, account_unlocking_list, account_taking_off}
use Rattle.shared_rule.specs.declared.history.PlacedView.{PlacedView}
use Rattle.shared_rule.specs.declared.kept.Kept.{Kept}
use Rattle.shared_rule.specs.History.{list_here}
use Rattle.lock_table.proofs.Lemmas.Put.{set_at-here, set_at-else}
use Rattle.shared_rule.specs.Led.{Led, LedTo}
use Rattle.shared_rule.specs.Todos.{Todo, todo_owing, todo_calling, IsLeftWellBy, nobody_waits, took_off}
use Rattle.shared_rule.specs.declared.lw_locks.LwLock.{LwLock}
use Rattle.shared_rule.specs.LwLocks.{no_lists}
use Rattle.shared_rule.specs.Plays.{account_at, number_at, todo_at}
use Rattle.shared_rule.specs.Wakeups.{all_taken_off, all_told, all_owed, all_called, MayTakeAllOff, MayTellAll}
use Rattle.shared_rule.proofs.Lemmas.Led.{led_to-then, led_to-as, led_by-todo}
use Rattle.shared_rule.proofs.Lemmas.TakenOff.{with_list, to_tell, may_take-off, left-waiting, may_tell-all, all-told}

-- A wakeup, step by step: the list is locked, some are taken off it, it is unlocked, and they are told.

-- Whoever stands in no list by its account doesn't stand in one that it locks.
pub not-there : (lists : ListAccount) (number lock : ℕ) (waiters : List LwWaiter) → lists ≡ no_lists
    → (stands_in number waiters ≡ true → lists.stands ≡ Some lock) → stands_in number waiters ≡ false
not-there lists number lock waiters idle stands = false_from_ne_true (stands_in number waiters) (λ there.
    let never : None ≡ Some lock = sym (ap (λ (l : ListAccount). l.stands) idle) ∙ stands there in cc (never))

-- Whom a wakeup leaves to be called: each was taken off, and then called.
stands-first : (k : ℕ) (w : LwWaiter) (ws : List LwWaiter) → k ≡ w.session → stands_in k (w ∷ ws) ≡ true
stands-first k w ws same = ap (λ b. b || stands_in k ws) (eq-eqb k w.session same)

stands-later : (k : ℕ) (w : LwWaiter) (ws : List LwWaiter) → k ≢ w.session → stands_in k (w ∷ ws) ≡ stands_in k ws
stands-later k w ws other = ap (λ b. b || stands_in k ws) (ne_eqb k w.session other)

owed-away : (ws : List LwWaiter) (todo : Todo) (k : ℕ) → stands_in k ws ≡ false → (all_owed todo ws).calls k ≡ todo.calls k
owed-away [] todo k away = refl
owed-away (w ∷ ws) todo k away = elim (cases_eq k w.session) [
  | inl same ↦ absurd (both_ways (stands_in k (w ∷ ws)) away (stands-first k w ws same))
  | inr other ↦ owed-away ws (todo_owing todo w.session) k (sym (stands-later k w ws other) ∙ away) ∙ set_at-else todo.calls w.session true k other
]

called-away : (ws : List LwWaiter) (todo : Todo) (k : ℕ) → stands_in k ws ≡ false → (all_called todo ws).calls k ≡ todo.calls k
called-away [] todo k away = refl
called-away (w ∷ ws) todo k away = elim (cases_eq k w.session) [
  | inl same ↦ absurd (both_ways (stands_in k (w ∷ ws)) away (stands-first k w ws same))
  | inr other ↦ called-away ws (todo_calling (todo_owing todo w.session) w.session) k (sym (stands-later k w ws other) ∙ away)
      ∙ set_at-else (todo_owing todo w.session).calls w.session false k other ∙ set_at-else todo.calls w.session true k other
]

called-here : (ws : List LwWaiter) (todo : Todo) (k : ℕ) → stands_in k ws ≡ true → (all_called todo ws).calls k ≡ false
called-here [] todo k there = absurd (false≢true there)
called-here (w ∷ ws) todo k there = elim (cases_Bool (stands_in k ws)) [
  | inl later ↦ called-here ws (todo_calling (todo_owing todo w.session) w.session) k later
  | inr gone ↦ elim (cases_eq k w.session) [
    | inl same ↦ called-away ws (todo_calling (todo_owing todo w.session) w.session) k gone ∙ set_at-here (todo_owing todo w.session).calls w.session false k same
    | inr other ↦ absurd (both_ways (stands_in k ws) gone (sym (stands-later k w ws other) ∙ there))
  ]
]

-- All else that is to do stays.
pub owed-else : (ws : List LwWaiter) (todo : Todo) → record (all_owed todo ws) { calls = todo.calls } ≡ todo
owed-else [] todo = refl
owed-else (w ∷ ws) todo = ap (λ (t : Todo). record t { calls = todo.calls }) (owed-else ws (todo_owing todo w.session))

called-else : (ws : List LwWaiter) (todo : Todo) → record (all_called todo ws) { calls = todo.calls } ≡ todo
called-else [] todo = refl
called-else (w ∷ ws) todo = ap (λ (t : Todo). record t { calls = todo.calls }) (called-else ws (todo_calling (todo_owing todo w.session) w.session))

-- So there is as much to do after it, if nobody was to be called.
pub all-called : (todo : Todo) (ws : List LwWaiter) → todo.calls ≡ (λ _. false) → all_called (all_owed todo ws) ws ≡ todo
all-called todo ws nobody =
    (λ i. record (all_called (all_owed todo ws) ws) { calls = λ k. each k i })
    ∙ ap (λ (t : Todo). record t { calls = todo.calls }) (called-else ws (all_owed todo ws)) ∙ owed-else ws todo where
      each : (k : ℕ) → (all_called (all_owed todo ws) ws).calls k ≡ todo.calls k
      each k = elim (cases_Bool (stands_in k ws)) [
        | inl there ↦ called-here ws (all_owed todo ws) k there ∙ sym (ap (λ (f : ℕ → Bool). f k) nobody)
        | inr away ↦ called-away ws (all_owed todo ws) k away ∙ owed-away ws todo k away
      ]

module _ {T : Type 0} (content : T → Content) (before locked : Seat (Kept T) (PlacedView T)) (lock : ℕ) (ws : List LwWaiter) (todo : Todo)
    (locks : LedTo content before locked (account_locking_list (account_at content before) lock ws) todo)
    (idle : (account_at content before).lists ≡ no_lists) (once : (k : ℕ) → times_in k ws ≤ 1)
    (other : stands_in (number_at before) ws ≡ false) (taken : List LwWaiter) (is : taken ≡ taken_off ws) where
  abbrev a : Account
  a = account_at content before

  at-locked : account_at content locked ≡ with_list a lock ws (λ _. false)
  at-locked = locks.account
      ∙ ap (λ (lists : ListAccount). record a { lists = record lists { in_hand = Some (record { lock = lock; waiters = ws }) } }) idle

  pub may-take_all_off : MayTakeAllOff (number_at locked) (account_at content locked) taken
  may-take_all_off =
      subst (MayTakeAllOff (number_at locked) (account_at content locked)) (sym is)
      (subst (λ n. MayTakeAllOff n (account_at content locked) (taken_off ws)) (sym locks.number)
      (subst (λ b. MayTakeAllOff (number_at before) b (taken_off ws)) (sym at-locked) (may_take-off (number_at before) a lock ws once other)))

  module _ (off : Seat (Kept T) (PlacedView T)) (takes : LedTo content locked off (all_taken_off (account_at content locked) taken) (all_owed (todo_at locked) taken)) where
    at-off : account_at content off ≡ with_list a lock (left_waiting ws) (λ k. stands_in k (taken_off ws))
    at-off = takes.account ∙ ap (all_taken_off (account_at content locked)) is ∙ ap (λ b. all_taken_off b (taken_off ws)) at-locked
        ∙ left-waiting (number_at before) a lock ws once other

    pub left-in_hand : (left : List LwWaiter) → left ≡ left_waiting ws → (account_at content off).lists.in_hand ≡ Some (record { lock = lock; waiters = left })
    left-in_hand left same = ap (λ (b : Account). b.lists.in_hand) at-off ∙ ap (λ (waiters : List LwWaiter). Some (record { lock = lock; waiters = waiters })) (sym same)

    module _ (unlocked : Seat (Kept T) (PlacedView T)) (unlocks : Led content off unlocked (account_unlocking_list (account_at content off))) where
      at-unlocked : account_at content unlocked ≡ to_tell a (λ k. stands_in k (taken_off ws))
      at-unlocked = unlocks.account ∙ ap account_unlocking_list at-off

      pub may-tell_all : (its : List LwWaiter) → its ≡ taken_off ws → MayTellAll (account_at content unlocked) its
      may-tell_all its same =
          subst (MayTellAll (account_at content unlocked)) (sym same)
          (subst (λ b. MayTellAll b (taken_off ws)) (sym at-unlocked) (may_tell-all (number_at before) a lock ws once other))

      pub woken : (after : Seat (Kept T) (PlacedView T)) (its : List LwWaiter) → its ≡ taken_off ws → todo.calls ≡ (λ _. false)
          → LedTo content unlocked after (all_told (account_at content unlocked) its) (all_called (todo_at unlocked) its)
          → LedTo content before after a todo
      woken after its same nobody tells =
          let one = led_to-then content before locked off (account_locking_list (account_at content before) lock ws) todo (λ b. all_taken_off b taken) (λ t. all_owed t taken) locks takes in
          let two = led_to-then content before off unlocked (all_taken_off (account_locking_list (account_at content before) lock ws) taken) (all_owed todo taken) account_unlocking_list (λ t. t) one unlocks in
          let three = led_to-then content before unlocked after (account_unlocking_list (all_taken_off (account_locking_list (account_at content before) lock ws) taken)) (all_owed todo taken)
          (λ b. all_told b its) (λ t. all_called t its) two tells in
          let done : all_called (all_owed todo taken) its ≡ todo =
          ap (λ (them : List LwWaiter). all_called (all_owed todo them) its) (is ∙ sym same) ∙ all-called todo its nobody in
          led_to-as content before after todo _ a (led_by-todo content before after _ _ _ todo three done)
          (sym three.account ∙ tells.account ∙ ap (all_told (account_at content unlocked)) same ∙ ap (λ b. all_told b (taken_off ws)) at-unlocked
          ∙ all-told (number_at before) a lock ws once other
          ∙ (λ i. record a { lists = sym idle i }))

-- Whoever was taken off has yet to be told.
off-kept : (ws : List LwWaiter) (a : Account) (k : ℕ) → a.lists.off k ≡ true → (all_taken_off a ws).lists.off k ≡ true
off-kept [] a k off = off
off-kept (w ∷ ws) a k off = off-kept ws (account_taking_off a (list_here a.lists.in_hand) w.session) k (elim (cases_eq k w.session) [
  | inl same ↦ set_at-here a.lists.off w.session true k same
  | inr other ↦ set_at-else a.lists.off w.session true k other ∙ off
])

pub some-off : (ws : List LwWaiter) (a : Account) → (ws ≡ [] → ⊥) → (k : ℕ) × ((all_taken_off a ws).lists.off k ≡ true)
some-off [] a some = absurd (some refl)
some-off (w ∷ ws) a some = (w.session, off-kept ws (account_taking_off a (list_here a.lists.in_hand) w.session) w.session (set_at-here a.lists.off w.session true w.session refl))

-- A list is left well after a wakeup: nobody was there, or somebody was taken off.
pub left-well : (a b : Account) (todo : Todo) (lock : LwLock) (ws taken left : List LwWaiter) → taken ≡ taken_off ws → left ≡ left_waiting ws
    → b ≡ all_taken_off a taken → IsLeftWellBy b todo lock left
left-well a b todo lock [] taken left is rest now = nobody_waits rest
left-well a b todo lock (w ∷ ws) taken left is rest now =
    let f = some-off taken a (λ none. absurd (let never : w ∷ ws ≡ [] = wakeup-somebody (w ∷ ws) (sym is ∙ none) in cc (never))) in
    took_off f.0 (ap (λ (c : Account). c.lists.off f.0) now ∙ f.1)

-- A list that was left well is so still after a step that changes neither the account nor what is to do.
pub well-then : (a b : Account) (todo other : Todo) (lock : LwLock) (ws : List LwWaiter) → b ≡ a → other ≡ todo → IsLeftWellBy a todo lock ws → IsLeftWellBy b other lock ws
well-then a b todo other lock ws same as_much well = subst (λ (c : Account). IsLeftWellBy c other lock ws) (sym same) (subst (λ (t : Todo). IsLeftWellBy a t lock ws) (sym as_much) well)
