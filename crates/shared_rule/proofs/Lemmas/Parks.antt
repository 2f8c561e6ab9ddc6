use Rattle.std.proofs.Common.{◌≡◌, ℕ, ◌<◌, arith, false, List, [], ◌∷◌, Option, Some, None, refl, sym, ap, ◌∙◌, subst, inl, inr}
use Rattle.std.proofs.lemmas.Bool.{cases_Bool, false≢true}
use Rattle.lw_word.specs.declared.wait_lists.LwWaiter.{LwWaiter}
use Rattle.lock_world.specs.World.{World}
use Rattle.lock_world.specs.SafeWorld.{SafeWorld}
use Rattle.lock_world.specs.Account.{Account, account, list_in_hand}
use Rattle.lock_world.specs.Wakes.{Beside}
use Rattle.lock_world.specs.Wakes.Waking.{rank}
use Rattle.lock_world.specs.Wakes.Owing.{HasNothingToDo, MaySleep}
use Rattle.atomic_table.specs.declared.shared.Seat.{Seat}
use Rattle.lock_table.specs.Content.{Content}
use Rattle.shared_rule.specs.declared.history.History.{History}
use Rattle.shared_rule.specs.declared.history.Mark.{Mark}
use Rattle.shared_rule.specs.declared.history.PlacedView.{PlacedView}
use Rattle.shared_rule.specs.declared.kept.Kept.{Kept}
use Rattle.shared_rule.specs.Boards.{first_marks}
use Rattle.shared_rule.specs.History.{told, noting, noting_first, first_account}
use Rattle.shared_rule.specs.Owed.{owed_told, first_owed}
use Rattle.shared_rule.specs.Plays.{side_of, Side, account_at, todo_at, owed_at, HasSession}
use Rattle.shared_rule.specs.Led.{Led}
use Rattle.shared_rule.specs.LwLocks.{lock_number}
use Rattle.shared_rule.specs.Parks.{HasNothingLeft}
use Rattle.shared_rule.specs.Ruled.{todo_of, OwesAsTold}
use Rattle.shared_rule.specs.Todos.{Todo, without_lost, MaySleepBy, todo_told_by, first_todo}
use Rattle.shared_rule.proofs.Lemmas.Orders.{earlier-than, no-lock-by}
use Rattle.shared_rule.proofs.Lemmas.Owings.{tells-told}

-- A session that has nothing left to do by its account and its history may park.

none-owed : (b : Beside) (k : ℕ) (owed : List ℕ) → owed ≡ [] → OwesAsTold b k owed → (other : ℕ) → b.waits.owed k other ≡ false
none-owed b k owed none owes other = elim (cases_Bool (b.waits.owed k other)) [
  | inl is ↦ absurd (false≢true (subst (OwesAsTold b k) none owes other is))
  | inr isnt ↦ isnt
]

no-hand : (has : Option ℕ) (list : ℕ → List LwWaiter) → list_in_hand has list ≡ None → has ≡ None
no-hand None list none = refl
no-hand (Some lock) list none = absurd (cc (none))

module _ (w : World) (k : ℕ) (a : Account) (shows : a ≡ account w k) (safe : SafeWorld w) (unshared : (q : ℕ) → a.shares q ≡ false)
    (b : Beside) (todo : Todo) (owed : List ℕ) (is : without_lost todo ≡ todo_of b k) (owes : OwesAsTold b k owed) where
  no-list : a.lists.in_hand ≡ None → w.sessions.has_list k ≡ None
  no-list none = no-hand (w.sessions.has_list k) w.words.list (sym (ap (λ (c : Account). c.lists.in_hand) shows) ∙ none)

  pub nothing-left_to_do : HasNothingLeft a todo owed → HasNothingToDo w b.duties b.waits b.sleeps k
  nothing-left_to_do left = record {
    no_lock = no-lock-by w k a shows safe unshared left.no_lock;
    no_look = ap (λ (t : Todo). t.due) (sym is ∙ ap without_lost left.free);
    no_try = ap (λ (t : Todo). t.tries) (sym is ∙ ap without_lost left.free);
    no_ok = ap (λ (t : Todo). t.owes_release_ok) (sym is ∙ ap without_lost left.free);
    no_list = no-list (ap (λ lists. lists.in_hand) left.no_lists_);
    tells_nobody = tells-told w k a shows safe (λ other. ap (λ lists. lists.off other) left.no_lists_);
    calls_no_waiter = none-owed b k owed left.wakes_nobody owes;
    calls_no_sleeper = λ other. ap (λ (t : Todo). t.calls other) (sym is ∙ ap without_lost left.free);
  }

  not-own : (n : ℕ) → n < n → ⊥
  not-own n less = omega (arith, less)

  pub may-sleep : MaySleepBy a todo owed → MaySleep w b.duties b.waits b.sleeps k
  may-sleep may = record {
    lock = lock_number may.lock;
    stands = sym (ap (λ (c : Account). c.lists.stands) shows) ∙ may.stands;
    not_won = λ has. elim may.not_won [
      | inl latest ↦ absurd (not-own (rank (lock_number may.lock)) (earlier-than w k a shows safe unshared may.lock latest (lock_number may.lock) has))
      | inr none ↦ ap (λ (t : Todo). t.owes_release_ok) (sym is) ∙ none
    ];
    no_look = ap (λ (t : Todo). t.due) (sym is) ∙ may.no_look;
    no_try = ap (λ (t : Todo). t.tries) (sym is) ∙ may.no_try;
    no_list = no-list may.no_list;
    tells_nobody = tells-told w k a shows safe may.tells_nobody;
    calls_no_waiter = none-owed b k owed may.wakes_nobody owes;
    calls_no_sleeper = λ other. ap (λ (t : Todo). t.calls other) (sym is) ∙ may.calls_nobody other;
  }

-- What is said of a seat's session is said of its history.
module _ {T : Type 0} (content : T → Content) (seat : Seat (Kept T) (PlacedView T)) (session : HasSession (side_of seat).0) where
  pub left-by : HasNothingLeft (account_at content seat) (todo_at seat) (owed_at seat)
      → HasNothingLeft (told content session.history.number session.history.marks) (todo_told_by session.history.number session.history.marks) (owed_told session.history.marks)
  left-by left = subst (λ (sessions : List (History T)). HasNothingLeft (first_account content sessions) (first_todo sessions) (first_owed sessions)) session.sessions left

  pub sleeps-by : MaySleepBy (account_at content seat) (todo_at seat) (owed_at seat)
      → MaySleepBy (told content session.history.number session.history.marks) (todo_told_by session.history.number session.history.marks) (owed_told session.history.marks)
  sleeps-by may = subst (λ (sessions : List (History T)). MaySleepBy (first_account content sessions) (first_todo sessions) (first_owed sessions)) session.sessions may

-- The last mark of a seat's session, once a step was noted.
pub last-marked : {T : Type 0} (before after : Seat (Kept T) (PlacedView T)) {mark its : ℕ → Mark T} (found : ℕ) (session : HasSession (side_of before).0)
    → side_of after ≡ (noting (side_of before).0 (mark found), (side_of before).1) → mark ≡ its → first_marks (side_of after).0.sessions ≡ its found ∷ session.history.marks
last-marked {T} before after {mark} {its} found session side same =
    ap (λ (me : Side T). first_marks me.0.sessions) side
    ∙ ap (λ (sessions : List (History T)). first_marks (noting_first sessions (mark found))) session.sessions
    ∙ ap (λ (m : ℕ → Mark T). m found ∷ session.history.marks) same

-- What the word showed twice shows no grant.
pub shown-as : (P : ℕ → Type 0) (found shown : ℕ) → found ≡ shown → P shown → P found
shown-as P found shown same is = subst P (sym same) is

-- A session may sleep still, after a call that left its account as it was and as much to do.
pub may-still : {T : Type 0} (content : T → Content) (before after : Seat (Kept T) (PlacedView T)) → Led content before after (account_at content before)
    → MaySleepBy (account_at content before) (todo_at before) (owed_at before) → MaySleepBy (account_at content after) (todo_at after) (owed_at after)
may-still content before after led may =
    subst (λ a. MaySleepBy a (todo_at after) (owed_at after)) (sym led.account)
    (subst (λ todo. MaySleepBy (account_at content before) todo (owed_at after)) (sym led.todo)
    (subst (λ owed. MaySleepBy (account_at content before) (todo_at before) owed) (sym led.owed) may))
