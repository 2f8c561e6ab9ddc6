use Rattle.std.proofs.Common.{◌≡◌, ◌≢◌, ℕ, ◌/◌, ◌%◌, ◌^◌, ◌<◌, Bool, true, false, not, Option, Some, None, refl, sym, ap, ◌∙◌, subst, inl, inr}
use Rattle.std.specs.Prelude.{◌&&◌, is_some}
use Rattle.std.proofs.lemmas.Bool.{cases_Bool, cond-true, cond-false, eq-eqb}
use Rattle.lw_word.specs.declared.words.LwMode.{LwMode}
use Rattle.lw_word.specs.declared.words.LwMode.TheVariants.{Exclusive, Shared}
use Rattle.lw_word.specs.LightweightWord.{IsHeldExclusively, shared_count, put_word, unshared_word}
use Rattle.lw_word.specs.LockState.{LockState, state_of, put_in}
use Rattle.lw_word.specs.WaitList.{stands_in}
use Rattle.lw_word.proofs.Lemmas.States.{state_of-put}
use Rattle.modes_core.specs.declared.modes.Mode.{Mode}
use Rattle.modes_core.specs.declared.tags.Tag.{Tag}
use Rattle.lock_table.specs.declared.moves.Move.{Move}
use Rattle.lock_table.specs.Put.{set_at}
use Rattle.lock_table.proofs.Lemmas.Put.{set_at-here, set_at-else}
use Rattle.lock_world.specs.declared.events.Step.{Step}
use Rattle.lock_world.specs.declared.events.Step.TheVariants.{TakeExclusive, PutExclusive, TakeShared, PutShared, SplitSeat, JoinSeat, AskCancel, LoadWait, SetWaiting, MarkGranted, ClearWait, PutPassing, LoadStrong, LoadWord, SetSlot, ClearSlot, StoreDatabase, Count, Uncount, TransferSlot, LockList, UnlockList, JoinList, LeaveList, TakeOff, Tell, LoadSleep, SetReleaseOk, SetHasWaiters}
use Rattle.lock_world.specs.declared.events.Word.{Word}
use Rattle.lock_world.specs.World.{World, word_in}
use Rattle.lock_world.specs.WaitLists.{fast_lock}
use Rattle.lock_world.specs.Wakes.Waking.{TellsNobody, NoneOr}
use Rattle.lock_world.specs.Wakes.Owing.{Duties, lock_of, is_lock, look_due, after_putting, after_setting_ok, ok_set_as_owed, ok_set_before_told, ok_set_by_told, ok_set_by_winner, duties_after, Asks, IsEarlier, IsLatest, AsksInOrder}
use Rattle.lock_world.specs.Wakes.{Beside, happened, beside_after}
use Rattle.lock_world.proofs.Lemmas.Wakes.Live.{step-alone}
use Rattle.shared_rule.specs.Ruled.{todo_of, todo_with}
use Rattle.shared_rule.specs.Todos.{Todo, without_lost, todo_attempted, todo_looked, todo_putting, todo_queueing, todo_leaving}

-- What a session's step asks, from what the session has to do and knows; and what its step makes of that.

-- A step keeps to what is owed: the session, with this to do, may make it, and has that to do then.
pub record KeepsOwed (w : World) (number : ℕ) (todo : Todo) (flagged : Bool) (next : Todo) (next_flagged : Bool) (step : Step) : Type 0 where
  pub asks : (b : Beside) → without_lost todo ≡ todo_of b number → flagged ≡ b.duties.flagged number → Asks w b.duties b.waits b.sleeps number step
  pub todo_ : (b : Beside) → without_lost todo ≡ todo_of b number → without_lost next ≡ todo_of (beside_after w b (happened (record { session = number; step = step }))) number
  pub flagged_ : (b : Beside) → flagged ≡ b.duties.flagged number → next_flagged ≡ (duties_after w b.duties number step).flagged number
  pub in_order : AsksInOrder w number step

-- What all others have to do stays, after a step and after a look.
pub todo-others : (w : World) (b : Beside) (s k : ℕ) (other : k ≢ s) (step : Step) → todo_of (beside_after w b (happened (record { session = s; step = step }))) k ≡ todo_of b k
todo-others w b s k other step =
    let alone = step-alone w b s k other step in λ i. record { due = alone.0 i; tries = alone.1 i; owes_release_ok = alone.2 i; calls = alone.4 i; lost = 0 }

pub due-others : (x : Duties) (calls : ℕ → Bool) (s k : ℕ) (other : k ≢ s) (its : Option ℕ) → todo_with (record x { due = set_at x.due s its }) calls k ≡ todo_with x calls k
due-others x calls s k other its = λ i. record { due = set_at-else x.due s its k other i; tries = x.tries k; owes_release_ok = x.owes_release_ok k; calls = calls; lost = 0 }

pub tries-others : (x : Duties) (calls : ℕ → Bool) (s k : ℕ) (other : k ≢ s) (its : Option ℕ) → todo_with (record x { tries = set_at x.tries s its }) calls k ≡ todo_with x calls k
tries-others x calls s k other its = λ i. record { due = x.due k; tries = set_at-else x.tries s its k other i; owes_release_ok = x.owes_release_ok k; calls = calls; lost = 0 }

module _ (w : World) (x : Duties) (s k : ℕ) (other : k ≢ s) where
  setting-flags : (lock : ℕ) → (after_setting_ok w x s lock).flagged ≡ x.flagged
  setting-flags lock = elim (cases_Bool (is_lock (x.owes_release_ok s) lock)) [
    | inr free ↦ ap of (cond-false (is_lock (x.owes_release_ok s) lock) (ok_set_as_owed w x s lock) x free)
    | inl owed ↦ ap of (cond-true (is_lock (x.owes_release_ok s) lock) (ok_set_as_owed w x s lock) x owed) ∙ elim (cases_Bool (not (is_some (w.sessions.stands s)))) [
      | inl told ↦ ap of (cond-true (not (is_some (w.sessions.stands s))) (ok_set_by_told x s lock) (ok_set_before_told w x s lock) told)
      | inr stands ↦ ap of (cond-false (not (is_some (w.sessions.stands s))) (ok_set_by_told x s lock) (ok_set_before_told w x s lock) stands) ∙ elim (cases_Bool won) [
        | inl got ↦ ap of (cond-true won (ok_set_by_winner x s) x got)
        | inr not_got ↦ ap of (cond-false won (ok_set_by_winner x s) x not_got)
      ]
    ]
  ] where
    of : Duties → ℕ → Bool
    of y = y.flagged

    won : Bool
    won = is_lock (w.sessions.has_list s) lock && not (stands_in s (w.words.list lock))

  pub flagged-others : (step : Step) → (duties_after w x s step).flagged k ≡ x.flagged k
  flagged-others (TakeExclusive word) = refl
  flagged-others (PutExclusive word done) = refl
  flagged-others (TakeShared word) = refl
  flagged-others (PutShared word) = refl
  flagged-others SplitSeat = refl
  flagged-others (JoinSeat joiner) = refl
  flagged-others (AskCancel o) = refl
  flagged-others (LoadWait n) = refl
  flagged-others (SetWaiting t m) = refl
  flagged-others (MarkGranted o done) = refl
  flagged-others (ClearWait leaving) = refl
  flagged-others (PutPassing o t m) = refl
  flagged-others (LoadStrong i n) = refl
  flagged-others (LoadWord word n) = refl
  flagged-others (SetSlot i t m) = refl
  flagged-others (ClearSlot i t m) = refl
  flagged-others (StoreDatabase d) = refl
  flagged-others (Count t m) = refl
  flagged-others (Uncount t m) = refl
  flagged-others (TransferSlot q i t m z) = refl
  flagged-others (LockList word) = set_at-else x.flagged s false k other
  flagged-others (UnlockList word waiters release) = refl
  flagged-others (JoinList mode) = refl
  flagged-others LeaveList = refl
  flagged-others (TakeOff o) = refl
  flagged-others (Tell o) = refl
  flagged-others (LoadSleep n) = refl
  flagged-others (SetReleaseOk word n) = ap (λ (f : ℕ → Bool). f k) (setting-flags (lock_of word))
  flagged-others (SetHasWaiters word n) = set_at-else x.flagged s true k other

-- Attempts, puts and looks, by the part of the duties that each changes.
module _ (x : Duties) (row : ℕ → Bool) (number : ℕ) (todo : Todo) (is : without_lost todo ≡ todo_with x row number) where
  pub due-here : (its : Option ℕ) → without_lost (record todo { due = its }) ≡ todo_with (record x { due = set_at x.due number its }) row number
  due-here its = λ i. record {
    due = sym (set_at-here x.due number its number refl) i;
    tries = ap (λ (t : Todo). t.tries) is i;
    owes_release_ok = ap (λ (t : Todo). t.owes_release_ok) is i;
    calls = ap (λ (t : Todo). t.calls) is i;
    lost = 0;
  }

  pub tries-here : (its : Option ℕ) → without_lost (record todo { tries = its }) ≡ todo_with (record x { tries = set_at x.tries number its }) row number
  tries-here its = λ i. record {
    due = ap (λ (t : Todo). t.due) is i;
    tries = sym (set_at-here x.tries number its number refl) i;
    owes_release_ok = ap (λ (t : Todo). t.owes_release_ok) is i;
    calls = ap (λ (t : Todo). t.calls) is i;
    lost = 0;
  }

  pub owes-here : (its : Option ℕ) → without_lost (record todo { owes_release_ok = its }) ≡ todo_with (record x { owes_release_ok = set_at x.owes_release_ok number its }) row number
  owes-here its = λ i. record {
    due = ap (λ (t : Todo). t.due) is i;
    tries = ap (λ (t : Todo). t.tries) is i;
    owes_release_ok = sym (set_at-here x.owes_release_ok number its number refl) i;
    calls = ap (λ (t : Todo). t.calls) is i;
    lost = 0;
  }

  pub both-here : (its other : Option ℕ) → without_lost (record todo { tries = its; owes_release_ok = other })
      ≡ todo_with (record x { tries = set_at x.tries number its; owes_release_ok = set_at x.owes_release_ok number other }) row number
  both-here its other = λ i. record {
    due = ap (λ (t : Todo). t.due) is i;
    tries = sym (set_at-here x.tries number its number refl) i;
    owes_release_ok = sym (set_at-here x.owes_release_ok number other number refl) i;
    calls = ap (λ (t : Todo). t.calls) is i;
    lost = 0;
  }

-- Whom the session has to call, after one of these is owed a call or was called.
pub calls-here : (b : Beside) (number : ℕ) (todo : Todo) → without_lost todo ≡ todo_of b number → (other : ℕ) (owes : Bool)
    → without_lost (record todo { calls = set_at todo.calls other owes }) ≡ todo_with b.duties (set_at b.sleeps.owed number (set_at (b.sleeps.owed number) other owes) number) number
calls-here b number todo is other owes = λ i. record {
  due = ap (λ (t : Todo). t.due) is i;
  tries = ap (λ (t : Todo). t.tries) is i;
  owes_release_ok = ap (λ (t : Todo). t.owes_release_ok) is i;
  calls = (ap (λ (t : Todo). set_at t.calls other owes) is ∙ sym (set_at-here b.sleeps.owed number (set_at (b.sleeps.owed number) other owes) number refl)) i;
  lost = 0;
}

-- What a put leaves to do.
pub put-exclusive : (word found : ℕ) → found ≡ word → IsHeldExclusively word → put_in Exclusive (state_of found) ≡ state_of (put_word word)
put-exclusive word found is held = ap (λ n. put_in Exclusive (state_of n)) is ∙ sym (state_of-put Exclusive word (eq-eqb (word / 2 ^ 24 % 2) 1 held))

pub put-shared : (word found : ℕ) → found ≡ word → 0 < shared_count word → put_in Shared (state_of found) ≡ state_of (unshared_word word)
put-shared word found is some = ap (λ n. put_in Shared (state_of n)) is ∙ sym (state_of-put Shared word some)

module _ (w : World) (number : ℕ) (todo : Todo) (flagged : Bool) where
  -- No lock to attempt but this one: it may be taken, or shared.
  pub keeps-taking : (word : Word) → NoneOr todo.tries (lock_of word) → IsEarlier w number (lock_of word) → KeepsOwed w number todo flagged (todo_attempted todo) flagged (TakeExclusive word)
  keeps-taking word none earlier = record {
    in_order = earlier;
    asks = λ x is was. subst (λ (t : Todo). NoneOr t.tries (lock_of word)) is none;
    todo_ = λ b is. tries-here b.duties (b.sleeps.owed number) number todo is None;
    flagged_ = λ x was. was;
  }

  pub keeps-sharing : (word : Word) → NoneOr todo.tries (lock_of word) → IsEarlier w number (lock_of word) → KeepsOwed w number todo flagged (todo_attempted todo) flagged (TakeShared word)
  keeps-sharing word none earlier = record {
    in_order = earlier;
    asks = λ x is was. subst (λ (t : Todo). NoneOr t.tries (lock_of word)) is none;
    todo_ = λ b is. tries-here b.duties (b.sleeps.owed number) number todo is None;
    flagged_ = λ x was. was;
  }

  due-put : (lock : ℕ) (state : LockState) (word : ℕ) → state ≡ state_of word → (x : Duties) (row : ℕ → Bool) → without_lost todo ≡ todo_with x row number → without_lost (todo_putting todo lock state) ≡ todo_with (after_putting x number lock word) row number
  due-put lock state word same x row is =
      ap (λ its. without_lost (todo_putting todo lock its)) same ∙ due-here x row number todo is (look_due lock word)

  -- No look is due: a lock may be put.
  pub keeps-putting : (word : Word) (done : Move) (state : LockState) → state ≡ state_of (put_word (word_in w.words word)) → todo.due ≡ None
      → KeepsOwed w number todo flagged (todo_putting todo (lock_of word) state) flagged (PutExclusive word done)
  keeps-putting word done state same none = record {
    in_order = tt;
    asks = λ x is was. sym (ap (λ (t : Todo). t.due) is) ∙ none;
    todo_ = λ b is. due-put (lock_of word) state (put_word (word_in w.words word)) same b.duties (b.sleeps.owed number) is;
    flagged_ = λ x was. was;
  }

  pub keeps-unsharing : (word : Word) (state : LockState) → state ≡ state_of (unshared_word (word_in w.words word)) → todo.due ≡ None
      → KeepsOwed w number todo flagged (todo_putting todo (lock_of word) state) flagged (PutShared word)
  keeps-unsharing word state same none = record {
    in_order = tt;
    asks = λ x is was. sym (ap (λ (t : Todo). t.due) is) ∙ none;
    todo_ = λ b is. due-put (lock_of word) state (unshared_word (word_in w.words word)) same b.duties (b.sleeps.owed number) is;
    flagged_ = λ x was. was;
  }

  pub keeps-passing : (owner : ℕ) (tag : Tag) (mode : Mode) (state : LockState) → state ≡ state_of (put_word (w.words.fast owner)) → todo.due ≡ None
      → KeepsOwed w number todo flagged (todo_putting todo (fast_lock owner) state) flagged (PutPassing owner tag mode)
  keeps-passing owner tag mode state same none = record {
    in_order = tt;
    asks = λ x is was. sym (ap (λ (t : Todo). t.due) is) ∙ none;
    todo_ = λ b is. due-put (fast_lock owner) state (put_word (w.words.fast owner)) same b.duties (b.sleeps.owed number) is;
    flagged_ = λ x was. was;
  }

  -- Lists.
  pub keeps-locking : (word : Word) → NoneOr todo.due (lock_of word) → TellsNobody w.sessions.off number → KeepsOwed w number todo flagged (todo_looked todo) false (LockList word)
  keeps-locking word none nobody = record {
    in_order = tt;
    asks = λ x is was. record { no_other = subst (λ (t : Todo). NoneOr t.due (lock_of word)) is none; tells_nobody = nobody };
    todo_ = λ b is. due-here b.duties (b.sleeps.owed number) number todo is None;
    flagged_ = λ b was. sym (set_at-here b.duties.flagged number false number refl);
  }

  pub keeps-joining : (mode : LwMode) (its : Option ℕ) → its ≡ w.sessions.has_list number → flagged ≡ true → todo.owes_release_ok ≡ None
      → ((lock : ℕ) → w.sessions.has_list number ≡ Some lock → NoneOr todo.tries lock) → ((lock : ℕ) → w.sessions.has_list number ≡ Some lock → IsLatest w number lock)
      → KeepsOwed w number todo flagged (todo_queueing todo its) flagged (JoinList mode)
  keeps-joining mode its same set none no_other latest = record {
    in_order = latest;
    asks = λ x is was. record {
      flagged = sym was ∙ set;
      owes_no_ok = sym (ap (λ (t : Todo). t.owes_release_ok) is) ∙ none;
      no_other = λ lock has. subst (λ (t : Todo). NoneOr t.tries lock) is (no_other lock has);
    };
    todo_ = λ b is. ap (λ lock. without_lost (todo_queueing todo lock)) same ∙ both-here b.duties (b.sleeps.owed number) number todo is (w.sessions.has_list number) (w.sessions.has_list number);
    flagged_ = λ x was. was;
  }

  pub keeps-leaving : KeepsOwed w number todo flagged (todo_leaving todo) flagged LeaveList
  keeps-leaving = record { in_order = tt; asks = λ x is was. tt; todo_ = λ b is. owes-here b.duties (b.sleeps.owed number) number todo is None; flagged_ = λ x was. was }

  pub keeps-flagging : (word : Word) (shown : ℕ) → KeepsOwed w number todo flagged todo true (SetHasWaiters word shown)
  keeps-flagging word shown = record { in_order = tt; asks = λ x is was. tt; todo_ = λ x is. is; flagged_ = λ b was. sym (set_at-here b.duties.flagged number true number refl) }
