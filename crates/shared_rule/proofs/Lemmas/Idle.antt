use Rattle.std.proofs.Common.{◌≡◌, ℕ, List, [], ◌∷◌, ◌++◌, Option, Some, None, Ok, Err, refl, sym, ap, ◌∙◌, subst, inl, inr}
use Rattle.std.specs.declared.result.Result.{Result}
use Rattle.lock_table.specs.declared.moves.Move.{Move}
use Rattle.lock_table.specs.Content.{Content}
use Rattle.lock_table.specs.OwnWait.{OwnWait}
use Rattle.lock_world.specs.Account.{Account, InHand, ListAccount}
use Rattle.shared_rule.specs.declared.history.History.{History}
use Rattle.shared_rule.specs.declared.history.Mark.{Mark}
use Rattle.shared_rule.specs.declared.history.Mark.TheVariants as mark
use Rattle.shared_rule.specs.declared.history.WordMark.{WordMark}
use Rattle.shared_rule.specs.declared.history.WordMark.TheVariants as word
use Rattle.shared_rule.specs.declared.history.View.{View}
use Rattle.shared_rule.specs.Audits.{IsFurther}
use Rattle.shared_rule.specs.Boards.{lists_told, IsIdle, AreFree}
use Rattle.shared_rule.specs.Owed.{first_owed}
use Rattle.shared_rule.specs.Todos.{no_content, first_todo, nothing_to_do}
use Rattle.shared_rule.specs.LwLocks.{no_lists}
use Rattle.shared_rule.specs.Slots.{TriesFast}
use Rattle.shared_rule.specs.Seats.{all_but_last, last_of, behind_of}
use Rattle.shared_rule.specs.History.{blank_account, noted, noted_words, told, first_account, lone}
use Rattle.shared_rule.specs.History.{account_granting_by, account_cleared, account_left, in_hand}

-- What a history tells of wait lists doesn't depend on how contents are read.

granting-lists : (made : Option Move) (a : Account) (part : ℕ) (mine : InHand) (other : ℕ) (done : Move) (woken : List ℕ) (now : Content)
    → (account_granting_by made a part mine other done woken now).lists ≡ a.lists
granting-lists None a part mine other done woken now = refl
granting-lists (Some made) a part mine other done woken now = refl

cleared-lists : (number : ℕ) (a : Account) (wait : Option OwnWait) → (account_cleared number a wait).lists ≡ a.lists
cleared-lists number a None = refl
cleared-lists number a (Some wait) = refl

left-lists : (a : Account) (wait : Option OwnWait) (now : Content) (woken : List ℕ) → (account_left a wait now woken).lists ≡ a.lists
left-lists a None now woken = refl
left-lists a (Some wait) now woken = refl

-- what a step makes of the lists of an account, by the lists alone
abbrev lists_after : {T : Type 0} → ℕ → ListAccount → Mark T → ListAccount
lists_after number lists m = (noted no_content number (record blank_account { lists = lists }) m).lists

words-lists : (number : ℕ) (a : Account) (step : WordMark) → (noted_words number a step).lists ≡ (noted_words number (record blank_account { lists = a.lists }) step).lists
words-lists number a (word.TookFast owner database words) = refl
words-lists number a (word.PutFast owner found) = refl
words-lists number a (word.SharedFast owner database words) = refl
words-lists number a (word.UnsharedFast owner found) = refl
words-lists number a (word.Passed owner tag mode found) = refl
words-lists number a (word.Counted tag mode) = refl
words-lists number a (word.Uncounted tag mode) = refl
words-lists number a (word.LoadedWait shown) = refl
words-lists number a (word.Asked other before) = refl
words-lists number a word.ClearedWait = cleared-lists number a a.awaited
words-lists number a (word.LoadedDatabase owner shown) = refl
words-lists number a (word.LoadedSlot owner slot shown) = refl
words-lists number a (word.LoadedFast shown) = refl
words-lists number a (word.LoadedStrong index shown) = refl
words-lists number a (word.SetSlot slot tag mode) = refl
words-lists number a (word.ClearedSlot slot tag mode) = refl
words-lists number a (word.TransferredSlot owner slot tag mode) = refl
words-lists number a (word.StoredDatabase database) = refl
words-lists number a (word.LockedList lock waiters) = refl
words-lists number a word.UnlockedList = refl
words-lists number a (word.JoinedList mode) = refl
words-lists number a word.LeftList = refl
words-lists number a (word.TookOff other) = refl
words-lists number a (word.Told other) = refl
words-lists number a (word.LoadedSleep shown) = refl
words-lists number a (word.SetReleaseOk lock) = refl
words-lists number a (word.SetHasWaiters lock) = refl
words-lists number a (word.SawListLocked lock) = refl
words-lists number a (word.SawHeld lock shown) = refl
words-lists number a (word.CalledWaiter other) = refl
words-lists number a (word.CalledSleeper other) = refl
words-lists number a (word.ParksWaiting shown) = refl
words-lists number a (word.ParksAsleep shown) = refl

module _ {T : Type 0} (content : T → Content) where
  step-lists : (number : ℕ) (a : Account) (m : Mark T) → (noted content number a m).lists ≡ lists_after number a.lists m
  step-lists number a (mark.TookPart part taken) = refl
  step-lists number a (mark.PutPart part done put found) = refl
  step-lists number a (mark.SetWaiting tag mode now) = refl
  step-lists number a (mark.MarkedGranted part other done woken now) = granting-lists (in_hand (a.hand part)).recorded a part (in_hand (a.hand part)) other done woken (content now)
  step-lists number a (mark.LeftQueue woken now) = left-lists a a.awaited (content now) woken
  step-lists number a (mark.OfWords step) = words-lists number a step

pub told-lists : {T : Type 0} (content : T → Content) (number : ℕ) (marks : List (Mark T)) → (told content number marks).lists ≡ (told no_content number marks).lists
told-lists content number [] = refl
told-lists content number (m ∷ marks) =
    step-lists content number (told content number marks) m
    ∙ ap (λ lists. lists_after number lists m) (told-lists content number marks)
    ∙ sym (step-lists no_content number (told no_content number marks) m)

-- So what a view tells of them is what its session's account has.
pub lists-told : {T : Type 0} (content : T → Content) (sessions : List (History T)) → (first_account content sessions).lists ≡ lists_told sessions
lists-told content [] = refl
lists-told content (history ∷ others) = told-lists content history.number history.marks

-- A call that leaves them as they were leaves a session idle.
pub idle-still : {T : Type 0} (content : T → Content) (sessions after : List (History T))
    → (first_account content after).lists ≡ (first_account content sessions).lists → first_todo after ≡ nothing_to_do → IsIdle sessions → IsIdle after
idle-still content sessions after same free idle = record {
  none = sym (lists-told content after) ∙ same ∙ lists-told content sessions ∙ idle.none;
  free = free;
}

-- Trying for the lock of its own slots leaves them.
pub tries-lists : {R E : Type 0} (groups number : ℕ) (a : Account) (result : Result R E) (b : Account) → TriesFast groups number a result b → b.lists ≡ a.lists
tries-lists groups number a (Ok unit) b took = ap (λ (c : Account). c.lists) took.takes.account
tries-lists groups number a (Err error) b (inl held) = ap (λ (c : Account). c.lists) held.account
tries-lists groups number a (Err error) b (inr changed) = ap (λ (c : Account). c.lists) changed.account

-- Sessions gathered at a seat: each is idle there, and has nobody to wake;
module _ {T : Type 0} where
  pub free-with : (sessions others : List (History T)) → AreFree sessions → AreFree others → AreFree (sessions ++ others)
  free-with [] others are its = its
  free-with (history ∷ rest) others are its = (are.0, free-with rest others are.1 its)

  pub free-lone : (view : View T) (number : ℕ) (marks : List (Mark T)) → view ≡ lone number marks → IsIdle view.sessions → first_owed view.sessions ≡ [] → AreFree view.sessions
  free-lone view number marks is idle none =
      subst (λ (v : View T). AreFree v.sessions) (sym is)
      (record { idle = subst (λ (v : View T). IsIdle v.sessions) is idle; wakes_nobody = sym (ap (λ (v : View T). first_owed v.sessions) is) ∙ none }, tt)

  -- the last one goes on so, and so do those that stay,
  pub free-last : (sessions : List (History T)) → AreFree sessions → AreFree (last_of sessions)
  free-last [] are = tt
  free-last (history ∷ []) are = are
  free-last (history ∷ next ∷ others) are = free-last (next ∷ others) are.1

  pub free-left : (sessions : List (History T)) → AreFree sessions → AreFree (all_but_last sessions)
  free-left [] are = tt
  free-left (history ∷ []) are = tt
  free-left (history ∷ next ∷ others) are = (are.0, free-left (next ∷ others) are.1)

  pub first-idle : (sessions : List (History T)) → AreFree sessions → lists_told sessions ≡ no_lists
  first-idle [] are = refl
  first-idle (history ∷ others) are = are.0.idle.none

  pub first-free : (sessions : List (History T)) → AreFree sessions → first_todo sessions ≡ nothing_to_do
  first-free [] are = refl
  first-free (history ∷ others) are = are.0.idle.free

  pub first-wakes : (sessions : List (History T)) → AreFree sessions → first_owed sessions ≡ []
  first-wakes [] are = refl
  first-wakes (history ∷ others) are = are.0.wakes_nobody

  pub free-one : (sessions : List (History T)) → AreFree sessions → IsIdle sessions
  free-one sessions are = record { none = first-idle sessions are; free = first-free sessions are }

  behind-free : (sessions : List (History T)) → AreFree sessions → AreFree (behind_of sessions)
  behind-free [] are = tt
  behind-free (history ∷ others) are = are.1

  -- and the first one where its steps left its lists as they were.
  pub free-further : (content : T → Content) (before after : View T) → IsFurther before after
      → (first_account content after.sessions).lists ≡ (first_account content before.sessions).lists
      → AreFree before.sessions → AreFree after.sessions
  free-further content before after further same are =
      let some = further.some in
      subst AreFree (sym some.sessions) (
        record {
          idle = record {
            none = sym (lists-told content (some.history ∷ []))
                ∙ ap (λ (sessions : List (History T)). (first_account content sessions).lists) (sym some.sessions) ∙ same
                ∙ lists-told content before.sessions ∙ first-idle before.sessions are;
            free = sym (ap first_todo some.sessions) ∙ further.free (first-free before.sessions are);
          };
          wakes_nobody = sym (ap first_owed some.sessions) ∙ further.owed ∙ first-wakes before.sessions are;
        },
        subst AreFree (sym further.behind ∙ ap behind_of some.sessions) (behind-free before.sessions are),
      )
