use Rattle.std.proofs.Common.{◌≡◌, ℕ, true, None, List, ◌∷◌, refl, sym, ap, ◌∙◌, subst}
use Rattle.lock_table.specs.Content.{Content}
use Rattle.shared_rule.specs.declared.history.History.{History}
use Rattle.shared_rule.specs.declared.history.Mark.{Mark}
use Rattle.shared_rule.specs.declared.history.View.{View}
use Rattle.shared_rule.specs.History.{first_account, first_number, lone, noted, noting, noting_first}
use Rattle.shared_rule.specs.Boards.{first_marks, lists_told, StaysLone}
use Rattle.shared_rule.specs.Plays.{HasSession}
use Rattle.shared_rule.specs.Quiet.{first_quiet, quiet_noted}
use Rattle.shared_rule.specs.Owed.{first_owed, owed_noted}
use Rattle.lock_world.specs.Wakes.Waking.{NoneOr}
use Rattle.shared_rule.specs.Todos.{Todo, todo_told_by, flagged_told_by, first_todo, todo_noted, first_flagged, flagged_noted, JoinsLatest}
use Rattle.shared_rule.specs.History.{told}
use Rattle.shared_rule.proofs.Lemmas.Orders.{MayAttempt}

-- What a step that is noted makes of the view and of the account.

module _ {T : Type 0} where
  -- A view of one session is one session's still,
  pub lone-noted : (view : View T) (mark : Mark T) → StaysLone view (noting view mark)
  lone-noted view mark number is =
      subst (λ (v : View T). noting v mark ≡ lone number (first_marks (noting v mark).sessions)) (sym is) refl

  -- with the same number,
  pub number-noted : (view : View T) (mark : Mark T) → HasSession view
      → first_number (noting view mark).sessions ≡ first_number view.sessions
  number-noted view mark has =
      ap (λ (sessions : List (History T)). first_number (noting_first sessions mark)) has.sessions
      ∙ sym (ap (λ (sessions : List (History T)). first_number sessions) has.sessions)

  -- and has one session at least.
  pub session-noted : (view : View T) (mark : Mark T) → HasSession view → HasSession (noting view mark)
  session-noted view mark has = record {
    history = record { number = has.history.number; marks = mark ∷ has.history.marks };
    others = has.others;
    sessions = ap (λ (sessions : List (History T)). noting_first sessions mark) has.sessions;
  }

  -- Its quiet steps are as the step makes them.
  pub quiet-noted : (view : View T) (mark : Mark T) → HasSession view
      → first_quiet (noting view mark).sessions ≡ quiet_noted (first_quiet view.sessions) mark
  quiet-noted view mark has =
      ap (λ (sessions : List (History T)). first_quiet (noting_first sessions mark)) has.sessions
      ∙ sym (ap (λ (sessions : List (History T)). quiet_noted (first_quiet sessions) mark) has.sessions)

  -- So is what it has to do, and whether it has set has-waiters.
  pub todo-noted : (view : View T) (mark : Mark T) → HasSession view
      → first_todo (noting view mark).sessions ≡ todo_noted (first_number view.sessions) (lists_told view.sessions) (first_todo view.sessions) mark
  todo-noted view mark has =
      ap (λ (sessions : List (History T)). first_todo (noting_first sessions mark)) has.sessions
      ∙ sym (ap (λ (sessions : List (History T)). todo_noted (first_number sessions) (lists_told sessions) (first_todo sessions) mark) has.sessions)

  -- So is whom it has to wake.
  pub owed-noted : (view : View T) (mark : Mark T) → HasSession view → first_owed (noting view mark).sessions ≡ owed_noted (first_owed view.sessions) mark
  owed-noted view mark has =
      ap (λ (sessions : List (History T)). first_owed (noting_first sessions mark)) has.sessions
      ∙ sym (ap (λ (sessions : List (History T)). owed_noted (first_owed sessions) mark) has.sessions)

  pub flagged-noted : (view : View T) (mark : Mark T) → HasSession view
      → first_flagged (noting view mark).sessions ≡ flagged_noted (first_flagged view.sessions) mark
  flagged-noted view mark has =
      ap (λ (sessions : List (History T)). first_flagged (noting_first sessions mark)) has.sessions
      ∙ sym (ap (λ (sessions : List (History T)). flagged_noted (first_flagged sessions) mark) has.sessions)

module _ {T : Type 0} (content : T → Content) where
  -- Its account is as the step makes it.
  pub account-noted : (view : View T) (mark : Mark T) → HasSession view
      → first_account content (noting view mark).sessions ≡ noted content (first_number view.sessions)
      (first_account content view.sessions) mark
  account-noted view mark has =
      ap (λ (sessions : List (History T)). first_account content (noting_first sessions mark)) has.sessions
      ∙ sym (ap (λ (sessions : List (History T)). noted content (first_number sessions)
      (first_account content sessions) mark) has.sessions)

-- What the session has to do, by its history.
module _ {T : Type 0} (view : View T) (has : HasSession view) where
  todo-known : first_todo view.sessions ≡ todo_told_by has.history.number has.history.marks
  todo-known = ap (λ (sessions : List (History T)). first_todo sessions) has.sessions

  pub tries-known : (lock : ℕ) → NoneOr (first_todo view.sessions).tries lock → NoneOr (todo_told_by has.history.number has.history.marks).tries lock
  tries-known lock none = subst (λ (todo : Todo). NoneOr todo.tries lock) todo-known none

  pub look-known : (lock : ℕ) → NoneOr (first_todo view.sessions).due lock → NoneOr (todo_told_by has.history.number has.history.marks).due lock
  look-known lock none = subst (λ (todo : Todo). NoneOr todo.due lock) todo-known none

  pub due-known : (first_todo view.sessions).due ≡ None → (todo_told_by has.history.number has.history.marks).due ≡ None
  due-known none = sym (ap (λ (todo : Todo). todo.due) todo-known) ∙ none

  pub owes-known : (first_todo view.sessions).owes_release_ok ≡ None → (todo_told_by has.history.number has.history.marks).owes_release_ok ≡ None
  owes-known none = sym (ap (λ (todo : Todo). todo.owes_release_ok) todo-known) ∙ none

  pub flagged-known : first_flagged view.sessions ≡ true → flagged_told_by has.history.marks ≡ true
  flagged-known set = sym (ap (λ (sessions : List (History T)). first_flagged sessions) has.sessions) ∙ set

-- Whether the session may attempt a lock, and whether it joins the list of the latest one, by its history.
module _ {T : Type 0} (content : T → Content) (view : View T) (has : HasSession view) where
  pub attempt-known : (lock : ℕ) → NoneOr (first_todo view.sessions).tries lock → NoneOr (first_account content view.sessions).lists.stands lock
      → MayAttempt (told content has.history.number has.history.marks) (todo_told_by has.history.number has.history.marks) lock
  attempt-known lock none nowhere =
      (tries-known view has lock none, subst (λ (sessions : List (History T)). NoneOr (first_account content sessions).lists.stands lock) has.sessions nowhere)

  pub joins-known : JoinsLatest (first_account content view.sessions) → JoinsLatest (told content has.history.number has.history.marks)
  joins-known joins = subst (λ (sessions : List (History T)). JoinsLatest (first_account content sessions)) has.sessions joins
