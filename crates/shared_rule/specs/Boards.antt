use Rattle.std.specs.Prelude.{◌≡◌, ℕ, ◌/◌, List, [], ◌∷◌, map}
use Rattle.atomic_table.specs.Seated.{TableId}
use Rattle.lock_world.specs.Account.{ListAccount}
use Rattle.shared_rule.specs.declared.history.History.{History}
use Rattle.shared_rule.specs.declared.history.Mark.{Mark}
use Rattle.shared_rule.specs.declared.history.View.{View}
use Rattle.shared_rule.specs.declared.kept.Kept.{Kept}
use Rattle.shared_rule.specs.declared.kept.Kept.TheVariants.{Nothing}
use Rattle.shared_rule.specs.Layout.{content_shelf_of}
use Rattle.shared_rule.specs.History.{lone, first_account}
use Rattle.shared_rule.specs.LwLocks.{no_lists}
use Rattle.shared_rule.specs.Owed.{owing, asking, waking, first_owed}
use Rattle.shared_rule.specs.Todos.{first_todo, nothing_to_do, no_content}

-- What a board is: shared state as one session sees it.

-- whose board it is, how many sessions there can be, how many groups of slots each has, and at which table
pub record Seated : Type 0 where
  pub number : ℕ
  pub limit : ℕ
  pub groups : ℕ
  pub table : TableId

-- What a session has to do yet: the partitions that it has to put, the last one taken first, and those whom
-- it has to wake, once for each time that it came to owe it, the first one first.
pub record Stack : Type 0 where
  pub parts : List ℕ
  pub owed : List ℕ

-- the stack of a session that has nothing to put and nobody to wake
abbrev pub nothing_due : Stack
nothing_due = record { parts = []; owed = [] }

-- the stack once a partition was taken
abbrev pub stack_taking : Stack → ℕ → Stack
stack_taking stack part = record { parts = part ∷ stack.parts; owed = stack.owed }

-- a list without its first element
abbrev pub all_but_first : List ℕ → List ℕ
all_but_first [] = []
all_but_first (first ∷ others) = others

-- the stack once the partition was put that was taken last
abbrev pub stack_putting : Stack → Stack
stack_putting stack = record { parts = all_but_first stack.parts; owed = stack.owed }

-- the stack once a session was let go, which is to be woken
abbrev pub stack_owing : Stack → ℕ → Stack
stack_owing stack other = record { parts = stack.parts; owed = owing stack.owed other }

-- the stack once a session was asked to cancel whose wait word showed this
abbrev pub stack_asking : Stack → ℕ → ℕ → Stack
stack_asking stack other shown = record { parts = stack.parts; owed = asking stack.owed other shown }

-- the stack once a session was woken
abbrev pub stack_waking : Stack → ℕ → Stack
stack_waking stack other = record { parts = stack.parts; owed = waking stack.owed other }

-- the partitions in hand, the last one taken first, by the shelves that are empty
abbrev pub parts_in_hand : {T : Type 0} → List (ℕ × Kept T) → List ℕ
parts_in_hand shelves = map (λ shelf. shelf.0 / 8) shelves

-- the shelves that are empty for these partitions: a content in hand is not on its shelf
abbrev pub shelves_out : {T : Type 0} → List ℕ → List (ℕ × Kept T)
shelves_out parts = map (λ part. (content_shelf_of part, Nothing)) parts

-- the steps of the first session of a view
abbrev pub first_marks : {T : Type 0} → List (History T) → List (Mark T)
first_marks [] = []
first_marks (history ∷ others) = history.marks

-- what the first session of a view knows of wait lists
abbrev pub lists_told : {T : Type 0} → List (History T) → ListAccount
lists_told sessions = (first_account no_content sessions).lists

-- The session has no wait list in hand, is in none, and has nothing to do for those who wait.
pub record IsIdle {T : Type 0} (sessions : List (History T)) : Type 0 where
  pub none : lists_told sessions ≡ no_lists
  pub free : first_todo sessions ≡ nothing_to_do

-- The session has no wait list in hand, is in none, and has nothing to do for those who wait and nobody to
-- wake.
pub record IsFree {T : Type 0} (sessions : List (History T)) : Type 0 where
  pub idle : IsIdle sessions
  pub wakes_nobody : first_owed sessions ≡ []

-- Each of these sessions is free, as `IsFree` says.
abbrev pub AreFree : {T : Type 0} → List (History T) → Type 0
AreFree [] = Unit {0}
AreFree (history ∷ others) = IsFree (history ∷ []) × AreFree others

-- The view is one session's still, if it was.
abbrev pub StaysLone : {T : Type 0} → View T → View T → Type 0
StaysLone before after =
    (number : ℕ) → before ≡ lone number (first_marks before.sessions) → after ≡ lone number (first_marks after.sessions)

-- What a board keeps between two calls: its seat is that of one session with this number, which is idle, and
-- the contents that are off their shelves are those of the partitions in hand.
pub record IsAtRest {T : Type 0} (number : ℕ) (view : View T) (shelves : List (ℕ × Kept T)) : Type 0 where
  pub lone : view ≡ lone number (first_marks view.sessions)
  pub out : shelves ≡ shelves_out (parts_in_hand shelves)
  pub idle : IsIdle view.sessions
