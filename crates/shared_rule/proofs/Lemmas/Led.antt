use Rattle.std.proofs.Common.{◌≡◌, ◌≢◌, ℕ, List, Option, Some, None, refl, sym, ap, ◌∙◌, subst}
use Rattle.std.specs.Prelude.{if◌then◌else◌, not, is_some}
use Rattle.lock_world.specs.Account.{ListAccount}
use Rattle.lock_world.specs.Wakes.Owing.{is_lock}
use Rattle.std.proofs.lemmas.Bool.{ne_eqb}
use Rattle.atomic_table.specs.declared.shared.Seat.{Seat}
use Rattle.lock_table.specs.Content.{Content}
use Rattle.lock_world.specs.Account.{Account}
use Rattle.lock_world.specs.AccountSteps.{account_loading_sleep}
use Rattle.shared_rule.specs.declared.history.Mark.{Mark}
use Rattle.shared_rule.specs.declared.history.PlacedView.{PlacedView}
use Rattle.shared_rule.specs.declared.history.View.{View}
use Rattle.shared_rule.specs.declared.kept.Kept.{Kept}
use Rattle.shared_rule.specs.Boards.{StaysLone}
use Rattle.shared_rule.specs.History.{noted, noting, noting_first, first_account, first_number}
use Rattle.shared_rule.specs.Led.{Led, LedBy, LedTo, KeepsOthers}
use Rattle.shared_rule.specs.declared.history.History.{History}
use Rattle.shared_rule.specs.Seats.{behind_of}
use Rattle.shared_rule.specs.Audits.{IsFurther}
use Rattle.shared_rule.specs.Plays.{side_of, Side, account_at, number_at, quiet_at, todo_at, owed_at, HasSession, IsSameSeat}
use Rattle.shared_rule.specs.Quiet.{Quiet, first_quiet, quiet_noted}
use Rattle.shared_rule.specs.Owed.{first_owed, owed_noted}
use Rattle.shared_rule.specs.Todos.{Todo, nothing_to_do, first_todo, todo_noted, todo_looked, todo_leaving, todo_told, todo_setting_ok, is_off_list_in_hand}
use Rattle.shared_rule.proofs.Lemmas.Idle.{lists-told}
use Rattle.shared_rule.proofs.Lemmas.Taken.{lone-noted, number-noted, session-noted, account-noted, quiet-noted, todo-noted, owed-noted}

-- What calls of several steps make of a seat, step by step.

module _ {T : Type 0} where
  -- A seat of one session is one session's still through two calls.
  lone-then : (a b c : View T) → StaysLone a b → StaysLone b c → StaysLone a c
  lone-then a b c one two number is = two number (one number is)

  others-then : (a b c : View T) → KeepsOthers a b → KeepsOthers b c → KeepsOthers a c
  others-then a b c one two = record { next = two.next ∙ one.next; closed = two.closed ∙ one.closed; behind = two.behind ∙ one.behind }

  others-noted : (view : View T) (mark : Mark T) → HasSession view → KeepsOthers view (noting view mark)
  others-noted view mark has = record {
    next = refl;
    closed = refl;
    behind = ap (λ (sessions : List (History T)). behind_of (noting_first sessions mark)) has.sessions ∙ sym (ap behind_of has.sessions);
  }

module _ {T : Type 0} (content : T → Content) (before after : Seat (Kept T) (PlacedView T)) where
  -- A step that is noted.
  pub led-noted : (mark : Mark T) → HasSession (side_of before).0 → IsSameSeat before after
      → (side_of after).0 ≡ noting (side_of before).0 mark → ((owed : List ℕ) → owed_noted owed mark ≡ owed)
      → LedBy content before after (noted content (number_at before) (account_at content before) mark)
      (quiet_noted (quiet_at before) mark) (todo_noted (number_at before) (account_at content before).lists (todo_at before) mark)
  led-noted mark has same is wakes = record {
    seat = same;
    session = subst HasSession (sym is) (session-noted (side_of before).0 mark has);
    number = ap (λ (view : View T). first_number view.sessions) is ∙ number-noted (side_of before).0 mark has;
    lone = subst (λ (view : View T). StaysLone (side_of before).0 view) (sym is) (lone-noted (side_of before).0 mark);
    account = ap (λ (view : View T). first_account content view.sessions) is ∙ account-noted content (side_of before).0 mark has;
    quiet = ap (λ (view : View T). first_quiet view.sessions) is ∙ quiet-noted (side_of before).0 mark has;
    todo = ap (λ (view : View T). first_todo view.sessions) is ∙ todo-noted (side_of before).0 mark has
        ∙ ap (λ lists. todo_noted (number_at before) lists (todo_at before) mark) (sym (lists-told content (side_of before).0.sessions));
    owed = ap (λ (view : View T). first_owed view.sessions) is ∙ owed-noted (side_of before).0 mark has ∙ wakes (owed_at before);
    others = subst (KeepsOthers (side_of before).0) (sym is) (others-noted (side_of before).0 mark has);
  }

  -- A call that leaves the view alone.
  pub led-none : HasSession (side_of before).0 → IsSameSeat before after → (side_of after).0 ≡ (side_of before).0
      → Led content before after (account_at content before)
  led-none has same is = record {
    seat = same;
    session = subst HasSession (sym is) has;
    number = ap (λ (view : View T). first_number view.sessions) is;
    lone = subst (λ (view : View T). StaysLone (side_of before).0 view) (sym is) (λ number one. one);
    account = ap (λ (view : View T). first_account content view.sessions) is;
    quiet = ap (λ (view : View T). first_quiet view.sessions) is;
    todo = ap (λ (view : View T). first_todo view.sessions) is;
    owed = ap (λ (view : View T). first_owed view.sessions) is;
    others = subst (KeepsOthers (side_of before).0) (sym is) (record { next = refl; closed = refl; behind = refl });
  }

  -- A view that was led by an account is led by an equal one, with as much to do.
  pub led_by-as : (its : List Quiet) (todo : Todo) (a b : Account) → LedBy content before after a its todo → a ≡ b → LedBy content before after b its todo
  led_by-as its todo a b led same = subst (λ c. LedBy content before after c its todo) same led

  pub led-as : (a b : Account) → Led content before after a → a ≡ b → Led content before after b
  led-as a b led same = subst (Led content before after) same led

  pub led_to-as : (todo : Todo) (a b : Account) → LedTo content before after a todo → a ≡ b → LedTo content before after b todo
  led_to-as todo = led_by-as (quiet_at before) todo

  pub led_by-todo : (a : Account) (its : List Quiet) (todo other : Todo) → LedBy content before after a its todo → todo ≡ other → LedBy content before after a its other
  led_by-todo a its todo other led same = subst (LedBy content before after a its) same led

  -- What a call then makes of it, with the quiet steps that it adds to these, and what it makes of what is to
  -- do.
  pub led_by-then : (last : Seat (Kept T) (PlacedView T)) (a : Account) (its : List Quiet) (todo : Todo) (next : Account → Account) (adds : List Quiet → List Quiet) (does : Todo → Todo)
      → LedBy content before after a its todo → LedBy content after last (next (account_at content after)) (adds (quiet_at after)) (does (todo_at after))
      → LedBy content before last (next a) (adds its) (does todo)
  led_by-then last a its todo next adds does one two = record {
    seat = record { table_id = two.seat.table_id ∙ one.seat.table_id; id = two.seat.id ∙ one.seat.id };
    session = two.session;
    number = two.number ∙ one.number;
    lone = lone-then (side_of before).0 (side_of after).0 (side_of last).0 one.lone two.lone;
    account = two.account ∙ ap next one.account;
    quiet = two.quiet ∙ ap adds one.quiet;
    todo = two.todo ∙ ap does one.todo;
    owed = two.owed ∙ one.owed;
    others = others-then (side_of before).0 (side_of after).0 (side_of last).0 one.others two.others;
  }

  -- Two calls of which neither makes a quiet step, one after the other,
  pub led_to-then : (last : Seat (Kept T) (PlacedView T)) (a : Account) (todo : Todo) (next : Account → Account) (does : Todo → Todo) → LedTo content before after a todo
      → LedTo content after last (next (account_at content after)) (does (todo_at after)) → LedTo content before last (next a) (does todo)
  led_to-then last a todo next does one two = led_by-then last a (quiet_at before) todo next (λ its. its) does one two

  -- and as much is to do.
  pub led-then : (last : Seat (Kept T) (PlacedView T)) (a : Account) (next : Account → Account) → Led content before after a
      → Led content after last (next (account_at content after)) → Led content before last (next a)
  led-then last a next one two = led_to-then last a (todo_at before) next (λ todo. todo) one two

  -- The account is as it is.
  pub led_to-itself : (last : Seat (Kept T) (PlacedView T)) (a b : Account) (todo next : Todo) → LedTo content before after a todo → LedTo content after last b next
      → LedTo content before last (account_at content last) (todo_at last)
  led_to-itself last a b todo next one two = record {
    seat = record { table_id = two.seat.table_id ∙ one.seat.table_id; id = two.seat.id ∙ one.seat.id };
    session = two.session;
    number = two.number ∙ one.number;
    lone = lone-then (side_of before).0 (side_of after).0 (side_of last).0 one.lone two.lone;
    account = refl;
    quiet = two.quiet ∙ one.quiet;
    todo = refl;
    owed = two.owed ∙ one.owed;
    others = others-then (side_of before).0 (side_of after).0 (side_of last).0 one.others two.others;
  }

-- Nothing was done.
pub led-self : {T : Type 0} (content : T → Content) (seat : Seat (Kept T) (PlacedView T)) → HasSession (side_of seat).0
    → Led content seat seat (account_at content seat)
led-self content seat has = led-none content seat seat has (record { table_id = refl; id = refl }) refl

-- What a load of its own sleep word makes of the account: where it shows 0 the session stands in no list, and
-- else nothing is changed.
pub slept-told : (a : Account) (shown : ℕ) → shown ≡ 0
    → account_loading_sleep a shown ≡ record a { lists = record (a.lists) { stands = None } }
slept-told a shown zero = ap (account_loading_sleep a) zero

pub slept-on : (a : Account) (shown : ℕ) → shown ≢ 0 → account_loading_sleep a shown ≡ a
slept-on a shown some =
    ap (λ told. record a { lists = record (a.lists) { stands = if told then None else a.lists.stands } }) (ne_eqb shown 0 some)

-- A look that is not due leaves as much to do.
pub looked-same : (todo : Todo) → todo.due ≡ None → todo_looked todo ≡ todo
looked-same todo none = λ i. record todo { due = sym none i }

-- Whoever owes no release-ok has as much to do once it has set it.
pub none-owed : (number : ℕ) (lists : ListAccount) (todo : Todo) (lock : ℕ) → todo.owes_release_ok ≡ None → todo_setting_ok number lists todo lock ≡ todo
none-owed number lists todo lock none =
    ap (λ its. if is_lock its lock then (if not (is_some lists.stands) then todo_told todo lock else (if is_off_list_in_hand number lists.in_hand lock then todo_leaving todo else todo)) else todo) none

pub owes-none : {P : Type 0} (todo : Todo) (lock : ℕ) → todo.owes_release_ok ≡ None → todo.owes_release_ok ≡ Some lock → P
owes-none todo lock none owes = let never : ◌≡◌ {A = Option ℕ} None (Some lock) = sym none ∙ owes in absurd (cc (never))

-- A call that leaves nothing to do where there was nothing goes on at the same seat.
pub led-further_by : {T : Type 0} (content : T → Content) (before after : Seat (Kept T) (PlacedView T)) (a : Account) (todo : Todo) → LedTo content before after a todo
    → (todo_at before ≡ nothing_to_do → todo ≡ nothing_to_do) → IsFurther (side_of before).0 (side_of after).0
led-further_by content before after a todo led free = record {
  next = led.others.next;
  closed = led.others.closed;
  behind = led.others.behind;
  number = led.number;
  quiet = led.quiet;
  some = led.session;
  free = λ was. led.todo ∙ free was;
  owed = led.owed;
}

pub led-further : {T : Type 0} (content : T → Content) (before after : Seat (Kept T) (PlacedView T)) (a : Account) → Led content before after a → IsFurther (side_of before).0 (side_of after).0
led-further content before after a led = led-further_by content before after a (todo_at before) led (λ was. was)

-- A step whose mark is that of the number which it found.
pub led-marked :
    {T : Type 0} {content : T → Content} {before after : Seat (Kept T) (PlacedView T)} {mark its : ℕ → Mark T} (found : ℕ) → HasSession (side_of before).0 → IsSameSeat before after
    → (side_of after) ≡ (noting (side_of before).0 (mark found), (side_of before).1) → mark ≡ its → ((owed : List ℕ) → owed_noted owed (its found) ≡ owed)
    → LedBy content before after (noted content (number_at before) (account_at content before) (its found))
    (quiet_noted (quiet_at before) (its found)) (todo_noted (number_at before) (account_at content before).lists (todo_at before) (its found))
led-marked {T} {content} {before} {after} {mark} {its} found has seat side same wakes =
    led-noted content before after (its found) has seat
    (ap (λ (me : Side T). me.0) side ∙ ap (λ (m : ℕ → Mark T). noting (side_of before).0 (m found)) same) wakes
