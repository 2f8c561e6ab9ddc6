use Rattle.std.specs.Prelude.{ℕ, List, [], ◌∷◌}
use Rattle.lw_word.specs.declared.wait_lists.LwWaiter.{LwWaiter}
use Rattle.lock_world.specs.Account.{Account, ListInHand}
use Rattle.lock_world.specs.AccountSteps.{account_taking_off, account_telling}
use Rattle.lock_world.specs.AccountLaw.{MayTakeOffBy, MayTellBy}
use Rattle.shared_rule.specs.History.{list_here}
use Rattle.shared_rule.specs.Todos.{Todo, todo_owing, todo_calling}

-- What it makes of an account that these sessions are taken off the list in hand, one after the other.

abbrev pub all_taken_off : Account → List LwWaiter → Account
all_taken_off a [] = a
all_taken_off a (waiter ∷ others) =
    all_taken_off (account_taking_off a (list_here a.lists.in_hand) waiter.session) others

-- What it makes of an account that these sessions are told, one after the other.
abbrev pub all_told : Account → List LwWaiter → Account
all_told a [] = a
all_told a (waiter ∷ others) = all_told (account_telling a waiter.session) others

-- What it makes of what a session has to do that these sessions are taken off a list: it has to call each of
-- them.
abbrev pub all_owed : Todo → List LwWaiter → Todo
all_owed todo [] = todo
all_owed todo (waiter ∷ others) = all_owed (todo_owing todo waiter.session) others

-- What it makes of what a session has to do that these sessions are told, and called after that: it has to
-- call none of them any more.
abbrev pub all_called : Todo → List LwWaiter → Todo
all_called todo [] = todo
all_called todo (waiter ∷ others) = all_called (todo_calling (todo_owing todo waiter.session) waiter.session) others

-- Each of these sessions stands in the list in hand when its turn comes to be taken off.
abbrev pub MayTakeAllOff : ℕ → Account → List LwWaiter → Type 0
MayTakeAllOff number a [] = Unit {0}
MayTakeAllOff number a (waiter ∷ others) =
    ((mine : ListInHand) × MayTakeOffBy number a mine waiter.session)
    × MayTakeAllOff number (account_taking_off a (list_here a.lists.in_hand) waiter.session) others

-- Each of these sessions was taken off and not told yet when its turn comes to be told.
abbrev pub MayTellAll : Account → List LwWaiter → Type 0
MayTellAll a [] = Unit {0}
MayTellAll a (waiter ∷ others) = MayTellBy a waiter.session × MayTellAll (account_telling a waiter.session) others
