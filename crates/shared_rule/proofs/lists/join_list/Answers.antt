use Rattle.std.proofs.Common.{◌≡◌, List, Some, sym, ap, subst}
use Rattle.lock_world.specs.declared.events.Word.TheVariants.{Sleep}
use Rattle.lock_world.specs.Account.{ListInHand}
use Rattle.lock_world.specs.AccountSteps.{account_joining_list}
use Rattle.lock_world.specs.AccountLaw.{MayJoinListBy}
use Rattle.shared_rule.specs.declared.history.History.{History}
use Rattle.shared_rule.specs.History.{first_account, list_here}
use Rattle.shared_rule.specs.Plays.{side_of, Side, account_at}
use Rattle.lock_world.specs.Wakes.Waking.{NoneOr}
use Rattle.shared_rule.specs.Todos.{first_todo}
use Rattle.shared_rule.proofs.Lemmas.Taken.{flagged-known, owes-known, joins-known}
use Rattle.shared_rule.proofs.Lemmas.Events.Words.{stores_at_own}
use Rattle.shared_rule.proofs.Lemmas.Events.ListSteps.{joining-lawful}
use Rattle.shared_rule.proofs.Lemmas.Led.{led_to-as, led-marked}
use Rattle.shared_rule.proofs.lists.join_list.Goals as goal

pub store_as-requires-clause-allowed : goal.store_as-requires-clause-allowed
store_as-requires-clause-allowed g c =
    let may = subst (λ (sessions : List (History g.row.T.Denot)).
    (mine : ListInHand) × MayJoinListBy (first_account g.T.PartTable.content sessions) mine) c.requires.session.sessions c.requires.lawful in
    let no_other = subst (λ (sessions : List (History g.row.T.Denot)). (mine : ListInHand) → (first_account g.T.PartTable.content sessions).lists.in_hand ≡ Some mine
    → NoneOr (first_todo sessions).tries mine.lock) c.requires.session.sessions c.requires.no_other in
    stores_at_own _ c.requires.session c.args.number c.requires.own c.requires.among
    Sleep (λ k there. (tt, there)) c.sleep_word.result (c.sleep_word.ensures.index c.args.words.now.key.sessions) 1 g.M.Marking.mark _ c.requires.mark
    (joining-lawful g.T.PartTable.content c.args.words.now.key c.requires.session.history may.0 c.args.mode may.1 (flagged-known (side_of c.args.seat.now).0 c.requires.session c.requires.flagged)
    (owes-known (side_of c.args.seat.now).0 c.requires.session c.requires.owes_no_ok) no_other (joins-known g.T.PartTable.content (side_of c.args.seat.now).0 c.requires.session c.requires.latest))

pub returns-clause-led : goal.returns-clause-led
returns-clause-led g c =
    let a = account_at g.T.PartTable.content c.args.seat.now in
    led_to-as g.T.PartTable.content c.args.seat.now c.store_as.new.seat _ _ _
    (led-marked _ c.requires.session c.store_as.ensures.same_seat c.store_as.ensures.side c.requires.mark (λ owed i. owed))
    (ap (λ number. account_joining_list a (list_here a.lists.in_hand) (record { session = number; mode = c.args.mode })) (sym c.requires.own))

pub returns-clause-shelves : goal.returns-clause-shelves
returns-clause-shelves g c = ap (λ (side : Side g.row.T.Denot). side.1) c.store_as.ensures.side
