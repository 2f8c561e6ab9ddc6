use Rattle.std.proofs.Common.{List, refl, sym, ap, subst}
use Rattle.lock_world.specs.declared.events.Word.TheVariants.{Sleep}
use Rattle.lock_world.specs.Account.{ListInHand}
use Rattle.lock_world.specs.AccountSteps.{account_leaving_list}
use Rattle.lock_world.specs.AccountLaw.{MayLeaveListBy}
use Rattle.shared_rule.specs.declared.history.History.{History}
use Rattle.shared_rule.specs.Marks.{LeftList}
use Rattle.shared_rule.specs.History.{first_account, first_number, list_here}
use Rattle.shared_rule.specs.Plays.{account_at}
use Rattle.shared_rule.proofs.Lemmas.Events.Words.{stores_at_own}
use Rattle.shared_rule.proofs.Lemmas.Events.ListSteps.{leaving-lawful}
use Rattle.shared_rule.proofs.Lemmas.Led.{led_to-as, led-marked}
use Rattle.shared_rule.proofs.lists.leave_list.Goals as goal

pub store_as-requires-clause-allowed : goal.store_as-requires-clause-allowed
store_as-requires-clause-allowed g c =
    let may = subst (λ (sessions : List (History g.row.T.Denot)).
    (mine : ListInHand)
    × MayLeaveListBy (first_number sessions) (first_account g.T.PartTable.content sessions) mine) c.requires.session.sessions c.requires.lawful in
    stores_at_own _ c.requires.session c.args.number c.requires.own c.requires.among
    Sleep (λ k there. (tt, there)) c.sleep_word.result (c.sleep_word.ensures.index c.args.words.now.key.sessions) 0 (λ _. LeftList) LeftList refl
    (leaving-lawful g.T.PartTable.content c.args.words.now.key c.requires.session.history may.0 may.1)

pub returns-clause-led : goal.returns-clause-led
returns-clause-led g c =
    let a = account_at g.T.PartTable.content c.args.seat.now in
    led_to-as g.T.PartTable.content c.args.seat.now c.store_as.new.seat _ _ _
    (led-marked {mark = λ _. LeftList} 0 c.requires.session c.store_as.ensures.same_seat c.store_as.ensures.side refl (λ owed i. owed))
    (ap (λ number. account_leaving_list a (list_here a.lists.in_hand) number) (sym c.requires.own))
