use Rattle.std.proofs.Common.{List, ap, subst}
use Rattle.lock_world.specs.declared.events.Word.TheVariants.{Sleep}
use Rattle.lock_world.specs.Account.{ListInHand}
use Rattle.lock_world.specs.AccountLaw.{MayTakeOffBy}
use Rattle.shared_rule.specs.declared.history.History.{History}
use Rattle.shared_rule.specs.History.{first_account, first_number}
use Rattle.shared_rule.specs.Plays.{Side}
use Rattle.shared_rule.proofs.Lemmas.Events.Words.{stores_at}
use Rattle.shared_rule.proofs.Lemmas.Events.ListSteps.{taking_off-lawful}
use Rattle.shared_rule.proofs.Lemmas.Led.{led-marked}
use Rattle.shared_rule.proofs.lists.take_off.Goals as goal

pub store_as-requires-clause-allowed : goal.store_as-requires-clause-allowed
store_as-requires-clause-allowed g c =
    let may = subst (λ (sessions : List (History g.row.T.Denot)).
    (mine : ListInHand)
    × MayTakeOffBy (first_number sessions) (first_account g.T.PartTable.content sessions) mine c.args.other) c.requires.session.sessions c.requires.lawful in
    stores_at _ c.requires.session (Sleep c.args.other) (tt, c.requires.exists) c.sleep_word.result (c.sleep_word.ensures.index c.args.words.now.key.sessions) 2 g.M.Marking.mark _ c.requires.mark
    (taking_off-lawful g.T.PartTable.content c.args.words.now.key c.requires.session.history may.0 c.args.other may.1)

pub returns-clause-led : goal.returns-clause-led
returns-clause-led g c = led-marked _ c.requires.session c.store_as.ensures.same_seat c.store_as.ensures.side c.requires.mark (λ owed i. owed)

pub returns-clause-shelves : goal.returns-clause-shelves
returns-clause-shelves g c = ap (λ (side : Side g.row.T.Denot). side.1) c.store_as.ensures.side
