use Rattle.std.proofs.Common.{List, ap, subst}
use Rattle.lock_world.specs.declared.events.Word.TheVariants.{Sleep}
use Rattle.lock_world.specs.AccountLaw.{MayTellBy}
use Rattle.shared_rule.specs.declared.history.History.{History}
use Rattle.shared_rule.specs.History.{first_account}
use Rattle.shared_rule.specs.Plays.{Side}
use Rattle.shared_rule.proofs.Lemmas.Events.Words.{stores_at}
use Rattle.shared_rule.proofs.Lemmas.Events.ListSteps.{telling-lawful}
use Rattle.shared_rule.proofs.Lemmas.Led.{led-marked}
use Rattle.shared_rule.proofs.lists.tell.Goals as goal

pub store_as-requires-clause-allowed : goal.store_as-requires-clause-allowed
store_as-requires-clause-allowed g c =
    let may = subst (λ (sessions : List (History g.row.T.Denot)).
    MayTellBy (first_account g.T.PartTable.content sessions) c.args.other) c.requires.session.sessions c.requires.lawful in
    stores_at _ c.requires.session (Sleep c.args.other) (tt, c.requires.exists) c.sleep_word.result (c.sleep_word.ensures.index c.args.words.now.key.sessions) 0 g.M.Marking.mark _ c.requires.mark
    (telling-lawful g.T.PartTable.content c.args.words.now.key c.requires.session.history c.args.other may)

pub returns-clause-led : goal.returns-clause-led
returns-clause-led g c = led-marked _ c.requires.session c.store_as.ensures.same_seat c.store_as.ensures.side c.requires.mark (λ owed i. owed)

pub returns-clause-shelves : goal.returns-clause-shelves
returns-clause-shelves g c = ap (λ (side : Side g.row.T.Denot). side.1) c.store_as.ensures.side
