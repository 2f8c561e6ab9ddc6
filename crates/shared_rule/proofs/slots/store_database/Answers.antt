use Rattle.std.proofs.Common.{List, sym, subst}
use Rattle.lock_world.specs.declared.events.Word.TheVariants.{Database}
use Rattle.shared_rule.specs.declared.history.History.{History}
use Rattle.shared_rule.specs.Marks.{StoredDatabase}
use Rattle.shared_rule.specs.History.{first_account}
use Rattle.shared_rule.specs.Seats.{HoldsNothing}
use Rattle.shared_rule.proofs.Lemmas.Events.Words.{IsAlwaysLawful, stores_at_own}
use Rattle.shared_rule.proofs.Lemmas.Events.Slots.{storing-lawful}
use Rattle.shared_rule.proofs.slots.store_database.Goals as goal

pub store_as-requires-clause-allowed : goal.store_as-requires-clause-allowed
store_as-requires-clause-allowed g c =
    let nothing = subst (λ (sessions : List (History g.row.T.Denot)). HoldsNothing (first_account g.T.PartTable.content sessions)) c.requires.session.sessions c.requires.no_hold in
    stores_at_own _ c.requires.session c.args.number c.requires.own c.requires.among
    Database (λ k there. (tt, there)) c.database_word.result (c.database_word.ensures.index c.args.words.now.key.sessions) c.from.result g.M.Marking.mark _ c.requires.mark
    (subst (λ n. IsAlwaysLawful g.T.PartTable.content c.args.words.now.key c.requires.session.history (Database c.requires.session.history.number) (λ _. Unit {0}) (λ _. n) (λ _. StoredDatabase c.args.database)) (sym c.from.ensures)
    (storing-lawful g.T.PartTable.content c.args.words.now.key c.requires.session.history c.args.database nothing))
