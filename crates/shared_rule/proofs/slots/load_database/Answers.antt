use Rattle.std.proofs.Common.{ℕ, refl, ap, inl, inr}
use Rattle.lock_world.specs.declared.events.Word.TheVariants.{Database}
use Rattle.shared_rule.specs.declared.history.Mark.{Mark}
use Rattle.shared_rule.specs.Looks.{word_looked_at}
use Rattle.shared_rule.proofs.Lemmas.Events.Words.{names-one, looks_at}
use Rattle.shared_rule.proofs.Lemmas.Events.Loads.{loading_database-lawful}
use Rattle.shared_rule.proofs.slots.load_database.Goals as goal

pub look_as-requires-clause-allowed : goal.look_as-requires-clause-allowed
look_as-requires-clause-allowed g c =
    looks_at _ c.requires.session (Database c.args.owner) (tt, c.requires.exists) c.database_word.result (c.database_word.ensures.index c.args.words.now.key.sessions) 0 (λ n. n) g.M.Marking.mark _ c.requires.mark
    (names-one (Database c.args.owner) g.M.Marking.mark _ c.requires.mark (λ _. refl))
    (loading_database-lawful g.T.PartTable.content c.args.words.now.key c.requires.session.history c.args.owner)

pub returns-clause-of_slots : goal.returns-clause-of_slots
returns-clause-of_slots g c = λ slots has. (c.look_as.ensures.knows (Database c.args.owner)
    (ap (λ (m : ℕ → Mark g.row.T.Denot). word_looked_at (m c.look_as.result)) c.requires.mark)).0 slots (inl has)

pub returns-clause-of_shared_slots : goal.returns-clause-of_shared_slots
returns-clause-of_shared_slots g c = λ slots shares. (c.look_as.ensures.knows (Database c.args.owner)
    (ap (λ (m : ℕ → Mark g.row.T.Denot). word_looked_at (m c.look_as.result)) c.requires.mark)).0 slots (inr shares)

pub returns-clause-own : goal.returns-clause-own
returns-clause-own g c = (c.look_as.ensures.knows (Database c.args.owner)
    (ap (λ (m : ℕ → Mark g.row.T.Denot). word_looked_at (m c.look_as.result)) c.requires.mark)).1
