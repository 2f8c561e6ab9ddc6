use Rattle.shared_rule.specs.Plays.{side_of}
use Rattle.std.proofs.Common.{ℕ, refl, ap}
use Rattle.lock_world.specs.declared.events.Word.TheVariants.{Strong}
use Rattle.shared_rule.specs.declared.history.Mark.{Mark}
use Rattle.shared_rule.specs.Looks.{word_looked_at}
use Rattle.shared_rule.proofs.Lemmas.Events.Words.{names-one}
use Rattle.shared_rule.proofs.Lemmas.Events.Loads.{loading_strong-lawful}
use Rattle.shared_rule.proofs.Lemmas.Events.Gatherings.{looks_over_at}
use Rattle.shared_rule.proofs.audits.look_over_strong.Goals as goal

pub look_over_as-requires-clause-allowed : goal.look_over_as-requires-clause-allowed
look_over_as-requires-clause-allowed g c =
    let session = c.requires.session in
    looks_over_at g.T.PartTable.content g.T.PartTable.begun c.args.words.now.key c.args.words.now.table_id.slots c.args.seat.now.id (side_of c.args.seat.now) session.history session.others session.sessions
    (Strong c.args.index) (c.requires.within, tt) c.strong_word.result (c.strong_word.ensures.index c.args.words.now.key.sessions) g.M.Marking.mark _ c.requires.mark
    (names-one (Strong c.args.index) g.M.Marking.mark _ c.requires.mark (λ _. refl)) (loading_strong-lawful g.T.PartTable.content c.args.words.now.key c.requires.session.history c.args.index c.requires.within)

pub returns-clause-knows : goal.returns-clause-knows
returns-clause-knows g c = λ issued are.
    c.look_over_as.ensures.knows (Strong c.args.index) issued
    (ap (λ (m : ℕ → Mark g.row.T.Denot). word_looked_at (m c.look_over_as.result)) c.requires.mark) are
