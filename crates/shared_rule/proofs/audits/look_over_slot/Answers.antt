use Rattle.shared_rule.specs.Plays.{side_of}
use Rattle.std.proofs.Common.{ℕ, refl, sym, ap, ◌∙◌, subst}
use Rattle.lock_world.specs.declared.events.Word.TheVariants.{Slot}
use Rattle.shared_rule.specs.Gatherings.{KnowsOfAll}
use Rattle.shared_rule.proofs.Lemmas.Events.Words.{names-one}
use Rattle.shared_rule.specs.Layout.{index_of_word}
use Rattle.shared_rule.specs.declared.history.Mark.{Mark}
use Rattle.shared_rule.specs.Looks.{word_looked_at}
use Rattle.shared_rule.proofs.Lemmas.Events.Loads.{loading_slot-lawful}
use Rattle.shared_rule.proofs.Lemmas.Events.Gatherings.{looks_over_at}
use Rattle.shared_rule.proofs.audits.look_over_slot.Goals as goal

pub look_over_as-requires-clause-allowed : goal.look_over_as-requires-clause-allowed
look_over_as-requires-clause-allowed g c =
    let session = c.requires.session in
    looks_over_at g.T.PartTable.content g.T.PartTable.begun c.args.words.now.key c.args.words.now.table_id.slots c.args.seat.now.id (side_of c.args.seat.now) session.history session.others session.sessions
    (Slot c.args.owner c.args.slot) (c.requires.within, c.requires.exists) c.slot_word.result
    (c.slot_word.ensures.index ∙ ap (λ k. index_of_word k (Slot c.args.owner c.args.slot)) c.requires.sessions) g.M.Marking.mark _ c.requires.mark
    (names-one (Slot c.args.owner c.args.slot) g.M.Marking.mark _ c.requires.mark (λ _. refl))
    (loading_slot-lawful g.T.PartTable.content c.args.words.now.key c.requires.session.history c.args.owner c.args.slot c.requires.within)

pub returns-clause-knows : goal.returns-clause-knows
returns-clause-knows g c = λ issued are.
    subst (KnowsOfAll g.T.PartTable.content (side_of c.args.seat.now).0 (Slot c.args.owner c.args.slot)) (sym c.from_number.ensures)
    (c.look_over_as.ensures.knows (Slot c.args.owner c.args.slot) issued
    (ap (λ (m : ℕ → Mark g.row.T.Denot). word_looked_at (m c.look_over_as.result)) c.requires.mark) are)
