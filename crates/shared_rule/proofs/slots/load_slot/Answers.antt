use Rattle.std.proofs.Common.{ℕ, refl, ap, ◌∙◌, inl, inr}
use Rattle.lock_world.specs.declared.events.Word.TheVariants.{Slot}
use Rattle.shared_rule.specs.declared.history.Mark.{Mark}
use Rattle.shared_rule.specs.Looks.{word_looked_at}
use Rattle.shared_rule.specs.Layout.{index_of_word}
use Rattle.shared_rule.proofs.Lemmas.Events.Words.{names-one, looks_at}
use Rattle.shared_rule.proofs.Lemmas.Events.Loads.{loading_slot-lawful}
use Rattle.shared_rule.proofs.slots.load_slot.Goals as goal

pub look_as-requires-clause-allowed : goal.look_as-requires-clause-allowed
look_as-requires-clause-allowed g c =
    looks_at _ c.requires.session (Slot c.args.owner c.args.slot) (c.requires.within, c.requires.exists) c.slot_word.result
    (c.slot_word.ensures.index ∙ ap (λ k. index_of_word k (Slot c.args.owner c.args.slot)) c.requires.sessions)
    0 (λ n. n) g.M.Marking.mark _ c.requires.mark (names-one (Slot c.args.owner c.args.slot) g.M.Marking.mark _ c.requires.mark (λ _. refl))
    (loading_slot-lawful g.T.PartTable.content c.args.words.now.key c.requires.session.history c.args.owner c.args.slot c.requires.within)

pub returns-clause-of_slots : goal.returns-clause-of_slots
returns-clause-of_slots g c = λ slots has.
    c.from_number.ensures ∙ c.look_as.ensures.knows (Slot c.args.owner c.args.slot)
    (ap (λ (m : ℕ → Mark g.row.T.Denot). word_looked_at (m c.look_as.result)) c.requires.mark) slots (inl has)

pub returns-clause-of_shared_slots : goal.returns-clause-of_shared_slots
returns-clause-of_shared_slots g c = λ slots shares.
    c.from_number.ensures ∙ c.look_as.ensures.knows (Slot c.args.owner c.args.slot)
    (ap (λ (m : ℕ → Mark g.row.T.Denot). word_looked_at (m c.look_as.result)) c.requires.mark) slots (inr shares)
