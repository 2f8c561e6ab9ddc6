use Rattle.std.proofs.Common.{◌≡◌, List, sym, ap, ◌∙◌, subst}
use Rattle.lw_word.specs.SlotWord.{word_with}
use Rattle.lock_world.specs.declared.events.Word.TheVariants.{Slot}
use Rattle.lock_world.specs.SlotHolds.{relation_of}
use Rattle.lock_world.specs.Account.{SlotsInHand}
use Rattle.lock_world.specs.AccountLaw.{MaySetSlotBy}
use Rattle.shared_rule.specs.declared.history.History.{History}
use Rattle.shared_rule.specs.Marks as mark
use Rattle.shared_rule.specs.Layout.{index_of_word}
use Rattle.shared_rule.specs.History.{first_account, first_number}
use Rattle.shared_rule.proofs.Lemmas.Events.Words.{IsAlwaysLawful, stores_at_own}
use Rattle.lock_world.proofs.Lemmas.Slots.Eligible.{eligible-is}
use Rattle.shared_rule.proofs.Lemmas.SlotWords.{its-slot}
use Rattle.shared_rule.proofs.Lemmas.Events.Slots.{setting-lawful}
use Rattle.shared_rule.proofs.slots.set_slot.Goals as goal

pub with-word-requires-clause-slot_mode : goal.with-word-requires-clause-slot_mode
with-word-requires-clause-slot_mode g c = (eligible-is _ c.args.tag.now c.args.mode c.requires.lawful.1.eligible).2

pub with-word-requires-clause-its_slot : goal.with-word-requires-clause-its_slot
with-word-requires-clause-its_slot g c = λ used.
    let lawful = c.requires.lawful in
    its-slot c.args.words.now.key.groups lawful.0.word (relation_of c.args.tag.now) c.args.slot c.args.shown lawful.1.takes lawful.2 used
    ∙ sym c.relation_number.ensures

pub store_as-requires-clause-allowed : goal.store_as-requires-clause-allowed
store_as-requires-clause-allowed g c =
    let may = subst (λ (sessions : List (History g.row.T.Denot)). (mine : SlotsInHand)
    × MaySetSlotBy c.args.words.now.key.groups (first_number sessions) (first_account g.T.PartTable.content sessions) mine c.args.slot c.args.tag.now c.args.mode
    × (c.args.shown ≡ mine.word c.args.slot)) c.requires.session.sessions c.requires.lawful in
    let new : word_with c.args.shown (relation_of c.args.tag.now) c.args.mode ≡ c.number.result =
    ap (λ r. word_with c.args.shown r c.args.mode) (sym c.relation_number.ensures) ∙ sym c.with-word.ensures.number ∙ sym c.number.ensures in
    stores_at_own _ c.requires.session c.args.number c.requires.own c.requires.among
    (λ n. Slot n c.args.slot) (λ k there. (c.requires.within, there)) c.slot_word.result
    (c.slot_word.ensures.index ∙ ap (λ n. index_of_word n (Slot c.args.number c.args.slot)) c.requires.sessions) c.number.result g.M.Marking.mark _ c.requires.mark
    (subst (λ n. IsAlwaysLawful g.T.PartTable.content c.args.words.now.key c.requires.session.history (Slot c.requires.session.history.number c.args.slot) (λ _. Unit {0}) (λ _. n) (λ _. mark.SetSlot c.args.slot c.args.tag.now c.args.mode)) new
    (setting-lawful g.T.PartTable.content c.args.words.now.key c.requires.session.history may.0 c.args.slot c.args.tag.now c.args.mode c.args.shown c.requires.within may.1 may.2))
