use Rattle.std.proofs.Common.{◌≡◌, List, sym, ap, ◌∙◌, subst}
use Rattle.lw_word.specs.SlotWord.{word_without}
use Rattle.lock_world.specs.declared.events.Word.TheVariants.{Slot}
use Rattle.lock_world.specs.Account.{SlotsInHand}
use Rattle.lock_world.specs.AccountLaw.{MayClearSlotBy}
use Rattle.shared_rule.specs.declared.history.History.{History}
use Rattle.shared_rule.specs.Marks as mark
use Rattle.shared_rule.specs.Layout.{index_of_word}
use Rattle.shared_rule.specs.History.{first_account, first_number}
use Rattle.shared_rule.proofs.Lemmas.Events.Words.{IsAlwaysLawful, stores_at_own}
use Rattle.lock_world.proofs.Lemmas.Slots.Eligible.{eligible-is}
use Rattle.shared_rule.proofs.Lemmas.Events.Slots.{clearing_slot-lawful}
use Rattle.shared_rule.proofs.slots.clear_slot.Goals as goal

pub without-word-requires : goal.without-word-requires
without-word-requires g c = (eligible-is _ c.args.tag.now c.args.mode c.requires.lawful.1.eligible).2

pub store_as-requires-clause-allowed : goal.store_as-requires-clause-allowed
store_as-requires-clause-allowed g c =
    let may = subst (λ (sessions : List (History g.row.T.Denot)). (mine : SlotsInHand)
    × MayClearSlotBy (first_number sessions) (first_account g.T.PartTable.content sessions) mine c.args.slot c.args.tag.now c.args.mode
    × (c.args.shown ≡ mine.word c.args.slot)) c.requires.session.sessions c.requires.lawful in
    let new : word_without c.args.shown c.args.mode ≡ c.number.result = sym c.without-word.ensures.number ∙ sym c.number.ensures in
    stores_at_own _ c.requires.session c.args.number c.requires.own c.requires.among
    (λ n. Slot n c.args.slot) (λ k there. (c.requires.within, there)) c.slot_word.result
    (c.slot_word.ensures.index ∙ ap (λ n. index_of_word n (Slot c.args.number c.args.slot)) c.requires.sessions) c.number.result g.M.Marking.mark _ c.requires.mark
    (subst (λ n. IsAlwaysLawful g.T.PartTable.content c.args.words.now.key c.requires.session.history (Slot c.requires.session.history.number c.args.slot) (λ _. Unit {0}) (λ _. n) (λ _. mark.ClearedSlot c.args.slot c.args.tag.now c.args.mode)) new
    (clearing_slot-lawful g.T.PartTable.content c.args.words.now.key c.requires.session.history may.0 c.args.slot c.args.tag.now c.args.mode c.args.shown c.requires.within may.1 may.2))
