use Rattle.std.proofs.Common.{◌≡◌, List, sym, ap, ◌∙◌, subst}
use Rattle.lw_word.specs.SlotWord.{word_without}
use Rattle.lock_table.specs.Content.{add_hold}
use Rattle.lock_world.specs.declared.events.Word.TheVariants.{Slot}
use Rattle.lock_world.specs.SlotHolds.{relation_of}
use Rattle.lock_world.specs.Account.{InHand, SlotsInHand}
use Rattle.lock_world.specs.AccountLaw.{MayTransferBy}
use Rattle.shared_rule.specs.declared.history.History.{History}
use Rattle.shared_rule.specs.Marks as mark
use Rattle.shared_rule.specs.History.{first_account}
use Rattle.shared_rule.specs.Layout.{index_of_word}
use Rattle.shared_rule.proofs.Lemmas.Events.Words.{IsAlwaysLawful, stores_at}
use Rattle.shared_rule.proofs.Lemmas.SlotWords.{shown-weak}
use Rattle.shared_rule.proofs.Lemmas.Events.Slots.{transferring-lawful}
use Rattle.shared_rule.proofs.slots.transfer_slot.Goals as goal

pub without-word-requires : goal.without-word-requires
without-word-requires g c = let may = c.requires.lawful.2 in shown-weak (c.requires.lawful.0.word c.args.slot)
    (relation_of c.args.tag.now) c.args.mode may.shown

pub store_as-requires-clause-allowed : goal.store_as-requires-clause-allowed
store_as-requires-clause-allowed g c =
    let may = subst (λ (sessions : List (History g.row.T.Denot)). (its : SlotsInHand) × (mine : InHand)
    × MayTransferBy c.args.words.now.key.sessions (first_account g.T.PartTable.content sessions) c.args.owner c.args.slot its mine c.args.tag.now c.args.mode c.args.strong
    × (c.args.shown ≡ its.word c.args.slot)
    × (g.T.PartTable.content c.args.content.now ≡ add_hold mine.now c.args.owner c.args.tag.now c.args.mode)) c.requires.session.sessions c.requires.lawful in
    let new : word_without c.args.shown c.args.mode ≡ c.number.result = sym c.without-word.ensures.number ∙ sym c.number.ensures in
    stores_at _ c.requires.session (Slot c.args.owner c.args.slot) (c.requires.within, c.requires.exists) c.slot_word.result
    (c.slot_word.ensures.index ∙ ap (λ k. index_of_word k (Slot c.args.owner c.args.slot)) c.requires.sessions) c.number.result g.M.Marking.mark _ c.requires.mark
    (subst (λ n. IsAlwaysLawful g.T.PartTable.content c.args.words.now.key c.requires.session.history (Slot c.args.owner c.args.slot) (λ _. Unit {0}) (λ _. n)
    (λ _. mark.TransferredSlot c.args.owner c.args.slot c.args.tag.now c.args.mode)) new
    (transferring-lawful g.T.PartTable.content c.args.words.now.key c.requires.session.history c.args.owner c.args.slot may.0 may.1 c.args.tag.now c.args.mode c.args.strong c.args.shown c.requires.within may.2 may.3))
