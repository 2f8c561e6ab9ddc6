use Rattle.std.proofs.Common.{◌≡◌, ◌<◌, true, length, get_or, sym, ap, ◌∙◌, subst, arith}
use Rattle.lw_word.specs.SlotWord.{word_without}
use Rattle.lock_model.specs.SlotLooks.{slots_at, may_clear_slot}
use Rattle.lock_model.proofs.Lemmas.Follows.SlotSteps.{clear_is_eligible, clear_within, slot_read, slot_was_cleared, slot_not_cleared}
use Rattle.lock_model.proofs.machine.state.Machine.clear_slot.Goals as goal

pub without-requires : goal.without-requires
without-requires c =
    let now = c.args.self.now in
    let place : c.from-place.result ≡ c.args.slot = c.from-place.ensures in
    clear_is_eligible now c.args.session c.args.slot c.args.tag c.args.mode (ap (λ k. may_clear_slot now c.args.session k c.args.tag c.args.mode) (sym place) ∙ sym c.if-may_clear_slot.ensures)

pub returns-then-may_clear_slot : goal.returns-then-may_clear_slot
returns-then-may_clear_slot c = λ w safe shows.
    let now = c.args.self.now in
    let place : c.from-place.result ≡ c.args.slot = c.from-place.ensures in
    let whose : c.from-index.result ≡ c.args.session = c.from-index.ensures ∙ c.number.ensures.value in
    let may : may_clear_slot now c.args.session c.args.slot c.args.tag c.args.mode ≡ true = ap (λ k. may_clear_slot now c.args.session k c.args.tag c.args.mode) (sym place) ∙ sym c.if-may_clear_slot.ensures in
    let within : c.args.slot < length (slots_at now c.args.session) =
    subst (λ n. c.args.slot < n) (sym (shows.fast_path.each_slots c.args.session (omega arith))) (clear_within now c.args.session c.args.slot c.args.tag c.args.mode may) in
    let read = slot_read now.fast_path.slots c.from-index.result c.args.session c.from-place.result c.args.slot c.index-self-index.result whose place within in
    let word : c.without.result ≡ word_without (get_or (slots_at now c.args.session) c.args.slot 0) c.args.mode =
    c.without.ensures.number ∙ ap (λ x. word_without x c.args.mode) read in
    rw (word, place, whose) (slot_was_cleared now w safe shows c.args.session c.args.slot c.args.tag c.args.mode (omega arith) may)

pub returns-else-may_clear_slot : goal.returns-else-may_clear_slot
returns-else-may_clear_slot c = λ w safe shows.
    let now = c.args.self.now in
    let place : c.from-place.result ≡ c.args.slot = c.from-place.ensures in
    slot_not_cleared now w safe shows c.args.session c.args.slot c.args.tag c.args.mode
    (ap (λ k. may_clear_slot now c.args.session k c.args.tag c.args.mode) (sym place) ∙ sym c.if-may_clear_slot.ensures)
