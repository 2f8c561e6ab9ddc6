use Rattle.std.proofs.Common.{◌≡◌, ◌<◌, ◌^◌, true, length, get_or, sym, ap, ◌∙◌, subst, arith}
use Rattle.lw_word.specs.SlotWord.{in_use, relation_in, word_with}
use Rattle.lock_world.specs.SlotHolds.{relation_of}
use Rattle.lock_model.specs.SlotLooks.{slots_at, may_set_slot}
use Rattle.lock_model.proofs.Lemmas.Follows.SlotSteps.{set_is_eligible, set_takes, set_within, slot_read, slot_was_set, slot_not_set}
use Rattle.lock_model.proofs.machine.state.Machine.set_slot.Goals as goal

pub with-requires-clause-slot_mode : goal.with-requires-clause-slot_mode
with-requires-clause-slot_mode c =
    let now = c.args.self.now in
    let place : c.from-place.result ≡ c.args.slot = c.from-place.ensures in
    set_is_eligible now c.args.session c.args.slot c.args.tag c.args.mode (ap (λ k. may_set_slot now c.args.session k c.args.tag c.args.mode) (sym place) ∙ sym c.if-may_set_slot.ensures)

pub with-requires-clause-its_slot : goal.with-requires-clause-its_slot
with-requires-clause-its_slot c =
    let now = c.args.self.now in
    let place : c.from-place.result ≡ c.args.slot = c.from-place.ensures in
    let whose : c.from-index.result ≡ c.args.session = c.from-index.ensures ∙ c.number.ensures.value in
    let may : may_set_slot now c.args.session c.args.slot c.args.tag c.args.mode ≡ true = ap (λ k. may_set_slot now c.args.session k c.args.tag c.args.mode) (sym place) ∙ sym c.if-may_set_slot.ensures in
    let within : c.args.slot < length (slots_at now c.args.session) =
    subst (λ n. c.args.slot < n) (sym (c.requires.shown.2.fast_path.each_slots c.args.session (omega arith))) (set_within now c.args.session c.args.slot c.args.tag c.args.mode may) in
    let read = slot_read now.fast_path.slots c.from-index.result c.args.session c.from-place.result c.args.slot c.index-self-index.result whose place within in
    λ used. ap relation_in read ∙ set_takes now c.args.session c.args.slot c.args.tag c.args.mode may (sym (ap in_use read) ∙ used) ∙ sym c.relation_number.ensures

pub returns-then-may_set_slot : goal.returns-then-may_set_slot
returns-then-may_set_slot c = λ w safe shows.
    let now = c.args.self.now in
    let place : c.from-place.result ≡ c.args.slot = c.from-place.ensures in
    let whose : c.from-index.result ≡ c.args.session = c.from-index.ensures ∙ c.number.ensures.value in
    let may : may_set_slot now c.args.session c.args.slot c.args.tag c.args.mode ≡ true = ap (λ k. may_set_slot now c.args.session k c.args.tag c.args.mode) (sym place) ∙ sym c.if-may_set_slot.ensures in
    let within : c.args.slot < length (slots_at now c.args.session) =
    subst (λ n. c.args.slot < n) (sym (shows.fast_path.each_slots c.args.session (omega arith))) (set_within now c.args.session c.args.slot c.args.tag c.args.mode may) in
    let read = slot_read now.fast_path.slots c.from-index.result c.args.session c.from-place.result c.args.slot c.index-self-index.result whose place within in
    let fits : relation_of c.args.tag < 2 ^ 32 = subst (λ r. r < 2 ^ 32) c.relation_number.ensures c.relation_number.type_inv in
    let word : c.with.result ≡ word_with (get_or (slots_at now c.args.session) c.args.slot 0) (relation_of c.args.tag) c.args.mode =
    c.with.ensures.number ∙ ap (λ x. word_with x c.relation_number.result c.args.mode) read ∙ ap (λ r. word_with (get_or (slots_at now c.args.session) c.args.slot 0) r c.args.mode) c.relation_number.ensures in
    rw (word, place, whose) (slot_was_set now w safe shows c.args.session c.args.slot c.args.tag c.args.mode (omega arith) fits may)

pub returns-else-may_set_slot : goal.returns-else-may_set_slot
returns-else-may_set_slot c = λ w safe shows.
    let now = c.args.self.now in
    let place : c.from-place.result ≡ c.args.slot = c.from-place.ensures in
    slot_not_set now w safe shows c.args.session c.args.slot c.args.tag c.args.mode (omega arith)
    (ap (λ k. may_set_slot now c.args.session k c.args.tag c.args.mode) (sym place) ∙ sym c.if-may_set_slot.ensures)
