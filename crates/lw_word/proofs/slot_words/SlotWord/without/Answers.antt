use Rattle.std.proofs.Common.{◌≡◌, ◌-◌, bit_and, sym, ap, ◌∙◌}
use Rattle.lw_word.specs.SlotWord.{shows, slot_word, word_without, bits_without}
use Rattle.lw_word.proofs.Lemmas.Slots.{shows-word_without, word_without-last, word_without-more}
use Rattle.lw_word.proofs.slot_words.SlotWord.without.Goals as goal

pub returns-then-modes-eq0-clause-shown : goal.returns-then-modes-eq0-clause-shown
returns-then-modes-eq0-clause-shown c =
    let none : bits_without c.args.self c.args.mode ≡ 0 =
    (λ i. bit_and (sym c.mode_bits.ensures.value i) (7 - sym c.mode_bit.ensures.value i)) ∙ c.if-modes-eq0.true in
    ap shows (sym (word_without-last c.args.self c.args.mode none))
    ∙ (λ i other its. shows-word_without c.args.self c.args.mode c.requires other its i)

pub returns-else-modes-eq0-clause-shown : goal.returns-else-modes-eq0-clause-shown
returns-else-modes-eq0-clause-shown c =
    let bits : bit_and c.mode_bits.result (7 - c.mode_bit.result) ≡ bits_without c.args.self c.args.mode =
    λ i. bit_and (c.mode_bits.ensures.value i) (7 - c.mode_bit.ensures.value i) in
    let is : c.packed.result ≡ word_without c.args.self c.args.mode =
    c.packed.ensures
    ∙ (λ i. slot_word (c.relation.ensures i) (bits i))
    ∙ sym (word_without-more c.args.self c.args.mode (λ none. c.if-modes-eq0.false (bits ∙ none))) in
    ap shows is ∙ (λ i other its. shows-word_without c.args.self c.args.mode c.requires other its i)
