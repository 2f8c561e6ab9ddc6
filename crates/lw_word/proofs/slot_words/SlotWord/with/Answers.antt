use Rattle.std.proofs.Common.{◌≡◌, bit_or, ap, ◌∙◌}
use Rattle.lw_word.specs.SlotWord.{shows, slot_word, word_with}
use Rattle.lw_word.proofs.Lemmas.Slots.{shows-word_with}
use Rattle.lw_word.proofs.slot_words.SlotWord.with.Goals as goal

pub returns-clause-shown : goal.returns-clause-shown
returns-clause-shown c =
    let is : c.packed.result ≡ word_with c.args.self c.args.relation c.args.mode =
    c.packed.ensures ∙ (λ i. slot_word c.args.relation (bit_or (c.mode_bits.ensures.value i) (c.mode_bit.ensures.value i))) in
    ap shows is
    ∙ (λ i other its. shows-word_with c.args.self c.args.relation c.args.mode c.ranges.relation.fits c.requires.slot_mode c.requires.its_slot other its i)
