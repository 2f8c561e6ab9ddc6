use Rattle.std.proofs.Common.{bit_or, sym, ap, ◌∙◌}
use Rattle.lw_word.specs.LightweightWord.{list_unlocked_word, flag_bits}
use Rattle.lw_word.specs.Packing.{word_of-state_of}
use Rattle.lw_word.proofs.Lemmas.Flags.{IsLightweightWord-unlocked}
use Rattle.lw_word.proofs.Lemmas.States.{state_of-unlocked, number_is}
use Rattle.lw_word.proofs.words.LwWord.unlock_list.Goals as goal

pub invariant_of-result : goal.invariant_of-result
invariant_of-result c =
    rw (c.flag_bits.ensures, c.kept_bits.ensures) (IsLightweightWord-unlocked c.self.inside.number c.args.has_waiters c.args.release_ok c.self.invariant)

pub returns-clause-after : goal.returns-clause-after
returns-clause-after c =
    rw (c.flag_bits.ensures, c.kept_bits.ensures, ← c.self.view_is) (state_of-unlocked c.self.inside.number c.args.has_waiters c.args.release_ok)

pub returns-clause-number : goal.returns-clause-number
returns-clause-number c =
    rw (c.flag_bits.ensures, c.kept_bits.ensures)
    (word_of-state_of _ (IsLightweightWord-unlocked c.self.inside.number c.args.has_waiters c.args.release_ok c.self.invariant)
    ∙ ap (λ word. list_unlocked_word (bit_or word (flag_bits c.args.has_waiters c.args.release_ok)) c.args.has_waiters c.args.release_ok)
    (sym (number_is c.self.inside.number c.args.self c.self.invariant c.self.view_is)))
