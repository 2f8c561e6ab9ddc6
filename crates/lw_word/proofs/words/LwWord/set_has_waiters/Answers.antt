use Rattle.std.proofs.Common.{sym, ap, ◌∙◌}
use Rattle.lw_word.specs.LightweightWord.{has_waiters_word}
use Rattle.lw_word.specs.Packing.{word_of-state_of}
use Rattle.lw_word.proofs.Lemmas.Flags.{IsLightweightWord-has_waiters}
use Rattle.lw_word.proofs.Lemmas.States.{state_of-has_waiters, number_is}
use Rattle.lw_word.proofs.words.LwWord.set_has_waiters.Goals as goal

pub invariant_of-result : goal.invariant_of-result
invariant_of-result c = IsLightweightWord-has_waiters c.self.inside.number c.self.invariant

pub returns-clause-after : goal.returns-clause-after
returns-clause-after c = rw (← c.self.view_is) (state_of-has_waiters c.self.inside.number)

pub returns-clause-number : goal.returns-clause-number
returns-clause-number c =
    word_of-state_of (has_waiters_word c.self.inside.number) (IsLightweightWord-has_waiters c.self.inside.number c.self.invariant)
    ∙ ap has_waiters_word (sym (number_is c.self.inside.number c.args.self c.self.invariant c.self.view_is))
