use Rattle.std.proofs.Common.{sym, ap, ◌∙◌}
use Rattle.lw_word.specs.LightweightWord.{release_ok_word}
use Rattle.lw_word.specs.Packing.{word_of-state_of}
use Rattle.lw_word.proofs.Lemmas.Flags.{IsLightweightWord-release_ok}
use Rattle.lw_word.proofs.Lemmas.States.{state_of-release_ok, number_is}
use Rattle.lw_word.proofs.words.LwWord.set_release_ok.Goals as goal

pub invariant_of-result : goal.invariant_of-result
invariant_of-result c = IsLightweightWord-release_ok c.self.inside.number c.self.invariant

pub returns-clause-after : goal.returns-clause-after
returns-clause-after c = rw (← c.self.view_is) (state_of-release_ok c.self.inside.number)

pub returns-clause-number : goal.returns-clause-number
returns-clause-number c =
    word_of-state_of (release_ok_word c.self.inside.number) (IsLightweightWord-release_ok c.self.inside.number c.self.invariant)
    ∙ ap release_ok_word (sym (number_is c.self.inside.number c.args.self c.self.invariant c.self.view_is))
