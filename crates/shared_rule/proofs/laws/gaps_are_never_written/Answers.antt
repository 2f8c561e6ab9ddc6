use Rattle.shared_rule.proofs.laws.gaps_are_never_written.Goals as goal

pub returns : goal.returns
returns g c = λ sizes state rule index gap. rule.shown.of_words.gap index gap
