use Rattle.std.proofs.Common.{sym, ap, ◌∙◌}
use Rattle.shared_rule.specs.Layout.{index_of_word}
use Rattle.shared_rule.specs.LwLocks.{word_of_lock}
use Rattle.shared_rule.proofs.lw_locks.LwLock.word.Goals as goal

pub returns-in-OfPart-clause-index : goal.returns-in-OfPart-clause-index
returns-in-OfPart-clause-index c = λ sessions.
    c.partition_word.ensures.index sessions ∙ ap (λ lock. index_of_word sessions (word_of_lock lock)) (sym c.in-OfPart.is)

pub returns-in-OfSlots-clause-index : goal.returns-in-OfSlots-clause-index
returns-in-OfSlots-clause-index c = λ sessions.
    c.fast_word.ensures.index sessions ∙ ap (λ lock. index_of_word sessions (word_of_lock lock)) (sym c.in-OfSlots.is)
