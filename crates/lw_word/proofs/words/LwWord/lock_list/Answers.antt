use Rattle.std.proofs.Common.{sym, ap, ◌∙◌}
use Rattle.std.proofs.lemmas.Bool.{false≢true}
use Rattle.lw_word.specs.LightweightWord.{list_locked_word}
use Rattle.lw_word.specs.LockState.{LockState}
use Rattle.lw_word.specs.Packing.{word_of-state_of}
use Rattle.lw_word.proofs.Lemmas.Flags.{IsLightweightWord-list_locked}
use Rattle.lw_word.proofs.Lemmas.States.{state_of-list_locked, list_free, number_is}
use Rattle.lw_word.proofs.words.LwWord.lock_list.Goals as goal

pub invariant_of-result : goal.invariant_of-result
invariant_of-result c = IsLightweightWord-list_locked c.self.inside.number c.self.invariant

pub returns-then-has_locked_list-clause-answer : goal.returns-then-has_locked_list-clause-answer
returns-then-has_locked_list-clause-answer c = (
  ap (λ (state : LockState). state.list_locked) (sym c.self.view_is)
      ∙ (list_free c.self.inside.number).0 (c.has_locked_list.ensures.0 c.if-has_locked_list.true),
  rw (← c.self.view_is) (state_of-list_locked c.self.inside.number),
)

pub returns-then-has_locked_list-clause-number : goal.returns-then-has_locked_list-clause-number
returns-then-has_locked_list-clause-number c =
    word_of-state_of (list_locked_word c.self.inside.number) (IsLightweightWord-list_locked c.self.inside.number c.self.invariant)
    ∙ ap list_locked_word (sym (number_is c.self.inside.number c.args.self c.self.invariant c.self.view_is))

pub returns-else-has_locked_list-clause-answer : goal.returns-else-has_locked_list-clause-answer
returns-else-has_locked_list-clause-answer c = λ unlocked.
    false≢true (sym c.if-has_locked_list.false
    ∙ c.has_locked_list.ensures.1 ((list_free c.self.inside.number).1 (ap (λ (state : LockState). state.list_locked) c.self.view_is ∙ unlocked)))
