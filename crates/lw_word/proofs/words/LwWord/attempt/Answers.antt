use Rattle.std.proofs.Common.{◌≡◌, ◌+◌, ℕ, Option, None, Some, sym, ap, ◌∙◌, subst}
use Rattle.std.specs.Option.{SomeIff}
use Rattle.lw_word.specs.declared.words.LwMode.{LwMode}
use Rattle.lw_word.specs.declared.words.LwMode.TheVariants.{Exclusive, Shared}
use Rattle.lw_word.specs.LightweightWord.{IsHeldByNobody, IsFreeToShare, taken_word, shared_word}
use Rattle.lw_word.specs.LockState.{state_of, amount_of, IsFreeFor}
use Rattle.lw_word.specs.Packing.{word_of-state_of}
use Rattle.lw_word.proofs.Lemmas.States.{IsFreeFor-exclusive, IsFreeFor-shared, state_of-taken, IsLightweightWord-taken, number_is}
use Rattle.lw_word.proofs.words.LwWord.attempt.Goals as goal
use Rattle.lw_word.proofs.words.LwWord.attempt.Goals.{in-Exclusive, in-Shared}

-- What the call for the mode found, said of the mode.
abbrev Found : LwMode → ℕ → Option ℕ → Type 0
Found mode word found = SomeIff found (IsFreeFor mode (state_of word)) (word + amount_of mode)

exclusive : (word : ℕ) (found : Option ℕ) → SomeIff found (IsHeldByNobody word) (taken_word word) → Found Exclusive word found
exclusive word None held = λ free. held ((IsFreeFor-exclusive word).0 free)
exclusive word (Some number) free = ((IsFreeFor-exclusive word).1 free.0, free.1)

shared : (word : ℕ) (found : Option ℕ) → SomeIff found (IsFreeToShare word) (shared_word word) → Found Shared word found
shared word None held = λ free. held ((IsFreeFor-shared word).0 free)
shared word (Some number) free = ((IsFreeFor-shared word).1 free.0, free.1)

moved : (mode mode' : LwMode) (word : ℕ) (found found' : Option ℕ) → mode' ≡ mode → found ≡ found' → Found mode word found → Found mode' word found'
moved mode mode' word found found' same_mode same h = subst (Found mode' word) same (subst (λ m. Found m word found) (sym same_mode) h)

taken : (c : goal.In-Some) → Found c.args.mode c.self.inside.number (Some c.in-Some.number)
taken c = elim c.match-mode.branch [
  | in-Exclusive w ↦ moved _ _ c.self.inside.number _ _ w.in-Exclusive.is (sym w.after-is ∙ c.in-Some.is) (exclusive c.self.inside.number w.taken-after.result w.taken-after.ensures)
  | in-Shared w ↦ moved _ _ c.self.inside.number _ _ w.in-Shared.is (sym w.after-is ∙ c.in-Some.is) (shared c.self.inside.number w.shared-after.result w.shared-after.ensures)
]

pub invariant_of-result : goal.invariant_of-result
invariant_of-result c =
    let it = taken c in
    rw it.1 (IsLightweightWord-taken c.args.mode c.self.inside.number (rw c.self.view_is c.requires) it.0 c.self.invariant)

pub returns-in-Some-clause-answer : goal.returns-in-Some-clause-answer
returns-in-Some-clause-answer c =
    let it = taken c in
    (rw (← c.self.view_is) it.0, rw (it.1, ← c.self.view_is) (state_of-taken c.args.mode c.self.inside.number (rw c.self.view_is c.requires) it.0))

pub returns-in-Some-clause-number : goal.returns-in-Some-clause-number
returns-in-Some-clause-number c =
    let number = number_is c.self.inside.number c.args.self c.self.invariant c.self.view_is in
    word_of-state_of c.in-Some.number (invariant_of-result c) ∙ (taken c).1 ∙ ap (λ n. n + amount_of c.args.mode) (sym number)

pub returns-in-None-clause-answer : goal.returns-in-None-clause-answer
returns-in-None-clause-answer c = rw (← c.self.view_is) (elim c.match-mode.branch [
  | in-Exclusive w ↦ moved _ _ c.self.inside.number _ _ w.in-Exclusive.is (sym w.after-is ∙ c.in-None.is) (exclusive c.self.inside.number w.taken-after.result w.taken-after.ensures)
  | in-Shared w ↦ moved _ _ c.self.inside.number _ _ w.in-Shared.is (sym w.after-is ∙ c.in-None.is) (shared c.self.inside.number w.shared-after.result w.shared-after.ensures)
])
