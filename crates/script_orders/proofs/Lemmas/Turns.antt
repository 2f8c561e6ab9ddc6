use Rattle.std.proofs.Common.{◌≡◌, ℕ, ◌+◌, ◌<◌, List, [], ◌∷◌, ◌++◌, ◌⊎◌, inl, inr, Result, Ok, Err, length, string_bytes, get_or, sym, ◌∙◌, ap, subst, IfOk}
use Rattle.std.specs.List.{HoldsAt}
use Rattle.std.proofs.lemmas.List.{get_or_default}
use Rattle.std.specs.declared.alloc.AllocError.{AllocError}
use Rattle.script_orders.specs.declared.orders.Orders.{Orders}
use Rattle.script_orders.specs.declared.orders.Instruction.{Instruction}
use Rattle.script_orders.specs.declared.orders.Instruction.TheVariants.{Line, Anew, End}
use Rattle.script_orders.specs.declared.steps.Step.{Step}
use Rattle.script_orders.specs.declared.script_lines.ScriptLines.{ScriptLines}
use Rattle.script_orders.specs.declared.script_lines.ScriptLine.{ScriptLine}
use Rattle.script_orders.specs.Turns.{Begins, GivesOpening, GivesStep, Goes, IsLineAt, KeepsOrder, steps_of}

-- another order begins, whatever was before
begins_goes : (old new : Orders) (turn : Instruction) → Begins new turn → Goes old new turn
begins_goes old new (Line text) b = absurd b
begins_goes old new Anew b = b
begins_goes old new End b = tt

-- the same where there is memory
pub may_begin : (old new : Orders) (result : Result Instruction AllocError) → IfOk result (Begins new) → IfOk result (Goes old new)
may_begin old new (Ok turn) b = begins_goes old new turn b
may_begin old new (Err e) b = b

-- a step is its two numbers
step_is : (step : Step) (session line : ℕ) → step.session ≡ session → step.line ≡ line
    → step ≡ record { session = session; line = line }
step_is step session line s l =
    let first : Step → ℕ → Step = λ one n. record { session = n; line = one.line } in
    let second : ℕ → Step = λ n. record { session = session; line = n } in
    ap (first step) s ∙ ap second l

-- a line of a session, by the session and the number
pub line_of_step : (script_lines : ScriptLines) (session count : ℕ) (step : Step) (line : ScriptLine)
    → step.session ≡ session → step.line ≡ count
    → IsLineAt script_lines (record { session = session; line = count }) line → IsLineAt script_lines step line
line_of_step script_lines session count step line s l at =
    subst (λ one. IsLineAt script_lines one line) (sym (step_is step session count s l)) at

-- what is read at a place is there
pub holds_at : {X : Type 0} (xs : List X) (i : ℕ) (x : X) → x ≡ get_or xs i x → i < length xs → HoldsAt (λ its. x ≡ its) xs i
holds_at xs i x e h = λ d. e ∙ get_or_default xs i x d h

-- a turn that follows a look at the order
keeps_turn : (old mid new : Orders) (turn : Instruction) → KeepsOrder old mid → Goes mid new turn → Goes old new turn
keeps_turn old mid new (Line text) k (inl g) =
    inl (
      g.0,
      subst (λ n. n < length old.script_lines.now.opening.items) k.3 (subst (λ s. mid.opened < length s.opening.items) k.2 g.1),
      subst (λ n. HoldsAt (λ its. g.0 ≡ its) old.script_lines.now.opening.items n) k.3
          (subst (λ s. HoldsAt (λ its. g.0 ≡ its) s.opening.items mid.opened) k.2 g.2),
      g.3,
      g.4 ∙ ap (λ n. n + 1) k.3,
      g.5 ∙ k.0,
    )
keeps_turn old mid new (Line text) k (inr g) =
    inr (g.0, g.1, subst (λ s. IsLineAt s g.0 g.1) k.2 g.2, g.3, g.4 ∙ ap (λ xs. xs ++ g.0 ∷ []) k.0)
keeps_turn old mid new Anew k g = g
keeps_turn old mid new End k g = g

-- the same where there is memory
pub may_keep : (old mid new : Orders) (result : Result Instruction AllocError) → KeepsOrder old mid
    → IfOk result (Goes mid new) → IfOk result (Goes old new)
may_keep old mid new (Ok turn) k g = keeps_turn old mid new turn k g
may_keep old mid new (Err e) k g = g
