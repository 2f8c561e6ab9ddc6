use Rattle.std.proofs.Common.{◌≡◌, ◌==◌, ℕ, zero, suc, ◌+◌, ◌<◌, Bool, true, false, List, [], ◌∷◌, ◌++◌, length, map, slice_index, slice_set, sym, ◌∙◌, ap, refl, inl, inr, if◌then◌else◌, arith}
use Rattle.std.specs.List.{filter, range_with_len}
use Rattle.std.proofs.lemmas.Bool.{cases_eq, eq-eqb, ne_eqb}
use Rattle.std.proofs.lemmas.List.{map-append, append-nil, get_or-set_same, get_or-set_other}
use Rattle.std.proofs.lemmas.List.Elements.{filter-append}
use Rattle.script_orders.specs.declared.steps.Step.{Step}
use Rattle.std.proofs.lemmas.List.FromFn.{length-range_with_len}
use Rattle.script_orders.specs.Steps.{IsInOwnOrder, KeepsOwnOrder, lines_of}

-- one more number comes last
pub range_one_more : (a n : ℕ) → range_with_len a (n + 1) ≡ range_with_len a n ++ (a + n) ∷ []
range_one_more a zero =
    let same : a ≡ a + 0 = omega arith in
    ap (λ x. x ∷ []) same
range_one_more a (suc n) =
    let more : suc n + 1 ≡ suc (n + 1) = omega arith in
    let last : a + 1 + n ≡ a + suc n = omega arith in
    ap (range_with_len a) more
    ∙ ap (λ xs. a ∷ xs) (range_one_more (a + 1) n ∙ ap (λ x. range_with_len (a + 1) n ++ x ∷ []) last)

-- the line of a step where it is wanted
map_one : (b : Bool) (step : Step) → map (λ (s : Step). s.line) (if b then step ∷ [] else []) ≡ (if b then step.line ∷ [] else [])
map_one true step = refl
map_one false step = refl

-- the lines of a session, where one more was run of this one
pub lines_one_more : (steps : List Step) (step : Step) (session : ℕ)
    → lines_of session (steps ++ step ∷ []) ≡ lines_of session steps ++ (if step.session == session then step.line ∷ [] else [])
lines_one_more steps step session =
    let test : Step → Bool = λ s. s.session == session in
    let line : Step → ℕ = λ s. s.line in
    ap (map line) (filter-append test steps (step ∷ []))
    ∙ map-append line (filter test steps) (filter test (step ∷ []))
    ∙ ap (λ xs. map line (filter test steps) ++ xs) (map_one (step.session == session) step)

-- one more line of a session was run, which is its next one
pub keeps_order : (steps : List Step) (taken : List ℕ) (step : Step)
    → KeepsOwnOrder steps taken → step.line ≡ slice_index taken step.session → step.session < length taken
    → KeepsOwnOrder (steps ++ step ∷ []) (slice_set taken step.session (step.line + 1))
keeps_order steps taken step kept next there session =
    elim (cases_eq session step.session) [
      | inl e ↦
          let its : (step.session == session) ≡ true = eq-eqb step.session session (sym e) in
          let count : slice_index (slice_set taken step.session (step.line + 1)) session ≡ step.line + 1 =
          ap (slice_index (slice_set taken step.session (step.line + 1))) e
          ∙ get_or-set_same taken step.session (step.line + 1) 0 there in
          let was : slice_index taken session ≡ step.line = ap (slice_index taken) e ∙ sym next in
          let from_none : step.line ≡ 0 + step.line = omega arith in
          lines_one_more steps step session
          ∙ ap (λ (b : Bool). lines_of session steps ++ (if b then step.line ∷ [] else [])) its
          ∙ ap (λ xs. xs ++ step.line ∷ []) (kept session ∙ ap (range_with_len 0) was)
          ∙ ap (λ x. range_with_len 0 step.line ++ x ∷ []) from_none
          ∙ sym (range_one_more 0 step.line)
          ∙ ap (range_with_len 0) (sym count)
      | inr ne ↦
          let others : (step.session == session) ≡ false = ne_eqb step.session session (λ e. ne (sym e)) in
          let count : slice_index (slice_set taken step.session (step.line + 1)) session ≡ slice_index taken session =
          get_or-set_other taken step.session session (step.line + 1) 0 ne in
          lines_one_more steps step session
          ∙ ap (λ (b : Bool). lines_of session steps ++ (if b then step.line ∷ [] else [])) others
          ∙ append-nil (lines_of session steps)
          ∙ kept session
          ∙ ap (range_with_len 0) (sym count)
    ]

-- as many lines of each session were run as are counted
pub in_own_order : (steps : List Step) (taken : List ℕ) → KeepsOwnOrder steps taken → IsInOwnOrder steps
in_own_order steps taken kept session =
    let count : length (lines_of session steps) ≡ slice_index taken session =
    ap length (kept session) ∙ length-range_with_len 0 (slice_index taken session) in
    kept session ∙ ap (range_with_len 0) (sym count)
