-- The sessions that a desk knows, and the names of their numbers.
use Rattle.std.proofs.Common.{◌≡◌, ℕ, ◌+◌, ◌<◌, ◌≤◌, inl, inr, ◌∙◌, ap, arith, subst, sym, List, [], ◌∷◌, ◌++◌, length, length-append, length-set, set}
use Rattle.std.specs.Prelude.{Bool}
use Rattle.arrayvec.specs.declared.array_string.ArrayString.{ArrayString}
use Rattle.lock_manager.specs.Managers.{ManagerView}
use Rattle.shared_rule.specs.Boards.{Seated}
use Rattle.scenario.specs.Numbers.{IsKnown, IsNamed, IsNumbered}

-- whoever has the seat of one who is known
pub kept-known : (a b : Seated) (manager : ManagerView) (issued : ℕ) → a ≡ b → IsKnown b manager issued → IsKnown a manager issued
kept-known a b manager issued e known = subst (λ (seated : Seated). IsKnown seated manager issued) (sym e) known

-- where more numbers were given out
pub known-later :
    (seated : Seated) (manager : ManagerView) (issued later : ℕ) → issued ≤ later → IsKnown seated manager issued → IsKnown seated manager later
known-later seated manager issued later more known = record { table = known.table; number = omega (arith, more, known.number) }

pub issued-grows : (again : Bool) (limit number before after : ℕ) → IsNumbered again limit number before after → before ≤ after
issued-grows again limit number before after (inl (first, few, e)) = omega (arith, e)
issued-grows again limit number before after (inr (is, within, e)) = omega (arith, e)

-- the session itself
pub number-within : (again : Bool) (limit number before after : ℕ) → IsNumbered again limit number before after → number < after
number-within again limit number before after (inl (first, few, e)) = omega (arith, first, e)
number-within again limit number before after (inr (is, within, e)) = omega (arith, within, e)

-- no more than the manager may give out
pub within-limit : (again : Bool) (limit number before after : ℕ) → IsNumbered again limit number before after → before ≤ limit → after ≤ limit
within-limit again limit number before after (inl (first, few, e)) within =
    let below : before < limit = few within in
    omega (arith, below, e)
within-limit again limit number before after (inr (is, below, e)) within = omega (arith, e, within)

-- the next number, or one of those with a name
pub number-within_names : (again : Bool) (limit number before after : ℕ) → IsNumbered again limit number before after → number ≤ before
number-within_names again limit number before after (inl (first, few, e)) = omega (arith, first)
number-within_names again limit number before after (inr (is, within, e)) = omega (arith, within)

-- the names, once the session's own is kept as the list of names says
pub named-so :
    (again : Bool) (limit number before after : ℕ) (name : ArrayString 16) (old new : List (ArrayString 16)) → IsNumbered again limit number before after → length old ≡ before →
    (number ≡ length old → new ≡ old ++ name ∷ []) → (number < length old → new ≡ set old number name) → IsNamed again number name old new
named-so again limit number before after name old new (inl (first, few, e)) long next in_place =
    let at : number ≡ length old = first ∙ sym long in
    inl (at, next at)
named-so again limit number before after name old new (inr (is, within, e)) long next in_place =
    let below : number < length old = omega (arith, within, long) in
    inr (is, below, in_place below)

pub length-named :
    (again : Bool) (limit number before after : ℕ) (name : ArrayString 16) (old new : List (ArrayString 16)) → IsNumbered again limit number before after → length old ≡ before →
    (number ≡ length old → new ≡ old ++ name ∷ []) → (number < length old → new ≡ set old number name) → length new ≡ after
length-named again limit number before after name old new (inl (first, few, e)) long next in_place =
    let more : length new ≡ length old + 1 = ap (λ (those : List (ArrayString 16)). length those) (next (first ∙ sym long)) ∙ length-append old (name ∷ []) in
    omega (arith, more, long, e)
length-named again limit number before after name old new (inr (is, within, e)) long next in_place =
    let below : number < length old = omega (arith, within, long) in
    let same : length new ≡ length old = ap (λ (those : List (ArrayString 16)). length those) (in_place below) ∙ length-set old number name in
    omega (arith, same, long, e)
