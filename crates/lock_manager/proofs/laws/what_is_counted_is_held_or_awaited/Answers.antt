use Rattle.std.proofs.Common.{◌≡◌, ◌⊎◌, ℕ, Bool, true, false, List, [], ◌∷◌, ◌++◌, Some, is_some, refl, sym, ap, ◌∙◌, inl, inr}
use Rattle.std.proofs.lemmas.Bool.{cases_Bool, false≢true, or_cases, or_left, or_right, cond-true, cond-false}
use Rattle.modes_core.specs.declared.modes.Mode.{Mode}
use Rattle.modes_core.specs.declared.tags.Tag.{Tag}
use Rattle.modes_core.specs.Tag.{is_strong_on}
use Rattle.local_locks.specs.declared.records.Entry.{Entry}
use Rattle.local_locks.specs.Owned.{has_entry, entry_for}
use Rattle.lock_table.specs.OwnWait.{is_for}
use Rattle.lock_world.specs.Account.{Account}
use Rattle.lock_world.specs.Counted.{Counted, is_counted}
use Rattle.lock_world.specs.Counted as counted
use Rattle.lock_manager.specs.Rest.{counted_for}
use Rattle.lock_manager.specs.Requests.{counted_granted}
use Rattle.lock_manager.proofs.Lemmas.Rest.Ends.{with_strong, counted_for-cons}
use Rattle.lock_manager.proofs.laws.what_is_counted_is_held_or_awaited.Goals as goal

-- Another entry's count tells nothing of the mode on the object.
strong-else : (limit : ℕ) (e : Entry) (list : List Counted) (o : Tag) (m : Mode)
    → counted.is_of o m (record { tag = e.tag; mode = e.mode; position = limit }) ≡ false
    → is_counted (with_strong limit e list) o m ≡ is_counted list o m
strong-else limit e list o m other =
    elim (cases_Bool (is_strong_on e.tag e.mode)) [
      | inl strong ↦ rw (strong, other) refl
      | inr weak ↦ rw weak refl
    ]

-- What is counted for entries has one.
counted-entry : (limit : ℕ) (entries : List Entry) (o : Tag) (m : Mode) → is_counted (counted_for limit entries) o m ≡ true
    → has_entry entries o m ≡ true
counted-entry limit [] o m none = absurd (false≢true none)
counted-entry limit (e ∷ es) o m is =
    elim (cases_Bool (counted.is_of o m (record { tag = e.tag; mode = e.mode; position = limit }))) [
      | inl it ↦ ap is_some (cond-true (counted.is_of o m (record { tag = e.tag; mode = e.mode; position = limit })) (Some e) (entry_for es o m) it)
      | inr other ↦
          ap is_some (cond-false (counted.is_of o m (record { tag = e.tag; mode = e.mode; position = limit })) (Some e) (entry_for es o m) other)
          ∙ counted-entry limit es o m (sym (strong-else limit e (counted_for limit es) o m other) ∙ ap (λ (list : List Counted). is_counted list o m) (sym (counted_for-cons limit e es)) ∙ is)
    ]

-- One more that is counted.
counted-more : (list : List Counted) (c : Counted) (o : Tag) (m : Mode) → is_counted (list ++ c ∷ []) o m ≡ true
    → (is_counted list o m ≡ true) ⊎ (counted.is_of o m c ≡ true)
counted-more [] c o m is = elim (or_cases (counted.is_of o m c) false is) [
  | inl here ↦ inr here
  | inr never ↦ absurd (false≢true never)
]
counted-more (x ∷ xs) c o m is = elim (or_cases (counted.is_of o m x) (is_counted (xs ++ c ∷ []) o m) is) [
  | inl here ↦ inl (or_left (counted.is_of o m x) (is_counted xs o m) here)
  | inr later ↦ elim (counted-more xs c o m later) [
    | inl old ↦ inl (or_right (counted.is_of o m x) (is_counted xs o m) old)
    | inr last ↦ inr last
  ]
]

-- What is counted with a mode that is awaited is of an entry, or that.
counted-awaited : (limit : ℕ) (entries : List Entry) (t : Tag) (n : Mode) (held : Mode → Bool) (o : Tag) (m : Mode)
    → is_counted (counted_granted limit (counted_for limit entries) t n) o m ≡ true
    → (has_entry entries o m ≡ true) ⊎ (is_for (Some (record { tag = t; mode = n; held = held })) o m ≡ true)
counted-awaited limit entries t n held o m is =
    elim (cases_Bool (is_strong_on t n)) [
      | inl strong ↦
          elim (counted-more (counted_for limit entries) (record { tag = t; mode = n; position = limit }) o m
          (sym (ap (λ (list : List Counted). is_counted list o m) (cond-true (is_strong_on t n) (counted_for limit entries ++ record { tag = t; mode = n; position = limit } ∷ []) (counted_for limit entries) strong)) ∙ is)) [
            | inl old ↦ inl (counted-entry limit entries o m old)
            | inr last ↦ inr last
          ]
      | inr weak ↦ inl (counted-entry limit entries o m
          (sym (ap (λ (list : List Counted). is_counted list o m) (cond-false (is_strong_on t n) (counted_for limit entries ++ record { tag = t; mode = n; position = limit } ∷ []) (counted_for limit entries) weak)) ∙ is))
    ]

pub returns-clause-at_rest : goal.returns-clause-at_rest
returns-clause-at_rest c = λ groups limit database uses a stack entries rest o m is.
    ap (λ (z : Account). z.own o m) rest.account
    ∙ counted-entry limit entries o m (ap (λ (z : Account). is_counted z.fast.counted o m) (sym rest.account) ∙ is)

pub returns-clause-in_wait : goal.returns-clause-in_wait
returns-clause-in_wait c = λ groups limit database uses a stack entries t n waits o m is.
    elim (counted-awaited limit entries t n waits.held o m (ap (λ (z : Account). is_counted z.fast.counted o m) (sym waits.account) ∙ is)) [
      | inl entry ↦ inl (ap (λ (z : Account). z.own o m) waits.account ∙ entry)
      | inr awaits ↦ inr (ap (λ (z : Account). is_for z.awaited o m) waits.account ∙ awaits)
    ]
