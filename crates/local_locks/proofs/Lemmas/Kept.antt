use Rattle.std.proofs.Common.{◌≡◌, ℕ, ◌+◌, ◌<◌, ◌≤◌, false, cond, [], ◌∷◌, true, suc, zero, min, refl, sym, ap, subst, ◌∙◌, inl, inr, arith}
use Rattle.std.specs.Prelude.{◌==◌, Option, Some, None, IfSome}
use Rattle.std.specs.Option.{option_map}
use Rattle.std.specs.List.{AllByRecursion, IsDistinct}
use Rattle.std.proofs.lemmas.Bool.{false≢true, cases_Bool, cases_eq, eqb-true}
use Rattle.std.proofs.lemmas.Map.Keys.{IsDistinct-cons}
use Rattle.modes_core.specs.declared.modes.Mode.{Mode}
use Rattle.modes_core.specs.declared.tags.Tag.{Tag}
use Rattle.local_locks.specs.declared.records.Entry.{Entry}
use Rattle.local_locks.specs.declared.ends.End.{End}
use Rattle.local_locks.specs.declared.ends.End.TheVariants.{Commit, Abort, Close, Inner}
use Rattle.local_locks.specs.declared.ends.Progress.{Progress}
use Rattle.local_locks.specs.Owned.{is_of, are_of_same, is_ended, after_end}
use Rattle.local_locks.specs.Slots.{Slots, slot_at, present, key_at, IsOnce, IsPast, number_of_end, reached, came_to, back_to}
use Rattle.local_locks.proofs.Lemmas.Slots.{if_some, at_some, is_of-own}
use Rattle.local_locks.proofs.Lemmas.Indexes.{own_key, some_key, none_some}
use Rattle.local_locks.proofs.Lemmas.Ends.{Keeps, after_end-after_end, is_ended-after_end}

-- ---- the entries are distinct

pub all_present : (P : Entry → Type 0) (slots : Slots) → ((k : ℕ) (e : Entry) → slot_at slots k ≡ Some e → P e) → AllByRecursion P (present slots)
all_present P [] at = tt
all_present P (None ∷ slots) at = all_present P slots (λ k. at (suc k))
all_present P (Some e ∷ slots) at = (at zero e refl, all_present P slots (λ k. at (suc k)))

distinct_present : (slots : Slots) → ((i j : ℕ) (a b : Entry) → i < j → slot_at slots i ≡ Some a → slot_at slots j ≡ Some b → are_of_same a b ≡ false) → IsDistinct are_of_same (present slots)
unfolding IsDistinct
distinct_present [] apart = tt
distinct_present (None ∷ slots) apart = distinct_present slots (λ i j a b less. apart (suc i) (suc j) a b (omega arith))
distinct_present (Some e ∷ slots) apart =
    IsDistinct-cons are_of_same e (present slots)
    (all_present (λ b. are_of_same e b ≡ false) slots (λ k b at. apart zero (suc k) e b (omega arith) refl at))
    (distinct_present slots (λ i j a b less. apart (suc i) (suc j) a b (omega arith)))

pub distinct_of : (slots : Slots) → IsOnce slots → IsDistinct are_of_same (present slots)
distinct_of slots once = distinct_present slots apart where
  apart : (i j : ℕ) (a b : Entry) → i < j → slot_at slots i ≡ Some a → slot_at slots j ≡ Some b → are_of_same a b ≡ false
  apart i j a b less at_i at_j =
      elim (cases_Bool (are_of_same a b)) [
        | inl same ↦
            let equal = once i j (b.tag, b.mode) (own_key slots i a b.tag b.mode at_i same) (own_key slots j b b.tag b.mode at_j (is_of-own b)) in
            absurd (omega (arith, equal))
        | inr other ↦ other
      ]

-- and where entries are distinct, each object and mode is in one slot
pub from_present : (P : Entry → Type 0) (slots : Slots) → AllByRecursion P (present slots) → (k : ℕ) (e : Entry) → slot_at slots k ≡ Some e → P e
from_present P [] all k e at = absurd (let bad : None ≡ Some e = at in cc)
from_present P (None ∷ slots) all zero e at = absurd (let bad : None ≡ Some e = at in cc)
from_present P (None ∷ slots) all (suc k) e at = from_present P slots all k e at
from_present P (Some x ∷ slots) all zero e at = let same : x ≡ e = cc in subst P same all.0
from_present P (Some x ∷ slots) all (suc k) e at = from_present P slots all.1 k e at

apart : (e : Entry) (slots : Slots) → AllByRecursion (λ b. are_of_same e b ≡ false) (present slots) → (k : ℕ) (key : Tag × Mode) → Some (e.tag, e.mode) ≡ Some key → key_at slots k ≡ Some key → ⊥
apart e slots all k key here at =
    let found = some_key slots k key at in
    let its : (e.tag, e.mode) ≡ key = cc in
    let same : (e.tag, e.mode) ≡ (found.0.tag, found.0.mode) = its ∙ sym found.2 in
    let own : are_of_same e found.0 ≡ true = sym (λ i. is_of (same i).0 (same i).1 e) ∙ is_of-own e in
    false≢true (sym (from_present (λ b. are_of_same e b ≡ false) slots all k found.0 found.1) ∙ own)

pub once_of : (slots : Slots) → IsDistinct are_of_same (present slots) → IsOnce slots
unfolding IsDistinct
once_of [] distinct i j key at_i at_j = absurd (none_some key at_i)
once_of (None ∷ slots) distinct zero j key at_i at_j = absurd (none_some key at_i)
once_of (None ∷ slots) distinct (suc i) zero key at_i at_j = absurd (none_some key at_j)
once_of (None ∷ slots) distinct (suc i) (suc j) key at_i at_j = ap (λ n. suc n) (once_of slots distinct i j key at_i at_j)
once_of (Some e ∷ slots) distinct zero zero key at_i at_j = refl
once_of (Some e ∷ slots) distinct zero (suc j) key at_i at_j = absurd (apart e slots distinct.0 j key at_i at_j)
once_of (Some e ∷ slots) distinct (suc i) zero key at_i at_j = absurd (apart e slots distinct.0 i key at_j at_i)
once_of (Some e ∷ slots) distinct (suc i) (suc j) key at_i at_j = ap (λ n. suc n) (once_of slots distinct.1 i j key at_i at_j)

-- ---- how far the ends have come

pub past-le : (end : End) (slots : Slots) (n m : ℕ) → m ≤ n → IsPast end slots n → IsPast end slots m
past-le end slots n m below past = λ k before. past k (omega arith)

-- where no entry is new
pub past-fewer : (end : End) (old new : Slots) (n : ℕ) → ((k : ℕ) (x : Entry) → slot_at new k ≡ Some x → slot_at old k ≡ Some x) → IsPast end old n → IsPast end new n
past-fewer end old new n fewer past = λ k before.
    if_some (Keeps end) (slot_at new k) (λ x at. at_some (Keeps end) (slot_at old k) x (fewer k x at) (past k before))

-- where the slots before the place are the same
pub past-same : (end : End) (old new : Slots) (n : ℕ) → ((k : ℕ) → k < n → slot_at new k ≡ slot_at old k) → IsPast end old n → IsPast end new n
past-same end old new n same past = λ k before. subst (λ o. IfSome o (Keeps end)) (sym (same k before)) (past k before)

pub past-none : (end : End) (slots : Slots) → IsPast end slots 0
past-none end slots = λ k before. absurd (omega arith)

-- no end is past a place, before which the slots are the same
pub past-back_to : (end : End) (old new : Slots) (place : ℕ) (progress : Progress) → ((k : ℕ) → k < place → slot_at new k ≡ slot_at old k) → IsPast end old (reached end progress) → IsPast end new (reached end (back_to place progress))
past-back_to end old new place progress same past =
    elim (cases_Bool (number_of_end progress.end == number_of_end end)) [
      | inl its ↦
          let to_place : IsPast end old progress.place = subst (λ b. IsPast end old (cond b progress.place 0)) its past in
          subst (λ b. IsPast end new (cond b (min progress.place place) 0)) (sym its)
          (past-same end old new (min progress.place place) (λ k before. same k (omega arith)) (past-le end old progress.place (min progress.place place) (omega arith) to_place))
      | inr other ↦ subst (λ b. IsPast end new (cond b (min progress.place place) 0)) (sym other) (past-none end new)
    ]

number_of_end-same : (a b : End) → number_of_end a ≡ number_of_end b → a ≡ b
number_of_end-same Commit Commit same = refl
number_of_end-same Abort Abort same = refl
number_of_end-same Close Close same = refl
number_of_end-same Inner Inner same = refl
number_of_end-same a b same = absurd (omega arith)

-- an end has come to a place: before it each entry is kept, with the counts that it leaves
pub past-settled : (end other : End) (old new : Slots) (place : ℕ) →
    ((k : ℕ) → k < place → IfSome (slot_at old k) (λ x. is_ended end x ≡ false)) →
    ((k : ℕ) → k < place → slot_at new k ≡ option_map (after_end end) (slot_at old k)) →
    IsPast other new (reached other (came_to end place))
past-settled end other old new place kept settled =
    elim (cases_Bool (number_of_end end == number_of_end other)) [
      | inl same ↦
          subst (λ b. IsPast other new (cond b place 0)) (sym same)
          (subst (λ (e : End). IsPast e new place) (number_of_end-same end other (eqb-true (number_of_end end) (number_of_end other) same)) own)
      | inr apart ↦ subst (λ b. IsPast other new (cond b place 0)) (sym apart) (past-none other new)
    ] where
      mapped : (o : Option Entry) → IfSome o (λ x. is_ended end x ≡ false) → IfSome (option_map (after_end end) o) (Keeps end)
      mapped None holds = tt
      mapped (Some x) stays = (is_ended-after_end end x ∙ stays, after_end-after_end end x)

      own : IsPast end new place
      own = λ k before. subst (λ o. IfSome o (Keeps end)) (sym (settled k before)) (mapped (slot_at old k) (kept k before))

-- and past the next slot, if that is empty
pub past-next :
    (end : End) (slots : Slots) (place : ℕ) → slot_at slots place ≡ None → ((other : End) → IsPast other slots (reached other (came_to end place))) →
    (other : End) → IsPast other slots (reached other (came_to end (place + 1)))
past-next end slots place gone past other =
    elim (cases_Bool (number_of_end end == number_of_end other)) [
      | inl its ↦
          let to_place : IsPast other slots place = subst (λ b. IsPast other slots (cond b place 0)) its (past other) in
          subst (λ b. IsPast other slots (cond b (place + 1) 0)) (sym its) (λ k before. elim (cases_eq k place) [
            | inl same ↦ subst (λ o. IfSome o (Keeps other)) (sym (ap (slot_at slots) same ∙ gone)) tt
            | inr apart ↦ to_place k (omega arith)
          ])
      | inr apart ↦ subst (λ b. IsPast other slots (cond b (place + 1) 0)) (sym apart) (past-none other slots)
    ]

-- an end that is past all entries is past them wherever they stand
pub past-all :
    (end : End) (old new : Slots) (place used : ℕ) → ((other : End) → IsPast other old (reached other (came_to end place))) → present new ≡ present old →
    ((k : ℕ) (e : Entry) → slot_at old k ≡ Some e → k < place) → (other : End) → IsPast other new (reached other (came_to end used))
past-all end old new place used past same within other =
    elim (cases_Bool (number_of_end end == number_of_end other)) [
      | inl its ↦
          let to_place : IsPast other old place = subst (λ b. IsPast other old (cond b place 0)) its (past other) in
          let keeps = all_present (Keeps other) old (λ k e at. at_some (Keeps other) (slot_at old k) e at (to_place k (within k e at))) in
          let kept = subst (λ l. AllByRecursion (Keeps other) l) (sym same) keeps in
          subst (λ b. IsPast other new (cond b used 0)) (sym its) (λ k before. if_some (Keeps other) (slot_at new k) (from_present (Keeps other) new kept k))
      | inr apart ↦ subst (λ b. IsPast other new (cond b used 0)) (sym apart) (past-none other new)
    ]
