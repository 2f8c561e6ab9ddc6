use Rattle.std.proofs.Common.{◌≡◌, ◌≢◌, ℕ, ◌+◌, ◌<◌, ◌≤◌, false, subst, inl, inr, cond, [], ◌∷◌, ◌++◌, List, length, set, take, sym, ap, ◌∙◌, arith}
use Rattle.std.specs.Prelude.{Some, None, IfSome}
use Rattle.std.specs.Option.{option_map}
use Rattle.std.proofs.Math.ListN.{get_or-map}
use Rattle.std.proofs.lemmas.Bool.{cases_eq, eq-eqb, ne_eqb, eqb-false}
use Rattle.std.proofs.lemmas.List.{map-set, map-append, take-map, length-map}
use Rattle.modes_core.specs.declared.sessions.Owner.{Owner}
use Rattle.modes_core.specs.declared.sessions.Owner.TheVariants.{Session, Transaction}
use Rattle.local_locks.specs.declared.records.Entry.{Entry}
use Rattle.local_locks.specs.declared.ends.End.{End}
use Rattle.local_locks.specs.Owned.{count_for, count_in_all, raised, lowered, is_ended, after_end}
use Rattle.local_locks.specs.Slots.{Slots, slot_at, opened, entry_in, entry_at}
use Rattle.local_locks.proofs.Lemmas.Slots.{slot_at-within, slot_at-set, slot_at-set_other}

-- ---- slots as they are kept, and what is in them

pub entry_in-held : (e : Entry) → count_in_all e ≢ 0 → entry_in e ≡ Some e
entry_in-held e held = ap (λ b. cond b None (Some e)) (ne_eqb (count_in_all e) 0 held)

pub entry_in-empty : (e : Entry) → count_in_all e ≡ 0 → entry_in e ≡ None
entry_in-empty e none = ap (λ b. cond b None (Some e)) (eq-eqb (count_in_all e) 0 none)

pub entry_in-some : (slot e : Entry) → entry_in slot ≡ Some e → (slot ≡ e) × (count_in_all slot ≢ 0)
entry_in-some slot e is =
    let held : count_in_all slot ≢ 0 = λ none. (let bad : None ≡ Some e = sym (entry_in-empty slot none) ∙ is in cc) in
    (let both : Some slot ≡ Some e = sym (entry_in-held slot held) ∙ is in cc, held)

pub length-opened : (es : List Entry) → length (opened es) ≡ length es
length-opened es = length-map es entry_in

pub slot_at-opened : (es : List Entry) (k : ℕ) → slot_at (opened es) k ≡ entry_in (entry_at es k)
slot_at-opened es k = get_or-map entry_in es k _

pub opened-set : (es : List Entry) (k : ℕ) (x : Entry) → opened (set es k x) ≡ set (opened es) k (entry_in x)
opened-set es k x = map-set entry_in es k x

-- an entry of which something is held
pub opened-held : (es : List Entry) (k : ℕ) (x y : Entry) → x ≡ y → count_in_all y ≢ 0 → opened (set es k x) ≡ set (opened es) k (Some y)
opened-held es k x y same held = opened-set es k x ∙ ap (set (opened es) k) (ap entry_in same ∙ entry_in-held y held)

pub opened-push : (es : List Entry) (x : Entry) → opened (es ++ x ∷ []) ≡ opened es ++ entry_in x ∷ []
opened-push es x = map-append entry_in es (x ∷ [])

pub opened-take : (n : ℕ) (es : List Entry) → opened (take n es) ≡ take n (opened es)
opened-take n es = sym (take-map entry_in n es)

-- the slot of an entry that is there
pub opened_some : (es : List Entry) (k : ℕ) (e : Entry) → slot_at (opened es) k ≡ Some e → (k < length es) × (entry_at es k ≡ e) × (count_in_all e ≢ 0)
opened_some es k e at =
    let both = entry_in-some (entry_at es k) e (sym (slot_at-opened es k) ∙ at) in
    (omega (arith, slot_at-within (opened es) k e at, length-opened es), both.0, λ none. both.1 (ap count_in_all both.0 ∙ none))

-- ---- counts that are left

-- an entry that an owner has is held
pub held-by : (owner : Owner) (e : Entry) → 0 < count_for owner e → count_in_all e ≢ 0
held-by Session e some none = omega arith
held-by Transaction e some none = omega arith

-- one that it has more than once has more than one count
pub more-by : (owner : Owner) (e : Entry) → 1 < count_for owner e → count_in_all e ≢ 1
more-by Session e more one = omega arith
more-by Transaction e more one = omega arith

pub raised-held : (owner : Owner) (e : Entry) → count_in_all (raised owner e) ≢ 0
raised-held Session e none = omega arith
raised-held Transaction e none = omega arith

pub lowered-held : (owner : Owner) (e : Entry) → 0 < count_for owner e → count_in_all e ≢ 1 → count_in_all (lowered owner e) ≢ 0
lowered-held Session e some more none = more (omega arith)
lowered-held Transaction e some more none = more (omega arith)

-- ---- an end goes on

-- The end kept each entry before a place, and left it the counts that outlive it.
pub record Settled (end : End) (old now : List Entry) (place : ℕ) : Type 0 where
  pub kept : (k : ℕ) → k < place → IfSome (slot_at (opened old) k) (λ entry. is_ended end entry ≡ false)
  pub settled : (k : ℕ) → k < place → slot_at (opened now) k ≡ option_map (after_end end) (slot_at (opened old) k)
  pub others : (k : ℕ) → place ≤ k → slot_at (opened now) k ≡ slot_at (opened old) k

pub settled-empty : (end : End) (old now : List Entry) (place : ℕ) → Settled end old now place → slot_at (opened now) place ≡ None → Settled end old now (place + 1)
settled-empty end old now place s empty =
    let was : slot_at (opened old) place ≡ None = sym (s.others place (omega arith)) ∙ empty in
    record {
      kept = λ k before. elim (cases_eq k place) [
        | inl same ↦ subst (λ o. IfSome o (λ entry. is_ended end entry ≡ false)) (sym (ap (slot_at (opened old)) same ∙ was)) tt
        | inr apart ↦ s.kept k (omega arith)
      ];
      settled = λ k before. elim (cases_eq k place) [
        | inl same ↦ ap (slot_at (opened now)) same ∙ (empty ∙ sym (ap (option_map (after_end end)) (ap (slot_at (opened old)) same ∙ was)))
        | inr apart ↦ s.settled k (omega arith)
      ];
      others = λ k past. s.others k (omega arith);
    }

pub settled-left : (end : End) (old now : List Entry) (place : ℕ) (x : Entry) → Settled end old now place → slot_at (opened now) place ≡ Some x → is_ended end x ≡ false → Settled end old (set now place (after_end end x)) (place + 1)
settled-left end old now place x s at stays =
    record {
      kept = λ k before. elim (cases_eq k place) [
        | inl same ↦ subst (λ o. IfSome o (λ entry. is_ended end entry ≡ false)) (sym (ap (slot_at (opened old)) same ∙ was)) stays
        | inr apart ↦ s.kept k (omega arith)
      ];
      settled = λ k before. elim (cases_eq k place) [
        | inl same ↦ ap (slot_at (opened (set now place (after_end end x)))) same ∙ (here ∙ sym (ap (option_map (after_end end)) (ap (slot_at (opened old)) same ∙ was)))
        | inr apart ↦ elsewhere k apart ∙ s.settled k (omega arith)
      ];
      others = λ k past. elsewhere k (λ same. omega arith) ∙ s.others k (omega arith);
    } where
      was : slot_at (opened old) place ≡ Some x
      was = sym (s.others place (omega arith)) ∙ at

      held : entry_in (after_end end x) ≡ Some (after_end end x)
      held = entry_in-held (after_end end x) (eqb-false (count_in_all (after_end end x)) 0 stays)

      here : slot_at (opened (set now place (after_end end x))) place ≡ Some (after_end end x)
      here =
          ap (λ (l : Slots). slot_at l place) (opened-set now place (after_end end x))
          ∙ (slot_at-set (opened now) place (entry_in (after_end end x)) (slot_at-within (opened now) place x at) ∙ held)

      elsewhere : (k : ℕ) → k ≢ place → slot_at (opened (set now place (after_end end x))) k ≡ slot_at (opened now) k
      elsewhere k apart = ap (λ (l : Slots). slot_at l k) (opened-set now place (after_end end x)) ∙ slot_at-set_other (opened now) place k (entry_in (after_end end x)) apart
