use Rattle.std.proofs.Common.{◌≡◌, ◌≢◌, ◌⊎◌, ℕ, ◌<◌, ◌≤◌, true, false, List, [], ◌∷◌, length, map, Option, Some, None, eqb, arith, refl, sym, ap, ◌∙◌, subst, inl, inr}
use Rattle.std.specs.List.{list_any, IsDistinct, AllByRecursion}
use Rattle.std.proofs.lemmas.Bool.{false≢true, eqb-true, ne_eqb, or_cases}
use Rattle.std.proofs.lemmas.List.{length-map}
use Rattle.std.proofs.lemmas.Map.Steps.{length-le_from_distinct_below}
use Rattle.modes_core.specs.declared.tags.Tag.{Tag}
use Rattle.slab.specs.Slab.{Slab, get, ContainsKey}
use Rattle.lock_records.specs.declared.holders.HolderRecord.{HolderRecord}
use Rattle.lock_records.specs.Holders.{holder_at, IsHolderAt, AreHolders, IsIn, IsChain, IsHolderChain, HasSameElse}
use Rattle.lock_records.proofs.Lemmas.Held.{same-holder}
use Rattle.modes_core.specs.Sessions.{most_sessions}

-- A chain with something left goes on at its place.
pub record GoesOn (slots : List (Option HolderRecord)) (tag : Tag) (at : ℕ) (left : List ℕ) : Type 0 where
  pub rest : List ℕ
  pub holder : HolderRecord
  pub parts : left ≡ at ∷ rest
  pub there : holder_at slots at ≡ Some holder
  pub on : holder.tag ≡ tag
  pub next : IsChain slots tag holder.next rest
  pub apart : IsIn at rest → ⊥

pub goes-on : (slots : List (Option HolderRecord)) (tag : Tag) (at : ℕ) (left : List ℕ) → IsChain slots tag at left → 0 < length left → GoesOn slots tag at left
goes-on slots tag at [] chain some = absurd (omega arith)
goes-on slots tag at (k ∷ ks) chain some = record {
  rest = ks;
  holder = chain.2.0;
  parts = ap (λ x. x ∷ ks) (sym chain.0);
  there = ap (holder_at slots) chain.0 ∙ chain.2.1;
  on = chain.2.2;
  next = chain.2.3;
  apart = λ is_in. chain.1 (subst (λ x. IsIn x ks) chain.0 is_in);
}

-- A chain goes on at a place where a record is known to stand.
abbrev pub goes-as : (slots : List (Option HolderRecord)) (tag : Tag) (at : ℕ) (left : List ℕ) (h : HolderRecord) → holder_at slots at ≡ Some h → GoesOn slots tag at left → GoesOn slots tag at left
goes-as slots tag at left h there on =
    let same = same-holder slots at on.holder h on.there there in
    record {
      rest = on.rest;
      holder = h;
      parts = on.parts;
      there = there;
      on = subst (λ (x : HolderRecord). x.tag ≡ tag) same on.on;
      next = subst (λ (x : HolderRecord). IsChain slots tag x.next on.rest) same on.next;
      apart = on.apart;
    }

-- A chain that has some record has a first one.
pub in-some : (k : ℕ) (left : List ℕ) → IsIn k left → 0 < length left
in-some k [] is_in = absurd is_in
in-some k (x ∷ xs) is_in = omega arith

pub chain-head : (slots : List (Option HolderRecord)) (s : ℕ) (tag : Tag) (first count k : ℕ) (chain : IsHolderChain slots tag first count) → IsHolderAt slots s tag k → GoesOn slots tag first chain.places
chain-head slots s tag first count k chain i = goes-on slots tag first chain.places chain.linked (in-some k chain.places (chain.all k i.holder i.there i.on))

-- A place of what is left is the next one or behind it.
pub in-parts : (at : ℕ) (left rest : List ℕ) (k : ℕ) → left ≡ at ∷ rest → IsIn k left → (k ≡ at) ⊎ IsIn k rest
in-parts at left rest k parts is_in = subst (IsIn k) parts is_in

pub in-nothing : (k : ℕ) (left : List ℕ) → length left ≡ 0 → IsIn k left → ⊥
in-nothing k [] none is_in = is_in
in-nothing k (x ∷ xs) none is_in = omega arith

-- A place of a chain has a record of the object.
pub chain-at : (slots : List (Option HolderRecord)) (tag : Tag) (at : ℕ) (ks : List ℕ) → IsChain slots tag at ks → (k : ℕ) → IsIn k ks → (h : HolderRecord) × (holder_at slots k ≡ Some h) × (h.tag ≡ tag)
chain-at slots tag at [] chain k is_in = absurd is_in
chain-at slots tag at (x ∷ xs) chain k (inl e) = (chain.2.0, ap (holder_at slots) e ∙ chain.2.1, chain.2.2)
chain-at slots tag at (x ∷ xs) chain k (inr later) = chain-at slots tag chain.2.0.next xs chain.2.3 k later

-- A chain stays where each record of it leads to where it led.
abbrev pub LeadsAs : List (Option HolderRecord) → Tag → ℕ → HolderRecord → Type 0
LeadsAs new tag k h = (i : HolderRecord) × (holder_at new k ≡ Some i) × (i.tag ≡ tag) × (i.next ≡ h.next)

pub chain-kept :
    (old new : List (Option HolderRecord)) (tag : Tag) (at : ℕ) (ks : List ℕ) → ((k : ℕ) (h : HolderRecord) → IsIn k ks → holder_at old k ≡ Some h → h.tag ≡ tag → LeadsAs new tag k h) →
    IsChain old tag at ks → IsChain new tag at ks
chain-kept old new tag at [] leads chain = tt
chain-kept old new tag at (k ∷ ks) leads chain =
    let now = leads k chain.2.0 (inl refl) chain.2.1 chain.2.2 in
    let rest = chain-kept old new tag chain.2.0.next ks (λ j h is_in. leads j h (inr is_in)) chain.2.3 in
    (chain.0, chain.1, (now.0, now.1, now.2, subst (λ x. IsChain new tag x ks) (sym now.3) rest))

-- The chains of other objects stay.
pub chain-else : (old new : List (Option HolderRecord)) (tag : Tag) → HasSameElse old new tag → (t : Tag) (first count : ℕ) → t ≢ tag → IsHolderChain old t first count → IsHolderChain new t first count
chain-else old new tag same t first count other chain = record {
  places = chain.places;
  linked =
      chain-kept old new t first chain.places
      (λ k h is_in there on. (h, same.kept k h there (λ e. other (sym on ∙ e)), on, refl)) chain.linked;
  number = chain.number;
  all = λ k h there on. chain.all k h (same.no_more k h there (λ e. other (sym on ∙ e))) on;
}

-- A chain has no more records than there are sessions.
session_of : Option HolderRecord → ℕ
session_of None = 0
session_of (Some h) = h.session

abbrev sessions_at : List (Option HolderRecord) → List ℕ → List ℕ
sessions_at slots ks = map (λ k. session_of (holder_at slots k)) ks

module _ (slots : List (Option HolderRecord)) (tag : Tag) (are : AreHolders slots tag) where
  at-place : (k : ℕ) (h : HolderRecord) → holder_at slots k ≡ Some h → h.tag ≡ tag → IsHolderAt slots (session_of (holder_at slots k)) tag k
  unfolding session_of
  at-place k h there on = record { holder = h; there = there; its = sym (ap session_of there); on = on }

  other_sessions : (x : ℕ) (h : HolderRecord) → holder_at slots x ≡ Some h → h.tag ≡ tag → (at : ℕ) (ks : List ℕ) → IsChain slots tag at ks → (IsIn x ks → ⊥) →
      AllByRecursion (λ y. eqb (session_of (holder_at slots x)) y ≡ false) (sessions_at slots ks)
  other_sessions x h there on at [] chain apart = tt
  other_sessions x h there on at (k ∷ ks) chain apart = (
    ne_eqb _ _ (λ e.
        let here = at-place x h there on in
        let its = at-place k chain.2.0 chain.2.1 chain.2.2 in
        apart (inl (are.once _ x k here (subst (λ s. IsHolderAt slots s tag k) (sym e) its)))),
    other_sessions x h there on chain.2.0.next ks chain.2.3 (λ is_in. apart (inr is_in)),
  )

  distinct : (at : ℕ) (ks : List ℕ) → IsChain slots tag at ks → IsDistinct eqb (sessions_at slots ks)
  unfolding IsDistinct
  distinct at [] chain = tt
  distinct at (k ∷ ks) chain = (other_sessions k chain.2.0 chain.2.1 chain.2.2 chain.2.0.next ks chain.2.3 chain.1, distinct chain.2.0.next ks chain.2.3)

  small : (at : ℕ) (ks : List ℕ) → IsChain slots tag at ks → (s : ℕ) → list_any (eqb s) (sessions_at slots ks) ≡ true → s < most_sessions
  small at [] chain s any = absurd (false≢true any)
  small at (k ∷ ks) chain s any =
      elim (or_cases _ _ any) [
        | inl it ↦ let e : s ≡ session_of (holder_at slots k) = eqb-true _ _ it in rw e (are.below _ k (at-place k chain.2.0 chain.2.1 chain.2.2))
        | inr later ↦ small chain.2.0.next ks chain.2.3 s later
      ]

  pub chain-short : (at : ℕ) (ks : List ℕ) → IsChain slots tag at ks → length ks ≤ most_sessions
  chain-short at ks chain =
      let fit = length-le_from_distinct_below (sessions_at slots ks) most_sessions (distinct at ks chain) (small at ks chain) in
      let same : length (sessions_at slots ks) ≡ length ks = length-map ks (λ k. session_of (holder_at slots k)) in
      omega arith

-- A place with a record is one of the slab's keys.
pub key-there : (slab : Slab HolderRecord) (k : ℕ) (h : HolderRecord) → get slab k ≡ Some h → ContainsKey slab k
key-there slab k h there = rw there refl
