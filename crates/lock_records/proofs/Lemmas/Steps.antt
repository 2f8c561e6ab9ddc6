use Rattle.std.proofs.Common.{◌≡◌, ◌≢◌, ◌⊎◌, ℕ, ◌+◌, ◌<◌, Bool, true, false, List, ◌∷◌, length, Option, Some, None, arith, refl, sym, ap, ◌∙◌, subst, inl, inr}
use Rattle.std.proofs.Math.ListN.{set}
use Rattle.std.proofs.lemmas.Bool.{cases_eq, cases_lt, cases_Bool, both_ways, false_from_ne_true}
use Rattle.std.proofs.lemmas.List.{get_or-set_same, get_or-set_other, get_or_past}
use Rattle.modes_core.specs.declared.modes.Mode.{Mode}
use Rattle.modes_core.specs.declared.tags.Tag.{Tag}
use Rattle.modes_core.specs.ModeSet.{set_has}
use Rattle.lock_records.specs.declared.holders.HolderRecord.{HolderRecord}
use Rattle.lock_records.specs.Holders.{holder_at, holds_in, IsHolderAt, HasNoHolder, AreHolders, IsHolderChain, HasSameElse, HasModesOf, SetsHold}
use Rattle.lock_records.proofs.Lemmas.Held.{held-from, held-to, same-holder, holds-at, holds-none, holds-others, holds-set}
use Rattle.lock_records.proofs.Lemmas.Chains.{LeadsAs, chain-kept, chain-at}
use Rattle.modes_core.specs.Sessions.{most_sessions}

-- One place of the list was written.
pub record IsWritten (old new : List (Option HolderRecord)) (place : ℕ) (slot : Option HolderRecord) : Type 0 where
  pub here : holder_at new place ≡ slot
  pub others : (k : ℕ) → k ≢ place → holder_at new k ≡ holder_at old k

pub written-set : (old : List (Option HolderRecord)) (place : ℕ) (h : HolderRecord) (slot : Option HolderRecord) → holder_at old place ≡ Some h → IsWritten old (set old place slot) place slot
written-set old place h slot there = record {
  here = get_or-set_same old place slot None within;
  others = λ k other. get_or-set_other old place k slot None other;
} where
  within : place < length old
  within =
      elim (cases_lt place (length old)) [
        | inl it ↦ it
        | inr past ↦ let none : holder_at old place ≡ None = get_or_past old place None past in let no_way : ⊥ = cc in absurd no_way
      ]

-- What was written is of the object, and what stood there was of no other one.
module _ (old new : List (Option HolderRecord)) (t : Tag) (place : ℕ) (slot : Option HolderRecord) (w : IsWritten old new place slot) where
  pub same-else : ((h : HolderRecord) → holder_at old place ≡ Some h → h.tag ≡ t) → ((h : HolderRecord) → slot ≡ Some h → h.tag ≡ t) → HasSameElse old new t
  same-else was is = record {
    kept = λ k h there other.
        w.others k (λ e. other (was h (ap (holder_at old) (sym e) ∙ there))) ∙ there;
    no_more = λ k h there other.
        sym (w.others k (λ e. other (is h (sym w.here ∙ ap (holder_at new) (sym e) ∙ there)))) ∙ there;
  }

  -- A record elsewhere is as it was.
  abbrev pub at-kept : (s k : ℕ) → k ≢ place → IsHolderAt old s t k → IsHolderAt new s t k
  at-kept s k other i = record { holder = i.holder; there = w.others k other ∙ i.there; its = i.its; on = i.on }

  abbrev pub at-was : (s k : ℕ) → k ≢ place → IsHolderAt new s t k → IsHolderAt old s t k
  at-was s k other i = record { holder = i.holder; there = sym (w.others k other) ∙ i.there; its = i.its; on = i.on }

-- The modes of a session's record on an object are changed.
module _
    (old new : List (Option HolderRecord)) (s : ℕ) (t : Tag) (m : Mode) (b : Bool) (place modes : ℕ) (i : IsHolderAt old s t place) (are : AreHolders old t)
    (w : IsWritten old new place (Some (record i.holder { modes = modes }))) where
  abbrev its-new : IsHolderAt new s t place
  its-new = record { holder = record i.holder { modes = modes }; there = w.here; its = i.its; on = i.on }

  back : (k j : ℕ) → IsHolderAt new k t j → IsHolderAt old k t j
  back k j n =
      elim (cases_eq j place) [
        | inl e ↦
            let same : record i.holder { modes = modes } ≡ n.holder = same-holder new place _ _ w.here (ap (holder_at new) (sym e) ∙ n.there) in
            record { holder = i.holder; there = ap (holder_at old) e ∙ i.there; its = ap (λ h. h.session) same ∙ n.its; on = i.on }
        | inr other ↦ at-was old new t place _ w k j other n
      ]

  changed-kept : HasModesOf old new s t
  changed-kept k j other o =
      let apart : j ≢ place = λ e. other (sym o.its ∙ ap (λ h. h.session) (same-holder old place _ _ (ap (holder_at old) (sym e) ∙ o.there) i.there) ∙ i.its) in
      (j, at-kept old new t place _ w k j apart o, refl)

  changed-back : HasModesOf new old s t
  changed-back k j other n =
      let apart : j ≢ place = λ e. other (sym (back k j n).its ∙ ap (λ h. h.session) (same-holder old place _ _ (ap (holder_at old) (sym e) ∙ (back k j n).there) i.there) ∙ i.its) in
      (j, at-was old new t place _ w k j apart n, refl)

  once-changed : (k j l : ℕ) → IsHolderAt new k t j → IsHolderAt new k t l → j ≡ l
  once-changed k j l one two = are.once k j l (back k j one) (back k l two)

  pub SetsHold-modes : set_has modes m ≡ b → ((n : Mode) → n ≢ m → set_has modes n ≡ set_has i.holder.modes n) → ((n : Mode) × (set_has modes n ≡ true)) → SetsHold old new s t m b
  SetsHold-modes own own_else some = record {
    same = else;
    holds =
        holds-set old new s t m b else (holds-others old new s t changed-kept changed-back) (own_modes m ∙ own)
        (λ n other. own_modes n ∙ own_else n other ∙ sym (holds-at old s t place are i n));
    are = record {
      once = once-changed;
      below = λ k j n. are.below k j (back k j n);
      some = some_mode;
    };
  } where
    else : HasSameElse old new t
    else =
        same-else old new t place _ w (λ h there. ap (λ x. x.tag) (same-holder old place _ _ there i.there) ∙ i.on)
        (λ h e. let same : record i.holder { modes = modes } ≡ h = cc in ap (λ x. x.tag) (sym same) ∙ i.on)

    own_modes : (n : Mode) → holds_in new s t n ≡ set_has modes n
    own_modes n =
        elim (cases_Bool (set_has modes n)) [
          | inl has ↦ held-to new s t n place its-new has ∙ sym has
          | inr has_not ↦
              false_from_ne_true _ (λ holds.
              let shows = held-from new s t n holds in
              let same : shows.place ≡ place = once-changed s shows.place place shows.at its-new in
              let one : shows.at.holder ≡ record i.holder { modes = modes } = same-holder new place _ _ (ap (holder_at new) (sym same) ∙ shows.at.there) w.here in
              both_ways (set_has modes n) has_not (ap (λ h. set_has h.modes n) (sym one) ∙ shows.has)) ∙ sym has_not
        ]

    some_mode : (k j : ℕ) → IsHolderAt new k t j → (mode : Mode) × (holds_in new k t mode ≡ true)
    some_mode k j n =
        elim (cases_eq k s) [
          | inl its ↦ (some.0, ap (λ x. holds_in new x t some.0) its ∙ own_modes some.0 ∙ some.1)
          | inr other ↦
              let was = are.some k j (back k j n) in
              (was.0, holds-others old new s t changed-kept changed-back k was.0 other ∙ was.1)
        ]

  pub chain-changed : (first count : ℕ) → IsHolderChain old t first count → IsHolderChain new t first count
  chain-changed first count chain = record {
    places = chain.places;
    linked = chain-kept old new t first chain.places (λ k h is_in there on. leads k h there on) chain.linked;
    number = chain.number;
    all = λ k h there on.
        let was = back h.session k (record { holder = h; there = there; its = refl; on = on }) in
        chain.all k was.holder was.there was.on;
  } where
    leads : (k : ℕ) (h : HolderRecord) → holder_at old k ≡ Some h → h.tag ≡ t → LeadsAs new t k h
    leads k h there on =
        elim (cases_eq k place) [
          | inl e ↦
              let same : h ≡ i.holder = same-holder old place _ _ (ap (holder_at old) (sym e) ∙ there) i.there in
              (record i.holder { modes = modes }, ap (holder_at new) e ∙ w.here, i.on, ap (λ x. x.next) (sym same))
          | inr other ↦ (h, w.others k other ∙ there, on, refl)
        ]

-- A session's first record on an object is put at the head of the chain.
module _
    (old new : List (Option HolderRecord)) (s : ℕ) (t : Tag) (m : Mode) (place modes first : ℕ) (are : AreHolders old t) (vacant : holder_at old place ≡ None)
    (w : IsWritten old new place (Some (record { tag = t; next = first; modes = modes; session = s }))) where
  not-there : (k : ℕ) (h : HolderRecord) → holder_at old k ≡ Some h → k ≢ place
  not-there k h there e = let none : holder_at old k ≡ None = ap (holder_at old) e ∙ vacant in cc

  pub chain-put : (count : ℕ) → IsHolderChain old t first count → IsHolderChain new t place (count + 1)
  chain-put count chain = record {
    places = place ∷ chain.places;
    linked = (
      refl,
      λ is_in. let it = chain-at old t first chain.places chain.linked place is_in in not-there place it.0 it.1 refl,
      (
        record { tag = t; next = first; modes = modes; session = s },
        w.here,
        refl,
        chain-kept old new t first chain.places (λ k h is_in there on. (h, w.others k (not-there k h there) ∙ there, on, refl)) chain.linked,
      ),
    );
    number = omega (arith, chain.number);
    all = λ k h there on. elim (cases_eq k place) [
      | inl e ↦ inl e
      | inr other ↦ inr (chain.all k h (sym (w.others k other) ∙ there) on)
    ];
  }

  pub SetsHold-put : HasNoHolder old s t → s < most_sessions → set_has modes m ≡ true → ((n : Mode) → n ≢ m → set_has modes n ≡ false) → SetsHold old new s t m true
  SetsHold-put no_holder small own own_else = record {
    same = else;
    holds =
        holds-set old new s t m true else (holds-others old new s t kept was) (held-to new s t m place its own)
        (λ n other. own_modes n other ∙ sym (holds-none old s t no_holder n));
    are = record { once = once; below = below; some = some };
  } where
    else : HasSameElse old new t
    else =
        same-else old new t place _ w (λ h there. absurd (not-there place h there refl))
        (λ h e. let same : record { tag = t; next = first; modes = modes; session = s } ≡ h = cc in ap (λ x. x.tag) (sym same))

    its : IsHolderAt new s t place
    its = record { holder = record { tag = t; next = first; modes = modes; session = s }; there = w.here; its = refl; on = refl }

    -- the new record is the session's
    at_place : (k : ℕ) → IsHolderAt new k t place → k ≡ s
    at_place k n =
        let same : n.holder ≡ record { tag = t; next = first; modes = modes; session = s } = same-holder new place _ _ n.there w.here in
        sym n.its ∙ ap (λ h. h.session) same

    stands : (k j : ℕ) → IsHolderAt new k t j → ((j ≡ place) × (k ≡ s)) ⊎ ((j ≢ place) × (k ≢ s) × IsHolderAt old k t j)
    stands k j n =
        elim (cases_eq j place) [
          | inl e ↦ inl (e, at_place k (subst (IsHolderAt new k t) e n))
          | inr other ↦
              let o = at-was old new t place _ w k j other n in
              inr (other, (λ e. no_holder j (subst (λ x. IsHolderAt old x t j) e o)), o)
        ]

    kept : HasModesOf old new s t
    kept k j other o = (j, at-kept old new t place _ w k j (not-there j o.holder o.there) o, refl)

    was : HasModesOf new old s t
    was k j other n =
        let apart : j ≢ place = λ e. other (at_place k (subst (IsHolderAt new k t) e n)) in
        (j, at-was old new t place _ w k j apart n, refl)

    own_modes : (n : Mode) → n ≢ m → holds_in new s t n ≡ false
    own_modes n other = false_from_ne_true _ (λ holds.
        let shows = held-from new s t n holds in
        elim (stands s shows.place shows.at) [
          | inr not_here ↦ absurd (not_here.1 refl)
          | inl here ↦
              let one : shows.at.holder ≡ record { tag = t; next = first; modes = modes; session = s } =
              same-holder new place _ _ (ap (holder_at new) (sym here.0) ∙ shows.at.there) w.here in
              both_ways (set_has modes n) (own_else n other) (ap (λ h. set_has h.modes n) (sym one) ∙ shows.has)
        ])

    once : (k j l : ℕ) → IsHolderAt new k t j → IsHolderAt new k t l → j ≡ l
    once k j l one two =
        elim (stands k j one) [
          | inl a ↦ elim (stands k l two) [ inl b ↦ a.0 ∙ sym b.0 | inr b ↦ absurd (b.1 a.1) ]
          | inr a ↦ elim (stands k l two) [ inl b ↦ absurd (a.1 b.1) | inr b ↦ are.once k j l a.2 b.2 ]
        ]

    below : (k j : ℕ) → IsHolderAt new k t j → k < most_sessions
    below k j n = elim (stands k j n) [ inl a ↦ rw a.1 small | inr a ↦ are.below k j a.2 ]

    some : (k j : ℕ) → IsHolderAt new k t j → (mode : Mode) × (holds_in new k t mode ≡ true)
    some k j n =
        elim (stands k j n) [
          | inl a ↦ (m, ap (λ x. holds_in new x t m) a.1 ∙ held-to new s t m place its own)
          | inr a ↦ let it = are.some k j a.2 in (it.0, holds-others old new s t kept was k it.0 a.1 ∙ it.1)
        ]
