use Rattle.std.proofs.Common.{◌≡◌, ◌≢◌, ◌⊎◌, ℕ, false, List, length, Option, Some, None, refl, sym, ap, ◌∙◌, subst, inl, inr}
use Rattle.std.proofs.lemmas.Bool.{cases_eq}
use Rattle.modes_core.specs.declared.modes.Mode.{Mode}
use Rattle.modes_core.specs.declared.tags.Tag.{Tag}
use Rattle.lock_records.specs.declared.holders.HolderRecord.{HolderRecord}
use Rattle.lock_records.specs.Holders.{holder_at, holds_in, IsHolderAt, HasNoHolder, AreHolders, IsIn, IsHolderChain, HasSameElse, HasModesOf, SetsHold, IsTaken}
use Rattle.lock_records.proofs.Lemmas.Held.{same-holder, holds-none, holds-others, holds-set}
use Rattle.lock_records.proofs.Lemmas.Chains.{LeadsAs, chain-kept, in-parts, GoesOn}
use Rattle.lock_records.proofs.Lemmas.Steps.{IsWritten, same-else, at-kept, at-was}

-- So its hold is gone, where it was the session's only one of the object.
pub SetsHold-taken :
    (old new : List (Option HolderRecord)) (s : ℕ) (t : Tag) (m : Mode) → AreHolders old t → IsTaken old new s t → ((n : Mode) → n ≢ m → holds_in old s t n ≡ false) → SetsHold old new s t m false
SetsHold-taken old new s t m are taken only = record {
  same = taken.same;
  holds =
      holds-set old new s t m false taken.same (holds-others old new s t taken.kept taken.was) (holds-none new s t taken.gone m)
      (λ n other. holds-none new s t taken.gone n ∙ sym (only n other));
  are = record {
    once = taken.once;
    below = λ k j n. let w = taken.was k j (another k j n) n in are.below k w.0 w.1;
    some = λ k j n.
        let w = taken.was k j (another k j n) n in
        let it = are.some k w.0 w.1 in
        (it.0, holds-others old new s t taken.kept taken.was k it.0 (another k j n) ∙ it.1);
  };
} where
  another : (k j : ℕ) → IsHolderAt new k t j → k ≢ s
  another k j n e = taken.gone j (subst (λ x. IsHolderAt new x t j) e n)

-- The head of a chain is taken out.
module _ (old mid : List (Option HolderRecord)) (t : Tag) (are : AreHolders old t) (first : ℕ) (ks : List ℕ) (head : GoesOn old t first ks) (chain : IsHolderChain old t first (length ks))
    (places : chain.places ≡ ks) (w : IsWritten old mid first None) where
  -- nothing stands there
  pub empty : (h : HolderRecord) → holder_at mid first ≡ Some h → ⊥
  empty h there = let none : holder_at mid first ≡ None = w.here in cc

  pub not-first : (k : ℕ) (h : HolderRecord) → holder_at mid k ≡ Some h → k ≢ first
  not-first k h there e = empty h (ap (holder_at mid) (sym e) ∙ there)

  abbrev pub chain-headless : IsHolderChain mid t head.holder.next (length head.rest)
  chain-headless = record {
    places = head.rest;
    linked = chain-kept old mid t head.holder.next head.rest (λ k h is_in there on. (h, w.others k (λ e. head.apart (subst (λ x. IsIn x head.rest) e is_in)) ∙ there, on, refl)) head.next;
    number = refl;
    all = λ k h there on.
        let was : holder_at old k ≡ Some h = sym (w.others k (not-first k h there)) ∙ there in
        elim (in-parts first ks head.rest k head.parts (subst (IsIn k) places (chain.all k h was on))) [
          | inl e ↦ absurd (not-first k h there e)
          | inr later ↦ later
        ];
  }

  else-headless : HasSameElse old mid t
  else-headless =
      same-else old mid t first None w (λ h there. ap (λ x. x.tag) (same-holder old first _ _ there head.there) ∙ head.on)
      (λ h e. let no_way : ⊥ = cc in absurd no_way)

  -- Where it was the session's record, that is all.
  pub head-taken : (s : ℕ) → head.holder.session ≡ s → IsTaken old mid s t
  head-taken s its = record {
    same = else-headless;
    kept = λ k j other o.
        let apart : j ≢ first = λ e. other (sym o.its ∙ ap (λ h. h.session) (same-holder old first _ _ (ap (holder_at old) (sym e) ∙ o.there) head.there) ∙ its) in
        (j, at-kept old mid t first None w k j apart o, refl);
    was = λ k j other n. (j, at-was old mid t first None w k j (not-first j n.holder n.there) n, refl);
    gone = λ j n.
        let apart = not-first j n.holder n.there in
        apart (are.once s j first (at-was old mid t first None w s j apart n) (record { holder = head.holder; there = head.there; its = its; on = head.on }));
    once = λ k j l one two. are.once k j l (at-was old mid t first None w k j (not-first j one.holder one.there) one) (at-was old mid t first None w k l (not-first l two.holder two.there) two);
  }

  -- Else what it showed goes into the session's record.
  module _ (new : List (Option HolderRecord)) (s place : ℕ) (gap : IsHolderAt old s t place) (apart : place ≢ first)
      (v : IsWritten mid new place (Some (record gap.holder { session = head.holder.session; modes = head.holder.modes }))) where
    gap_mid : holder_at mid place ≡ Some gap.holder
    gap_mid = w.others place apart ∙ gap.there

    head_other : head.holder.session ≢ s
    head_other e = apart (are.once s place first gap (record { holder = head.holder; there = head.there; its = e; on = head.on }))

    -- where a record of the new list stood
    stood : (k j : ℕ) → IsHolderAt new k t j → ((j ≡ place) × (k ≡ head.holder.session)) ⊎ ((j ≢ place) × (j ≢ first) × IsHolderAt old k t j)
    stood k j n =
        elim (cases_eq j place) [
          | inl e ↦
              let same : n.holder ≡ record gap.holder { session = head.holder.session; modes = head.holder.modes } =
              same-holder new place _ _ (ap (holder_at new) (sym e) ∙ n.there) v.here in
              inl (e, sym n.its ∙ ap (λ h. h.session) same)
          | inr other ↦
              let m = at-was mid new t place _ v k j other n in
              inr (other, not-first j m.holder m.there, at-was old mid t first None w k j (not-first j m.holder m.there) m)
        ]

    head-at : (k : ℕ) → k ≡ head.holder.session → IsHolderAt old k t first
    head-at k e = record { holder = head.holder; there = head.there; its = sym e; on = head.on }

    pub gap-filled : IsTaken old new s t
    gap-filled = record {
      same = record {
        kept = λ k h there other.
            let m = else-headless.kept k h there other in
            v.others k (λ e. other (ap (λ x. x.tag) (same-holder mid place _ _ (ap (holder_at mid) (sym e) ∙ m) gap_mid) ∙ gap.on)) ∙ m;
        no_more = λ k h there other.
            let not_place : k ≢ place = λ e. other (ap (λ x. x.tag) (same-holder new place _ _ (ap (holder_at new) (sym e) ∙ there) v.here) ∙ gap.on) in
            else-headless.no_more k h (sym (v.others k not_place) ∙ there) other;
      };
      kept = kept;
      was = was;
      gone = gone;
      once = once;
    } where
      kept : HasModesOf old new s t
      kept k j other o =
          elim (cases_eq j first) [
            | inl e ↦
                let same : o.holder ≡ head.holder = same-holder old first _ _ (ap (holder_at old) (sym e) ∙ o.there) head.there in
                let at : IsHolderAt new k t place = record {
                  holder = record gap.holder { session = head.holder.session; modes = head.holder.modes };
                  there = v.here;
                  its = ap (λ h. h.session) (sym same) ∙ o.its;
                  on = gap.on;
                } in (
                  place,
                  record {
                    holder = record gap.holder { session = head.holder.session; modes = head.holder.modes };
                    there = v.here;
                    its = ap (λ h. h.session) (sym same) ∙ o.its;
                    on = gap.on;
                  },
                  ap (λ h. h.modes) (sym same),
                )
            | inr not_first ↦
                let not_place : j ≢ place = λ e. other (sym o.its ∙ ap (λ h. h.session) (same-holder old place _ _ (ap (holder_at old) (sym e) ∙ o.there) gap.there) ∙ gap.its) in
                (j, record { holder = o.holder; there = v.others j not_place ∙ w.others j not_first ∙ o.there; its = o.its; on = o.on }, refl)
          ]

      was : HasModesOf new old s t
      was k j other n =
          elim (cases_eq j place) [
            | inl e ↦
                let same : n.holder ≡ record gap.holder { session = head.holder.session; modes = head.holder.modes } =
                same-holder new place _ _ (ap (holder_at new) (sym e) ∙ n.there) v.here in
                (first, record { holder = head.holder; there = head.there; its = ap (λ h. h.session) (sym same) ∙ n.its; on = head.on }, ap (λ h. h.modes) (sym same))
            | inr not_place ↦
                let in_mid : holder_at mid j ≡ Some n.holder = sym (v.others j not_place) ∙ n.there in
                (j, record { holder = n.holder; there = sym (w.others j (not-first j n.holder in_mid)) ∙ in_mid; its = n.its; on = n.on }, refl)
          ]

      gone : HasNoHolder new s t
      gone j n =
          elim (stood s j n) [
            | inl here ↦ head_other (sym here.1)
            | inr there ↦ there.0 (are.once s j place there.2 gap)
          ]

      once : (k j l : ℕ) → IsHolderAt new k t j → IsHolderAt new k t l → j ≡ l
      once k j l one two =
          elim (stood k j one) [
            | inl a ↦ elim (stood k l two) [
              | inl b ↦ a.0 ∙ sym b.0
              | inr b ↦ absurd (b.1 (are.once k l first b.2 (head-at k a.1)))
            ]
            | inr a ↦ elim (stood k l two) [
              | inl b ↦ absurd (a.1 (are.once k j first a.2 (head-at k b.1)))
              | inr b ↦ are.once k j l a.2 b.2
            ]
          ]

    pub chain-filled : IsHolderChain new t head.holder.next (length head.rest)
    chain-filled = record {
      places = head.rest;
      linked = chain-kept mid new t head.holder.next head.rest (λ k h is_in there on. leads k h there on) chain-headless.linked;
      number = refl;
      all = λ k h there on. elim (cases_eq k place) [
        | inl e ↦ in_rest k e
        | inr other ↦ chain-headless.all k h (sym (v.others k other) ∙ there) on
      ];
    } where
      in_rest : (k : ℕ) → k ≡ place → IsIn k head.rest
      in_rest k e = subst (λ x. IsIn x head.rest) (sym e) (chain-headless.all place gap.holder gap_mid gap.on)

      leads : (k : ℕ) (h : HolderRecord) → holder_at mid k ≡ Some h → h.tag ≡ t → LeadsAs new t k h
      leads k h there on =
          elim (cases_eq k place) [
            | inl e ↦
                let same : h ≡ gap.holder = same-holder mid place _ _ (ap (holder_at mid) (sym e) ∙ there) gap_mid in
                (record gap.holder { session = head.holder.session; modes = head.holder.modes }, ap (holder_at new) e ∙ v.here, gap.on, ap (λ x. x.next) (sym same))
            | inr other ↦ (h, v.others k other ∙ there, on, refl)
          ]
