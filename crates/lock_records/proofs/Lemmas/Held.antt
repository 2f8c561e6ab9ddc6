use Rattle.std.proofs.Common.{◌≡◌, ◌≢◌, ℕ, Bool, true, false, List, Option, Some, None, refl, sym, ap, ◌∙◌, inl, inr}
use Rattle.std.specs.Cmp.{both_ways as same_tests}
use Rattle.std.proofs.lemmas.Bool.{cases_Bool, cases_eq, false≢true, eqb-true, eq-eqb, false_from_ne_true, both_ways}
use Rattle.modes_core.specs.declared.modes.Mode.{Mode}
use Rattle.modes_core.specs.declared.tags.Tag.{Tag}
use Rattle.modes_core.specs.Tag.{tag_eq}
use Rattle.modes_core.specs.ModeSet.{set_has}
use Rattle.modes_core.proofs.Lemmas.Conflicts.{both_true, tag_eq-same, tag_eq-refl}
use Rattle.lock_table.specs.Content.{set_hold}
use Rattle.lock_table.proofs.Lemmas.Holds.{set_hold-at, here, elsewhere}
use Rattle.lock_table.proofs.Lemmas.Lists.{any_found, found_within}
use Rattle.lock_table.proofs.Lemmas.Options.{one_some}
use Rattle.lock_records.specs.declared.holders.HolderRecord.{HolderRecord}
use Rattle.lock_records.specs.Holders.{holder_at, slot_holds, holds_in, IsHolderAt, HasNoHolder, AreHolders, HasSameElse, HasModesOf}

-- A hold is shown by a record, whose place is known.
pub record ShowsHold (slots : List (Option HolderRecord)) (s : ℕ) (t : Tag) (m : Mode) : Type 0 where
  pub place : ℕ
  pub at : IsHolderAt slots s t place
  pub has : set_has at.holder.modes m ≡ true

pub slot-at : (slots : List (Option HolderRecord)) (s : ℕ) (t : Tag) (m : Mode) (k : ℕ) (slot : Option HolderRecord) →
    holder_at slots k ≡ slot → slot_holds s t m slot ≡ true → IsHolderAt slots s t k
slot-at slots s t m k None is shows = absurd (false≢true shows)
slot-at slots s t m k (Some h) is shows =
    let a = both_true _ _ shows in
    let b = both_true _ _ a.1 in
    record { holder = h; there = is; its = sym (eqb-true s h.session a.0); on = sym (tag_eq-same t h.tag b.0) }

pub slot-shows : (slots : List (Option HolderRecord)) (s : ℕ) (t : Tag) (m : Mode) (k : ℕ) (slot : Option HolderRecord) →
    holder_at slots k ≡ slot → slot_holds s t m slot ≡ true → ShowsHold slots s t m
slot-shows slots s t m k None is shows = absurd (false≢true shows)
slot-shows slots s t m k (Some h) is shows =
    let a = both_true _ _ shows in
    let b = both_true _ _ a.1 in
    record { place = k; at = record { holder = h; there = is; its = sym (eqb-true s h.session a.0); on = sym (tag_eq-same t h.tag b.0) }; has = b.1 }

pub held-from : (slots : List (Option HolderRecord)) (s : ℕ) (t : Tag) (m : Mode) → holds_in slots s t m ≡ true → ShowsHold slots s t m
unfolding holds_in
held-from slots s t m has =
    let found = any_found (slot_holds s t m) slots has in
    slot-shows slots s t m found.0 found.1 (found.3 None) found.4

pub held-to : (slots : List (Option HolderRecord)) (s : ℕ) (t : Tag) (m : Mode) (k : ℕ) (i : IsHolderAt slots s t k) → set_has i.holder.modes m ≡ true → holds_in slots s t m ≡ true
unfolding holds_in
held-to slots s t m k i has =
    found_within (slot_holds s t m) slots k None refl
    (ap (slot_holds s t m) i.there ∙ rw (i.its, i.on, eq-eqb s s refl, tag_eq-refl t) has)

-- Two records at one place are one.
pub same-holder : (slots : List (Option HolderRecord)) (k : ℕ) (h i : HolderRecord) → holder_at slots k ≡ Some h → holder_at slots k ≡ Some i → h ≡ i
same-holder slots k h i one two = one_some (holder_at slots k) h i one two

-- What a session's record shows is what it holds, and without a record it holds nothing.
pub holds-at : (slots : List (Option HolderRecord)) (s : ℕ) (t : Tag) (k : ℕ) → AreHolders slots t → (i : IsHolderAt slots s t k) → (m : Mode) → holds_in slots s t m ≡ set_has i.holder.modes m
holds-at slots s t k are i m = same_tests _ _ (λ has. it (held-from slots s t m has)) (λ has. held-to slots s t m k i has) where
  it : ShowsHold slots s t m → set_has i.holder.modes m ≡ true
  it shows =
      let place : shows.place ≡ k = are.once s shows.place k shows.at i in
      let same : shows.at.holder ≡ i.holder = same-holder slots k _ _ (ap (holder_at slots) (sym place) ∙ shows.at.there) i.there in
      ap (λ h. set_has h.modes m) (sym same) ∙ shows.has

pub holds-none : (slots : List (Option HolderRecord)) (s : ℕ) (t : Tag) → HasNoHolder slots s t → (m : Mode) → holds_in slots s t m ≡ false
holds-none slots s t no_holder m = false_from_ne_true _ (λ has. let shows = held-from slots s t m has in no_holder shows.place shows.at)

-- Records of other objects that stay show the holds that they showed.
kept-at : (old new : List (Option HolderRecord)) (tag : Tag) → HasSameElse old new tag → (s k : ℕ) (t : Tag) → t ≢ tag → (i : IsHolderAt old s t k) → (j : IsHolderAt new s t k) × (j.holder ≡ i.holder)
kept-at old new tag same s k t other i = (record { holder = i.holder; there = same.kept k i.holder i.there (λ e. other (sym i.on ∙ e)); its = i.its; on = i.on }, refl)

pub swap-else : (old new : List (Option HolderRecord)) (tag : Tag) → HasSameElse old new tag → HasSameElse new old tag
swap-else old new tag same = record { kept = same.no_more; no_more = same.kept }

pub at-else : (old new : List (Option HolderRecord)) (tag : Tag) → HasSameElse old new tag → (s k : ℕ) (t : Tag) → t ≢ tag → IsHolderAt old s t k → IsHolderAt new s t k
at-else old new tag same s k t other i = (kept-at old new tag same s k t other i).0

pub holds-else : (old new : List (Option HolderRecord)) (tag : Tag) → HasSameElse old new tag → (s : ℕ) (t : Tag) (m : Mode) → t ≢ tag → holds_in new s t m ≡ holds_in old s t m
holds-else old new tag same s t m other =
    same_tests _ _ (λ has. go new old (swap-else old new tag same) (held-from new s t m has)) (λ has. go old new same (held-from old s t m has)) where
      go : (a b : List (Option HolderRecord)) → HasSameElse a b tag → ShowsHold a s t m → holds_in b s t m ≡ true
      go a b same shows =
          let i = kept-at a b tag same s shows.place t other shows.at in
          held-to b s t m shows.place i.0 (ap (λ h. set_has h.modes m) i.1 ∙ shows.has)

pub holders-else : (old new : List (Option HolderRecord)) (tag : Tag) → HasSameElse old new tag → (t : Tag) → t ≢ tag → AreHolders old t → AreHolders new t
holders-else old new tag same t other are = record {
  once = λ s k j one two. are.once s k j (back s k one) (back s j two);
  below = λ s k one. are.below s k (back s k one);
  some = λ s k one. let it = are.some s k (back s k one) in (it.0, holds-else old new tag same s t it.0 other ∙ it.1);
} where
  back : (s k : ℕ) → IsHolderAt new s t k → IsHolderAt old s t k
  back s k i = at-else new old tag (swap-else old new tag same) s k t other i

pub holds-others : (old new : List (Option HolderRecord)) (s : ℕ) (t : Tag) → HasModesOf old new s t → HasModesOf new old s t → (k : ℕ) (m : Mode) → k ≢ s → holds_in new k t m ≡ holds_in old k t m
holds-others old new s t kept no_more k m other =
    same_tests _ _ (λ has. go new old no_more (held-from new k t m has)) (λ has. go old new kept (held-from old k t m has)) where
      go : (a b : List (Option HolderRecord)) → HasModesOf a b s t → ShowsHold a k t m → holds_in b k t m ≡ true
      go a b kept shows =
          let i = kept k shows.place other shows.at in
          held-to b k t m i.0 i.1 (ap (λ n. set_has n m) i.2 ∙ shows.has)

-- A hold that was set, where other objects and other sessions have what they had.
pub holds-set :
    (old new : List (Option HolderRecord)) (s : ℕ) (t : Tag) (m : Mode) (b : Bool) → HasSameElse old new t → ((k : ℕ) (n : Mode) → k ≢ s → holds_in new k t n ≡ holds_in old k t n) →
    holds_in new s t m ≡ b → ((n : Mode) → n ≢ m → holds_in new s t n ≡ holds_in old s t n) → holds_in new ≡ set_hold (holds_in old) s t m b
holds-set old new s t m b else others own own_else = λ i k o n. at k o n i where
  not_here : (k : ℕ) (o : Tag) (n : Mode) → (k ≡ s → o ≡ t → n ≢ m) → holds_in new k o n ≡ holds_in old k o n
  not_here k o n not_it =
      elim (cases_Bool (tag_eq o t)) [
        | inr apart ↦ holds-else old new t else k o n (λ e. both_ways (tag_eq o t) apart (ap (λ x. tag_eq x t) e ∙ tag_eq-refl t))
        | inl same ↦
            let on : o ≡ t = tag_eq-same o t same in
            ap (λ x. holds_in new k x n) on
            ∙ elim (cases_eq k s) [
              | inl its ↦ ap (λ x. holds_in new x t n) its ∙ own_else n (not_it its on) ∙ ap (λ x. holds_in old x t n) (sym its)
              | inr other ↦ others k n other
            ]
            ∙ ap (λ x. holds_in old k x n) (sym on)
      ]

  at : (k : ℕ) (o : Tag) (n : Mode) → holds_in new k o n ≡ set_hold (holds_in old) s t m b k o n
  at k o n =
      elim (set_hold-at (holds_in old) s t m b k o n) [
        | here it is ↦ rw (it.session, it.tag, it.mode) own ∙ sym is
        | elsewhere not_it is ↦ not_here k o n (λ its on same. not_it (record { session = its; tag = on; mode = same })) ∙ sym is
      ]
