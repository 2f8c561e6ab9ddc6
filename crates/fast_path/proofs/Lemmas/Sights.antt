use Rattle.std.proofs.Common.{◌≡◌, ◌≢◌, ℕ, ◌+◌, ◌<◌, Bool, true, false, nat_eq, suc, Option, Some, None}
use Rattle.std.proofs.Common.{refl, sym, ap, ◌∙◌, subst, inl, inr, arith}
use Rattle.std.specs.Prelude.{◌*◌, ◌/◌, ◌&&◌, if◌then◌else◌, IfSome, IfNone}
use Rattle.std.proofs.lemmas.Bool.{cases_eq, and_from, eq-eqb, ne_eqb, cond-true, cond-false}
use Rattle.lw_word.specs.SlotWord.{in_use, relation_in}
use Rattle.lock_table.specs.Total.{total, how_many}
use Rattle.lock_world.specs.SlotHolds.{group_size, place_in_group, is_slot_of}
use Rattle.lock_world.proofs.Lemmas.Slots.Used.{place-split, place-group}
use Rattle.fast_path.specs.declared.slot_words.SeenSlot.{SeenSlot}
use Rattle.fast_path.specs.Slots.{IsOfGroup, NoneInGroup, IsSeenOf, Sights}

-- Looking through a group's slots one after another.

-- the words of a group's slots
abbrev pub in_group : ℕ → (ℕ → ℕ) → ℕ → ℕ
in_group group word k = word (place_in_group group k)

-- The slot is one of the first `limit` of the group, and in use for the relation.
pub record IsOfRelation (group : ℕ) (word : ℕ → ℕ) (relation limit : ℕ) (slot : SeenSlot) : Type 0 where
  pub index : ℕ
  pub within : index < limit
  pub there : slot.number ≡ place_in_group group index
  pub shown : slot.word ≡ in_group group word index
  pub its : is_slot_of slot.word relation ≡ true

-- What is found among the first `limit` slots of the group, with these words.
pub record SightsBelow (group : ℕ) (word : ℕ → ℕ) (relation limit : ℕ) (its : Option SeenSlot) (count : ℕ) :
    Type 0 where
  pub found : IfSome its (IsOfRelation group word relation limit)
  pub none : IfNone its ((k : ℕ) → k < limit → is_slot_of (in_group group word k) relation ≡ false)
  pub counted : count ≡ how_many limit (λ k. in_use (in_group group word k))

-- Among none nothing is.
pub sights-none : (group : ℕ) (word : ℕ → ℕ) (relation : ℕ) → SightsBelow group word relation 0 None 0
unfolding total
sights-none group word relation = record {
  found = tt;
  none = λ k below. absurd (omega (arith, below));
  counted = refl;
}

-- What holds of each number below a limit, and of it, holds below the next.
pub below-more :
    (test : ℕ → Bool) (value : Bool) (limit : ℕ) → ((k : ℕ) → k < limit → test k ≡ value) → test limit ≡ value
    → (k : ℕ) → k < limit + 1 → test k ≡ value
below-more test value limit before here k below =
    elim (cases_eq k limit) [
      | inl same ↦ ap test same ∙ here
      | inr other ↦ before k (omega (arith, other, below))
    ]

-- How many pass of one number more.
pub counted-more :
    (test : ℕ → Bool) (limit count : ℕ) → count ≡ how_many limit test → test limit ≡ true
    → count + 1 ≡ how_many (limit + 1) test
unfolding total
counted-more test limit count so_far passes =
    let one : ◌≡◌ {A = ℕ} (if test limit then 1 else 0) 1 = cond-true (test limit) 1 0 passes in
    let more : suc limit ≡ limit + 1 = omega arith in
    let next : how_many (suc limit) test ≡ how_many (limit + 1) test = ap (λ (n : ℕ). how_many n test) more in
    omega (arith, so_far, one, next)

pub counted-same :
    (test : ℕ → Bool) (limit count : ℕ) → count ≡ how_many limit test → test limit ≡ false
    → count ≡ how_many (limit + 1) test
unfolding total
counted-same test limit count so_far fails =
    let none : ◌≡◌ {A = ℕ} (if test limit then 1 else 0) 0 = cond-false (test limit) 1 0 fails in
    let more : suc limit ≡ limit + 1 = omega arith in
    let next : how_many (suc limit) test ≡ how_many (limit + 1) test = ap (λ (n : ℕ). how_many n test) more in
    omega (arith, so_far, none, next)

-- What was found with equal words and numbers is found with these.
pub sights-same :
    (group : ℕ) (word : ℕ → ℕ) (relation limit : ℕ) (its its_now : Option SeenSlot) (count count_now : ℕ)
    → its_now ≡ its → count_now ≡ count → SightsBelow group word relation limit its count
    → SightsBelow group word relation limit its_now count_now
sights-same group word relation limit its its_now count count_now same_its same_count sights =
    subst (λ (slot : Option SeenSlot). SightsBelow group word relation limit slot count_now) (sym same_its)
    (subst (λ (n : ℕ). SightsBelow group word relation limit its n) (sym same_count) sights)

-- One more slot.
module _ (group : ℕ) (word : ℕ → ℕ) (relation limit : ℕ) (its : Option SeenSlot) (count slot shown : ℕ)
    (so_far : SightsBelow group word relation limit its count) (at : slot ≡ place_in_group group limit)
    (is : shown ≡ in_group group word limit) where
  -- What was found is still found,
  found-before : (slots : Option SeenSlot) → IfSome slots (IsOfRelation group word relation limit)
      → IfSome slots (IsOfRelation group word relation (limit + 1))
  found-before (Some slot) found = record {
    index = found.index;
    within = omega (arith, found.within);
    there = found.there;
    shown = found.shown;
    its = found.its;
  }
  found-before None found = tt

  none-more : is_slot_of (in_group group word limit) relation ≡ false → (slots : Option SeenSlot)
      → IfNone slots ((k : ℕ) → k < limit → is_slot_of (in_group group word k) relation ≡ false)
      → IfNone slots ((k : ℕ) → k < limit + 1 → is_slot_of (in_group group word k) relation ≡ false)
  none-more not_its (Some slot) none = tt
  none-more not_its None none = below-more (λ k. is_slot_of (in_group group word k) relation) false limit none not_its

  -- A slot that was found is in use for the relation,
  pub sights-its :
      in_use shown ≡ true → relation_in shown ≡ relation
      → SightsBelow group word relation (limit + 1) (Some (record { number = slot; word = shown })) (count + 1)
  sights-its used same =
      let used_there : in_use (in_group group word limit) ≡ true = ap in_use (sym is) ∙ used in
      record {
        found = record {
          index = limit;
          within = omega arith;
          there = at;
          shown = is;
          its = and_from (in_use shown) (nat_eq (relation_in shown) relation) used
              (eq-eqb (relation_in shown) relation same);
        };
        none = tt;
        counted = counted-more (λ k. in_use (in_group group word k)) limit count so_far.counted used_there;
      }

  -- or for another one,
  pub sights-other :
      in_use shown ≡ true → relation_in shown ≢ relation → SightsBelow group word relation (limit + 1) its (count + 1)
  sights-other used other =
      let used_there : in_use (in_group group word limit) ≡ true = ap in_use (sym is) ∙ used in
      let not_its : is_slot_of (in_group group word limit) relation ≡ false =
      ap (λ w. is_slot_of w relation) (sym is)
      ∙ ap (λ b. b && nat_eq (relation_in shown) relation) used ∙ ne_eqb (relation_in shown) relation other in
      record {
        found = found-before its so_far.found;
        none = none-more not_its its so_far.none;
        counted = counted-more (λ k. in_use (in_group group word k)) limit count so_far.counted used_there;
      }

  -- or not in use.
  pub sights-unused : in_use shown ≡ false → SightsBelow group word relation (limit + 1) its count
  sights-unused unused =
      let unused_there : in_use (in_group group word limit) ≡ false = ap in_use (sym is) ∙ unused in
      let not_its : is_slot_of (in_group group word limit) relation ≡ false =
      ap (λ b. b && nat_eq (relation_in (in_group group word limit)) relation) unused_there in
      record {
        found = found-before its so_far.found;
        none = none-more not_its its so_far.none;
        counted = counted-same (λ k. in_use (in_group group word k)) limit count so_far.counted unused_there;
      }

-- A slot of one of `groups` groups is below the number of their slots.
pub slot-below : (group groups slot : ℕ) → IsOfGroup group slot → group < groups → slot < group_size * groups
slot-below group groups slot its below = omega (arith, its, below)

-- What is found among all slots of the group.
module _ (group : ℕ) (word : ℕ → ℕ) (relation : ℕ) (its : Option SeenSlot) (count : ℕ)
    (all : SightsBelow group word relation group_size its count) where
  at_slot : (test : ℕ → Bool) (value : Bool)
      → ((k : ℕ) → k < group_size → test (in_group group word k) ≡ value)
      → (slot : ℕ) → IsOfGroup group slot → test (word slot) ≡ value
  at_slot test value each slot within =
      let there = place-split group slot within in
      ap (λ p. test (word p)) there.2 ∙ each there.0 there.1

  found-all : (slots : Option SeenSlot) → IfSome slots (IsOfRelation group word relation group_size)
      → IfSome slots (IsSeenOf group word relation)
  found-all (Some slot) found = record {
    within = ap (λ p. p / group_size) found.there ∙ place-group group found.index found.within;
    shown = found.shown ∙ ap word (sym found.there);
    its = found.its;
  }
  found-all None found = tt

  none-all : (slots : Option SeenSlot)
      → IfNone slots ((k : ℕ) → k < group_size → is_slot_of (in_group group word k) relation ≡ false)
      → IfNone slots (NoneInGroup group word relation)
  none-all (Some slot) none = tt
  none-all None none = at_slot (λ w. is_slot_of w relation) false none

  pub sights-all : Sights group word relation (record { of_relation = its; used_count = count })
  sights-all = record {
    found = found-all its all.found;
    none = none-all its all.none;
    counted = all.counted;
  }
