use Rattle.std.proofs.Common.{◌≡◌, ◌≢◌, ℕ, ◌+◌, ◌<◌, ◌≤◌, ◌^◌, Bool, true, false, nat_eq, Option, Some, None, refl, sym, ap, ◌∙◌, subst, inl, inr, arith}
use Rattle.std.specs.Prelude.{◌/◌, ◌==◌, if◌then◌else◌, IfNone, IsSome}
use Rattle.std.proofs.lemmas.Bool.{cases_eq, both_ways, and_parts, eqb-true, eq-eqb, cond-true}
use Rattle.modes_core.specs.declared.modes.Mode.{Mode}
use Rattle.modes_core.specs.Mode.{number_of}
use Rattle.lw_word.specs.SlotWord.{in_use, relation_in, word_with}
use Rattle.lw_word.proofs.Lemmas.Slots.{relation_in-word_with}
use Rattle.lock_table.specs.Put.{set_at}
use Rattle.lock_table.proofs.Lemmas.Put.{set_at-here, set_at-else}
use Rattle.lock_world.specs.SlotHolds.{group_size, most_groups, place_in_group, group_of_relation}
use Rattle.lock_world.specs.SlotHolds.{may_use, is_slot_of, used_in, AreInGroups, IsSlotToGrant}
use Rattle.lock_world.specs.Account.{Account}
use Rattle.lock_world.specs.AccountSteps.{account_taking_fast}
use Rattle.lock_world.proofs.Lemmas.Slots.Used.{place-split, place-group, relation-group, used-same, used-one_more, used-elsewhere}
use Rattle.lock_world.proofs.Lemmas.Slots.Used.{used-room, word_with-in_use}
use Rattle.shared_rule.specs.Slots.{TakesFast}
use Rattle.fast_path.specs.declared.slot_words.SeenSlot.{SeenSlot}
use Rattle.fast_path.specs.declared.use_counts.UseCounts.{UseCounts}
use Rattle.fast_path.specs.Slots.{IsReady}
use Rattle.fast_path.specs.Slots.{IsOfGroup, IsAllInUse, NoneInGroup, IsHighestUnused}
use Rattle.fast_path.specs.Slots.{count_in, one_more_in, AreCounted, AreUseCounts}
use Rattle.fast_path.specs.Grants.{HasOwnSlots}
use Rattle.fast_path.proofs.Lemmas.GroupCounts.{counted-fewer}
use Rattle.fast_path.proofs.Lemmas.Shows.{within-of_group}

-- A grant by the fast path, through its steps.

-- Taking the lock of its own slots.

-- Whoever has none in hand and takes it has it and no other one; its use counts are still enough.
pub has_own_slots :
    (groups number : ℕ) (a b : Account) (uses : UseCounts) (own : ℕ) → own ≡ number
    → IsReady groups a uses → TakesFast groups number a own b → HasOwnSlots groups number b uses
has_own_slots groups number a b uses own same ready takes = record {
  slots = takes.slots;
  in_hand =
      ap (λ (x : Account). x.fast.slots) taken ∙ (λ i. set_at (ready.no_slots i) number (Some takes.slots));
  no_content = ap (λ (x : Account). x.hand) taken ∙ ready.no_content;
  no_shared_slots = ap (λ (x : Account). x.fast.shared_slots) taken ∙ ready.no_shared_slots;
  as_shown =
      ap (λ (x : Account). x.fast.remembered) taken
      ∙ cond-true (number == number) takes.slots.word a.fast.remembered (eq-eqb number number refl);
  one_each = takes.knows.one_each;
  in_groups = takes.knows.in_groups;
  no_zero = ap (λ (x : Account). x.fast.zero) taken ∙ ready.no_zero;
  enough = counted-fewer takes.slots.word a.fast.remembered (count_in uses) (takes.knows.as_remembered same) ready.enough;
  within = ready.within;
} where
  taken : b ≡ account_taking_fast number a number takes.slots
  taken = takes.account ∙ ap (λ (n : ℕ). account_taking_fast number a n takes.slots) same

-- The slot that a grant takes: the one that the relation has,
pub its-takes :
    (groups : ℕ) (words : ℕ → ℕ) (relation slot : ℕ) → 0 < groups → groups ≤ most_groups
    → IsOfGroup (group_of_relation groups relation) slot → is_slot_of (words slot) relation ≡ true
    → IsSlotToGrant groups words relation slot
its-takes groups words relation slot some few of_group its = record {
  within = within-of_group groups relation slot some few of_group;
  usable = eq-eqb (slot / group_size) (group_of_relation groups relation) of_group;
  its_or_unused = inl its;
}

-- or one not in use, where its group has none for it.
pub unused-takes :
    (groups : ℕ) (words : ℕ → ℕ) (relation slot : ℕ) → 0 < groups → groups ≤ most_groups
    → IsHighestUnused (group_of_relation groups relation) words slot
    → NoneInGroup (group_of_relation groups relation) words relation → IsSlotToGrant groups words relation slot
unused-takes groups words relation slot some few highest none = record {
  within = within-of_group groups relation slot some few highest.within;
  usable = eq-eqb (slot / group_size) (group_of_relation groups relation) highest.within;
  its_or_unused = inr (
    highest.unused,
    λ other within usable.
        none other (eqb-true (other / group_size) (group_of_relation groups relation) usable),
  );
}

pub its_relation :
    (groups : ℕ) (words : ℕ → ℕ) (relation slot : ℕ) → IsSlotToGrant groups words relation slot
    → in_use (words slot) ≡ true → relation_in (words slot) ≡ relation
its_relation groups words relation slot takes is =
    elim takes.its_or_unused [
      | inl its ↦ eqb-true (relation_in (words slot)) relation
          (and_parts (in_use (words slot)) (nat_eq (relation_in (words slot)) relation) its).1
      | inr unused ↦ absurd (both_ways (in_use (words slot)) unused.0 is)
    ]

-- With the mode set there one more of the group is in use, if that one was not.
module _ (groups : ℕ) (words : ℕ → ℕ) (relation slot : ℕ) (mode : Mode) (uses : UseCounts) (fits : relation < 2 ^ 32)
    (weak : number_of mode ≤ 3) (takes : IsSlotToGrant groups words relation slot) (few : groups ≤ most_groups)
    (some : 0 < groups) where
  -- the relation's group
  abbrev pub its_group : ℕ
  its_group = group_of_relation groups relation

  -- the use counts then
  abbrev pub counts_granted : ℕ → ℕ
  counts_granted = if in_use (words slot) then count_in uses else one_more_in uses its_group

  -- the words then
  abbrev slots_granted : ℕ → ℕ
  slots_granted = set_at words slot (word_with (words slot) relation mode)

  pub is : in_use (word_with (words slot) relation mode) ≡ true
  is = word_with-in_use (words slot) relation mode fits weak (its_relation groups words relation slot takes)

  pub of_group : slot / group_size ≡ its_group
  of_group = eqb-true (slot / group_size) its_group takes.usable

  pub exists : its_group < most_groups
  exists = let its : its_group < groups = relation-group groups relation some in omega (arith, its, few)

  pub more : in_use (words slot) ≡ false → used_in its_group slots_granted ≡ used_in its_group words + 1
  more was =
      let there = place-split its_group slot of_group in
      (λ i. used_in its_group (set_at words (there.2 i) (word_with (words slot) relation mode)))
      ∙ used-one_more its_group words there.0 (word_with (words slot) relation mode) there.1
      (ap (λ p. in_use (words p)) (sym there.2) ∙ was) is

  pub counted-granted : AreCounted words (count_in uses) → AreCounted slots_granted counts_granted
  counted-granted enough group below = at (in_use (words slot)) refl where
    at : (b : Bool) → in_use (words slot) ≡ b
        → used_in group slots_granted ≤ (if b then count_in uses else one_more_in uses its_group) group
    at true was =
        let same : used_in group slots_granted ≡ used_in group words =
        used-same group words slot (word_with (words slot) relation mode) (is ∙ sym was) in
        let before : used_in group words ≤ count_in uses group = enough group below in
        omega (arith, same, before)
    at false was = elim (cases_eq group its_group) [
      | inl same ↦
          let one : used_in its_group slots_granted ≡ used_in its_group words + 1 = more was in
          let before : used_in its_group words ≤ count_in uses its_group = enough its_group exists in
          let now : one_more_in uses its_group its_group ≡ count_in uses its_group + 1 =
          set_at-here (count_in uses) its_group (count_in uses its_group + 1) its_group refl in
          subst (λ (g : ℕ). used_in g slots_granted ≤ one_more_in uses its_group g) (sym same)
          (omega (arith, one, before, now))
      | inr other ↦
          let same : used_in group slots_granted ≡ used_in group words =
          used-elsewhere group words slot (word_with (words slot) relation mode)
          (λ its. other (sym its ∙ of_group)) in
          let before : used_in group words ≤ count_in uses group = enough group below in
          let now : one_more_in uses its_group group ≡ count_in uses group =
          set_at-else (count_in uses) its_group (count_in uses its_group + 1) group other in
          omega (arith, same, before, now)
    ]

  pub within-granted :
      count_in uses its_group ≢ group_size → AreUseCounts (count_in uses) → AreUseCounts counts_granted
  within-granted room within group below = at (in_use (words slot)) where
    at : (b : Bool) → (if b then count_in uses else one_more_in uses its_group) group ≤ group_size
    at true = within group below
    at false = elim (cases_eq group its_group) [
      | inl same ↦
          let before : count_in uses its_group ≤ group_size = within its_group exists in
          let now : one_more_in uses its_group its_group ≡ count_in uses its_group + 1 =
          set_at-here (count_in uses) its_group (count_in uses its_group + 1) its_group refl in
          subst (λ (g : ℕ). one_more_in uses its_group g ≤ group_size) (sym same)
          (omega (arith, before, now, room))
      | inr other ↦
          let before : count_in uses group ≤ group_size = within group below in
          let now : one_more_in uses its_group group ≡ count_in uses group =
          set_at-else (count_in uses) its_group (count_in uses its_group + 1) group other in
          omega (arith, before, now)
    ]

  -- Each slot in use is still of its relation's group.
  pub in_groups-granted : AreInGroups groups words → AreInGroups groups slots_granted
  in_groups-granted in_groups k below used = elim (cases_eq k slot) [
    | inl same ↦
        let here : slots_granted k ≡ word_with (words slot) relation mode =
        set_at-here words slot (word_with (words slot) relation mode) k same in
        let its : relation_in (slots_granted k) ≡ relation =
        ap relation_in here ∙ relation_in-word_with (words slot) relation mode fits weak in
        ap (λ r. may_use groups r k) its ∙ ap (may_use groups relation) same ∙ takes.usable
    | inr other ↦
        let here : slots_granted k ≡ words k = set_at-else words slot (word_with (words slot) relation mode) k other in
        ap (λ w. may_use groups (relation_in w) k) here ∙ in_groups k below (ap in_use (sym here) ∙ used)
  ]

-- Where not all of a group are in use one is found that is not.
pub some-unused :
    (groups group : ℕ) (word : ℕ → ℕ) (uses : UseCounts) (found : Option SeenSlot) → group < most_groups
    → AreCounted word (count_in uses) → AreUseCounts (count_in uses) → count_in uses group ≢ group_size
    → IfNone found (IsAllInUse group word) → IsSome found
some-unused groups group word uses (Some slot) exists enough within room all = refl
some-unused groups group word uses None exists enough within room all =
    let before : used_in group word ≤ count_in uses group = enough group exists in
    let most : count_in uses group ≤ group_size = within group exists in
    let free = used-room group word (omega (arith, before, most, room)) in
    absurd (both_ways (in_use (word (place_in_group group free.0))) free.2
    (all (place_in_group group free.0) (place-group group free.0 free.1)))
