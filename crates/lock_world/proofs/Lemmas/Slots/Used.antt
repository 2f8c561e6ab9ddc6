use Rattle.std.proofs.Common.{◌≡◌, ◌≢◌, ℕ, ◌+◌, ◌*◌, ◌%◌, ◌<◌, ◌≤◌, ◌^◌, Bool, true, false, ◌&&◌, nat_eq, zero, suc}
use Rattle.std.proofs.Common.{refl, sym, ap, ◌∙◌, inl, inr, arith}
use Rattle.std.specs.Prelude.{◌/◌, if◌then◌else◌}
use Rattle.std.proofs.lemmas.Bool.{cases_eq, both_ways, false_from_ne_true, and_from, or_left, eqb-true, eq-eqb}
use Rattle.std.proofs.lemmas.Nat.{mod_below}
use Rattle.modes_core.specs.declared.modes.Mode.{Mode}
use Rattle.modes_core.specs.declared.tags.Tag.{Tag}
use Rattle.modes_core.specs.Mode.{mode_eq, number_of}
use Rattle.modes_core.proofs.Lemmas.Conflicts.{mode_eq-refl}
use Rattle.lw_word.specs.SlotWord.{relation_in, in_use, shows, word_with}
use Rattle.lw_word.proofs.Lemmas.Slots.{in_use-shows, shows-of, shows-word_with}
use Rattle.lock_table.specs.Put.{set_at}
use Rattle.lock_table.proofs.Lemmas.Put.{set_at-here, set_at-else}
use Rattle.lock_table.specs.Total.{total, how_many}
use Rattle.lock_world.specs.SlotHolds.{group_size, most_groups, slot_count, group_of_relation, place_in_group, may_use}
use Rattle.lock_world.specs.SlotHolds.{relation_of, slot_holds, used_in, ShowsNoMore, AreInGroups}
use Rattle.lock_table.proofs.Lemmas.Totals.{total-same, none_pass, some_pass, one_more, one_less, how_many-most}
use Rattle.lock_world.proofs.Lemmas.Slots.Eligible.{slot_holds-none}

-- How many slots of a group are in use.

pub shows-used : (word relation : ℕ) (mode : Mode) → shows word relation mode ≡ true → in_use word ≡ true
shows-used word relation mode shown = (shows-of word relation mode shown).0

-- Tests of which the one passes where the other does: at most as many pass.
how_many-fewer :
    (limit : ℕ) (f g : ℕ → Bool) → ((k : ℕ) → k < limit → f k ≡ true → g k ≡ true) → how_many limit f ≤ how_many limit g
unfolding total
how_many-fewer zero f g implied = omega arith
how_many-fewer (suc limit) f g implied =
    let before : how_many limit f ≤ how_many limit g =
    how_many-fewer limit f g (λ k below. implied k (omega arith)) in
    here (f limit) (g limit) (implied limit (omega arith)) before where
      here : (b c : Bool) → (b ≡ true → c ≡ true) → how_many limit f ≤ how_many limit g
          → how_many limit f + (if b then 1 else 0) ≤ how_many limit g + (if c then 1 else 0)
      here true true both before = omega (arith, before)
      here true false both before = absurd (both_ways false refl (both refl))
      here false true both before = omega (arith, before)
      here false false both before = omega (arith, before)

-- Where not all pass one doesn't.
how_many-room :
    (limit : ℕ) (test : ℕ → Bool) → how_many limit test < limit → (k : ℕ) × (k < limit) × (test k ≡ false)
unfolding total
how_many-room zero test fewer = absurd (omega (arith, fewer))
how_many-room (suc limit) test fewer = at (test limit) refl fewer (how_many-room limit test) where
  up : ((k : ℕ) × (k < limit) × (test k ≡ false)) → (k : ℕ) × (k < suc limit) × (test k ≡ false)
  up found = (found.0, omega (arith, found.1), found.2)

  at : (b : Bool) → test limit ≡ b → how_many limit test + (if b then 1 else 0) < suc limit
      → (how_many limit test < limit → (k : ℕ) × (k < limit) × (test k ≡ false))
      → (k : ℕ) × (k < suc limit) × (test k ≡ false)
  at true is fewer before = up (before (omega (arith, fewer)))
  at false is fewer before = (limit, omega arith, is)

-- None is in use where each word is 0.
pub used-nothing : (group : ℕ) → used_in group (λ _. 0) ≡ 0
used-nothing group = none_pass group_size (λ k. in_use 0) (λ k. refl)

pub used-most : (group : ℕ) (slot : ℕ → ℕ) → used_in group slot ≤ group_size
used-most group slot = how_many-most group_size (λ k. in_use (slot (place_in_group group k)))

-- Where a place is in its group.
pub place-split :
    (group place : ℕ) → place / group_size ≡ group → (k : ℕ) × (k < group_size) × (place ≡ place_in_group group k)
place-split group place its = (place % group_size, omega arith, omega (arith, its))

pub place-group : (group k : ℕ) → k < group_size → place_in_group group k / group_size ≡ group
place-group group k below = omega (arith, below)

pub place-within : (group k : ℕ) → group < most_groups → k < group_size → place_in_group group k < slot_count
place-within group k few below = omega (arith, few, below)

-- The group of a relation is one of those that there are.
pub relation-group : (groups relation : ℕ) → 0 < groups → group_of_relation groups relation < groups
relation-group groups relation some = mod_below relation groups some

-- Slots that show no more are in use at no more places,
pub in_use-fewer :
    (slot before : ℕ → ℕ) → ShowsNoMore slot before
    → (place : ℕ) → place < slot_count → in_use (slot place) ≡ true → in_use (before place) ≡ true
in_use-fewer slot before fewer place within is =
    let some = in_use-shows (slot place) is in
    shows-used (before place) (relation_in (slot place)) some.0
    (fewer place (relation_in (slot place)) some.0 within some.2)

-- so there are no more of them in a group,
pub used-fewer :
    (group : ℕ) (slot before : ℕ → ℕ) → group < most_groups → ShowsNoMore slot before
    → used_in group slot ≤ used_in group before
used-fewer group slot before few fewer =
    how_many-fewer group_size (λ k. in_use (slot (place_in_group group k))) (λ k. in_use (before (place_in_group group k)))
    (λ k below is. in_use-fewer slot before fewer (place_in_group group k) (place-within group k few below) is)

-- and each is of its relation's group, where the others were.
pub in_groups-fewer : (groups : ℕ) (slot before : ℕ → ℕ) → ShowsNoMore slot before → AreInGroups groups before → AreInGroups groups slot
in_groups-fewer groups slot before fewer old place within is =
    let some = in_use-shows (slot place) is in
    let shown = fewer place (relation_in (slot place)) some.0 within some.2 in
    let was = shows-of (before place) (relation_in (slot place)) some.0 shown in
    ap (λ r. may_use groups r place) (sym was.1) ∙ old place within was.0

-- So none is in use past the slots of those groups.
pub none_past-groups :
    (groups : ℕ) (slot : ℕ → ℕ) → AreInGroups groups slot → 0 < groups
    → (place : ℕ) → group_size * groups ≤ place → place < slot_count → in_use (slot place) ≡ false
none_past-groups groups slot in_groups some place past within = false_from_ne_true (in_use (slot place)) (λ is.
    let its : place / group_size ≡ group_of_relation groups (relation_in (slot place)) =
    eqb-true (place / group_size) (group_of_relation groups (relation_in (slot place))) (in_groups place within is) in
    let below : group_of_relation groups (relation_in (slot place)) < groups =
    relation-group groups (relation_in (slot place)) some in
    let least : groups ≤ place / group_size = omega (arith, past) in
    absurd (above (place / group_size) (group_of_relation groups (relation_in (slot place))) groups its below least)) where
      above : (at group most : ℕ) → at ≡ group → group < most → most ≤ at → ⊥
      above at group most is below least = omega (arith, is, below, least)

-- One word is another.
in_use-set :
    (group : ℕ) (slot : ℕ → ℕ) (at word : ℕ) (b : Bool) → in_use word ≡ b
    → (k : ℕ) → in_use (set_at slot (place_in_group group at) word (place_in_group group k))
    ≡ set_at (λ j. in_use (slot (place_in_group group j))) at b k
in_use-set group slot at word b is k =
    elim (cases_eq k at) [
      | inl same ↦
          ap in_use (set_at-here slot (place_in_group group at) word (place_in_group group k) (ap (place_in_group group) same)) ∙ is
          ∙ sym (set_at-here (λ j. in_use (slot (place_in_group group j))) at b k same)
      | inr other ↦
          ap in_use (set_at-else slot (place_in_group group at) word (place_in_group group k)
          (λ same. let e : ◌≡◌ {A = ℕ} (16 * group + k) (16 * group + at) = same in other (omega (arith, e))))
          ∙ sym (set_at-else (λ j. in_use (slot (place_in_group group j))) at b k other)
    ]

used-set :
    (group : ℕ) (slot : ℕ → ℕ) (at word : ℕ) (b : Bool) → in_use word ≡ b
    → used_in group (set_at slot (place_in_group group at) word)
    ≡ how_many group_size (set_at (λ j. in_use (slot (place_in_group group j))) at b)
used-set group slot at word b is =
    total-same group_size (λ k. if in_use (set_at slot (place_in_group group at) word (place_in_group group k)) then 1 else 0)
    (λ k. if set_at (λ j. in_use (slot (place_in_group group j))) at b k then 1 else 0)
    (λ k _. ap (λ (c : Bool). if c then 1 else 0) (in_use-set group slot at word b is k))

-- A slot that was not in use makes one more in its group,
pub used-one_more :
    (group : ℕ) (slot : ℕ → ℕ) (at word : ℕ) → at < group_size → in_use (slot (place_in_group group at)) ≡ false → in_use word ≡ true
    → used_in group (set_at slot (place_in_group group at) word) ≡ used_in group slot + 1
used-one_more group slot at word within unused is =
    used-set group slot at word true is ∙ one_more group_size (λ j. in_use (slot (place_in_group group j))) at within unused

-- one that stays in use, or out of it, leaves the number,
pub used-same :
    (group : ℕ) (slot : ℕ → ℕ) (place word : ℕ) → in_use word ≡ in_use (slot place)
    → used_in group (set_at slot place word) ≡ used_in group slot
used-same group slot place word same =
    total-same group_size (λ k. if in_use (set_at slot place word (place_in_group group k)) then 1 else 0)
    (λ k. if in_use (slot (place_in_group group k)) then 1 else 0)
    (λ k _. ap (λ (c : Bool). if c then 1 else 0) (at (place_in_group group k))) where
      at : (k : ℕ) → in_use (set_at slot place word k) ≡ in_use (slot k)
      at k =
          elim (cases_eq k place) [
            | inl here ↦
                ap in_use (set_at-here slot place word k here) ∙ same ∙ ap (λ j. in_use (slot j)) (sym here)
            | inr other ↦ ap in_use (set_at-else slot place word k other)
          ]

-- so does one of another group,
pub used-elsewhere :
    (group : ℕ) (slot : ℕ → ℕ) (place word : ℕ) → place / group_size ≢ group
    → used_in group (set_at slot place word) ≡ used_in group slot
used-elsewhere group slot place word apart =
    total-same group_size (λ k. if in_use (set_at slot place word (place_in_group group k)) then 1 else 0)
    (λ k. if in_use (slot (place_in_group group k)) then 1 else 0)
    (λ k below. ap (λ n. if in_use n then 1 else 0) (set_at-else slot place word (place_in_group group k)
    (λ same. apart (ap (λ n. n / group_size) (sym same) ∙ place-group group k below))))

-- and one that is emptied makes one fewer.
pub used-one_less :
    (group : ℕ) (slot : ℕ → ℕ) (at word : ℕ) → at < group_size → in_use (slot (place_in_group group at)) ≡ true → in_use word ≡ false
    → used_in group (set_at slot (place_in_group group at) word) + 1 ≡ used_in group slot
used-one_less group slot at word within was is =
    ap (λ n. n + 1) (used-set group slot at word false is)
    ∙ one_less group_size (λ j. in_use (slot (place_in_group group j))) at within was

-- A word with a mode is in use.
pub word_with-in_use :
    (word relation : ℕ) (mode : Mode) → relation < 2 ^ 32 → number_of mode ≤ 3
    → (in_use word ≡ true → relation_in word ≡ relation) → in_use (word_with word relation mode) ≡ true
word_with-in_use word relation mode fits weak its_slot =
    shows-used (word_with word relation mode) relation mode
    (shows-word_with word relation mode fits weak its_slot relation mode
    ∙ or_left (mode_eq mode mode && nat_eq relation relation) (shows word relation mode)
    (and_from (mode_eq mode mode) (nat_eq relation relation) (mode_eq-refl mode) (eq-eqb relation relation refl)))

-- Where the number is 0 none of the group is in use,
pub used-zero :
    (group : ℕ) (slot : ℕ → ℕ) → used_in group slot ≡ 0 → (k : ℕ) → k < group_size → in_use (slot (place_in_group group k)) ≡ false
used-zero group slot none k within = false_from_ne_true (in_use (slot (place_in_group group k))) (λ is.
    let some : 0 < used_in group slot = some_pass group_size (λ j. in_use (slot (place_in_group group j))) k within is in
    omega (arith, some, none))

-- and so no slot shows a hold on a relation of the group.
pub none_in_group-no_hold :
    (groups database : ℕ) (slot : ℕ → ℕ) (tag : Tag) (mode : Mode) → AreInGroups groups slot
    → used_in (group_of_relation groups (relation_of tag)) slot ≡ 0 → slot_holds database slot tag mode ≡ false
none_in_group-no_hold groups database slot tag mode in_groups none =
    slot_holds-none database slot tag mode (λ place within.
    false_from_ne_true (shows (slot place) (relation_of tag) mode) (λ shown.
    let is = shows-of (slot place) (relation_of tag) mode shown in
    let its : may_use groups (relation_of tag) place ≡ true =
    ap (λ r. may_use groups r place) (sym is.1) ∙ in_groups place within is.0 in
    let group : ℕ = group_of_relation groups (relation_of tag) in
    let there = place-split group place (eqb-true (place / group_size) group its) in
    both_ways (in_use (slot place))
    (ap (λ j. in_use (slot j)) there.2 ∙ used-zero group slot none there.0 there.1) is.0))

-- Where it is below the number of a group's slots one of them is free, and else all are in use.
pub used-room :
    (group : ℕ) (slot : ℕ → ℕ) → used_in group slot < group_size
    → (k : ℕ) × (k < group_size) × (in_use (slot (place_in_group group k)) ≡ false)
used-room group slot fewer = how_many-room group_size (λ k. in_use (slot (place_in_group group k))) fewer
