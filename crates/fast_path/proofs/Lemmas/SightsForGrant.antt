use Rattle.std.proofs.Common.{◌≡◌, ◌≢◌, ℕ, ◌+◌, ◌-◌, ◌<◌, ◌≤◌, Bool, true, false, nat_eq, zero, suc, Option, Some, None}
use Rattle.std.proofs.Common.{is_some, refl, sym, ap, ◌∙◌, subst, inl, inr, arith}
use Rattle.std.specs.Prelude.{◌/◌, ◌&&◌, if◌then◌else◌, IfSome, IfNone}
use Rattle.std.proofs.lemmas.Bool.{cases_lt, false_from_ne_true, false≢true, and_from, eq-eqb, ne_eqb}
use Rattle.lw_word.specs.SlotWord.{in_use, relation_in}
use Rattle.lock_table.specs.Total.{total, how_many}
use Rattle.lock_table.proofs.Lemmas.Totals.{some_pass}
use Rattle.lock_world.specs.SlotHolds.{group_size, place_in_group, is_slot_of, used_in}
use Rattle.lock_world.proofs.Lemmas.Slots.Used.{place-split, place-group}
use Rattle.fast_path.specs.declared.slot_words.SeenSlot.{SeenSlot}
use Rattle.fast_path.specs.Slots.{IsAllInUse, NoneInGroup, IsSeenUnused, SightsForGrant, slot_from_top}
use Rattle.fast_path.proofs.Lemmas.Sights.{below-more, counted-more, counted-same}

-- Looking through a group's slots from the highest-numbered one down, as far as a grant does.

-- The numbers below `limit` that pass are those that pass below `rest`, and those that pass among the last
-- `seen`, counted down from the highest.
counted-down :
    (limit : ℕ) (test down : ℕ → Bool) → ((k j : ℕ) → k + j + 1 ≡ limit → down k ≡ test j)
    → (seen rest : ℕ) → rest + seen ≡ limit → how_many limit test ≡ how_many rest test + how_many seen down
unfolding total
counted-down limit test down same zero rest all =
    let whole : rest ≡ limit = omega (arith, all) in
    let none_seen : how_many rest test ≡ how_many limit test = ap (λ (n : ℕ). how_many n test) whole in
    omega (arith, none_seen)
counted-down limit test down same (suc seen) rest all =
    let before : how_many limit test ≡ how_many (suc rest) test + how_many seen down =
    counted-down limit test down same seen (suc rest) (omega (arith, all)) in
    let here : ◌≡◌ {A = ℕ} (if down seen then 1 else 0) (if test rest then 1 else 0) =
    ap (λ (b : Bool). if b then 1 else 0) (same seen rest (omega (arith, all))) in
    omega (arith, before, here)

-- Where as many of the last ones pass as may in all, none before them does.
none-beyond :
    (limit : ℕ) (test down : ℕ → Bool) → ((k j : ℕ) → k + j + 1 ≡ limit → down k ≡ test j)
    → (seen count : ℕ) → how_many limit test ≤ count → count ≡ how_many seen down
    → (j : ℕ) → j + seen < limit → test j ≡ false
none-beyond limit test down same seen count most counted j below =
    let split : how_many limit test ≡ how_many (limit - seen) test + how_many seen down =
    counted-down limit test down same seen (limit - seen) (omega (arith, below)) in
    false_from_ne_true (test j) (λ passes.
    let some : 0 < how_many (limit - seen) test = some_pass (limit - seen) test j (omega (arith, below)) passes in
    omega (arith, split, most, counted, some))

-- the words of a group's slots from there down
abbrev pub from_top : ℕ → (ℕ → ℕ) → ℕ → ℕ
from_top group word k = word (slot_from_top group k)

-- The slot is the first of those seen that is not in use.
pub record IsFirstUnused (group : ℕ) (word : ℕ → ℕ) (seen : ℕ) (slot : SeenSlot) : Type 0 where
  pub step : ℕ
  pub within : step < seen
  pub there : slot.number ≡ slot_from_top group step
  pub shown : slot.word ≡ from_top group word step
  pub unused : in_use slot.word ≡ false
  pub before : (other : ℕ) → other < step → in_use (from_top group word other) ≡ true

-- What is found among the first `seen` slots from the top, none of which is in use for the relation.
pub record SeesFromTop (group : ℕ) (word : ℕ → ℕ) (relation seen : ℕ) (highest : Option SeenSlot) (count : ℕ) :
    Type 0 where
  pub none : (k : ℕ) → k < seen → is_slot_of (from_top group word k) relation ≡ false
  pub unused : IfSome highest (IsFirstUnused group word seen)
  pub full : IfNone highest ((k : ℕ) → k < seen → in_use (from_top group word k) ≡ true)
  pub counted : count ≡ how_many seen (λ k. in_use (from_top group word k))

pub sees-none : (group : ℕ) (word : ℕ → ℕ) (relation : ℕ) → SeesFromTop group word relation 0 None 0
unfolding total
sees-none group word relation = record {
  none = λ k below. absurd (omega (arith, below));
  unused = tt;
  full = λ k below. absurd (omega (arith, below));
  counted = refl;
}

-- What was found with equal words and numbers is found with these.
pub sees-same :
    (group : ℕ) (word : ℕ → ℕ) (relation seen : ℕ) (highest highest_now : Option SeenSlot) (count count_now : ℕ)
    → highest_now ≡ highest → count_now ≡ count → SeesFromTop group word relation seen highest count
    → SeesFromTop group word relation seen highest_now count_now
sees-same group word relation seen highest highest_now count count_now same_highest same_count sees =
    subst (λ (slot : Option SeenSlot). SeesFromTop group word relation seen slot count_now) (sym same_highest)
    (subst (λ (n : ℕ). SeesFromTop group word relation seen highest n) (sym same_count) sees)

-- One more slot.
module _ (group : ℕ) (word : ℕ → ℕ) (relation seen : ℕ) (highest : Option SeenSlot) (count slot shown : ℕ)
    (so_far : SeesFromTop group word relation seen highest count) (at : slot ≡ slot_from_top group seen)
    (is : shown ≡ from_top group word seen) where
  none-more : is_slot_of (from_top group word seen) relation ≡ false
      → (k : ℕ) → k < seen + 1 → is_slot_of (from_top group word k) relation ≡ false
  none-more not_its = below-more (λ k. is_slot_of (from_top group word k) relation) false seen so_far.none not_its

  -- The first one not in use stays that.
  unused-before : (slots : Option SeenSlot) → IfSome slots (IsFirstUnused group word seen)
      → IfSome slots (IsFirstUnused group word (seen + 1))
  unused-before (Some slot) found = record {
    step = found.step;
    within = omega (arith, found.within);
    there = found.there;
    shown = found.shown;
    unused = found.unused;
    before = found.before;
  }
  unused-before None found = tt

  full-more : in_use (from_top group word seen) ≡ true → (slots : Option SeenSlot)
      → IfNone slots ((k : ℕ) → k < seen → in_use (from_top group word k) ≡ true)
      → IfNone slots ((k : ℕ) → k < seen + 1 → in_use (from_top group word k) ≡ true)
  full-more used (Some slot) full = tt
  full-more used None full = below-more (λ k. in_use (from_top group word k)) true seen full used

  -- A slot that was passed over is in use for another relation,
  pub sees-other :
      in_use shown ≡ true → relation_in shown ≢ relation → SeesFromTop group word relation (seen + 1) highest (count + 1)
  sees-other used other =
      let used_there : in_use (from_top group word seen) ≡ true = ap in_use (sym is) ∙ used in
      let not_its : is_slot_of (from_top group word seen) relation ≡ false =
      ap (λ w. is_slot_of w relation) (sym is)
      ∙ ap (λ b. b && nat_eq (relation_in shown) relation) used ∙ ne_eqb (relation_in shown) relation other in
      record {
        none = none-more not_its;
        unused = unused-before highest so_far.unused;
        full = full-more used_there highest so_far.full;
        counted = counted-more (λ k. in_use (from_top group word k)) seen count so_far.counted used_there;
      }

  module _ (unused : in_use shown ≡ false) where
    unused_there : in_use (from_top group word seen) ≡ false
    unused_there = ap in_use (sym is) ∙ unused

    not_its : is_slot_of (from_top group word seen) relation ≡ false
    not_its = ap (λ b. b && nat_eq (relation_in (from_top group word seen)) relation) unused_there

    all-before : (slots : Option SeenSlot) → is_some slots ≡ false
        → IfNone slots ((k : ℕ) → k < seen → in_use (from_top group word k) ≡ true)
        → (k : ℕ) → k < seen → in_use (from_top group word k) ≡ true
    all-before (Some slot) none full = absurd (false≢true (sym none))
    all-before None none full = full

    not-full : (slots : Option SeenSlot) → is_some slots ≡ true
        → IfNone slots ((k : ℕ) → k < seen + 1 → in_use (from_top group word k) ≡ true)
    not-full (Some slot) some = tt
    not-full None some = absurd (false≢true some)

    -- or the first one not in use,
    pub sees-first : is_some highest ≡ false
        → SeesFromTop group word relation (seen + 1) (Some (record { number = slot; word = shown })) count
    sees-first none = record {
      none = none-more not_its;
      unused = record {
        step = seen;
        within = omega arith;
        there = at;
        shown = is;
        unused = unused;
        before = all-before highest none so_far.full;
      };
      full = tt;
      counted = counted-same (λ k. in_use (from_top group word k)) seen count so_far.counted unused_there;
    }

    -- or a later one.
    pub sees-later : is_some highest ≡ true → SeesFromTop group word relation (seen + 1) highest count
    sees-later some = record {
      none = none-more not_its;
      unused = unused-before highest so_far.unused;
      full = not-full highest some;
      counted = counted-same (λ k. in_use (from_top group word k)) seen count so_far.counted unused_there;
    }

-- A slot as counted from the other end.
from_bottom : (group j : ℕ) → j < group_size → place_in_group group j ≡ slot_from_top group (group_size - 1 - j)
from_bottom group j below = omega (arith, below)

-- What is found once the look stops.
module _ (group : ℕ) (word : ℕ → ℕ) (relation seen : ℕ) (highest : Option SeenSlot) (count : ℕ)
    (so_far : SeesFromTop group word relation seen highest count) (few : seen ≤ group_size) where
  down : (k j : ℕ) → k + j + 1 ≡ group_size → in_use (from_top group word k) ≡ in_use (word (place_in_group group j))
  down k j both =
      let there : slot_from_top group k ≡ place_in_group group j = omega (arith, both) in
      ap (λ (p : ℕ). in_use (word p)) there

  highest-all : (slots : Option SeenSlot) → IfSome slots (IsFirstUnused group word seen)
      → IfSome slots (IsSeenUnused group word)
  highest-all (Some slot) found =
      let within : found.step < group_size = omega (arith, found.within, few) in
      record {
        shown = found.shown ∙ ap word (sym found.there);
        highest = record {
          within = ap (λ p. p / group_size) found.there
              ∙ place-group group (group_size - 1 - found.step) (below found.step);
          unused = ap (λ p. in_use (word p)) found.there ∙ ap in_use (sym found.shown) ∙ found.unused;
          higher = λ other above of_group.
              let there = place-split group other of_group in
              ap (λ p. in_use (word p)) (there.2 ∙ from_bottom group there.0 there.1)
              ∙ found.before (group_size - 1 - there.0)
              (earlier slot.number other found.step there.0 found.there there.2 above within there.1);
        };
      } where
        below : (step : ℕ) → group_size - 1 - step < group_size
        below step = omega arith

        earlier : (p q step j : ℕ) → p ≡ slot_from_top group step → q ≡ place_in_group group j → p < q → step < group_size
            → j < group_size → group_size - 1 - j < step
        earlier p q step j first second above few_steps few_slots = omega (arith, first, second, above, few_steps, few_slots)
  highest-all None found = tt

  -- The relation's slot ends it,
  pub found-its : (slot shown : ℕ) → seen < group_size → slot ≡ slot_from_top group seen → shown ≡ from_top group word seen
      → in_use shown ≡ true → relation_in shown ≡ relation
      → SightsForGrant group word relation
      (record { of_relation = Some (record { number = slot; word = shown }); highest_unused = highest })
  found-its slot shown below at is used same = record {
    found = record {
      within = ap (λ p. p / group_size) at ∙ place-group group (group_size - 1 - seen) (omega arith);
      shown = is ∙ ap word (sym at);
      its = and_from (in_use shown) (nat_eq (relation_in shown) relation) used (eq-eqb (relation_in shown) relation same);
    };
    none = tt;
    unused = highest-all highest so_far.unused;
    full = tt;
  }

  -- or that as many were in use as can be.
  module _ (enough : used_in group word ≤ count) where
    unused-beyond : (j : ℕ) → j + seen < group_size → in_use (word (place_in_group group j)) ≡ false
    unused-beyond =
        none-beyond group_size (λ j. in_use (word (place_in_group group j))) (λ k. in_use (from_top group word k)) down seen count
        enough so_far.counted

    none-at : (j : ℕ) → j < group_size → is_slot_of (word (place_in_group group j)) relation ≡ false
    none-at j below = elim (cases_lt (j + seen) group_size) [
      | inl unseen ↦
          ap (λ b. b && nat_eq (relation_in (word (place_in_group group j))) relation) (unused-beyond j unseen)
      | inr passed ↦
          ap (λ p. is_slot_of (word p) relation) (from_bottom group j below)
          ∙ so_far.none (group_size - 1 - j) (omega (arith, below, passed))
    ]

    none-all : NoneInGroup group word relation
    none-all slot within =
        let there = place-split group slot within in
        ap (λ p. is_slot_of (word p) relation) there.2 ∙ none-at there.0 there.1

    not-full-all : (slots : Option SeenSlot) → is_some slots ≡ true → IfNone slots (IsAllInUse group word)
    not-full-all (Some slot) some = tt
    not-full-all None some = absurd (false≢true some)

    pub found-unused : is_some highest ≡ true
        → SightsForGrant group word relation (record { of_relation = None; highest_unused = highest })
    found-unused some = record {
      found = tt;
      none = none-all;
      unused = highest-all highest so_far.unused;
      full = not-full-all highest some;
    }

  -- or the group's end, by which all of its slots in use are counted.
  module _ (all : seen ≡ group_size) where
    enough-all : used_in group word ≤ count
    unfolding total
    enough-all =
        let split : used_in group word ≡ how_many 0 (λ j. in_use (word (place_in_group group j)))
        + how_many seen (λ k. in_use (from_top group word k)) =
        counted-down group_size (λ j. in_use (word (place_in_group group j))) (λ k. in_use (from_top group word k)) down seen 0
        (omega (arith, all)) in
        omega (arith, split, so_far.counted)

    full-all : (slots : Option SeenSlot)
        → IfNone slots ((k : ℕ) → k < seen → in_use (from_top group word k) ≡ true) → IfNone slots (IsAllInUse group word)
    full-all (Some slot) full = tt
    full-all None full = λ slot within.
        let there = place-split group slot within in
        ap (λ p. in_use (word p)) (there.2 ∙ from_bottom group there.0 there.1)
        ∙ full (group_size - 1 - there.0) (seen-all there.0) where
          seen-all : (j : ℕ) → group_size - 1 - j < seen
          seen-all j = omega (arith, all)

    pub found-end : SightsForGrant group word relation (record { of_relation = None; highest_unused = highest })
    found-end = record {
      found = tt;
      none = none-all enough-all;
      unused = highest-all highest so_far.unused;
      full = full-all highest so_far.full;
    }
