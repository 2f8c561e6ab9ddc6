use Rattle.std.proofs.Common.{◌≡◌, ℕ, ◌+◌, ◌-◌, ◌<◌, ◌≤◌, true, false, nat_eq, ◌++◌, Some, None, refl, sym, ap, ◌∙◌, subst, inl, inr, arith}
use Rattle.std.specs.Prelude.{◌==◌, not, if◌then◌else◌, IfSome, IfNone}
use Rattle.std.proofs.lemmas.Bool.{cases_eq, both_ways, false_from_ne_true, and_parts, and_from, eq-eqb, cond-true}
use Rattle.modes_core.specs.declared.modes.Mode.{Mode}
use Rattle.modes_core.specs.declared.tags.Tag.{Tag}
use Rattle.modes_core.specs.Tag.{is_eligible_for}
use Rattle.modes_core.specs.Mode.{mode_eq, number_of}
use Rattle.lw_word.specs.SlotWord.{in_use, relation_in, has_mode, shows, word_without}
use Rattle.lw_word.proofs.Lemmas.Slots.{shows-word_without}
use Rattle.lock_table.specs.Put.{set_at}
use Rattle.lock_table.proofs.Lemmas.Put.{set_at-here, set_at-else, set_at-same, set_at-twice}
use Rattle.lock_world.specs.SlotHolds.{group_size, most_groups, slot_count, place_in_group, group_of_relation}
use Rattle.lock_world.specs.SlotHolds.{relation_of, slot_holds, is_slot_of, used_in, OneSlotEach, AreInGroups, ShowsNoMore}
use Rattle.lock_world.specs.Account.{Account, SlotsInHand}
use Rattle.lock_world.specs.AccountSteps.{own_with, account_unsetting, account_taking_fast, account_putting_fast}
use Rattle.lock_world.specs.AccountLaw.{MayPutFastBy}
use Rattle.lock_world.proofs.Lemmas.Slots.Eligible.{eligible-is, shown-in_use, slot_holds-none}
use Rattle.lock_table.proofs.Lemmas.Totals.{some_pass}
use Rattle.lock_world.proofs.Lemmas.Slots.Used.{place-split, relation-group, used-most, used-same, used-one_less}
use Rattle.lock_world.proofs.Lemmas.Slots.Used.{in_groups-fewer, none_in_group-no_hold}
use Rattle.shared_rule.specs.History.{slots_here}
use Rattle.shared_rule.specs.Slots.{TakesFast}
use Rattle.fast_path.specs.declared.slot_words.SeenSlot.{SeenSlot}
use Rattle.fast_path.specs.declared.slot_words.Sighting.{Sighting}
use Rattle.fast_path.specs.declared.use_counts.UseCounts.{UseCounts}
use Rattle.fast_path.specs.Slots.{group_of_tag, group_loads, account_loading, account_tried, IsReady}
use Rattle.fast_path.specs.Slots.{IsOfGroup, NoneInGroup, IsSeenOf, Sights, count_in, counting, AreCounted, AreUseCounts}
use Rattle.fast_path.specs.Releases.{ClearsSlot, FindsNoSlot, IsUnused}
use Rattle.fast_path.proofs.Lemmas.GroupCounts.{counted-fewer}
use Rattle.fast_path.proofs.Lemmas.Shows.{within-of_group, no_slot-none}

-- A release by the fast path, through its steps.

-- A use count of 0 says that no slot has a hold on a relation of the group.
pub none-used :
    (groups : ℕ) (a : Account) (uses : UseCounts) (tag : Tag) (mode : Mode) → 0 < groups → groups ≤ most_groups
    → IsReady groups a uses → IsUnused groups uses tag → slot_holds a.fast.database a.fast.remembered tag mode ≡ false
none-used groups a uses tag mode some few ready none =
    none_in_group-no_hold groups a.fast.database a.fast.remembered tag mode ready.in_groups
    (at (group_of_tag groups tag) (relation-group groups (relation_of tag) some) none) where
      at : (group : ℕ) → group < groups → count_in uses group ≡ 0 → used_in group a.fast.remembered ≡ 0
      at group exists is =
          let most : used_in group a.fast.remembered ≤ count_in uses group = ready.enough group (omega (arith, exists, few)) in
          omega (arith, most, is)

-- Where the relation's slot has not the mode none has the hold.
not_in_its :
    (database : ℕ) (words : ℕ → ℕ) (tag : Tag) (mode : Mode) (slot : ℕ) → OneSlotEach words → slot < slot_count
    → is_slot_of (words slot) (relation_of tag) ≡ true → has_mode (words slot) mode ≡ false
    → slot_holds database words tag mode ≡ false
not_in_its database words tag mode slot one within its hasn't =
    slot_holds-none database words tag mode (λ k k_within.
    false_from_ne_true (shows (words k) (relation_of tag) mode) (λ shown.
    let too = shown-in_use (words k) (relation_of tag) mode shown in
    let same : k ≡ slot = one (relation_of tag) k slot k_within within too its in
    let has = (and_parts (has_mode (words k) mode) (nat_eq (relation_in (words k)) (relation_of tag)) shown).0 in
    both_ways (has_mode (words slot) mode) hasn't (ap (λ j. has_mode (words j) mode) (sym same) ∙ has)))

-- What the slot of a relation with the mode shows.
shown-there : (word relation : ℕ) (mode : Mode) → is_slot_of word relation ≡ true → has_mode word mode ≡ true
    → shows word relation mode ≡ true
shown-there word relation mode its has =
    and_from (has_mode word mode) (nat_eq (relation_in word) relation) has
    (and_parts (in_use word) (nat_eq (relation_in word) relation) its).1

-- The use count of a group set to the number of its slots in use, where slots show no more than before.
counted-set :
    (group : ℕ) (words before : ℕ → ℕ) (uses : UseCounts) (used : ℕ) (left : UseCounts)
    → ShowsNoMore words before → AreCounted before (count_in uses) → used ≡ used_in group words
    → count_in left ≡ counting uses group used → AreCounted words (count_in left)
counted-set group words before uses used left fewer enough is set k below = elim (cases_eq k group) [
  | inl same ↦
      let now : count_in left k ≡ used = (λ i. set i k) ∙ set_at-here (count_in uses) group used k same in
      let here : used ≡ used_in k words = is ∙ ap (λ j. used_in j words) (sym same) in
      omega (arith, now, here)
  | inr other ↦
      let now : count_in left k ≡ count_in uses k = (λ i. set i k) ∙ set_at-else (count_in uses) group used k other in
      let most : used_in k words ≤ count_in uses k =
      counted-fewer words before (count_in uses) fewer enough k below in
      omega (arith, now, most)
]

within-set :
    (group : ℕ) (words : ℕ → ℕ) (uses : UseCounts) (used : ℕ) (left : UseCounts)
    → AreUseCounts (count_in uses) → used ≡ used_in group words
    → count_in left ≡ counting uses group used → AreUseCounts (count_in left)
within-set group words uses used left within is set k below = elim (cases_eq k group) [
  | inl same ↦
      let now : count_in left k ≡ used = (λ i. set i k) ∙ set_at-here (count_in uses) group used k same in
      let most : used_in group words ≤ group_size = used-most group words in
      omega (arith, now, is, most)
  | inr other ↦
      let now : count_in left k ≡ count_in uses k = (λ i. set i k) ∙ set_at-else (count_in uses) group used k other in
      let most : count_in uses k ≤ group_size = within k below in
      omega (arith, now, most)
]

-- With a mode cleared slots show no more than before.
cleared-fewer :
    (words : ℕ → ℕ) (slot : ℕ) (mode : Mode) → number_of mode ≤ 3
    → ShowsNoMore (set_at words slot (word_without (words slot) mode)) words
cleared-fewer words slot mode weak k relation its below shown = elim (cases_eq k slot) [
  | inl same ↦
      ap (λ p. shows (words p) relation its) same
      ∙ (and_parts (not (mode_eq its mode)) (shows (words slot) relation its)
      (sym (shows-word_without (words slot) mode weak relation its)
      ∙ ap (λ w. shows w relation its) (sym (set_at-here words slot (word_without (words slot) mode) k same)) ∙ shown)).1
  | inr other ↦
      ap (λ w. shows w relation its) (sym (set_at-else words slot (word_without (words slot) mode) k other)) ∙ shown
]

-- The lock taken, and all slots of a group loaded.
module _ (number group : ℕ) (a : Account) (slots : SlotsInHand) where
  -- the account then
  abbrev pub account_seen : Account
  account_seen =
      account_loading (account_taking_fast number a number slots) number (place_in_group group) slots.word group_size

module _ (groups number : ℕ) (a : Account) (uses : UseCounts) (own : ℕ) (ready : IsReady groups a uses)
    (same : own ≡ number) (b : Account) (takes : TakesFast groups number a own b) where
  taken : b ≡ account_taking_fast number a number takes.slots
  taken = takes.account ∙ ap (λ (n : ℕ). account_taking_fast number a n takes.slots) same

  read_slots : b.fast.slots own ≡ Some takes.slots
  read_slots = ap (λ (x : Account). x.fast.slots own) taken
      ∙ set_at-here a.fast.slots number (Some takes.slots) own same

  looked :
      (c : Account) (group : ℕ)
      → c ≡ account_loading b own (place_in_group group) (slots_here (b.fast.slots own)).word group_size
      → c ≡ account_seen number group a takes.slots
  looked c group loaded =
      loaded
      ∙ (λ i. account_loading b (same i) (place_in_group group) (slots_here (read_slots i)).word group_size)
      ∙ ap (λ (x : Account). account_loading x number (place_in_group group) takes.slots.word group_size) taken

  module _ (some : 0 < groups) (few : groups ≤ most_groups) (c : Account) (group : ℕ)
      (loaded : c ≡ account_loading b own (place_in_group group) (slots_here (b.fast.slots own)).word group_size)
      (tag : Tag) (mode : Mode) (relation : ℕ) (its_relation : relation ≡ relation_of tag)
      (its_group : group ≡ group_of_relation groups relation) (seen : Sighting)
      (sighted : Sights group (slots_here (b.fast.slots own)).word relation seen) where
    of_tag : group ≡ group_of_tag groups tag
    of_tag = its_group ∙ ap (group_of_relation groups) its_relation

    exists : group < groups
    exists = subst (λ (k : ℕ). k < groups) (sym of_tag) (relation-group groups (relation_of tag) some)

    sights : Sights group takes.slots.word (relation_of tag) seen
    sights =
        subst (λ (r : ℕ). Sights group takes.slots.word r seen) its_relation
        (subst (λ found. Sights group (slots_here found).word relation seen) read_slots sighted)

    its : (slot : SeenSlot) → seen.of_relation ≡ Some slot → IsSeenOf group takes.slots.word (relation_of tag) slot
    its slot is = subst (λ found. IfSome found (IsSeenOf group takes.slots.word (relation_of tag))) is sights.found

    of_its_group : (slot : SeenSlot) → seen.of_relation ≡ Some slot → IsOfGroup (group_of_tag groups tag) slot.number
    of_its_group slot is = subst (λ (k : ℕ). IsOfGroup k slot.number) of_tag (its slot is).within

    its-within : (slot : SeenSlot) → seen.of_relation ≡ Some slot → slot.number < slot_count
    its-within slot is = within-of_group groups (relation_of tag) slot.number some few (of_its_group slot is)

    its-there : (slot : SeenSlot) → seen.of_relation ≡ Some slot
        → is_slot_of (takes.slots.word slot.number) (relation_of tag) ≡ true
    its-there slot is = ap (λ w. is_slot_of w (relation_of tag)) (sym (its slot is).shown) ∙ (its slot is).its

    its-used : (slot : SeenSlot) → seen.of_relation ≡ Some slot → in_use (takes.slots.word slot.number) ≡ true
    its-used slot is =
        (and_parts (in_use (takes.slots.word slot.number))
        (nat_eq (relation_in (takes.slots.word slot.number)) (relation_of tag)) (its-there slot is)).0

    -- No slot has the hold where none is the relation's,
    pub no-its : seen.of_relation ≡ None → slot_holds a.fast.database takes.slots.word tag mode ≡ false
    no-its is =
        no_slot-none groups tag a.fast.database takes.slots.word takes.knows.in_groups
        (subst (λ (k : ℕ). NoneInGroup k takes.slots.word (relation_of tag)) of_tag
        (subst (λ found. IfNone found (NoneInGroup group takes.slots.word (relation_of tag))) is sights.none)) mode

    -- or the relation's hasn't the mode.
    pub no-mode :
        (slot : SeenSlot) → seen.of_relation ≡ Some slot → has_mode slot.word mode ≡ false
        → slot_holds a.fast.database takes.slots.word tag mode ≡ false
    no-mode slot is hasn't =
        not_in_its a.fast.database takes.slots.word tag mode slot.number takes.knows.one_each (its-within slot is)
        (its-there slot is) (ap (λ w. has_mode w mode) (sym (its slot is).shown) ∙ hasn't)

    -- Where one is the relation's some are in use.
    pub some-used : (slot : SeenSlot) → seen.of_relation ≡ Some slot → 0 < seen.used_count
    some-used slot is =
        let there = place-split group slot.number (its slot is).within in
        let any : 0 < used_in group takes.slots.word =
        some_pass group_size (λ k. in_use (takes.slots.word (place_in_group group k))) there.0 there.1
        (ap (λ p. in_use (takes.slots.word p)) (sym there.2) ∙ its-used slot is) in
        omega (arith, any, sights.counted)

    -- The mode cleared in a slot.
    module _ (d : Account) (by : ℕ) (slot : SeenSlot) (same_by : by ≡ number)
        (cleared : d ≡ account_unsetting by c (slots_here (c.fast.slots by)) slot.number tag mode) where
      abbrev pub words_left : ℕ → ℕ
      words_left = set_at takes.slots.word slot.number (word_without (takes.slots.word slot.number) mode)

      here : c.fast.slots by ≡ Some takes.slots
      here = ap (λ (x : Account). x.fast.slots by) (looked c group loaded)
          ∙ set_at-here a.fast.slots number (Some takes.slots) by same_by

      is_cleared : d ≡ account_unsetting number (account_seen number group a takes.slots) takes.slots slot.number tag mode
      is_cleared =
          cleared
          ∙ (λ i. account_unsetting (same_by i) c (slots_here (here i)) slot.number tag mode)
          ∙ ap (λ (x : Account). account_unsetting number x takes.slots slot.number tag mode) (looked c group loaded)

      -- Then the lock may be put,
      pub may_put-cleared : (slots : SlotsInHand) × MayPutFastBy d own slots
      may_put-cleared = (
        _,
        record {
          in_hand =
              ap (λ (x : Account). x.fast.slots own) is_cleared
              ∙ set_at-here (set_at a.fast.slots number (Some takes.slots)) number _ own same;
        },
      )

      module _ (e : Account) (last : ℕ) (same_last : last ≡ by) (put : e ≡ account_putting_fast last d own) where
        after :
            e ≡ record (account_tried a words_left (a.trace ++ group_loads number (group_of_tag groups tag) takes.slots.word)) {
              own =
                  own_with a.own tag mode false;
            }
        after =
            put
            ∙ (λ i. account_putting_fast ((same_last ∙ same_by) i) (is_cleared i) (same i))
            ∙ (λ i. record a {
              own = own_with a.own tag mode false;
              fast = record (a.fast) { slots = gone i; remembered = words_left; zero = unread i };
              trace = a.trace ++ group_loads number (of_tag i) takes.slots.word;
            }) where
              its_account : Account
              its_account = account_putting_fast number (account_unsetting number (account_seen number group a takes.slots)
                  takes.slots slot.number tag mode) number

              gone : its_account.fast.slots ≡ a.fast.slots
              gone =
                  set_at-twice (set_at a.fast.slots number (Some takes.slots)) number _ None
                  ∙ set_at-twice a.fast.slots number (Some takes.slots) None
                  ∙ set_at-same a.fast.slots number None (sym (λ i. ready.no_slots i number))

              unread : its_account.fast.zero ≡ a.fast.zero
              unread = cond-true (number == number) None _ (eq-eqb number number refl) ∙ sym ready.no_zero

        -- They show no more than before,
        fewer : is_eligible_for a.fast.database tag mode ≡ true → ShowsNoMore words_left takes.slots.word
        fewer eligible = cleared-fewer takes.slots.word slot.number mode (eligible-is a.fast.database tag mode eligible).2

        -- and the mode was cleared so.
        pub clears :
            (left : UseCounts) (used : ℕ) → is_eligible_for a.fast.database tag mode ≡ true
            → seen.of_relation ≡ Some slot → has_mode slot.word mode ≡ true → used ≡ used_in group words_left
            → count_in left ≡ counting uses group used
            → ClearsSlot groups number a uses tag mode e left × IsReady groups e left
        clears left used eligible is has recounted counted = (
          record {
            word = takes.slots.word;
            slot = slot.number;
            its_group = of_its_group slot is;
            held_in = record {
              eligible = eligible;
              within = its-within slot is;
              shown = shown-there (takes.slots.word slot.number) (relation_of tag) mode (its-there slot is)
                  (ap (λ w. has_mode w mode) (sym (its slot is).shown) ∙ has);
            };
            account = after;
            recomputed = counted ∙ (λ i. counting uses (of_tag i) ((recounted ∙ ap (λ k. used_in k words_left) of_tag) i));
          },
          record {
            no_content = ap (λ (x : Account). x.hand) after ∙ ready.no_content;
            no_slots = ap (λ (x : Account). x.fast.slots) after ∙ ready.no_slots;
            no_shared_slots = ap (λ (x : Account). x.fast.shared_slots) after ∙ ready.no_shared_slots;
            no_zero = ap (λ (x : Account). x.fast.zero) after ∙ ready.no_zero;
            in_groups = subst (λ slots. AreInGroups groups slots) (sym (ap (λ (x : Account). x.fast.remembered) after))
                (in_groups-fewer groups words_left takes.slots.word (fewer eligible) takes.knows.in_groups);
            enough = subst (λ slots. AreCounted slots (count_in left))
                (sym (ap (λ (x : Account). x.fast.remembered) after))
                (counted-set group words_left a.fast.remembered uses used left
                (λ slot r m below shown. takes.knows.as_remembered same slot r m below (fewer eligible slot r m below shown))
                ready.enough recounted counted);
            within = within-set group words_left uses used left ready.within recounted counted;
          },
        )

      -- As many slots are in use then where that one still is,
      pub recounted-kept :
          seen.of_relation ≡ Some slot → in_use (word_without slot.word mode) ≡ true
          → seen.used_count ≡ used_in group words_left
      recounted-kept is still =
          sights.counted
          ∙ sym (used-same group takes.slots.word slot.number (word_without (takes.slots.word slot.number) mode)
          (ap (λ w. in_use (word_without w mode)) (sym (its slot is).shown) ∙ still ∙ sym (its-used slot is)))

      -- and one fewer where it is not.
      pub recounted-less :
          (left : ℕ) → seen.of_relation ≡ Some slot → in_use (word_without slot.word mode) ≡ false
          → left ≡ seen.used_count - 1 → left ≡ used_in group words_left
      recounted-less left is empty one =
          let there = place-split group slot.number (its slot is).within in
          let word : ℕ = word_without (takes.slots.word slot.number) mode in
          let less : used_in group (set_at takes.slots.word (place_in_group group there.0) word) + 1
          ≡ used_in group takes.slots.word =
          used-one_less group takes.slots.word there.0 word there.1
          (ap (λ p. in_use (takes.slots.word p)) (sym there.2) ∙ its-used slot is)
          (ap (λ w. in_use (word_without w mode)) (sym (its slot is).shown) ∙ empty) in
          let same_words : used_in group words_left ≡ used_in group (set_at takes.slots.word (place_in_group group there.0) word) =
          ap (λ p. used_in group (set_at takes.slots.word p word)) there.2 in
          omega (arith, less, one, same_words, sights.counted)

    -- The hold in no slot, and the lock put.
    module _ (e : Account) (last : ℕ) (same_last : last ≡ number) (put : e ≡ account_putting_fast last c own) where
      left_alone : e ≡ account_tried a takes.slots.word (a.trace ++ group_loads number (group_of_tag groups tag) takes.slots.word)
      left_alone =
          put
          ∙ (λ i. account_putting_fast (same_last i) (looked c group loaded i) (same i))
          ∙ (λ i. record a {
            fast = record (a.fast) { slots = gone i; remembered = remembered i; zero = unread i };
            trace = a.trace ++ group_loads number (of_tag i) takes.slots.word;
          }) where
            its_account : Account
            its_account = account_putting_fast number (account_seen number group a takes.slots) number

            unread : its_account.fast.zero ≡ a.fast.zero
            unread = cond-true (number == number) None _ (eq-eqb number number refl) ∙ sym ready.no_zero

            gone : its_account.fast.slots ≡ a.fast.slots
            gone =
                set_at-twice a.fast.slots number (Some takes.slots) None
                ∙ set_at-same a.fast.slots number None (sym (λ i. ready.no_slots i number))

            remembered : (if number == number then takes.slots.word else a.fast.remembered) ≡ takes.slots.word
            remembered = cond-true (number == number) takes.slots.word a.fast.remembered (eq-eqb number number refl)

      -- The release finds nothing.
      pub finds_none :
          (left : UseCounts) → slot_holds a.fast.database takes.slots.word tag mode ≡ false
          → count_in left ≡ counting uses group seen.used_count
          → FindsNoSlot groups number a uses tag mode e left × IsReady groups e left
          × (slot_holds e.fast.database e.fast.remembered tag mode ≡ false)
      finds_none left none counted = (
        record {
          word = takes.slots.word;
          in_none = none;
          account = left_alone;
          recomputed =
              counted ∙ (λ i. counting uses (of_tag i) ((sights.counted ∙ ap (λ k. used_in k takes.slots.word) of_tag) i));
        },
        record {
          no_content = ap (λ (x : Account). x.hand) left_alone ∙ ready.no_content;
          no_slots = ap (λ (x : Account). x.fast.slots) left_alone ∙ ready.no_slots;
          no_shared_slots = ap (λ (x : Account). x.fast.shared_slots) left_alone ∙ ready.no_shared_slots;
          no_zero = ap (λ (x : Account). x.fast.zero) left_alone ∙ ready.no_zero;
          in_groups = subst (λ slots. AreInGroups groups slots)
              (sym (ap (λ (x : Account). x.fast.remembered) left_alone)) takes.knows.in_groups;
          enough = subst (λ slots. AreCounted slots (count_in left))
              (sym (ap (λ (x : Account). x.fast.remembered) left_alone))
              (counted-set group takes.slots.word a.fast.remembered uses seen.used_count left
              (takes.knows.as_remembered same) ready.enough sights.counted counted);
          within = within-set group takes.slots.word uses seen.used_count left ready.within sights.counted counted;
        },
        ap (λ (x : Account). slot_holds x.fast.database x.fast.remembered tag mode) left_alone ∙ none,
      )
