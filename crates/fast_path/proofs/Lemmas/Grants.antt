use Rattle.std.proofs.Common.{◌≡◌, ℕ, ◌<◌, ◌≤◌, ◌^◌, true, false, nat_eq, [], ◌∷◌, ◌++◌, Some, None, refl, sym, ap, ◌∙◌, subst, append_assoc}
use Rattle.std.specs.Prelude.{◌==◌, if◌then◌else◌, IfSome, IfNone}
use Rattle.std.proofs.lemmas.Bool.{both_ways, and_parts, eq-eqb, cond-true, cond-false}
use Rattle.modes_core.specs.declared.modes.Mode.{Mode}
use Rattle.modes_core.specs.declared.tags.Tag.{Tag}
use Rattle.modes_core.specs.Tag.{index_of, is_eligible_for}
use Rattle.lw_word.specs.SlotWord.{in_use, relation_in, word_with}
use Rattle.lock_table.specs.Put.{set_at}
use Rattle.lock_table.proofs.Lemmas.Put.{set_at-here, set_at-same, set_at-twice}
use Rattle.lock_world.specs.declared.events.Word.TheVariants.{Strong}
use Rattle.lock_world.specs.SlotHolds.{group_size, most_groups}
use Rattle.lock_world.specs.SlotHolds.{relation_of, is_slot_of, used_in, AreInGroups, IsSlotToGrant}
use Rattle.lock_world.specs.World.{Loaded}
use Rattle.lock_world.specs.Account.{Account, SlotsInHand}
use Rattle.lock_world.specs.AccountSteps.{own_with, account_reading, account_setting, account_putting_fast}
use Rattle.lock_world.specs.AccountLaw.{MayPutFastBy}
use Rattle.lock_world.proofs.Lemmas.Slots.Eligible.{eligible-is}
use Rattle.shared_rule.specs.History.{slots_here}
use Rattle.fast_path.specs.declared.slot_words.SeenSlot.{SeenSlot}
use Rattle.fast_path.specs.declared.slot_words.SightingForGrant.{SightingForGrant}
use Rattle.fast_path.specs.declared.use_counts.UseCounts.{UseCounts}
use Rattle.fast_path.specs.Slots.{group_of_tag, top_loads, slot_from_top, account_loading, account_tried, IsReady}
use Rattle.fast_path.specs.Slots.{NoneInGroup, IsHighestUnused, IsSeenOf, IsSeenUnused, SightsForGrant}
use Rattle.fast_path.specs.Slots.{count_in, one_more_in, AreCounted, AreUseCounts}
use Rattle.fast_path.specs.Grants.{GrantsInSlot, HasOwnSlots, HasRoom, without_slots}
use Rattle.fast_path.proofs.Lemmas.GrantSlots.{counted-granted, exists, in_groups-granted, is, its-takes, unused-takes, within-granted}

-- The counter read as 0, and `loads` slots of the group loaded, from the highest-numbered one down.

module _ (groups number : ℕ) (a : Account) (tag : Tag) (mine : SlotsInHand)
    (in_hand : a.fast.slots ≡ set_at (λ _. None) number (Some mine)) (loads : ℕ) where
  -- the account then
  abbrev pub account_looked : Account
  account_looked = account_loading (account_reading number a (index_of tag) 0) number
      (slot_from_top (group_of_tag groups tag)) mine.word loads

  its_slots : a.fast.slots number ≡ Some mine
  its_slots = (λ i. in_hand i number) ∙ set_at-here (λ _. None) number (Some mine) number refl

  module _ (b : Account) (own index group shown : ℕ) (same : own ≡ number) (of_tag : index ≡ index_of tag)
      (its_group : group ≡ group_of_tag groups tag) (is_zero : shown ≡ 0) (read : b ≡ account_reading number a index shown) where
    read_slots : b.fast.slots own ≡ Some mine
    read_slots = ap (λ (x : Account). x.fast.slots own) read ∙ ap a.fast.slots same ∙ its_slots

    pub looked :
        (c : Account)
        → c ≡ account_loading b own (slot_from_top group) (slots_here (b.fast.slots own)).word loads
        → c ≡ account_looked
    looked c loaded =
        loaded
        ∙ (λ i. account_loading b (same i) (slot_from_top (its_group i)) (slots_here (read_slots i)).word loads)
        ∙ ap (λ (x : Account). account_loading x number (slot_from_top (group_of_tag groups tag)) mine.word loads)
        (read ∙ (λ i. account_reading number a (of_tag i) (is_zero i)))

    pub looked-sights :
        (relation : ℕ) (seen : SightingForGrant) → relation ≡ relation_of tag
        → SightsForGrant group (slots_here (b.fast.slots own)).word relation seen
        → SightsForGrant (group_of_tag groups tag) mine.word (relation_of tag) seen
    looked-sights relation seen its sighted =
        subst (λ (k : ℕ). SightsForGrant k mine.word (relation_of tag) seen) its_group
        (subst (λ (r : ℕ). SightsForGrant group mine.word r seen) its
        (subst (λ found. SightsForGrant group (slots_here found).word relation seen) read_slots sighted))

    -- No more of them are in use than are counted.
    pub looked-enough :
        (uses : UseCounts) (count : ℕ) → group < most_groups → AreCounted mine.word (count_in uses)
        → count ≡ count_in uses group → used_in group (slots_here (b.fast.slots own)).word ≤ count
    looked-enough uses count exists enough same_count =
        subst (λ (n : ℕ). used_in group (slots_here (b.fast.slots own)).word ≤ n) (sym same_count)
        (subst (λ found. used_in group (slots_here found).word ≤ count_in uses group) (sym read_slots) (enough group exists))

  -- The mode set in a slot, and the lock put.
  module _ (mode : Mode) (slot : ℕ) where
    -- the words then
    abbrev pub words_granted : ℕ → ℕ
    words_granted = set_at mine.word slot (word_with (mine.word slot) (relation_of tag) mode)

    -- the account then
    abbrev pub account_granted : Account
    account_granted = record (account_tried (without_slots a) words_granted
        (a.trace ++ Loaded (Strong (index_of tag)) 0 ∷ top_loads number (group_of_tag groups tag) mine.word loads))
        { own = own_with a.own tag mode true }

    module _ (c d : Account) (by own : ℕ) (same_by : by ≡ number) (same : own ≡ number) (looked : c ≡ account_looked)
        (set : d ≡ account_setting by c (slots_here (c.fast.slots by)) slot tag mode) where
      here : c.fast.slots by ≡ Some mine
      here = ap (λ (x : Account). x.fast.slots by) looked ∙ ap a.fast.slots same_by ∙ its_slots

      is_set : d ≡ account_setting number account_looked mine slot tag mode
      is_set =
          set
          ∙ (λ i. account_setting (same_by i) c (slots_here (here i)) slot tag mode)
          ∙ ap (λ (x : Account). account_setting number x mine slot tag mode) looked

      -- The lock may be put,
      pub may_put : (slots : SlotsInHand) × MayPutFastBy d own slots
      may_put = (
        _,
        record {
          in_hand =
              ap (λ (x : Account). x.fast.slots own) is_set
              ∙ set_at-here a.fast.slots number _ own same;
        },
      )

      -- and then the account is this.
      pub granted : (e : Account) → a.fast.zero ≡ None → e ≡ account_putting_fast by d own → e ≡ account_granted
      granted e no_zero put =
          put
          ∙ (λ i. account_putting_fast (same_by i) (is_set i) (same i))
          ∙ (λ i. record a {
            own = own_with a.own tag mode true;
            fast = record (a.fast) { slots = gone i; remembered = words_granted; zero = unread i };
            trace = append_assoc a.trace (Loaded (Strong (index_of tag)) 0 ∷ [])
                (top_loads number (group_of_tag groups tag) mine.word loads) i;
          }) where
            its_account : Account
            its_account = account_putting_fast number (account_setting number account_looked mine slot tag mode) number

            gone : its_account.fast.slots ≡ (λ _. None)
            gone =
                set_at-twice a.fast.slots number _ None
                ∙ ap (λ slots. set_at slots number None) in_hand
                ∙ set_at-twice (λ _. None) number (Some mine) None
                ∙ set_at-same (λ _. None) number None refl

            unread : its_account.fast.zero ≡ a.fast.zero
            unread = cond-true (number == number) None _ (eq-eqb number number refl) ∙ sym no_zero

      -- The mode is granted so,
      pub grants :
          (e : Account) (uses left : UseCounts) → a.fast.zero ≡ None → e ≡ account_putting_fast by d own
          → IsSlotToGrant groups mine.word (relation_of tag) slot
          → (in_use (mine.word slot) ≡ false → IsHighestUnused (group_of_tag groups tag) mine.word slot)
          → count_in left ≡ (if in_use (mine.word slot) then count_in uses else one_more_in uses (group_of_tag groups tag))
          → loads ≤ group_size → GrantsInSlot groups number (without_slots a) a.trace uses tag mode e left
      grants e uses left no_zero put takes highest raised few_loads = record {
        word = mine.word;
        slot = slot;
        takes = takes;
        highest = highest;
        raised = raised;
        seen = loads;
        of_group = few_loads;
        account = granted e no_zero put;
      }

      -- and the session is ready for the next call.
      pub ready :
          (e : Account) (uses left : UseCounts) → a.hand ≡ (λ _. None) → a.fast.zero ≡ None → a.fast.shared_slots ≡ (λ _. None)
          → e ≡ account_putting_fast by d own
          → IsSlotToGrant groups mine.word (relation_of tag) slot
          → is_eligible_for a.fast.database tag mode ≡ true → relation_of tag < 2 ^ 32
          → 0 < groups → groups ≤ most_groups → AreInGroups groups mine.word
          → AreCounted mine.word (count_in uses) → AreUseCounts (count_in uses) → HasRoom groups uses tag
          → count_in left ≡ (if in_use (mine.word slot) then count_in uses else one_more_in uses (group_of_tag groups tag))
          → IsReady groups e left
      ready e uses left no_content no_zero no_shared put takes eligible fits some few in_groups enough within room raised =
          let after = granted e no_zero put in
          let weak = (eligible-is a.fast.database tag mode eligible).2 in
          let remembered : words_granted ≡ e.fast.remembered = sym (ap (λ (x : Account). x.fast.remembered) after) in
          record {
            no_content = ap (λ (x : Account). x.hand) after ∙ no_content;
            no_slots = ap (λ (x : Account). x.fast.slots) after;
            no_shared_slots = ap (λ (x : Account). x.fast.shared_slots) after ∙ no_shared;
            no_zero = ap (λ (x : Account). x.fast.zero) after ∙ no_zero;
            in_groups = subst (λ word. AreInGroups groups word) remembered
                (in_groups-granted groups mine.word (relation_of tag) slot mode uses fits weak takes few some in_groups);
            enough = subst (λ word. AreCounted word (count_in left)) remembered
                (subst (λ (n : ℕ → ℕ). AreCounted words_granted n) (sym raised)
                (counted-granted groups mine.word (relation_of tag) slot mode uses fits weak takes few some enough));
            within = subst (λ (n : ℕ → ℕ). AreUseCounts n) (sym raised)
                (within-granted groups mine.word (relation_of tag) slot mode uses fits weak takes few some room within);
          }

-- A grant by a slot, by what each of its steps ensures.
module _ (groups number : ℕ) (a : Account) (uses : UseCounts) (tag : Tag) (mode : Mode)
    (has : HasOwnSlots groups number a uses)
    (own index group shown by loads : ℕ) (slot : SeenSlot) (b c d : Account) (same : own ≡ number) (same_by : by ≡ number)
    (of_tag : index ≡ index_of tag) (its_group : group ≡ group_of_tag groups tag) (is_zero : shown ≡ 0)
    (read : b ≡ account_reading number a index shown)
    (loaded : c ≡ account_loading b own (slot_from_top group) (slots_here (b.fast.slots own)).word loads)
    (set : d ≡ account_setting by c (slots_here (c.fast.slots by)) slot.number tag mode) where
  is_looked : c ≡ account_looked groups number a tag has.slots has.in_hand loads
  is_looked = looked groups number a tag has.slots has.in_hand loads b own index group shown same of_tag its_group is_zero read c
      loaded

  pub may_put-granted : (slots : SlotsInHand) × MayPutFastBy d own slots
  may_put-granted =
      may_put groups number a tag has.slots has.in_hand loads mode slot.number c d by own same_by same is_looked set

  module _ (relation : ℕ) (its_relation : relation ≡ relation_of tag) (fits : relation < 2 ^ 32)
      (eligible : is_eligible_for a.fast.database tag mode ≡ true) (some : 0 < groups) (few : groups ≤ most_groups)
      (room : HasRoom groups uses tag) (few_loads : loads ≤ group_size) (seen : SightingForGrant)
      (sighted : SightsForGrant group (slots_here (b.fast.slots own)).word relation seen)
      (e : Account) (last : ℕ) (same_last : last ≡ by) (put : e ≡ account_putting_fast last d own) where
    is_put : e ≡ account_putting_fast by d own
    is_put = put ∙ ap (λ (n : ℕ). account_putting_fast n d own) same_last

    sights : SightsForGrant (group_of_tag groups tag) has.slots.word (relation_of tag) seen
    sights = looked-sights groups number a tag has.slots has.in_hand loads b own index group shown same of_tag its_group is_zero
        read relation seen its_relation sighted

    done : (left : UseCounts) → IsSlotToGrant groups has.slots.word (relation_of tag) slot.number
        → (in_use (has.slots.word slot.number) ≡ false
        → IsHighestUnused (group_of_tag groups tag) has.slots.word slot.number)
        → count_in left ≡ (if in_use (has.slots.word slot.number) then count_in uses else one_more_in uses (group_of_tag groups tag))
        → GrantsInSlot groups number (without_slots a) a.trace uses tag mode e left × IsReady groups e left
    done left takes highest raised = (
      grants groups number a tag has.slots has.in_hand loads mode slot.number c d by own same_by same is_looked set e uses left
          has.no_zero is_put takes highest raised few_loads,
      ready groups number a tag has.slots has.in_hand loads mode slot.number c d by own same_by same is_looked set e uses left
          has.no_content has.no_zero has.no_shared_slots is_put takes eligible
          (subst (λ r. r < 2 ^ 32) its_relation fits) some few has.in_groups has.enough has.within room raised,
    )

    -- In the slot that the relation has the use count stays,
    pub done-its :
        seen.of_relation ≡ Some slot
        → GrantsInSlot groups number (without_slots a) a.trace uses tag mode e uses × IsReady groups e uses
    done-its is =
        let its : IsSeenOf (group_of_tag groups tag) has.slots.word (relation_of tag) slot =
        subst (λ found. IfSome found (IsSeenOf (group_of_tag groups tag) has.slots.word (relation_of tag))) is
        sights.found in
        let its_word : is_slot_of (has.slots.word slot.number) (relation_of tag) ≡ true =
        ap (λ w. is_slot_of w (relation_of tag)) (sym its.shown) ∙ its.its in
        let is_relation = nat_eq (relation_in (has.slots.word slot.number)) (relation_of tag) in
        let used_by = (and_parts (in_use (has.slots.word slot.number)) is_relation its_word).0 in
        done uses (its-takes groups has.slots.word (relation_of tag) slot.number some few its.within its_word)
        (λ unused. absurd (both_ways (in_use (has.slots.word slot.number)) unused used_by))
        (sym (cond-true (in_use (has.slots.word slot.number)) (count_in uses) (one_more_in uses (group_of_tag groups tag)) used_by))

    -- and in another one it is raised.
    pub done-unused :
        (left : UseCounts) → count_in left ≡ one_more_in uses (group_of_tag groups tag)
        → seen.of_relation ≡ None → seen.highest_unused ≡ Some slot
        → GrantsInSlot groups number (without_slots a) a.trace uses tag mode e left × IsReady groups e left
    done-unused left one no_slot is =
        let unused : IsSeenUnused (group_of_tag groups tag) has.slots.word slot =
        subst (λ found. IfSome found (IsSeenUnused (group_of_tag groups tag) has.slots.word)) is sights.unused in
        let none : NoneInGroup (group_of_tag groups tag) has.slots.word (relation_of tag) =
        subst (λ found. IfNone found (NoneInGroup (group_of_tag groups tag) has.slots.word (relation_of tag))) no_slot
        sights.none in
        done left
        (unused-takes groups has.slots.word (relation_of tag) slot.number some few unused.highest none)
        (λ _. unused.highest)
        (one ∙ sym (cond-false (in_use (has.slots.word slot.number)) (count_in uses) (one_more_in uses (group_of_tag groups tag))
        unused.highest.unused))
