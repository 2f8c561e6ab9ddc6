use Rattle.std.specs.Prelude.{◌≡◌, ◌≢◌, ◌⊎◌, ℕ, Bool, true, false, ◌++◌}
use Rattle.modes_core.specs.declared.modes.Mode.{Mode}
use Rattle.modes_core.specs.declared.tags.Tag.{Tag}
use Rattle.lw_word.specs.SlotWord.{word_without}
use Rattle.lock_table.specs.Put.{set_at}
use Rattle.lock_world.specs.SlotHolds.{slot_holds, IsHeldIn, used_in}
use Rattle.lock_world.specs.Account.{Account}
use Rattle.lock_world.specs.AccountSteps.{own_with}
use Rattle.fast_path.specs.declared.use_counts.UseCounts.{UseCounts}
use Rattle.fast_path.specs.Slots.{IsOfGroup, group_of_tag, group_loads, account_tried, count_in, counting}

-- Releases by the fast path, as the session's account and its trace have them.

-- All slots of the relation's group are loaded with their lock in hand, the mode is cleared in the one that
-- has it, and the group's use count is then the number of its slots in use.
pub record ClearsSlot (groups number : ℕ) (a : Account) (uses : UseCounts) (tag : Tag) (mode : Mode) (b : Account)
    (left : UseCounts) : Type 0 where
  pub word : ℕ → ℕ
  pub slot : ℕ
  pub its_group : IsOfGroup (group_of_tag groups tag) slot
  pub held_in : IsHeldIn a.fast.database word tag mode slot
  pub account : b ≡ record (account_tried a (set_at word slot (word_without (word slot) mode))
      (a.trace ++ group_loads number (group_of_tag groups tag) word)) { own = own_with a.own tag mode false }
  pub recomputed : count_in left ≡ counting uses (group_of_tag groups tag)
      (used_in (group_of_tag groups tag) (set_at word slot (word_without (word slot) mode)))

-- All slots of the relation's group are loaded, and no slot has the mode on the object.
pub record FindsNoSlot (groups number : ℕ) (a : Account) (uses : UseCounts) (tag : Tag) (mode : Mode) (b : Account)
    (left : UseCounts) : Type 0 where
  pub word : ℕ → ℕ
  pub in_none : slot_holds a.fast.database word tag mode ≡ false
  pub account : b ≡ account_tried a word (a.trace ++ group_loads number (group_of_tag groups tag) word)
  pub recomputed : count_in left ≡ counting uses (group_of_tag groups tag) (used_in (group_of_tag groups tag) word)

-- By the use count no slot of the relation's group is in use.
abbrev pub IsUnused : ℕ → UseCounts → Tag → Type 0
IsUnused groups uses tag = count_in uses (group_of_tag groups tag) ≡ 0

-- What a release by the fast path does, by its answer. It isn't tried where the group's use count is 0.
abbrev pub Ungrants : ℕ → ℕ → Account → UseCounts → Tag → Mode → Bool → Account → UseCounts → Type 0
Ungrants groups number a uses tag mode true b left =
    (count_in uses (group_of_tag groups tag) ≢ 0) × ClearsSlot groups number a uses tag mode b left
Ungrants groups number a uses tag mode false b left =
    (IsUnused groups uses tag × (b ≡ a) × (left ≡ uses))
    ⊎ ((count_in uses (group_of_tag groups tag) ≢ 0) × FindsNoSlot groups number a uses tag mode b left)
