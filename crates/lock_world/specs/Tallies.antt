use Rattle.std.specs.Prelude.{◌≡◌, ℕ, ◌+◌, ◌*◌, zero, suc, Bool, true, not, ◌&&◌, List, [], ◌++◌, length, count_by, if◌then◌else◌}
use Rattle.modes_core.specs.declared.modes.Mode.{Mode}
use Rattle.modes_core.specs.declared.modes.Mode.TheVariants.{AccessShare, RowShare, RowExclusive}
use Rattle.modes_core.specs.declared.tags.Tag.{Tag}
use Rattle.modes_core.specs.declared.tags.Tag.TheVariants.{Relation}
use Rattle.modes_core.specs.Mode.{mode_eq}
use Rattle.modes_core.specs.Tag.{partition_of, tag_eq}
use Rattle.lw_word.specs.SlotWord.{has_mode, shows}
use Rattle.lock_table.specs.Content.{Content}
use Rattle.lock_table.specs.Total.{total}
use Rattle.lock_world.specs.SlotHolds.{group_size, slot_holds, OneSlotEach, AreInGroups}
use Rattle.lock_world.specs.Account.{Account}

-- What is counted where all sessions stand still: what slots show, what contents have, and what the sessions
-- own.

-- this many lists, one after another
unfoldable pub joined : {X : Type 0} → ℕ → (ℕ → List X) → List X
joined zero lists = []
joined (suc limit) lists = joined limit lists ++ lists limit

-- how many modes a slot's word shows: there are bits for three
abbrev pub modes_shown : ℕ → ℕ
modes_shown word =
    (if has_mode word AccessShare then 1 else 0)
    + ((if has_mode word RowShare then 1 else 0) + (if has_mode word RowExclusive then 1 else 0))

-- how many the words of all slots show, of the sessions below the limit with this many groups of slots
abbrev pub shown_in_slots : ℕ → ℕ → (ℕ → ℕ → ℕ) → ℕ
shown_in_slots limit groups word = total limit (λ session. total (group_size * groups) (λ place. modes_shown (word session place)))

-- a mode that an object is held in
pub record Held : Type 0 where
  pub tag : Tag
  pub mode : Mode

-- whether it is this mode on this object
abbrev pub is_this : Tag → Mode → Held → Bool
is_this tag mode held = tag_eq held.tag tag && mode_eq held.mode mode

-- There are this many holds: some list has each of them once, and nothing else.
pub record AreSoMany (own : Tag → Mode → Bool) (many : ℕ) : Type 0 where
  pub listed : List Held
  pub each_once : (tag : Tag) (mode : Mode) → count_by (is_this tag mode) listed ≡ (if own tag mode then 1 else 0)
  pub as_many : length listed ≡ many

-- the holds of a session that are in no content: its slots have them
abbrev pub left_in_slots : (Tag → Mode → Bool) → (ℕ → Content) → ℕ → Tag → Mode → Bool
left_in_slots own contents number tag mode = own tag mode && not ((contents (partition_of tag)).holds number tag mode)

-- Where the holds of the session of this number are, with this many groups of slots, as the partitions have
-- these contents: what contents have of it is own, and what they haven't shows in its slots as it remembers
-- them, where a relation has one slot at most, in its group.
pub record OwnStand (groups number : ℕ) (a : Account) (contents : ℕ → Content) : Type 0 where
  pub one_each : OneSlotEach a.fast.remembered
  pub in_groups : AreInGroups groups a.fast.remembered
  pub in_slots :
      (tag : Tag) (mode : Mode) → left_in_slots a.own contents number tag mode ≡ true
      → slot_holds a.fast.database a.fast.remembered tag mode ≡ true
  pub in_contents :
      (tag : Tag) (mode : Mode) → (contents (partition_of tag)).holds number tag mode ≡ true → a.own tag mode ≡ true

-- What the word of the session's slot at this place shows: of what the session remembers there, its own holds
-- that no content has.
abbrev pub ShowsLeft : ℕ → Account → (ℕ → Content) → ℕ → ℕ → Type 0
ShowsLeft number a contents place word =
    (relation : ℕ) (mode : Mode) →
    shows word relation mode
    ≡ (shows (a.fast.remembered place) relation mode && left_in_slots a.own contents number (Relation a.fast.database relation) mode)
