use Rattle.std.specs.Prelude.{◌≡◌, ◌≢◌, ◌⊎◌, ℕ, ◌<◌, ◌≤◌, ◌==◌, true, false}
use Rattle.std.specs.Prelude.{List, [], ◌∷◌, ◌++◌, map, count_by, if◌then◌else◌}
use Rattle.modes_core.specs.declared.modes.Mode.{Mode}
use Rattle.modes_core.specs.declared.tags.Tag.{Tag}
use Rattle.modes_core.specs.Tag.{partition_of, is_strong_on, is_eligible_for}
use Rattle.lock_table.specs.declared.moves.Move.{Move}
use Rattle.lock_table.specs.declared.moves.Move.TheVariants.{Release}
use Rattle.lock_table.specs.Content.{Wait, Content}
use Rattle.lock_table.specs.Moves.{Moves}
use Rattle.lock_table.specs.Queue.{Wakes, waits_there}
use Rattle.lock_table.specs.Waiter.{whose_and_mode}
use Rattle.lock_world.specs.Account.{Account, InHand}
use Rattle.lock_world.specs.AccountFacts.{OwnHoldsStand}
use Rattle.lock_world.specs.AccountLaw.{MayMoveBy}
use Rattle.lock_world.specs.AccountSteps.{own_with, account_marking, account_putting}
use Rattle.lock_world.specs.Counted.{Counted, uncounting}
use Rattle.lock_world.specs.World.{TraceEntry, Took, Episode}
use Rattle.lock_world.specs.SlotHolds.{slot_holds, used_in}
use Rattle.fast_path.specs.declared.use_counts.UseCounts.{UseCounts}
use Rattle.fast_path.specs.Slots.{group_of_tag, group_loads, count_in, counting}
use Rattle.fast_path.specs.Releases.{IsUnused, ClearsSlot}
use Rattle.shared_rule.specs.Boards.{Seated, Stack}
use Rattle.shared_rule.specs.Episodes.{account_episode}
use Rattle.shared_rule.specs.Lawful.{MayPutPart}
use Rattle.shared_rule.specs.History.{in_hand, is_among, sessions_told, taken_of}

-- Releases of holds, as the session's trace has them.

-- The partition is the one taken last of those in hand, and the session owes nobody a wake.
pub record IsLastTaken (stack : Stack) (partition : ℕ) : Type 0 where
  pub others : List ℕ
  pub parts : stack.parts ≡ partition ∷ others
  pub none_owed : stack.owed ≡ []

-- The sessions whom a move in a partition in hand lets go, each once, by this content: they are still to be
-- told. Each is one of those that there can be.
pub record Wakens (seat : Seated) (a : Account) (partition : ℕ) (done : Move) (woken : List (ℕ × Mode))
    (now : Content) : Type 0 where
  pub mine : InHand
  pub granted : List Wait
  pub whose : woken ≡ map whose_and_mode granted
  pub may_move : MayMoveBy seat.limit seat.number a partition mine done granted now
  pub once : (session : ℕ) → count_by (λ (told : ℕ × Mode). told.0 == session) woken ≤ 1
  pub exist : (session : ℕ) → waits_there granted session ≡ true → session < seat.limit

-- the account with the move made and recorded, once all whom it lets go are marked but these
abbrev pub account_marked : Account → ℕ → Move → Content → List (ℕ × Mode) → Account
account_marked a partition done now rest =
    account_marking a partition (in_hand (a.hand partition)) now done done (is_among (sessions_told rest))

-- How far the telling has come from the one account to the other: nobody is marked yet, and the first mark is
-- to make the move; or the move stands recorded, and these are left.
abbrev pub IsMarking : Account → ℕ → Move → Content → List (ℕ × Mode) → List (ℕ × Mode) → Account → Type 0
IsMarking a partition done now woken rest b =
    ((rest ≡ woken) × (woken ≢ []) × (b ≡ a)) ⊎ (b ≡ account_marked a partition done now rest)

-- All whom the move lets go are still to be told.
pub record Tells (seat : Seated) (a : Account) (partition : ℕ) (done : Move) (woken : List (ℕ × Mode)) (now : Content) :
    Type 0 where
  pub from : Account
  pub wakens : Wakens seat from partition done woken now
  pub so_far : IsMarking from partition done now woken woken a

-- The session may put a partition in hand after this move, whose wakeup of the object's queue is still to
-- come, whomever it grants: it puts it where that is nobody, and else tells them.
pub record MayWake (seat : Seated) (a : Account) (partition : ℕ) (done : Move) (tag : Tag) (before : Content) : Type 0 where
  pub nobody : (after : Content) → Wakes before tag [] after → (mine : InHand) × MayPutPart seat.limit seat.number a partition mine done after
  pub some :
      (granted : List Wait) (woken : List (ℕ × Mode)) (after : Content) → Wakes before tag granted after
      → woken ≡ map whose_and_mode granted → woken ≢ [] → Tells seat a partition done woken after

-- The queue was woken, and the partition was put.
pub record WakesAndPuts (a : Account) (partition : ℕ) (done : Move) (tag : Tag) (before : Content) (b : Account) : Type 0 where
  pub granted : List Wait
  pub after : Content
  pub wakes : Wakes before tag granted after
  pub account : b ≡ account_putting a partition (taken_of (a.hand partition)) after done

-- A hold is taken out of the object's partition: the content is put once the hold is gone and who may go then
-- is granted, and the account is the one that the contents taken and put lead to. The content taken has each
-- own hold of its partition that is in no slot.
pub record TakesHoldOut (leads_to : Content → Content → Account) (number : ℕ) (a : Account) (tag : Tag) (mode : Mode) (b : Account) : Type 0 where
  pub taken : Content
  pub put : Content
  pub granted : List Wait
  pub own_stand : OwnHoldsStand number a.own a.fast.database a.fast.remembered (partition_of tag) taken
  pub moved : Moves taken number (Release tag mode) granted put
  pub account : b ≡ leads_to taken put

-- The episode that releases a hold.
abbrev pub ReleasesInPart : ℕ → Account → Tag → Mode → Account → Type 0
ReleasesInPart number a tag mode b =
    TakesHoldOut (λ taken put. account_episode a (partition_of tag) taken put (Release tag mode)) number a tag mode b

-- ---- the whole release: `a` and `uses` are the account and the use counts before it, `b` and `left` those
-- after it

-- what is counted once the mode is released
abbrev pub counted_released : List Counted → Tag → Mode → List Counted
counted_released counted tag mode = if is_strong_on tag mode then uncounting counted tag mode else counted

-- the account with the mode released
abbrev pub account_released : Account → Tag → Mode → (ℕ → ℕ) → List TraceEntry → Account
account_released a tag mode remembered trace = record a {
  own = own_with a.own tag mode false;
  fast = record (a.fast) { remembered = remembered; counted = counted_released a.fast.counted tag mode };
  trace = trace;
}

-- The whole release of a hold that stands in the table: once that episode is made a strong mode is counted no
-- more.
abbrev pub ReleasesHold : ℕ → Account → Tag → Mode → Account → Type 0
ReleasesHold number a tag mode b =
    TakesHoldOut (λ taken put. account_released a tag mode a.fast.remembered
    (a.trace ++ Took (partition_of tag) taken ∷ Episode (partition_of tag) taken put ∷ [])) number a tag mode b

-- The session looks in its slots: the mode on the object may be in one of them, and by the use count of the
-- relation's group one of it is in use.
pub record LooksInSlots (groups : ℕ) (a : Account) (uses : UseCounts) (tag : Tag) (mode : Mode) : Type 0 where
  pub eligible : is_eligible_for a.fast.database tag mode ≡ true
  pub some : count_in uses (group_of_tag groups tag) ≢ 0

-- The session looks in its slots, and clears the mode in the slot that has it. There is no episode, nor any
-- other step.
pub record ReleasesSlot (groups number : ℕ) (a : Account) (uses : UseCounts) (tag : Tag) (mode : Mode) (b : Account)
    (left : UseCounts) : Type 0 where
  pub looks : LooksInSlots groups a uses tag mode
  pub cleared : ClearsSlot groups number a uses tag mode b left

-- The session looks in its slots, and finds the hold in none of the group's sixteen: it was moved to the
-- table, or granted there.
pub record FindsNone (groups number : ℕ) (a : Account) (uses : UseCounts) (tag : Tag) (mode : Mode)
    (loads : List TraceEntry) (left : UseCounts) : Type 0 where
  pub looks : LooksInSlots groups a uses tag mode
  pub word : ℕ → ℕ
  pub in_none : slot_holds a.fast.database word tag mode ≡ false
  pub loaded : loads ≡ group_loads number (group_of_tag groups tag) word
  pub recomputed : count_in left ≡ counting uses (group_of_tag groups tag) (used_in (group_of_tag groups tag) word)

-- The session doesn't look in its slots, as the mode may not be in a slot or none of the group is in use.
pub record LooksNowhere (groups : ℕ) (a : Account) (uses : UseCounts) (tag : Tag) (mode : Mode) (loads : List TraceEntry)
    (left : UseCounts) : Type 0 where
  pub not_tried : (is_eligible_for a.fast.database tag mode ≡ false) ⊎ IsUnused groups uses tag
  pub no_step : loads ≡ []
  pub same : left ≡ uses

-- One episode in the object's partition releases the hold: it is gone, and who may go then is granted. The
-- content taken has each own hold of the partition that is in no slot. Before it stands the look at the
-- slots, if there was one. No other step joins the trace.
pub record ReleasesInTable (groups number : ℕ) (a : Account) (uses : UseCounts) (tag : Tag) (mode : Mode) (b : Account)
    (left : UseCounts) : Type 0 where
  pub loads : List TraceEntry
  pub before : LooksNowhere groups a uses tag mode loads left ⊎ FindsNone groups number a uses tag mode loads left
  pub taken : Content
  pub put : Content
  pub granted : List Wait
  pub own_stand : OwnHoldsStand number a.own a.fast.database b.fast.remembered (partition_of tag) taken
  pub moved : Moves taken number (Release tag mode) granted put
  pub trace : b.trace ≡ a.trace ++ loads ++ Took (partition_of tag) taken ∷ Episode (partition_of tag) taken put ∷ []
  pub account : b ≡ account_released a tag mode b.fast.remembered b.trace

-- The hold is released where it stands, in a slot or in the table.
abbrev pub Releases : ℕ → ℕ → Account → UseCounts → Tag → Mode → Account → UseCounts → Type 0
Releases groups number a uses tag mode b left =
    ReleasesSlot groups number a uses tag mode b left ⊎ ReleasesInTable groups number a uses tag mode b left

-- These holds are released, one after another.
abbrev pub ReleasesAll : ℕ → ℕ → Account → UseCounts → List (Tag × Mode) → Account → UseCounts → Type 0
ReleasesAll groups number a uses [] b left = (b ≡ a) × (left ≡ uses)
ReleasesAll groups number a uses (key ∷ keys) b left =
    (between : Account) × (its : UseCounts) × Releases groups number a uses key.0 key.1 between its
    × ReleasesAll groups number between its keys b left
