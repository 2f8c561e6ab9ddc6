use Rattle.std.proofs.Common.{◌≡◌, ◌⊎◌, ℕ, true, false, List, [], ◌∷◌, Some, None, refl, sym, ap, ◌∙◌, subst, inl, inr, zero, suc}
use Rattle.std.specs.Prelude.{slice_get}
use Rattle.std.proofs.lemmas.Bool.{both_ways, false≢true, or_cases}
use Rattle.modes_core.specs.declared.modes.Mode.{Mode}
use Rattle.modes_core.specs.declared.tags.Tag.{Tag}
use Rattle.modes_core.specs.Tag.{partition_of}
use Rattle.lock_table.specs.Content.{Holds}
use Rattle.lock_table.specs.OwnWait.{is_for}
use Rattle.lock_table.proofs.Lemmas.Holds.{SetHoldAt, here, elsewhere, set_hold-at}
use Rattle.lock_table.specs.Content.{set_hold}
use Rattle.lock_world.specs.declared.events.Event.{Event}
use Rattle.lock_world.specs.declared.events.Step.{Step}
use Rattle.lock_world.specs.declared.events.Step.TheVariants.{TakeExclusive, LoadWord}
use Rattle.lock_world.specs.declared.events.Word.TheVariants.{Partition, Slot}
use Rattle.lw_word.specs.SlotWord.{shows}
use Rattle.lock_table.proofs.Lemmas.Put.{set_at-here}
use Rattle.lock_world.specs.World.{World}
use Rattle.lock_world.specs.SlotHolds.{relation_of}
use Rattle.lock_world.specs.Headline.{stands_with}
use Rattle.lock_world.specs.Listing.{StandsThereOrInContent, TellsHold}
use Rattle.lock_world.specs.Happens.{HappensStep, Next, RunsThrough, last_of}
use Rattle.lock_world.specs.Happens.Slots.{MaySetSlot, after_setting_slot, MayClearSlot, after_clearing_slot}
use Rattle.lock_world.specs.Happens.Transfers.{MayTransfer, after_transferring}
use Rattle.lock_world.specs.SafeWorld.{SafeWorld, slots_of}
use Rattle.lock_world.proofs.Lemmas.SafeWorld.Slots.Setting.{setting-slots}
use Rattle.lock_world.proofs.Lemmas.SafeWorld.Slots.Clearing.{clearing-slots}
use Rattle.lock_world.proofs.Lemmas.SafeWorld.Slots.Transferring.{transferring-slots}
use Rattle.lock_world.proofs.Lemmas.SafeWorld.Slots.Databases.{storing-slots}
use Rattle.lock_world.proofs.Lemmas.SafeWorld.Runs.{event-safe, Next-safe}
use Rattle.lock_world.proofs.Lemmas.FromSafeWorld.{held-in_table, shown-in_no_content}
use Rattle.lock_world.proofs.Lemmas.LawfulSteps.{LawfulStep, world_after, setting_slot, clearing_slot, storing_database, transferring, after_each}

-- A hold that stands in a content does not go to a slot: so a listing that reads slots first misses nobody.

-- what the slots of the World show
abbrev shown_in : World → Holds
shown_in w = slots_of w.words.database w.words.slot

-- A hold in a slot was in a slot before, or its session had not the hold and no wait.
abbrev IsOldOrNew : World → ℕ → Tag → Mode → Type 0
IsOldOrNew w k o m = (shown_in w k o m ≡ true) ⊎ ((w.sessions.own k o m ≡ false) × (w.sessions.awaited k ≡ None))

-- A slot set shows one more hold, which was new.
setting : (w : World) (s i : ℕ) (t : Tag) (n : Mode) → SafeWorld w → MaySetSlot w s i t n → (k : ℕ) (o : Tag) (m : Mode) → shown_in (after_setting_slot w s i t n) k o m ≡ true → IsOldOrNew w k o m
setting w s i t n safe may k o m shown = at (set_hold-at (shown_in w) s t n true k o m) where
  now : set_hold (shown_in w) s t n true k o m ≡ true
  now = sym (λ x. setting-slots w s i t n safe may x k o m) ∙ shown

  at : SetHoldAt (shown_in w) s t n true k o m → IsOldOrNew w k o m
  at (here it e) = inr (
    (λ x. w.sessions.own (it.session x) (it.tag x) (it.mode x)) ∙ may.new,
    ap w.sessions.awaited it.session ∙ may.no_wait,
  )
  at (elsewhere _ e) = inl (sym e ∙ now)

-- A slot cleared shows none that was not there.
unsetting : (w : World) (s i : ℕ) (t : Tag) (n : Mode) → SafeWorld w → MayClearSlot w s i t n → (k : ℕ) (o : Tag) (m : Mode) → shown_in (after_clearing_slot w s i t n) k o m ≡ true → IsOldOrNew w k o m
unsetting w s i t n safe may k o m shown = at (set_hold-at (shown_in w) s t n false k o m) where
  now : set_hold (shown_in w) s t n false k o m ≡ true
  now = sym (λ x. clearing-slots w s i t n safe may x k o m) ∙ shown

  at : SetHoldAt (shown_in w) s t n false k o m → IsOldOrNew w k o m
  at (here it e) = absurd (both_ways (set_hold (shown_in w) s t n false k o m) e now)
  at (elsewhere _ e) = inl (sym e ∙ now)

-- So does one of which a mode has gone to the table.
moving : (w : World) (s q i : ℕ) (t : Tag) (n strong : Mode) → SafeWorld w → MayTransfer w s q i t n strong → (k : ℕ) (o : Tag) (m : Mode) → shown_in (after_transferring w q i t n) k o m ≡ true → IsOldOrNew w k o m
moving w s q i t n strong safe may k o m shown = at (set_hold-at (shown_in w) q t n false k o m) where
  now : set_hold (shown_in w) q t n false k o m ≡ true
  now = sym (λ x. transferring-slots w s q i t n strong safe may x k o m) ∙ shown

  at : SetHoldAt (shown_in w) q t n false k o m → IsOldOrNew w k o m
  at (here it e) = absurd (both_ways (set_hold (shown_in w) q t n false k o m) e now)
  at (elsewhere _ e) = inl (sym e ∙ now)

-- Most steps change no slot and no database.
old_or_new : (w : World) (s k : ℕ) (o : Tag) (m : Mode) → SafeWorld w → (it : LawfulStep w s) → shown_in (world_after it) k o m ≡ true → IsOldOrNew w k o m
old_or_new w s k o m safe (setting_slot i t n may) shown = setting w s i t n safe may k o m shown
old_or_new w s k o m safe (clearing_slot i t n may) shown = unsetting w s i t n safe may k o m shown
old_or_new w s k o m safe (storing_database d may) shown = inl (sym (λ x. storing-slots w s d may x k o m) ∙ shown)
old_or_new w s k o m safe (transferring q i t n strong may) shown = moving w s q i t n strong safe may k o m shown
old_or_new w s k o m safe step shown = inl shown

-- So where a hold stands in a content, no event puts it in a slot.
pub stays-out : (w v : World) (event : Event) (k : ℕ) (o : Tag) (m : Mode) → SafeWorld w → Next w event v → (w.contents.now (partition_of o)).holds k o m ≡ true → shown_in v k o m ≡ true → ⊥
stays-out w v event k o m safe (inl h) there shown = at (from event.step v h shown) where
  from : (step : Step) (u : World) → HappensStep w event.session step u → shown_in u k o m ≡ true → IsOldOrNew w k o m
  from = after_each w event.session (λ _ u. shown_in u k o m ≡ true → IsOldOrNew w k o m) (old_or_new w event.session k o m safe)

  new : (w.sessions.own k o m ≡ false) → (w.sessions.awaited k ≡ None) → ⊥
  new not_own no_wait = elim ((held-in_table w safe (partition_of o) k o m).0 there).1 [
    | inl own ↦ both_ways (w.sessions.own k o m) not_own own.0
    | inr pending ↦ false≢true (ap (λ a. is_for a o m) (sym no_wait) ∙ pending.0)
  ]

  at : IsOldOrNew w k o m → ⊥
  at (inl was) = both_ways ((w.contents.now (partition_of o)).holds k o m) (shown-in_no_content w safe (partition_of o) k o m was) there
  at (inr none) = new none.0 none.1
stays-out w v event k o m safe (inr h) there shown =
    both_ways ((w.contents.now (partition_of o)).holds k o m)
    (shown-in_no_content w safe (partition_of o) k o m (subst (λ (z : World). shown_in z k o m ≡ true) h.1 shown)) there

first : (w : World) (event : Event) (v : World) (k : ℕ) (o : Tag) (m : Mode) → SafeWorld w → Next w event v → (w.contents.now (partition_of o)).holds k o m ≡ true
    → (shown_in v k o m ≡ true) ⊎ ((v.contents.now (partition_of o)).holds k o m ≡ true) → (v.contents.now (partition_of o)).holds k o m ≡ true
first w event v k o m safe next there (inl shown) = absurd (stays-out w v event k o m safe next there shown)
first w event v k o m safe next there (inr stands) = stands

-- A hold that stands in a slot or in a content all the way, and in a content at first, stands in a content
-- all the way.
pub stays-in_content :
    (w : World) (events : List Event) (worlds : List World) (k : ℕ) (o : Tag) (m : Mode) → SafeWorld w → RunsThrough w events worlds
    → (w.contents.now (partition_of o)).holds k o m ≡ true
    → ((place : ℕ) (u : World) → slice_get worlds place ≡ Some u → (shown_in u k o m ≡ true) ⊎ ((u.contents.now (partition_of o)).holds k o m ≡ true))
    → (place : ℕ) (u : World) → slice_get worlds place ≡ Some u → (u.contents.now (partition_of o)).holds k o m ≡ true
stays-in_content w [] [] k o m safe run there stands place u at = absurd (cc)
stays-in_content w [] (v ∷ worlds) k o m safe run there stands place u at = absurd run
stays-in_content w (event ∷ events) [] k o m safe run there stands place u at = absurd run
stays-in_content w (event ∷ events) (v ∷ worlds) k o m safe run there stands zero u at =
    subst (λ (z : World). (z.contents.now (partition_of o)).holds k o m ≡ true) (let same : v ≡ u = cc in same) (first w event v k o m safe run.0 there (stands 0 v refl))
stays-in_content w (event ∷ events) (v ∷ worlds) k o m safe run there stands (suc place) u at =
    stays-in_content v events worlds k o m (Next-safe w event v safe run.0) run.1 (first w event v k o m safe run.0 there (stands 0 v refl)) (λ i z. stands (suc i) z) place u at

-- A hold that a load of its slot does not show, while it stands there or in a content, stands in the content
-- of its object's partition.
unshown-in_content : (w : World) (s i n : ℕ) (t : Tag) (m : Mode) → SafeWorld w → n ≡ w.words.slot s i → shows n (relation_of t) m ≡ false → StandsThereOrInContent w s t m i
    → (w.contents.now (partition_of t)).holds s t m ≡ true
unshown-in_content w s i n t m safe loaded unshown (inl there) =
    absurd (both_ways (shows n (relation_of t) m) unshown (ap (λ word. shows word (relation_of t) m) loaded ∙ there.shown))
unshown-in_content w s i n t m safe loaded unshown (inr found) =
    subst (λ p. (w.contents.now p).holds s t m ≡ true) (sym (safe.but_slots.table.promise.one_place.no_hold_elsewhere found.0 s t m found.1)) found.1

-- The last World of a run is one of them, or the first one.
last-there : (w : World) (worlds : List World) → (last_of w worlds ≡ w) ⊎ ((i : ℕ) × (slice_get worlds i ≡ Some (last_of w worlds)))
last-there w [] = inl refl
last-there w (u ∷ worlds) =
    elim (last-there u worlds) [
      | inl is ↦ inr (0, ap Some (sym is))
      | inr found ↦ inr (suc found.0, found.1)
    ]

-- So whoever takes the partition after a run in which it stands in a slot or in a content all the way takes a
-- content that has it.
pub taken-has :
    (w v u : World) (lister s i n taker : ℕ) (t : Tag) (m : Mode) (events : List Event) (worlds : List World) → SafeWorld w
    → HappensStep w lister (LoadWord (Slot s i) n) v → shows n (relation_of t) m ≡ false → StandsThereOrInContent v s t m i → RunsThrough v events worlds
    → ((later : ℕ) (z : World) → slice_get worlds later ≡ Some z → stands_with z s t m ≡ true)
    → HappensStep (last_of v worlds) taker (TakeExclusive (Partition (partition_of t))) u → TellsHold (last_of v worlds) u taker s t m
taken-has w v u lister s i n taker t m events worlds safe loads unshown stands run throughout takes = record {
  content = (last_of v worlds).contents.now (partition_of t);
  told = (λ x. (takes.1 x).sessions.trace taker) ∙ set_at-here (last_of v worlds).sessions.trace taker _ taker refl;
  has = has (last-there v worlds);
} where
  safe_then : SafeWorld v
  safe_then = event-safe w (record { session = lister; step = LoadWord (Slot s i) n }) v safe loads

  loaded : n ≡ v.words.slot s i
  loaded = loads.0.is_shown ∙ sym (λ x. (loads.1 x).words.slot s i)

  first_has : (v.contents.now (partition_of t)).holds s t m ≡ true
  first_has = unshown-in_content v s i n t m safe_then loaded unshown stands

  each : (later : ℕ) (z : World) → slice_get worlds later ≡ Some z → (shown_in z s t m ≡ true) ⊎ ((z.contents.now (partition_of t)).holds s t m ≡ true)
  each later z at = or_cases (shown_in z s t m) ((z.contents.now (partition_of t)).holds s t m) (throughout later z at)

  has : (last_of v worlds ≡ v) ⊎ ((later : ℕ) × (slice_get worlds later ≡ Some (last_of v worlds))) → ((last_of v worlds).contents.now (partition_of t)).holds s t m ≡ true
  has (inl is) = (λ x. ((is x).contents.now (partition_of t)).holds s t m) ∙ first_has
  has (inr found) = stays-in_content v events worlds s t m safe_then run first_has each found.0 (last_of v worlds) found.1
