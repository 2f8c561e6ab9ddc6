use Rattle.std.proofs.Common.{◌≡◌, ℕ, ◌<◌, Bool, true, false, not, ◌&&◌, refl, sym, ap, ◌∙◌, inl, inr, None}
use Rattle.std.proofs.lemmas.Bool.{cases_Bool, both_ways, false≢true, false_from_ne_true, and_parts, and_from, not-true}
use Rattle.modes_core.specs.declared.modes.Mode.{Mode}
use Rattle.modes_core.specs.declared.tags.Tag.{Tag}
use Rattle.modes_core.specs.declared.tags.Tag.TheVariants.{Relation}
use Rattle.modes_core.specs.Tag.{partition_of}
use Rattle.lw_word.specs.SlotWord.{shows}
use Rattle.lock_table.specs.OwnWait.{is_for}
use Rattle.lock_world.specs.SlotHolds.{slot_count, relation_of, OneSlotEach, AreInGroups}
use Rattle.lock_world.specs.Tallies.{left_in_slots, OwnStand, ShowsLeft}
use Rattle.lock_world.specs.World.{World}
use Rattle.lock_world.specs.Account.{account}
use Rattle.lock_world.specs.SafeWorld.{SafeWorld, slots_of}
use Rattle.lock_world.proofs.Lemmas.FromSafeWorld.{held-in_table, shown-in_no_content}
use Rattle.lock_world.proofs.Lemmas.Slots.Bits.{shown-held}
use Rattle.lock_world.proofs.Lemmas.Slots.Eligible.{held-is_in, is_in-held, shown-in_use}

-- Where the holds of a session stand that waits for nothing: in its slots, or in contents.

module _ (w : World) (safe : SafeWorld w) (k : ℕ) where
  abbrev left : Tag → Mode → Bool
  left = left_in_slots (w.sessions.own k) w.contents.now k

  abbrev slots : Tag → Mode → Bool
  slots = slots_of w.words.database w.words.slot k

  -- What slots show is left to them, and what is left to them they show.
  shown-left : (t : Tag) (m : Mode) → slots t m ≡ true → left t m ≡ true
  shown-left t m shown =
      and_from (w.sessions.own k t m) (not ((w.contents.now (partition_of t)).holds k t m)) (safe.slots.are_own k t m shown)
      (ap not (shown-in_no_content w safe (partition_of t) k t m shown))

  left-shown : (t : Tag) (m : Mode) → left t m ≡ true → slots t m ≡ true
  left-shown t m is =
      let both = and_parts (w.sessions.own k t m) (not ((w.contents.now (partition_of t)).holds k t m)) is in
      elim (cases_Bool (slots t m)) [
        | inl shown ↦ shown
        | inr none ↦ absurd (both_ways ((w.contents.now (partition_of t)).holds k t m)
            (not-true ((w.contents.now (partition_of t)).holds k t m) both.1) ((held-in_table w safe (partition_of t) k t m).1 (refl, inl (both.0, none))))
      ]

  -- What a slot shows its session remembers there.
  shown-remembered : (place relation : ℕ) (m : Mode) → place < slot_count → shows (w.words.slot k place) relation m ≡ true → shows (w.sessions.remembered k place) relation m ≡ true
  shown-remembered place relation m within shown = safe.remembered k place relation m within shown

  -- A mode of a relation that a slot shows is left to it.
  relation-left : (place relation : ℕ) (m : Mode) → place < slot_count → shows (w.words.slot k place) relation m ≡ true → left (Relation (w.words.database k) relation) m ≡ true
  relation-left place relation m within shown =
      shown-left (Relation (w.words.database k) relation) m
      (shown-held (w.words.database k) (w.words.slot k) place relation m (safe.slots.has_database k) within shown)

  -- What contents have is own, of one who waits for nothing.
  content-own : w.sessions.awaited k ≡ None → (t : Tag) (m : Mode) → (w.contents.now (partition_of t)).holds k t m ≡ true → w.sessions.own k t m ≡ true
  content-own no_wait t m has =
      elim ((held-in_table w safe (partition_of t) k t m).0 has).1 [
        | inl own ↦ own.0
        | inr pending ↦ absurd (false≢true (sym (ap (λ a. is_for a t m) no_wait) ∙ pending.0))
      ]

  pub own-stand : OneSlotEach (w.sessions.remembered k) → AreInGroups w.numbers.groups (w.sessions.remembered k) → w.sessions.awaited k ≡ None
      → OwnStand w.numbers.groups k (account w k) w.contents.now
  own-stand once in_groups no_wait = record {
    one_each = once;
    in_groups = in_groups;
    in_slots = λ t m is.
        let found = held-is_in (w.words.database k) (w.words.slot k) t m (left-shown t m is) in
        is_in-held (w.words.database k) (w.sessions.remembered k) t m found.0 (record {
          eligible = found.1.eligible;
          within = found.1.within;
          shown = shown-remembered found.0 (relation_of t) m found.1.within found.1.shown;
        });
    in_contents = content-own no_wait;
  }

  -- The word of each of its slots shows what is left there.
  pub shows-left : OneSlotEach (w.sessions.remembered k) → (place : ℕ) → place < slot_count → ShowsLeft k (account w k) w.contents.now place (w.words.slot k place)
  shows-left once place within relation m =
      elim (cases_Bool (shows (w.words.slot k place) relation m)) [
        | inl shown ↦
            shown ∙ sym (and_from (shows (w.sessions.remembered k place) relation m) (left (Relation (w.words.database k) relation) m)
            (shown-remembered place relation m within shown) (relation-left place relation m within shown))
        | inr none ↦
            none ∙ sym (false_from_ne_true (shows (w.sessions.remembered k place) relation m && left (Relation (w.words.database k) relation) m) (λ both.
            let is = and_parts (shows (w.sessions.remembered k place) relation m) (left (Relation (w.words.database k) relation) m) both in
            let found = held-is_in (w.words.database k) (w.words.slot k) (Relation (w.words.database k) relation) m (left-shown (Relation (w.words.database k) relation) m is.1) in
            let its = shown-remembered found.0 relation m found.1.within found.1.shown in
            let here : found.0 ≡ place = once relation found.0 place found.1.within within
            (shown-in_use (w.sessions.remembered k found.0) relation m its) (shown-in_use (w.sessions.remembered k place) relation m is.0) in
            both_ways (shows (w.words.slot k place) relation m) none (ap (λ i. shows (w.words.slot k i) relation m) (sym here) ∙ found.1.shown)))
      ]

  -- A number that is not live has nothing: no slot shows a mode, and no content has a hold of it.
  pub spent-shows_nothing : w.numbers.live k ≡ false → (place relation : ℕ) (m : Mode) → place < slot_count → shows (w.words.slot k place) relation m ≡ false
  spent-shows_nothing dead place relation m within =
      false_from_ne_true (shows (w.words.slot k place) relation m) (λ shown.
      both_ways (w.sessions.own k (Relation (w.words.database k) relation) m) (safe.order.no_hold k (Relation (w.words.database k) relation) m dead)
      (and_parts (w.sessions.own k (Relation (w.words.database k) relation) m) _ (relation-left place relation m within shown)).0)

  pub spent-in_no_content : w.numbers.live k ≡ false → (t : Tag) (m : Mode) → (w.contents.now (partition_of t)).holds k t m ≡ false
  spent-in_no_content dead t m =
      false_from_ne_true ((w.contents.now (partition_of t)).holds k t m) (λ has.
      both_ways (w.sessions.own k t m) (safe.order.no_hold k t m dead)
      (content-own (safe.but_slots.table.promise.spent.no_wait k dead) t m has))
