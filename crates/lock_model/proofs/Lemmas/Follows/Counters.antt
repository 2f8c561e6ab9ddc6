use Rattle.std.proofs.Common.{◌≡◌, ◌≢◌, ℕ, zero, suc, ◌+◌, ◌<◌, Bool, true, false, not, ◌&&◌, ◌||◌, nat_eq, nat_lt, List, [], ◌∷◌, ◌++◌, map, length, get_or, Some, None, refl, sym, ap, ◌∙◌, subst, inl, inr, arith}
use Rattle.std.specs.Prelude.{◌==◌, nat_le, filter, All, count_by, if◌then◌else◌}
use Rattle.std.specs.List.{list_any}
use Rattle.std.proofs.Math.ListN.{set}
use Rattle.std.proofs.lemmas.Bool.{cases_Bool, cases_eq, both_ways, false≢true, and_parts, and_from, and_left, and_right, or_from, or_parts, cond-true, cond-false, eqb-true, eq-eqb, ne_eqb, lt-ltb, ltb-true, not-true, not_from_false, false_from_ne_true}
use Rattle.std.proofs.lemmas.List.{map-id}
use Rattle.std.proofs.lemmas.List.Elements.{All-append, All-filter, All-map}
use Rattle.modes_core.specs.declared.modes.Mode.{Mode}
use Rattle.modes_core.specs.declared.modes.Mode.TheVariants.{AccessShare, RowShare, RowExclusive, ShareUpdateExclusive, Share, ShareRowExclusive, Exclusive, AccessExclusive}
use Rattle.modes_core.specs.declared.tags.Tag.{Tag}
use Rattle.modes_core.specs.declared.tags.Tag.TheVariants.{Relation, Object, Advisory}
use Rattle.modes_core.specs.Mode.{number_of}
use Rattle.modes_core.specs.Tag.{is_eligible_for, is_strong_on, partition_of}
use Rattle.lw_word.specs.declared.words.LwMode.TheVariants as lw_mode
use Rattle.lw_word.specs.LockState.{opening_state, put_in}
use Rattle.lock_table.specs.Content.{Content}
use Rattle.lock_table.specs.OwnWait.{is_for}
use Rattle.lock_table.specs.Parts.{contents_in}
use Rattle.lock_table.specs.Put.{set_at}
use Rattle.lock_table.proofs.Lemmas.Put.{set_at-here, set_at-else}
use Rattle.lock_world.specs.declared.events.Step.TheVariants.{Count, Uncount, PutPassing, LoadStrong}
use Rattle.lock_world.specs.declared.events.Word.TheVariants.{Strong}
use Rattle.lock_model.proofs.Lemmas.Shows.Runs.{counter_shown}
use Rattle.lock_world.specs.Counted.{Counted, is_of, counting, uncounting, passed, passing, is_counted, is_at, is_done}
use Rattle.lock_world.specs.World.{World}
use Rattle.lock_world.specs.World as world
use Rattle.lock_world.specs.Happens.{Next}
use Rattle.lock_world.specs.Happens.Slots.{zero_after_reading, after_reading_counter, MayLoad}
use Rattle.lock_world.specs.Happens.Counters.{most_counted, MayCount, after_counting, MayUncount, after_uncounting, MayPass, after_passing}
use Rattle.lock_world.specs.SafeWorld.{SafeWorld}
use Rattle.lock_world.specs.SlotHolds.{slot_holds}
use Rattle.lock_model.specs.declared.machine.state.CountedBy.{CountedBy}
use Rattle.lock_model.specs.declared.machine.state.Words.{Words}
use Rattle.lock_model.specs.declared.machine.state.FastPath.{FastPath}
use Rattle.lock_model.specs.declared.machine.state.Machine.{Machine}
use Rattle.lock_model.specs.Shows.{Shows, ShowsWords, ShowsFastPath, ShowsCounted, counted_from, counted_of, makes_steps, awaits}
use Rattle.lock_model.specs.SlotLooks.{slots_hold}
use Rattle.lock_model.specs.CountedLists.{is_by, is_by_at, passed_by, counter, counted_for, holds_fast, may_count, has_or_awaits, may_uncount, slots_show, may_pass, may_load_counter, reads_zero}
use Rattle.lock_model.proofs.Lemmas.CountedLists.{any-of_session, length-of_session, counted_of-push, counted_of-push_else, counted_of-without, counted_of-without_else, counted_of-map}
use Rattle.lock_model.proofs.Lemmas.Shows.Changes.{fast_word-set}
use Rattle.lock_model.proofs.Lemmas.Shows.Locks.{marks-set}
use Rattle.lock_model.proofs.Lemmas.Shows.SlotLooks.{zero-set}
use Rattle.lock_model.proofs.Lemmas.Shows.Looks.{steps_from, steps_kept, awaits_from, slots_from, own_from, own_in_content, own_nowhere, content_from}
use Rattle.lock_model.proofs.Lemmas.Follows.Skipped.{skipped}
use Rattle.lock_model.proofs.Lemmas.Follows.Slots.{put_fast_shown}
use Rattle.lock_model.proofs.Lemmas.Shows.Kept.{fast_path_shown}

-- The machine's steps on strong lock counters.

-- The words that the machine keeps don't say what a counter shows.
counters_apart : (shown : Words) (words : world.Words) (strong : ℕ → ℕ) → ShowsWords shown words → ShowsWords shown (record words { strong = strong })
counters_apart shown words strong shows = record {
  sixty_four_fast = shows.sixty_four_fast;
  all_waits = shows.all_waits;
  partition = shows.partition;
  fast = shows.fast;
  wait = shows.wait;
}

-- What one session has counted is changed, and no other's.
counted-changed : (list after : List CountedBy) (counted : ℕ → List Counted) (s : ℕ) (own : List Counted) → ShowsCounted list counted → counted_of s after ≡ own
    → ((k : ℕ) → k ≢ s → counted_of k after ≡ counted_of k list) → All (λ c. c.session < 64) after → ShowsCounted after (set_at counted s own)
counted-changed list after counted s own shows its others within = record {
  each = λ k. elim (cases_eq k s) [
    | inl same ↦ ap (λ j. counted_of j after) same ∙ its ∙ sym (set_at-here counted s own k same)
    | inr other ↦ others k other ∙ shows.each k ∙ sym (set_at-else counted s own k other)
  ];
  within = within;
}

counted-push : (list : List CountedBy) (counted : ℕ → List Counted) (s : ℕ) (t : Tag) (n : Mode) → ShowsCounted list counted → s < 64
    → ShowsCounted (list ++ record { session = s; tag = t; mode = n; position = 0 } ∷ []) (set_at counted s (counting (counted s) t n))
counted-push list counted s t n shows below =
    let entry : CountedBy = record { session = s; tag = t; mode = n; position = 0 } in
    counted-changed list (list ++ entry ∷ []) counted s (counting (counted s) t n) shows
    (counted_of-push s list entry refl ∙ ap (λ own. own ++ counted_from entry ∷ []) (shows.each s))
    (λ k other. counted_of-push_else k list entry (λ e. other (sym e)))
    (All-append (λ c. c.session < 64) list (entry ∷ []) shows.within (only entry below)) where
      only : (c : CountedBy) → c.session < 64 → All (λ e. e.session < 64) (c ∷ [])
      only c its zero d first = its
      only c its (suc k) d past = absurd (omega (arith, past))

counted-without : (list : List CountedBy) (counted : ℕ → List Counted) (s : ℕ) (t : Tag) (n : Mode) → ShowsCounted list counted
    → ShowsCounted (filter (λ c. not (is_by s t n c)) list) (set_at counted s (uncounting (counted s) t n))
counted-without list counted s t n shows =
    counted-changed list (filter (λ c. not (is_by s t n c)) list) counted s (uncounting (counted s) t n) shows
    (counted_of-without s (is_of t n) list ∙ ap (filter (λ c. not (is_of t n c))) (shows.each s))
    (λ k other. counted_of-without_else s k (is_of t n) list other)
    (All-filter (λ c. not (is_by s t n c)) (λ c. c.session < 64) list shows.within)

-- An entry that is passed stays its session's, and else has what the session's own has.
passed_by-session : (c : CountedBy) (a : Bool) (position : ℕ) → (if a then record c { position = position } else c).session ≡ c.session
passed_by-session c true position = refl
passed_by-session c false position = refl

passed_by-own : (c : CountedBy) (a b : Bool) (position : ℕ) → a ≡ b
    → counted_from (if a then record c { position = position } else c) ≡ (if b then record { tag = c.tag; mode = c.mode; position = position } else counted_from c)
passed_by-own c true true position e = refl
passed_by-own c false false position e = refl
passed_by-own c true false position e = absurd (false≢true (sym e))
passed_by-own c false true position e = absurd (false≢true e)

counted-passed : (list : List CountedBy) (counted : ℕ → List Counted) (s o : ℕ) (t : Tag) (n : Mode) → ShowsCounted list counted
    → ShowsCounted (map (passed_by s o t n) list) (set_at counted s (passing (counted s) t n o))
counted-passed list counted s o t n shows =
    counted-changed list (map (passed_by s o t n) list) counted s (passing (counted s) t n o) shows
    (counted_of-map s (passed_by s o t n) (passed t n o) list whose
    (λ c its. passed_by-own c (is_by_at s o t n c) (is_of t n (counted_from c) && nat_eq c.position o) (o + 1)
    (ap (λ b. b && (is_of t n (counted_from c) && nat_eq c.position o)) (eq-eqb c.session s its)))
    ∙ ap (map (passed t n o)) (shows.each s))
    (λ k other.
    counted_of-map k (passed_by s o t n) (λ c. c) list whose
    (λ c its. passed_by-own c (is_by_at s o t n c) false (o + 1)
    (ap (λ b. b && (is_of t n (counted_from c) && nat_eq c.position o)) (ne_eqb c.session s (λ e. other (sym its ∙ e)))))
    ∙ map-id (counted_of k list))
    (λ k d below. at k d below) where
      whose : (c : CountedBy) → (passed_by s o t n c).session ≡ c.session
      whose c = passed_by-session c (is_by_at s o t n c) (o + 1)

      at : All (λ c. c.session < 64) (map (passed_by s o t n) list)
      at = All-map (λ c. c.session < 64) (passed_by s o t n) list (λ k d below. subst (λ i. i < 64) (sym (whose (get_or list k d))) (shows.within k d below))

-- No slot shows a mode from 4 on.
weak_only : (database : ℕ) (slot : ℕ → ℕ) (t : Tag) (n : Mode) → nat_le (number_of n) 3 ≡ false → slot_holds database slot t n ≡ false
weak_only database slot (Relation own relation) n strong =
    and_left (is_eligible_for database (Relation own relation) n) _ (and_right (nat_eq own database) _ (and_right (not (nat_eq own 0)) (nat_le (number_of n) 3) strong))
weak_only database slot (Object sub_object own class object) n strong = refl
weak_only database slot (Advisory sub own key1 key2) n strong = refl

nothing_listed : {X : Type 0} (xs : List X) → length xs ≡ 0 → xs ≡ []
nothing_listed [] none = refl
nothing_listed (x ∷ xs) none = absurd (omega (arith, none))

module _ (m : Machine) (w : World) (safe : SafeWorld w) (shows : Shows m w) where
  -- What the machine finds in its list is what the session has counted.
  is_counted_from : (s : ℕ) (t : Tag) (n : Mode) → list_any (is_by s t n) m.counted.items ≡ is_counted (w.sessions.counted s) t n
  is_counted_from s t n = any-of_session s (is_of t n) m.counted.items ∙ ap (λ list. is_counted list t n) (shows.counted.each s)

  pub is_at_from : (s position : ℕ) (t : Tag) (n : Mode) → list_any (is_by_at s position t n) m.counted.items ≡ is_at position (w.sessions.counted s) t n
  is_at_from s position t n =
      any-of_session s (λ (c : Counted). is_of t n c && nat_eq c.position position) m.counted.items ∙ ap (λ list. is_at position list t n) (shows.counted.each s)

  how_many_from : (s : ℕ) → count_by (λ c. c.session == s) m.counted.items ≡ length (w.sessions.counted s)
  how_many_from s = sym (length-of_session s m.counted.items) ∙ ap length (shows.counted.each s)

  pub nothing_from : (s : ℕ) → (count_by (λ c. c.session == s) m.counted.items == 0) ≡ true → w.sessions.counted s ≡ []
  nothing_from s none = nothing_listed (w.sessions.counted s) (sym (how_many_from s) ∙ eqb-true _ 0 none)

  pub nothing_needs : (s : ℕ) → w.sessions.counted s ≡ [] → (count_by (λ c. c.session == s) m.counted.items == 0) ≡ true
  nothing_needs s none = eq-eqb _ 0 (how_many_from s ∙ ap length none)

  -- Counting.
  may_count_from : (s : ℕ) (t : Tag) (n : Mode) → may_count m s t n ≡ true → MayCount w s t n
  may_count_from s t n may =
      let all = and_parts ((makes_steps m s && is_strong_on t n) && not (list_any (is_by s t n) m.counted.items)) (nat_lt (count_by (λ c. c.session == s) m.counted.items) most_counted) may in
      let most = and_parts (makes_steps m s && is_strong_on t n) (not (list_any (is_by s t n) m.counted.items)) all.0 in
      let first = and_parts (makes_steps m s) (is_strong_on t n) most.0 in
      record {
        steps = steps_from m w safe shows s first.0;
        strong = first.1;
        new = sym (is_counted_from s t n) ∙ not-true _ most.1;
        few = subst (λ k. k < most_counted) (how_many_from s) (ltb-true _ most_counted all.1);
      }

  count_needs : (s : ℕ) (t : Tag) (n : Mode) → MayCount w s t n → may_count m s t n ≡ true
  count_needs s t n may =
      and_from _ _
      (and_from _ _ (and_from _ _ (steps_kept m w safe shows s may.steps) may.strong) (not_from_false _ (is_counted_from s t n ∙ may.new)))
      (lt-ltb _ most_counted (subst (λ k. k < most_counted) (sym (how_many_from s)) may.few))

  pub was_counted : (s : ℕ) (t : Tag) (n : Mode) (after : Machine) → may_count m s t n ≡ true → s < 64
      → after.counted.items ≡ m.counted.items ++ record { session = s; tag = t; mode = n; position = 0 } ∷ []
      → (v : World) × Next w (record { session = s; step = Count t n }) v × Shows (record m { counted = after.counted }) v
  was_counted s t n after may below is = (
    after_counting w s t n,
    inl (may_count_from s t n may, refl),
    fast_path_shown shows (after_counting w s t n)
        (counters_apart m.words w.words _ shows.words)
        shows.locks
        shows.fast_path
        (subst (λ list. ShowsCounted list (set_at w.sessions.counted s (counting (w.sessions.counted s) t n))) (sym is) (counted-push m.counted.items w.sessions.counted s t n shows.counted below)),
  )

  pub not_counted : (s : ℕ) (t : Tag) (n : Mode) → may_count m s t n ≡ false → (v : World) × Next w (record { session = s; step = Count t n }) v × Shows m v
  not_counted s t n may_not = skipped m w safe shows s (Count t n) (λ lawful. both_ways (may_count m s t n) may_not (count_needs s t n lawful.1.0))

  -- Counting no more.
  has_not_from : (s : ℕ) (t : Tag) (n : Mode) → has_or_awaits m s t n ≡ false → (w.sessions.own s t n ≡ false) × (is_for (w.sessions.awaited s) t n ≡ false)
  has_not_from s t n not_so =
      let both = or_parts (awaits (get_or m.waits.awaited s None) t n || (contents_in m.contents.parts.items (partition_of t)).holds s t n) (slots_hold m s t n) not_so in
      let table = or_parts (awaits (get_or m.waits.awaited s None) t n) ((contents_in m.contents.parts.items (partition_of t)).holds s t n) both.0 in (
        own_nowhere m w safe shows s t n (sym (ap (λ (c : Content). c.holds s t n) (content_from m w safe shows t)) ∙ table.1) both.1,
        sym (awaits_from m w safe shows s t n) ∙ table.0,
      )

  has_not_kept : (s : ℕ) (t : Tag) (n : Mode) → w.sessions.own s t n ≡ false → is_for (w.sessions.awaited s) t n ≡ false → has_or_awaits m s t n ≡ false
  has_not_kept s t n own awaited =
      let not_awaited : awaits (get_or m.waits.awaited s None) t n ≡ false = awaits_from m w safe shows s t n ∙ awaited in
      or_from (awaits (get_or m.waits.awaited s None) t n || (contents_in m.contents.parts.items (partition_of t)).holds s t n) (slots_hold m s t n)
      (or_from (awaits (get_or m.waits.awaited s None) t n) ((contents_in m.contents.parts.items (partition_of t)).holds s t n) not_awaited
      (ap (λ (c : Content). c.holds s t n) (content_from m w safe shows t) ∙ false_from_ne_true _ (λ there. both_ways (w.sessions.own s t n) own (own_in_content m w safe shows s t n there not_awaited))))
      (or_parts (slots_hold m s t n) _ (sym (own_from m w safe shows s t n) ∙ own)).0

  may_uncount_from : (s : ℕ) (t : Tag) (n : Mode) → may_uncount m s t n ≡ true → MayUncount w s t n
  may_uncount_from s t n may =
      let all = and_parts (makes_steps m s && list_any (is_by s t n) m.counted.items) (not (has_or_awaits m s t n)) may in
      let first = and_parts (makes_steps m s) (list_any (is_by s t n) m.counted.items) all.0 in
      let not_so = has_not_from s t n (not-true _ all.1) in
      record {
        steps = steps_from m w safe shows s first.0;
        is = sym (is_counted_from s t n) ∙ first.1;
        not_own = not_so.0;
        not_awaited = not_so.1;
      }

  uncount_needs : (s : ℕ) (t : Tag) (n : Mode) → MayUncount w s t n → may_uncount m s t n ≡ true
  uncount_needs s t n may =
      and_from _ _ (and_from _ _ (steps_kept m w safe shows s may.steps) (is_counted_from s t n ∙ may.is)) (not_from_false _ (has_not_kept s t n may.not_own may.not_awaited))

  pub was_uncounted : (s : ℕ) (t : Tag) (n : Mode) (after : Machine) → may_uncount m s t n ≡ true → after.counted.items ≡ filter (λ c. not (is_by s t n c)) m.counted.items
      → (v : World) × Next w (record { session = s; step = Uncount t n }) v × Shows (record m { counted = after.counted }) v
  was_uncounted s t n after may is = (
    after_uncounting w s t n,
    inl (may_uncount_from s t n may, refl),
    fast_path_shown shows (after_uncounting w s t n)
        (counters_apart m.words w.words _ shows.words)
        shows.locks
        shows.fast_path
        (subst (λ list. ShowsCounted list (set_at w.sessions.counted s (uncounting (w.sessions.counted s) t n))) (sym is) (counted-without m.counted.items w.sessions.counted s t n shows.counted)),
  )

  pub not_uncounted : (s : ℕ) (t : Tag) (n : Mode) → may_uncount m s t n ≡ false → (v : World) × Next w (record { session = s; step = Uncount t n }) v × Shows m v
  not_uncounted s t n may_not = skipped m w safe shows s (Uncount t n) (λ lawful. both_ways (may_uncount m s t n) may_not (uncount_needs s t n lawful.1.0))

  -- Going past a session.
  no_slot_from : (o : ℕ) (t : Tag) → slots_show m o t ≡ false → (its : Mode) → slot_holds (w.words.database o) (w.words.slot o) t its ≡ false
  no_slot_from o t none = at where
    both : ((slots_hold m o t AccessShare || slots_hold m o t RowShare) ≡ false) × (slots_hold m o t RowExclusive ≡ false)
    both = or_parts (slots_hold m o t AccessShare || slots_hold m o t RowShare) (slots_hold m o t RowExclusive) none

    two : (slots_hold m o t AccessShare ≡ false) × (slots_hold m o t RowShare ≡ false)
    two = or_parts (slots_hold m o t AccessShare) (slots_hold m o t RowShare) both.0

    at : (its : Mode) → slot_holds (w.words.database o) (w.words.slot o) t its ≡ false
    at AccessShare = sym (slots_from m w safe shows o t AccessShare) ∙ two.0
    at RowShare = sym (slots_from m w safe shows o t RowShare) ∙ two.1
    at RowExclusive = sym (slots_from m w safe shows o t RowExclusive) ∙ both.1
    at ShareUpdateExclusive = weak_only (w.words.database o) (w.words.slot o) t ShareUpdateExclusive refl
    at Share = weak_only (w.words.database o) (w.words.slot o) t Share refl
    at ShareRowExclusive = weak_only (w.words.database o) (w.words.slot o) t ShareRowExclusive refl
    at Exclusive = weak_only (w.words.database o) (w.words.slot o) t Exclusive refl
    at AccessExclusive = weak_only (w.words.database o) (w.words.slot o) t AccessExclusive refl

  may_pass_from : (s o : ℕ) (t : Tag) (n : Mode) → may_pass m s o t n ≡ true → o < 64 → MayPass w s o t n
  may_pass_from s o t n may exists =
      let all = and_parts ((makes_steps m s && holds_fast m s o) && list_any (is_by_at s o t n) m.counted.items) (not (slots_show m o t)) may in
      let most = and_parts (makes_steps m s && holds_fast m s o) (list_any (is_by_at s o t n) m.counted.items) all.0 in
      let first = and_parts (makes_steps m s) (holds_fast m s o) most.0 in
      record {
        steps = steps_from m w safe shows s first.0;
        holding = sym (shows.locks.fast_holders.mark s o) ∙ first.1;
        exists = subst (λ n. o < n) (sym shows.numbers.limit) exists;
        next = sym (is_at_from s o t n) ∙ most.1;
        no_slot = no_slot_from o t (not-true _ all.1);
      }

  pass_needs : (s o : ℕ) (t : Tag) (n : Mode) → MayPass w s o t n → may_pass m s o t n ≡ true
  pass_needs s o t n may =
      and_from _ _
      (and_from _ _ (and_from _ _ (steps_kept m w safe shows s may.steps) (shows.locks.fast_holders.mark s o ∙ may.holding)) (is_at_from s o t n ∙ may.next))
      (not_from_false _ (or_from _ _ (or_from _ _ (none AccessShare) (none RowShare)) (none RowExclusive))) where
        none : (its : Mode) → slots_hold m o t its ≡ false
        none its = slots_from m w safe shows o t its ∙ may.no_slot its

  -- A counter read as 0 before is forgotten with its own lock.
  zeros_put : (s o : ℕ) (own : Bool) → s < 64
      → ShowsFastPath (record (m.fast_path) { zeros = if own then set m.fast_path.zeros s None else m.fast_path.zeros }) w.words.database w.words.slot
      (if own then set_at w.sessions.zero s None else w.sessions.zero)
  zeros_put s o true below = zero-set m.fast_path w.words.database w.words.slot w.sessions.zero s None shows.fast_path below
  zeros_put s o false below = shows.fast_path

  pub has_passed : (s o : ℕ) (t : Tag) (n : Mode) (after : Machine) → may_pass m s o t n ≡ true → s < 64 → o < 64 → after.counted.items ≡ map (passed_by s o t n) m.counted.items
      → (v : World) × Next w (record { session = s; step = PutPassing o t n }) v
      × Shows
      (record m {
        words = record (m.words) { fast = set m.words.fast o (put_in lw_mode.Exclusive (get_or m.words.fast o opening_state)) };
        locks = record (m.locks) { fast_holders = set m.locks.fast_holders o (set (get_or m.locks.fast_holders o []) s false) };
        fast_path = record (m.fast_path) { zeros = if nat_eq o s then set m.fast_path.zeros s None else m.fast_path.zeros };
        counted = after.counted;
      }) v
  has_passed s o t n after may below exists is = (
    after_passing w s o t n,
    inl (may_pass_from s o t n may exists, refl),
    fast_path_shown shows (after_passing w s o t n)
        (fast_word-set m.words w.words o _ _ shows.words exists (put_fast_shown m w safe shows s o _ _ (shows.words.fast o) (may_pass_from s o t n may exists).holding refl))
        (record {
          fast_holders = marks-set m.locks.fast_holders 64 w.sessions.holds_fast s o false shows.locks.fast_holders below exists;
          fast_sharers = shows.locks.fast_sharers;
          partition_sharers = shows.locks.partition_sharers;
        })
        (zeros_put s o (nat_eq o s) below)
        (subst (λ list. ShowsCounted list (set_at w.sessions.counted s (passing (w.sessions.counted s) t n o))) (sym is) (counted-passed m.counted.items w.sessions.counted s o t n shows.counted)),
  )

  pub not_passed : (s o : ℕ) (t : Tag) (n : Mode) → may_pass m s o t n ≡ false → (v : World) × Next w (record { session = s; step = PutPassing o t n }) v × Shows m v
  not_passed s o t n may_not = skipped m w safe shows s (PutPassing o t n) (λ lawful. both_ways (may_pass m s o t n) may_not (pass_needs s o t n lawful.1.0))

  -- Loading a counter.
  may_load_from : (s index shown : ℕ) → may_load_counter m s index shown ≡ true → MayLoad w s (Strong index) shown
  may_load_from s index shown may =
      let all = and_parts (makes_steps m s && nat_lt index 1024) (nat_eq shown (counter m index)) may in
      let first = and_parts (makes_steps m s) (nat_lt index 1024) all.0 in
      record {
        steps = steps_from m w safe shows s first.0;
        exists = ltb-true index 1024 first.1;
        is_shown = eqb-true shown (counter m index) all.1 ∙ counter_shown m w safe shows index;
      }

  load_needs : (s index shown : ℕ) → MayLoad w s (Strong index) shown → may_load_counter m s index shown ≡ true
  load_needs s index shown may =
      and_from _ _ (and_from _ _ (steps_kept m w safe shows s may.steps) (lt-ltb index 1024 may.exists)) (eq-eqb shown (counter m index) (may.is_shown ∙ sym (counter_shown m w safe shows index)))

  loaded : (s index shown : ℕ) (path : FastPath) → may_load_counter m s index shown ≡ true
      → ShowsFastPath path w.words.database w.words.slot (zero_after_reading w.sessions.zero w.sessions.holds_fast s index shown)
      → (v : World) × Next w (record { session = s; step = LoadStrong index shown }) v × Shows (record m { fast_path = path }) v
  loaded s index shown path may is = (
    after_reading_counter w s index shown,
    inl (may_load_from s index shown may, refl),
    fast_path_shown shows (after_reading_counter w s index shown) shows.words shows.locks is shows.counted,
  )

  reads_zero_from : (s shown : ℕ) → (nat_eq shown 0 && holds_fast m s s) ≡ (nat_eq shown 0 && w.sessions.holds_fast s s)
  reads_zero_from s shown = ap (λ b. nat_eq shown 0 && b) (shows.locks.fast_holders.mark s s)

  pub has_read_zero : (s index shown : ℕ) → reads_zero m s index shown ≡ true → s < 64
      → (v : World) × Next w (record { session = s; step = LoadStrong index shown }) v
      × Shows (record m { fast_path = record (m.fast_path) { zeros = set m.fast_path.zeros s (Some index) } }) v
  has_read_zero s index shown reads below =
      let all = and_parts (may_load_counter m s index shown && nat_eq shown 0) (holds_fast m s s) reads in
      let first = and_parts (may_load_counter m s index shown) (nat_eq shown 0) all.0 in
      loaded s index shown (record (m.fast_path) { zeros = set m.fast_path.zeros s (Some index) }) first.0
      (subst (ShowsFastPath (record (m.fast_path) { zeros = set m.fast_path.zeros s (Some index) }) w.words.database w.words.slot)
      (sym (cond-true _ (set_at w.sessions.zero s (Some index)) w.sessions.zero (sym (reads_zero_from s shown) ∙ and_from _ _ first.1 all.1)))
      (zero-set m.fast_path w.words.database w.words.slot w.sessions.zero s (Some index) shows.fast_path below))

  pub has_read_else : (s index shown : ℕ) → reads_zero m s index shown ≡ false → (v : World) × Next w (record { session = s; step = LoadStrong index shown }) v × Shows m v
  has_read_else s index shown reads_not =
      elim (cases_Bool (may_load_counter m s index shown)) [
        | inr may_not ↦ skipped m w safe shows s (LoadStrong index shown) (λ lawful. both_ways (may_load_counter m s index shown) may_not (load_needs s index shown lawful.1.0))
        | inl may ↦
            loaded s index shown m.fast_path may
            (subst (ShowsFastPath m.fast_path w.words.database w.words.slot)
            (sym (cond-false _ (set_at w.sessions.zero s (Some index)) w.sessions.zero (sym (reads_zero_from s shown) ∙ false_from_ne_true _ (λ both.
            let parts = and_parts (nat_eq shown 0) (holds_fast m s s) both in
            both_ways (reads_zero m s index shown) reads_not (and_from _ _ (and_from _ _ may parts.0) parts.1)))))
            shows.fast_path)
      ]

  -- A strong mode that is granted or queued is counted, and past each session.
  pub counted_for_from : (s : ℕ) (t : Tag) (n : Mode) → counted_for m s t n ≡ true
      → is_strong_on t n ≡ true → is_done w.numbers.limit (w.sessions.counted s) t n ≡ true
  counted_for_from s t n for strong =
      ap (λ limit. is_at limit (w.sessions.counted s) t n) shows.numbers.limit
      ∙ sym (is_at_from s 64 t n)
      ∙ sym (ap (λ b. not b || list_any (is_by_at s 64 t n) m.counted.items) strong) ∙ for

  pub counted_for_needs : (s : ℕ) (t : Tag) (n : Mode) → (is_strong_on t n ≡ true → is_done w.numbers.limit (w.sessions.counted s) t n ≡ true)
      → counted_for m s t n ≡ true
  counted_for_needs s t n done =
      elim (cases_Bool (is_strong_on t n)) [
        | inl strong ↦
            ap (λ b. not b || list_any (is_by_at s 64 t n) m.counted.items) strong
            ∙ is_at_from s 64 t n ∙ sym (ap (λ limit. is_at limit (w.sessions.counted s) t n) shows.numbers.limit) ∙ done strong
        | inr weak ↦ ap (λ b. not b || list_any (is_by_at s 64 t n) m.counted.items) weak
      ]
