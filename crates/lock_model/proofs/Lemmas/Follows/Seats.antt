use Rattle.std.proofs.Common.{◌≡◌, ◌≢◌, ℕ, ◌+◌, ◌<◌, Bool, true, false, ◌||◌, List, [], length, get_or, Option, Some, None, is_none, refl, sym, ap, ◌∙◌, subst, inl, inr}
use Rattle.std.specs.Prelude.{◌==◌, count_by, replicate}
use Rattle.std.specs.List.{list_any}
use Rattle.std.proofs.Math.ListN.{set}
use Rattle.std.proofs.lemmas.Bool.{cases_Bool, both_ways, false≢true, or_parts, and_parts, and_from, eq-eqb, eqb-true, false_from_ne_true}
use Rattle.std.proofs.lemmas.List.Folds.{list_any_at}
use Rattle.modes_core.specs.declared.modes.Mode.{Mode}
use Rattle.modes_core.specs.declared.tags.Tag.{Tag}
use Rattle.modes_core.specs.Tag.{partition_of}
use Rattle.lock_world.specs.declared.events.Step.TheVariants.{SplitSeat, JoinSeat}
use Rattle.lock_model.specs.declared.machine.state.Machine.{Machine}
use Rattle.lock_table.specs.declared.request.Request.{Request}
use Rattle.lock_table.specs.Parts.{no_part, part_at}
use Rattle.lock_table.specs.PartView.{PartView, holds_in}
use Rattle.lock_table.specs.Request.{is_request_of}
use Rattle.lock_world.specs.World.{World}
use Rattle.lock_world.specs.Happens.{Next}
use Rattle.lock_world.specs.Happens.Seats.{MayBeIssued, after_issuing, after_going_on, MayBeKeptApart, after_keeping_apart, MayClose, after_closing}
use Rattle.lock_world.specs.SafeWorld.{SafeWorld}
use Rattle.lock_table.specs.OwnWait.{is_for}
use Rattle.lw_word.specs.SlotWord.{in_use}
use Rattle.lock_model.specs.SlotLooks.{slots_at}
use Rattle.lock_model.proofs.Lemmas.Shows.SlotLooks.{no_slot_hold}
use Rattle.lock_model.specs.Shows.{Shows, is_number, is_holder, has_a_mark, has_no_list, owes_a_telling, makes_steps, awaits}
use Rattle.lock_model.proofs.Lemmas.Shows.Locks.{no_mark, some_mark}
use Rattle.lock_model.proofs.Lemmas.Shows.Lists.{off-emptied}
use Rattle.lock_table.specs.Put.{set_at}
use Rattle.lock_table.proofs.Lemmas.Put.{written-at}
use Rattle.lock_table.proofs.Lemmas.Lists.{any_found, any_weaker, found_within}
use Rattle.lock_table.proofs.Lemmas.Same.{same_triple-refl}
use Rattle.lock_model.proofs.Lemmas.Follows.Counters.{nothing_from}
use Rattle.lock_model.proofs.Lemmas.Shows.Looks.{hand_kept, kept_hand, steps_from, own_nowhere, own_in_content, content_from, awaits_from, no_wait_from}

-- The events on session numbers, as the machine makes them, and what its tests of them say of the World.

pub number_of_some : (o : Option ℕ) (s : ℕ) → is_number s o ≡ true → o ≡ Some s
number_of_some None s e = absurd (false≢true e)
number_of_some (Some k) s e = ap Some (eqb-true k s e)

pub none_is : (o : Option ℕ) → is_none o ≡ true → o ≡ None
none_is None e = refl
none_is (Some k) e = absurd (false≢true e)

pub some_of_number : (o : Option ℕ) (s : ℕ) → o ≡ Some s → is_number s o ≡ true
some_of_number o s e = ap (is_number s) e ∙ eq-eqb s s refl

-- whether a part has a hold of the session
abbrev has_hold_of : ℕ → PartView → Bool
has_hold_of s part = list_any (λ hold. hold.session == s) part.holds

-- A hold of a list is a hold of its session there.
session_of_hold : (xs : List Request) (s : ℕ) (t : Tag) (n : Mode) → holds_in xs s t n ≡ true → list_any (λ hold. hold.session == s) xs ≡ true
session_of_hold xs s t n has =
    any_weaker (λ hold. is_request_of hold s t n) (λ hold. hold.session == s) xs (λ hold e. eq-eqb hold.session s (sym (eqb-true s hold.session (and_parts _ _ e).0))) has

-- Who has a hold in a list holds something there.
hold_of_session : (xs : List Request) (s : ℕ) → list_any (λ hold. hold.session == s) xs ≡ true → (t : Tag) × (n : Mode) × (holds_in xs s t n ≡ true)
hold_of_session xs s any =
    let found = any_found (λ hold. hold.session == s) xs any in
    let h : Request = found.1 in
    let its : is_request_of h s h.tag h.mode ≡ true = ap (λ k. is_request_of h k h.tag h.mode) (sym (eqb-true h.session s found.4)) ∙ same_triple-refl h.session h.tag h.mode in (
      h.tag,
      h.mode,
      found_at (λ hold. is_request_of hold s h.tag h.mode) found.0 found.2 (ap (λ hold. is_request_of hold s h.tag h.mode) (found.3 h) ∙ its),
    ) where
      found_at : (p : Request → Bool) (i : ℕ) → i < length xs → p (get_or xs i (any_found (λ hold. hold.session == s) xs any).1) ≡ true → list_any p xs ≡ true
      found_at p i within e = list_any_at p xs i _ within e

module _ (m : Machine) (w : World) (safe : SafeWorld w) (shows : Shows m w) where
  pub was_issued : (s : ℕ) → s ≡ m.numbers.issued → s < 64 → s < length m.numbers.live
      → (v : World) × Next w (record { session = s; step = SplitSeat }) v × Shows (record m { numbers = record (m.numbers) { issued = m.numbers.issued + 1; live = set m.numbers.live s true } }) v
  was_issued s next below in_live =
      let may : MayBeIssued w s = record { next = next ∙ shows.numbers.issued; within = subst (λ n. s < n) (sym shows.numbers.limit) below } in (
        after_issuing w s,
        inl (inl (may, refl)),
        record {
          numbers = record {
            limit = shows.numbers.limit;
            groups = shows.numbers.groups;
            some_groups = shows.numbers.some_groups;
            issued = ap (λ n. n + 1) (sym next);
            live = λ j. written-at (λ own its. own ≡ its) m.numbers.live s true false w.numbers.live true in_live refl j (shows.numbers.live j);
            kept_by = shows.numbers.kept_by;
          };
          words = shows.words;
          fast_path = shows.fast_path;
          counted = shows.counted;
          lists = shows.lists;
          locks = shows.locks;
          contents = shows.contents;
          waits = shows.waits;
        },
      )

  -- By whom a session is kept apart is written.
  kept_by_shown : (s : ℕ) (its : Option ℕ) → s < length m.numbers.kept_by
      → Shows (record m { numbers = record (m.numbers) { kept_by = set m.numbers.kept_by s its } }) (record w { numbers = record (w.numbers) { kept_by = set_at w.numbers.kept_by s its } })
  kept_by_shown s its in_kept_by = record {
    numbers = record {
      limit = shows.numbers.limit;
      groups = shows.numbers.groups;
      some_groups = shows.numbers.some_groups;
      issued = shows.numbers.issued;
      live = shows.numbers.live;
      kept_by = λ j. written-at (λ own other. own ≡ other) m.numbers.kept_by s its None w.numbers.kept_by its in_kept_by refl j (shows.numbers.kept_by j);
    };
    words = shows.words;
    fast_path = shows.fast_path;
    counted = shows.counted;
    lists = shows.lists;
    locks = shows.locks;
    contents = shows.contents;
    waits = shows.waits;
  }

  pub went_on : (s joiner : ℕ) → get_or m.numbers.kept_by s None ≡ Some joiner → s < length m.numbers.kept_by
      → (v : World) × Next w (record { session = s; step = SplitSeat }) v × Shows (record m { numbers = record (m.numbers) { kept_by = set m.numbers.kept_by s None } }) v
  went_on s joiner kept in_kept_by = (
    after_going_on w s,
    inl (inr ((joiner, sym (shows.numbers.kept_by s) ∙ kept), refl)),
    kept_by_shown s None in_kept_by,
  )

  pub no_word : (s : ℕ) → list_any (is_holder s) m.contents.hands ≡ false → (p : ℕ) → w.sessions.holds_partition s p ≡ false
  no_word s none p =
      false_from_ne_true _ (λ held. both_ways (list_any (is_holder s) m.contents.hands) none
      (found_within (is_holder s) m.contents.hands p None refl
      (hand_kept (get_or m.contents.hands p None) (w.contents.hand p) s (shows.contents.hand p) (sym (safe.but_slots.table.carriers.hands p s) ∙ held)).0))

  pub some_word : (s : ℕ) → list_any (is_holder s) m.contents.hands ≡ true → ((p : ℕ) → w.sessions.holds_partition s p ≡ false) → ⊥
  some_word s any none =
      let found = any_found (is_holder s) m.contents.hands any in
      let its : is_holder s (get_or m.contents.hands found.0 None) ≡ true = ap (is_holder s) (found.3 None) ∙ found.4 in
      both_ways (w.sessions.holds_partition s found.0) (none found.0)
      (safe.but_slots.table.carriers.hands found.0 s ∙ kept_hand (get_or m.contents.hands found.0 None) (w.contents.hand found.0) s (shows.contents.hand found.0) its)

  no_fast_word : (s : ℕ) → has_a_mark s m.locks.fast_holders ≡ false → (o : ℕ) → w.sessions.holds_fast s o ≡ false
  no_fast_word s none o = no_mark m.locks.fast_holders 64 w.sessions.holds_fast s shows.locks.fast_holders none o

  pub some_fast_word : (s : ℕ) → has_a_mark s m.locks.fast_holders ≡ true → ((o : ℕ) → w.sessions.holds_fast s o ≡ false) → ⊥
  some_fast_word s any none = some_mark m.locks.fast_holders 64 w.sessions.holds_fast s shows.locks.fast_holders any none

  pub some_shared_word : (s : ℕ) → (has_a_mark s m.locks.fast_sharers || has_a_mark s m.locks.partition_sharers) ≡ true
      → ((p : ℕ) → w.sessions.shares_partition s p ≡ false) → ((o : ℕ) → w.sessions.shares_fast s o ≡ false) → ⊥
  some_shared_word s any none none_fast =
      elim (cases_Bool (has_a_mark s m.locks.fast_sharers)) [
        | inl some ↦ some_mark m.locks.fast_sharers 64 w.sessions.shares_fast s shows.locks.fast_sharers some none_fast
        | inr no_fast ↦ some_mark m.locks.partition_sharers 16 w.sessions.shares_partition s shows.locks.partition_sharers (ap (λ b. b || has_a_mark s m.locks.partition_sharers) (sym no_fast) ∙ any) none
      ]

  pub no_hold : (s : ℕ) → list_any (has_hold_of s) m.contents.parts.items ≡ false → list_any in_use (slots_at m s) ≡ false → (t : Tag) (n : Mode) → w.sessions.own s t n ≡ false
  no_hold s none none_used t n = own_nowhere m w safe shows s t n absent (no_slot_hold m w safe shows s none_used t n) where
    absent : (w.contents.now (partition_of t)).holds s t n ≡ false
    absent = false_from_ne_true _ (λ there.
        let listed : holds_in (part_at m.contents.parts.items (partition_of t)).holds s t n ≡ true = ap (λ c. c.holds s t n) (content_from m w safe shows t) ∙ there in
        both_ways (list_any (has_hold_of s) m.contents.parts.items) none
        (found_within (has_hold_of s) m.contents.parts.items (partition_of t) no_part refl (session_of_hold _ s t n listed)))

  pub some_hold : (s : ℕ) → list_any (has_hold_of s) m.contents.parts.items ≡ true → w.sessions.awaited s ≡ None → ((t : Tag) (n : Mode) → w.sessions.own s t n ≡ false) → ⊥
  some_hold s any no_wait none =
      let found = any_found (has_hold_of s) m.contents.parts.items any in
      let p : ℕ = found.0 in
      let hold = hold_of_session (part_at m.contents.parts.items p).holds s (ap (has_hold_of s) (found.3 no_part) ∙ found.4) in
      let t : Tag = hold.0 in
      let n : Mode = hold.1 in
      let there : (w.contents.now p).holds s t n ≡ true = sym (ap (λ c. c.holds s t n) (shows.contents.now p (subst (λ k. p < k) shows.contents.sixteen found.2))) ∙ hold.2 in
      let home : partition_of t ≡ p = safe.but_slots.table.promise.one_place.no_hold_elsewhere p s t n there in
      let not_awaited : awaits (get_or m.waits.awaited s None) t n ≡ false = awaits_from m w safe shows s t n ∙ ap (λ o. is_for o t n) no_wait in
      both_ways (w.sessions.own s t n) (none t n)
      (own_in_content m w safe shows s t n (ap (λ q. (w.contents.now q).holds s t n) home ∙ there) not_awaited)

  pub keeps_nobody : (s : ℕ) → list_any (is_number s) m.numbers.kept_by ≡ false → (k : ℕ) → w.numbers.kept_by k ≢ Some s
  keeps_nobody s none k kept =
      both_ways (list_any (is_number s) m.numbers.kept_by) none (found_within (is_number s) m.numbers.kept_by k None refl (some_of_number _ s (shows.numbers.kept_by k ∙ kept)))

  pub keeps_somebody : (s : ℕ) → list_any (is_number s) m.numbers.kept_by ≡ true → ((k : ℕ) → w.numbers.kept_by k ≢ Some s) → ⊥
  keeps_somebody s any nobody =
      let found = any_found (is_number s) m.numbers.kept_by any in
      nobody found.0 (sym (shows.numbers.kept_by found.0) ∙ number_of_some (get_or m.numbers.kept_by found.0 None) s (ap (is_number s) (found.3 None) ∙ found.4))

  pub was_kept_apart : (s joiner : ℕ) → makes_steps m s ≡ true → joiner ≢ s → makes_steps m joiner ≡ true → list_any (is_holder s) m.contents.hands ≡ false → has_a_mark s m.locks.fast_holders ≡ false
      → (has_a_mark s m.locks.fast_sharers || has_a_mark s m.locks.partition_sharers) ≡ false → s < length m.numbers.kept_by
      → (v : World) × Next w (record { session = s; step = JoinSeat (Some joiner) }) v × Shows (record m { numbers = record (m.numbers) { kept_by = set m.numbers.kept_by s (Some joiner) } }) v
  was_kept_apart s joiner steps another joiner_steps no_hand no_fast no_shared in_kept_by =
      let shares_none = or_parts (has_a_mark s m.locks.fast_sharers) (has_a_mark s m.locks.partition_sharers) no_shared in
      let may : MayBeKeptApart w s joiner = record {
        steps = steps_from m w safe shows s steps;
        another = another;
        joiner_steps = steps_from m w safe shows joiner joiner_steps;
        no_word = no_word s no_hand;
        no_fast_word = no_fast_word s no_fast;
        no_shared_word = no_mark m.locks.partition_sharers 16 w.sessions.shares_partition s shows.locks.partition_sharers shares_none.1;
        no_shared_fast_word = no_mark m.locks.fast_sharers 64 w.sessions.shares_fast s shows.locks.fast_sharers shares_none.0;
      } in (
        after_keeping_apart w s joiner,
        inl (may, refl),
        kept_by_shown s (Some joiner) in_kept_by,
      )

  -- Whom the session took off and hasn't woken, by the machine's marks and in the World.
  none-untold : (s : ℕ) → owes_a_telling m s ≡ false → (o : ℕ) → w.sessions.off s o ≡ false
  none-untold s none o =
      sym (shows.lists.off s o) ∙ false_from_ne_true _ (λ its.
      both_ways (owes_a_telling m s) none (found_within (λ untold. untold) (get_or m.lists.off s []) o false refl its))

  pub some_untold : (s : ℕ) → owes_a_telling m s ≡ true → ((o : ℕ) → w.sessions.off s o ≡ false) → ⊥
  some_untold s any none =
      let found = any_found (λ untold. untold) (get_or m.lists.off s []) any in
      both_ways (w.sessions.off s found.0) (none found.0) (sym (shows.lists.off s found.0) ∙ found.3 false ∙ found.4)

  pub no_list_needs : (s : ℕ) → w.sessions.has_list s ≡ None → w.sessions.stands s ≡ None → has_no_list m s ≡ true
  no_list_needs s no_list no_stand =
      and_from (is_none (get_or m.lists.has_list s None)) (is_none (get_or m.lists.stands s None))
      (ap is_none (shows.lists.has_list s ∙ no_list)) (ap is_none (shows.lists.stands s ∙ no_stand))

  pub was_closed : (s : ℕ) → makes_steps m s ≡ true → list_any (is_holder s) m.contents.hands ≡ false → has_a_mark s m.locks.fast_holders ≡ false → (has_a_mark s m.locks.fast_sharers || has_a_mark s m.locks.partition_sharers) ≡ false
      → list_any (has_hold_of s) m.contents.parts.items ≡ false → list_any in_use (slots_at m s) ≡ false → is_none (get_or m.waits.awaited s None) ≡ true → list_any (is_number s) m.numbers.kept_by ≡ false → (count_by (λ c. c.session == s) m.counted.items == 0) ≡ true → has_no_list m s ≡ true → owes_a_telling m s ≡ false → s < length m.numbers.live → s < 64
      → (v : World) × Next w (record { session = s; step = JoinSeat None }) v × Shows (record m {
        numbers = record (m.numbers) { live = set m.numbers.live s false };
        lists = record (m.lists) { off = set m.lists.off s (replicate 64 false) };
      }) v
  was_closed s steps no_hand no_fast no_shared none_held none_used no_wait keeps_none none_counted no_list told in_live below =
      let shares_none = or_parts (has_a_mark s m.locks.fast_sharers) (has_a_mark s m.locks.partition_sharers) no_shared in
      let may : MayClose w s = record {
        steps = steps_from m w safe shows s steps;
        no_word = no_word s no_hand;
        no_fast_word = no_fast_word s no_fast;
        no_shared_word = no_mark m.locks.partition_sharers 16 w.sessions.shares_partition s shows.locks.partition_sharers shares_none.1;
        no_shared_fast_word = no_mark m.locks.fast_sharers 64 w.sessions.shares_fast s shows.locks.fast_sharers shares_none.0;
        no_hold = no_hold s none_held none_used;
        no_wait = no_wait_from m w safe shows s no_wait;
        no_count = nothing_from m w safe shows s none_counted;
        no_list = sym (shows.lists.has_list s) ∙ none_is (get_or m.lists.has_list s None) (and_parts (is_none (get_or m.lists.has_list s None)) (is_none (get_or m.lists.stands s None)) no_list).0;
        no_stand = sym (shows.lists.stands s) ∙ none_is (get_or m.lists.stands s None) (and_parts (is_none (get_or m.lists.has_list s None)) (is_none (get_or m.lists.stands s None)) no_list).1;
        none_untold = none-untold s told;
        keeps_nobody = keeps_nobody s keeps_none;
      } in (
        after_closing w s,
        inl (may, refl),
        record {
          numbers = record {
            limit = shows.numbers.limit;
            groups = shows.numbers.groups;
            some_groups = shows.numbers.some_groups;
            issued = shows.numbers.issued;
            live = λ j. written-at (λ own its. own ≡ its) m.numbers.live s false false w.numbers.live false in_live refl j (shows.numbers.live j);
            kept_by = shows.numbers.kept_by;
          };
          words = shows.words;
          fast_path = shows.fast_path;
          counted = shows.counted;
          lists = off-emptied m.lists w.words.sleep w.words.list w.sessions.has_list w.sessions.stands w.sessions.off shows.lists s below;
          locks = shows.locks;
          contents = shows.contents;
          waits = shows.waits;
        },
      )
