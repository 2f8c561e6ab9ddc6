use Rattle.std.proofs.Common.{◌≡◌, ◌≢◌, ℕ, ◌<◌, true, false, not, ◌&&◌, List, [], ◌∷◌, ◌++◌, get_or, nat_eq, Some, None, refl, sym, ap, ◌∙◌, subst, inl, inr}
use Rattle.std.specs.Prelude.{filter}
use Rattle.std.specs.List.{list_any}
use Rattle.std.proofs.Math.ListN.{set}
use Rattle.std.proofs.lemmas.Bool.{cases_Bool, both_ways, and_parts, and_from, cond-true, cond-false, eqb-true, eq-eqb, false_from_ne_true}
use Rattle.std.proofs.lemmas.Option.{same_Some, none-some}
use Rattle.lw_word.specs.declared.words.LwMode.{LwMode}
use Rattle.lw_word.specs.declared.wait_lists.LwWaiter.{LwWaiter}
use Rattle.lw_word.specs.WaitList.{stands_in}
use Rattle.lock_world.specs.declared.events.Step.TheVariants.{JoinList, LeaveList, TakeOff, Tell, LoadSleep}
use Rattle.lock_world.specs.World.{World}
use Rattle.lock_world.specs.World as world
use Rattle.lock_world.specs.WaitLists.{Sleepers, after_joining, after_leaving_list, after_taking_off, after_telling, after_seeing_none}
use Rattle.lock_world.specs.Happens.{Next}
use Rattle.lock_world.specs.Happens.Lists.{sleepers, with_sleepers, HasList, after_joining_list, after_leaving_the_list, after_taking_off_the_list, MayTell, after_telling_one, MayLoadSleep, after_loading_sleep}
use Rattle.lock_world.specs.SafeWorld.{SafeWorld}
use Rattle.lock_model.specs.declared.machine.state.Words.{Words}
use Rattle.lock_model.specs.declared.machine.state.Lists.{Lists}
use Rattle.lock_model.specs.declared.machine.state.Machine.{Machine}
use Rattle.lock_model.specs.Shows.{Shows, ShowsWords, ShowsLists, makes_steps}
use Rattle.lock_model.specs.SleeperLists.{is_at, list_to_change, waits_at, may_tell, may_load_sleep, sees_no_sleep}
use Rattle.lock_model.proofs.Lemmas.SleeperLists.{stands_in-waiters}
use Rattle.lock_model.proofs.Lemmas.Shows.Lists.{stands-set, sleep-stands-set, sleep-off-set, list-joined, list-left}
use Rattle.lock_model.proofs.Lemmas.Shows.Looks.{steps_from, steps_kept}
use Rattle.lock_model.proofs.Lemmas.Follows.Skipped.{skipped}
use Rattle.lock_model.proofs.Lemmas.Shows.Kept.{lists_shown}

-- The machine's steps on wait lists and sleep words.

-- The words that the machine keeps don't say who waits and who sleeps.
sleepers_apart : (shown : Words) (words : world.Words) (list : ℕ → List LwWaiter) (sleep : ℕ → ℕ) → ShowsWords shown words
    → ShowsWords shown (record words { list = list; sleep = sleep })
sleepers_apart shown words list sleep shows = record {
  sixty_four_fast = shows.sixty_four_fast;
  all_waits = shows.all_waits;
  partition = shows.partition;
  fast = shows.fast;
  wait = shows.wait;
}

module _ (m : Machine) (w : World) (safe : SafeWorld w) (shows : Shows m w) where
  -- Other lists and sleep words, with all else as it was.
  with_others : (l : Lists) (s : Sleepers) → ShowsLists l s.sleep s.list w.sessions.has_list s.stands s.off → Shows (record m { lists = l }) (with_sleepers w s)
  with_others l s shows_lists = lists_shown shows (with_sleepers w s) (sleepers_apart m.words w.words s.list s.sleep shows.words) shows_lists

  -- The list in hand, and who waits in it.
  list_from : (s l : ℕ) → list_to_change m s ≡ Some l → HasList w s l
  list_from s l its = elim (cases_Bool (makes_steps m s)) [
    | inl steps ↦ record {
      steps = steps_from m w safe shows s steps;
      in_hand = sym (shows.lists.has_list s) ∙ sym (cond-true (makes_steps m s) (get_or m.lists.has_list s None) None steps) ∙ its;
    }
    | inr none ↦ absurd (none-some l (sym (cond-false (makes_steps m s) (get_or m.lists.has_list s None) None none) ∙ its))
  ]

  list_needs : (s l : ℕ) → HasList w s l → list_to_change m s ≡ Some l
  list_needs s l has =
      cond-true (makes_steps m s) (get_or m.lists.has_list s None) None (steps_kept m w safe shows s has.steps) ∙ shows.lists.has_list s ∙ has.in_hand

  -- No other list is in hand.
  same_list : (s l k : ℕ) → list_to_change m s ≡ Some l → HasList w s k → k ≡ l
  same_list s l k its has = same_Some k l (sym (list_needs s k has) ∙ its)

  no_list : (s k : ℕ) → list_to_change m s ≡ None → HasList w s k → ⊥
  no_list s k none has = none-some k (sym none ∙ list_needs s k has)

  stands_from : (l s : ℕ) → list_any (is_at l s) m.lists.sleepers.items ≡ stands_in s (w.words.list l)
  stands_from l s = stands_in-waiters l s m.lists.sleepers.items ∙ ap (stands_in s) (shows.lists.list l)

  waits_from : (l s : ℕ) → waits_at m l s ≡ true → (stands_in s (w.words.list l) ≡ true) × (w.words.sleep s ≡ 1)
  waits_from l s waits =
      let both = and_parts (list_any (is_at l s) m.lists.sleepers.items) (nat_eq (get_or m.lists.sleep s 0) 1) waits in
      (sym (stands_from l s) ∙ both.0, sym (shows.lists.sleep s) ∙ eqb-true (get_or m.lists.sleep s 0) 1 both.1)

  waits_needs : (l s : ℕ) → stands_in s (w.words.list l) ≡ true → w.words.sleep s ≡ 1 → waits_at m l s ≡ true
  waits_needs l s stands waits = and_from _ _ (stands_from l s ∙ stands) (eq-eqb (get_or m.lists.sleep s 0) 1 (shows.lists.sleep s ∙ waits))

  -- Joining a list.
  pub has_joined : (s l : ℕ) (n : LwMode) (after : Lists) → list_to_change m s ≡ Some l → get_or m.lists.sleep s 0 ≡ 0 → s < 64
      → after.sleepers.items ≡ m.lists.sleepers.items ++ record { lock = l; waiter = record { session = s; mode = n } } ∷ []
      → (v : World) × Next w (record { session = s; step = JoinList n }) v
      × Shows (record m { lists = record (m.lists) { sleep = set m.lists.sleep s 1; sleepers = after.sleepers; stands = set m.lists.stands s (Some l) } }) v
  has_joined s l n after its idle below is = (
    after_joining_list w s l n,
    inl (l, record { has = list_from s l its; idle = sym (shows.lists.sleep s) ∙ idle }, refl),
    with_others (record (m.lists) { sleep = set m.lists.sleep s 1; sleepers = after.sleepers; stands = set m.lists.stands s (Some l) })
        (after_joining (sleepers w) l (record { session = s; mode = n }))
        (sleep-stands-set (record (m.lists) { sleepers = after.sleepers }) w.words.sleep (after_joining (sleepers w) l (record { session = s; mode = n })).list
        w.sessions.has_list w.sessions.stands w.sessions.off
        (list-joined m.lists w.words.sleep w.words.list w.sessions.has_list w.sessions.stands w.sessions.off shows.lists after l (record { session = s; mode = n }) is)
        s 1 (Some l) below),
  )

  pub not_joined : (s : ℕ) (n : LwMode) → list_to_change m s ≡ None → (v : World) × Next w (record { session = s; step = JoinList n }) v × Shows m v
  not_joined s n none = skipped m w safe shows s (JoinList n) (λ lawful. no_list s lawful.1.0 none lawful.1.1.has)

  pub joined_not_idle : (s : ℕ) (n : LwMode) → get_or m.lists.sleep s 0 ≢ 0 → (v : World) × Next w (record { session = s; step = JoinList n }) v × Shows m v
  joined_not_idle s n busy = skipped m w safe shows s (JoinList n) (λ lawful. busy (shows.lists.sleep s ∙ lawful.1.1.idle))

  -- Leaving it.
  pub has_left : (s l : ℕ) (after : Lists) → list_to_change m s ≡ Some l → waits_at m l s ≡ true → s < 64
      → after.sleepers.items ≡ filter (λ e. not (is_at l s e)) m.lists.sleepers.items
      → (v : World) × Next w (record { session = s; step = LeaveList }) v
      × Shows (record m { lists = record (m.lists) { sleep = set m.lists.sleep s 0; sleepers = after.sleepers; stands = set m.lists.stands s None } }) v
  has_left s l after its waits below is = (
    after_leaving_the_list w s l,
    inl (l, record { has = list_from s l its; stands = (waits_from l s waits).0; waits = (waits_from l s waits).1 }, refl),
    with_others (record (m.lists) { sleep = set m.lists.sleep s 0; sleepers = after.sleepers; stands = set m.lists.stands s None })
        (after_leaving_list (sleepers w) l s)
        (sleep-stands-set (record (m.lists) { sleepers = after.sleepers }) w.words.sleep (after_leaving_list (sleepers w) l s).list
        w.sessions.has_list w.sessions.stands w.sessions.off
        (list-left m.lists w.words.sleep w.words.list w.sessions.has_list w.sessions.stands w.sessions.off shows.lists after l s is)
        s 0 None below),
  )

  pub not_left : (s : ℕ) → list_to_change m s ≡ None → (v : World) × Next w (record { session = s; step = LeaveList }) v × Shows m v
  not_left s none = skipped m w safe shows s LeaveList (λ lawful. no_list s lawful.1.0 none lawful.1.1.has)

  pub left_not_waiting : (s l : ℕ) → list_to_change m s ≡ Some l → waits_at m l s ≡ false → (v : World) × Next w (record { session = s; step = LeaveList }) v × Shows m v
  left_not_waiting s l its none = skipped m w safe shows s LeaveList (λ lawful.
      let same : lawful.1.0 ≡ l = same_list s l lawful.1.0 its lawful.1.1.has in
      both_ways (waits_at m l s) none (ap (λ k. waits_at m k s) (sym same) ∙ waits_needs lawful.1.0 s lawful.1.1.stands lawful.1.1.waits))

  -- Taking another one off it.
  pub was_taken_off : (s o l : ℕ) (after : Lists) → o ≢ s → list_to_change m s ≡ Some l → waits_at m l o ≡ true → s < 64 → o < 64
      → after.sleepers.items ≡ filter (λ e. not (is_at l o e)) m.lists.sleepers.items
      → (v : World) × Next w (record { session = s; step = TakeOff o }) v
      × Shows (record m {
        lists = record (m.lists) {
          sleep = set m.lists.sleep o 2;
          sleepers = after.sleepers;
          off = set m.lists.off s (set (get_or m.lists.off s []) o true);
        };
      }) v
  was_taken_off s o l after apart its waits below exists is = (
    after_taking_off_the_list w s o l,
    inl (l, record { another = apart; has = list_from s l its; stands = (waits_from l o waits).0; waits = (waits_from l o waits).1 }, refl),
    with_others (record (m.lists) { sleep = set m.lists.sleep o 2; sleepers = after.sleepers; off = set m.lists.off s (set (get_or m.lists.off s []) o true) })
        (after_taking_off (sleepers w) l s o)
        (sleep-off-set (record (m.lists) { sleepers = after.sleepers }) w.words.sleep (after_taking_off (sleepers w) l s o).list
        w.sessions.has_list w.sessions.stands w.sessions.off
        (list-left m.lists w.words.sleep w.words.list w.sessions.has_list w.sessions.stands w.sessions.off shows.lists after l o is)
        s o 2 true below exists),
  )

  pub not_another : (s o : ℕ) → o ≡ s → (v : World) × Next w (record { session = s; step = TakeOff o }) v × Shows m v
  not_another s o same = skipped m w safe shows s (TakeOff o) (λ lawful. lawful.1.1.another same)

  pub not_taken_off : (s o : ℕ) → list_to_change m s ≡ None → (v : World) × Next w (record { session = s; step = TakeOff o }) v × Shows m v
  not_taken_off s o none = skipped m w safe shows s (TakeOff o) (λ lawful. no_list s lawful.1.0 none lawful.1.1.has)

  pub taken_off_not_waiting : (s o l : ℕ) → list_to_change m s ≡ Some l → waits_at m l o ≡ false → (v : World) × Next w (record { session = s; step = TakeOff o }) v × Shows m v
  taken_off_not_waiting s o l its none = skipped m w safe shows s (TakeOff o) (λ lawful.
      let same : lawful.1.0 ≡ l = same_list s l lawful.1.0 its lawful.1.1.has in
      both_ways (waits_at m l o) none (ap (λ k. waits_at m k o) (sym same) ∙ waits_needs lawful.1.0 o lawful.1.1.stands lawful.1.1.waits))

  -- Telling it.
  may_tell_from : (s o : ℕ) → may_tell m s o ≡ true → MayTell w s o
  may_tell_from s o may =
      let all = and_parts (makes_steps m s && get_or (get_or m.lists.off s []) o false) (nat_eq (get_or m.lists.sleep o 0) 2) may in
      let first = and_parts (makes_steps m s) (get_or (get_or m.lists.off s []) o false) all.0 in
      record {
        steps = steps_from m w safe shows s first.0;
        taken_off = sym (shows.lists.off s o) ∙ first.1;
        untold = sym (shows.lists.sleep o) ∙ eqb-true (get_or m.lists.sleep o 0) 2 all.1;
      }

  tell_needs : (s o : ℕ) → MayTell w s o → may_tell m s o ≡ true
  tell_needs s o may =
      and_from _ _ (and_from _ _ (steps_kept m w safe shows s may.steps) (shows.lists.off s o ∙ may.taken_off))
      (eq-eqb (get_or m.lists.sleep o 0) 2 (shows.lists.sleep o ∙ may.untold))

  pub was_told : (s o : ℕ) → may_tell m s o ≡ true → s < 64 → o < 64
      → (v : World) × Next w (record { session = s; step = Tell o }) v
      × Shows (record m { lists = record (m.lists) { sleep = set m.lists.sleep o 0; off = set m.lists.off s (set (get_or m.lists.off s []) o false) } }) v
  was_told s o may below exists = (
    after_telling_one w s o,
    inl (may_tell_from s o may, refl),
    with_others (record (m.lists) { sleep = set m.lists.sleep o 0; off = set m.lists.off s (set (get_or m.lists.off s []) o false) }) (after_telling (sleepers w) s o)
        (sleep-off-set m.lists w.words.sleep w.words.list w.sessions.has_list w.sessions.stands w.sessions.off shows.lists s o 0 false below exists),
  )

  pub not_told : (s o : ℕ) → may_tell m s o ≡ false → (v : World) × Next w (record { session = s; step = Tell o }) v × Shows m v
  not_told s o may_not = skipped m w safe shows s (Tell o) (λ lawful. both_ways (may_tell m s o) may_not (tell_needs s o lawful.1.0))

  -- Loading one's own sleep word.
  may_load_from : (s n : ℕ) → may_load_sleep m s n ≡ true → MayLoadSleep w s n
  may_load_from s n may =
      let both = and_parts (makes_steps m s) (nat_eq n (get_or m.lists.sleep s 0)) may in
      record { steps = steps_from m w safe shows s both.0; is_word = eqb-true n (get_or m.lists.sleep s 0) both.1 ∙ shows.lists.sleep s }

  load_needs : (s n : ℕ) → MayLoadSleep w s n → may_load_sleep m s n ≡ true
  load_needs s n may = and_from _ _ (steps_kept m w safe shows s may.steps) (eq-eqb n (get_or m.lists.sleep s 0) (may.is_word ∙ sym (shows.lists.sleep s)))

  pub has_seen_none : (s n : ℕ) → sees_no_sleep m s n ≡ true → s < 64
      → (v : World) × Next w (record { session = s; step = LoadSleep n }) v × Shows (record m { lists = record (m.lists) { stands = set m.lists.stands s None } }) v
  has_seen_none s n sees below =
      let both = and_parts (may_load_sleep m s n) (nat_eq n 0) sees in (
        after_loading_sleep w s n,
        inl (may_load_from s n both.0, refl),
        subst (λ x. Shows (record m { lists = record (m.lists) { stands = set m.lists.stands s None } }) (with_sleepers w x))
            (sym (cond-true (nat_eq n 0) (after_seeing_none (sleepers w) s) (sleepers w) both.1))
            (with_others (record (m.lists) { stands = set m.lists.stands s None }) (after_seeing_none (sleepers w) s)
            (stands-set m.lists w.words.sleep w.words.list w.sessions.has_list w.sessions.stands w.sessions.off shows.lists s None below)),
      )

  pub has_seen_else : (s n : ℕ) → sees_no_sleep m s n ≡ false → (v : World) × Next w (record { session = s; step = LoadSleep n }) v × Shows m v
  has_seen_else s n sees_not =
      elim (cases_Bool (may_load_sleep m s n)) [
        | inr may_not ↦ skipped m w safe shows s (LoadSleep n) (λ lawful. both_ways (may_load_sleep m s n) may_not (load_needs s n lawful.1.0))
        | inl may ↦ (
          after_loading_sleep w s n,
          inl (may_load_from s n may, refl),
          subst (λ x. Shows m (with_sleepers w x))
              (sym (cond-false (nat_eq n 0) (after_seeing_none (sleepers w) s) (sleepers w) (false_from_ne_true (nat_eq n 0) (λ zero.
              both_ways (sees_no_sleep m s n) sees_not (and_from _ _ may zero)))))
              (with_others m.lists (sleepers w) shows.lists),
        )
      ]
