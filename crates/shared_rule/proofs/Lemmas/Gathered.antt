use Rattle.std.proofs.Common.{◌≡◌, ◌≢◌, ◌⊎◌, ℕ, zero, suc, ◌+◌, ◌<◌, ◌≤◌, ◌^◌, Bool, true, false, not, ◌&&◌, List, [], ◌∷◌, length, Option, Some, None, refl, sym, ap, ◌∙◌, subst, inl, inr, arith}
use Rattle.std.specs.Prelude.{◌==◌, slice_get, sum_by}
use Rattle.std.proofs.lemmas.Bool.{cases_Bool, cases_eq, both_ways, cond-true, cond-false, eq-eqb, ne_eqb, and_right}
use Rattle.std.proofs.lemmas.List.Sums.{sum_by-cons}
use mathlib.Core.Option.{some}
use lib.ListN.{get_elem?}
use Rattle.modes_core.specs.declared.modes.Mode.{Mode}
use Rattle.modes_core.specs.declared.tags.Tag.{Tag}
use Rattle.modes_core.specs.declared.tags.Tag.TheVariants.{Relation}
use Rattle.modes_core.specs.Tag.{partition_of}
use Rattle.lw_word.specs.SlotWord.{shows}
use Rattle.lock_table.specs.Put.{set_at}
use Rattle.lock_table.specs.Content.{Content}
use Rattle.lock_table.specs.Total.{total, how_many}
use Rattle.lock_table.proofs.Lemmas.Put.{set_at-here, set_at-else}
use Rattle.lock_table.proofs.Lemmas.Totals.{total-same, total-nothing, total-change, one_less, some_pass}
use Rattle.lock_world.specs.declared.events.Event.{Event}
use Rattle.lock_world.specs.World.{World, Hand, opening}
use Rattle.lock_world.specs.Happens.{Runs}
use Rattle.lock_world.specs.SlotHolds.{slot_count}
use Rattle.lock_world.specs.SafeWorld.{SafeWorld}
use Rattle.lock_world.specs.Account.{Account, InHand, account, own_hand}
use Rattle.lock_world.specs.Counted.{count_at, counter}
use Rattle.lock_world.specs.Tallies.{left_in_slots, OwnStand, ShowsLeft}
use Rattle.lock_world.proofs.Lemmas.Remembered.{nothing-remembered, remembered-once, groups-of_run}
use Rattle.lock_world.proofs.Lemmas.OwnStand.{own-stand, shows-left, spent-shows_nothing, spent-in_no_content}
use Rattle.shared_rule.specs.declared.rule.TableSizes.{TableSizes}
use Rattle.shared_rule.specs.declared.history.History.{History}
use Rattle.shared_rule.specs.declared.history.View.{View}
use Rattle.shared_rule.specs.History.{blank_account, told}
use Rattle.shared_rule.specs.Ruled.{HistoryIsShown, SeatsAreShown, OpenerHasClosed}
use Rattle.shared_rule.specs.Gatherings.{Gathered, account_among, IsNone, AreDistinct, NoneWaits, counted_at, HasAllInHand, AreAll, gathered_in}

-- What a seat knows at which all sessions are.

-- ---- lists

-- An account that is not among them has nothing in it.
pub among-none : (gathered : List Gathered) (k : ℕ) → IsNone k gathered → account_among gathered k ≡ blank_account
among-none [] k none = refl
among-none (one ∷ others) k none =
    cond-false (one.number == k) one.account (account_among others k) (ne_eqb one.number k none.0) ∙ among-none others k none.1

-- What all have is what they have one by one, where one with nothing in it has none.
pub sum-among : (value : Account → ℕ) → value blank_account ≡ 0 → (limit : ℕ) (gathered : List Gathered) → AreDistinct limit gathered
    → total limit (λ k. value (account_among gathered k)) ≡ sum_by (λ one. value one.account) gathered
sum-among value none limit [] distinct = total-nothing limit (λ k. value blank_account) (λ k below. none)
sum-among value none limit (one ∷ others) distinct =
    let rest = sum-among value none limit others distinct.2 in
    let f : ℕ → ℕ = λ k. value (account_among others k) in
    let with_one : total limit (λ k. value (account_among (one ∷ others) k)) ≡ total limit (set_at f one.number (value one.account)) =
    total-same limit _ _ (λ k below.
    elim (cases_eq k one.number) [
      | inl same ↦
          ap value (cond-true (one.number == k) one.account (account_among others k) (eq-eqb one.number k (sym same)))
          ∙ sym (set_at-here f one.number (value one.account) k same)
      | inr other ↦
          ap value (cond-false (one.number == k) one.account (account_among others k) (ne_eqb one.number k (λ e. other (sym e))))
          ∙ sym (set_at-else f one.number (value one.account) k other)
    ]) in
    let change = total-change limit f one.number (value one.account) distinct.0 in
    let zeroth : f one.number ≡ 0 = ap value (among-none others one.number distinct.1) ∙ none in
    let whole = sum_by-cons (λ (g : Gathered). value g.account) one others in
    omega (arith, rest, with_one, change, zeroth, whole)

module _ {T : Type 0} (content : T → Content) where
  -- A session stands at a place there, or is none of them.
  pub record StandsAmong (sessions : List (History T)) (k : ℕ) : Type 0 where
    pub place : ℕ
    pub history : History T
    pub there : slice_get sessions place ≡ Some history
    pub number : history.number ≡ k
    pub account : account_among (gathered_in content sessions) k ≡ told content history.number history.marks

  pub find-among : (sessions : List (History T)) (k : ℕ) → StandsAmong sessions k ⊎ IsNone k (gathered_in content sessions)
  find-among [] k = inr tt
  find-among (h ∷ hs) k =
      elim (cases_eq h.number k) [
        | inl same ↦ inl (record {
          place = 0;
          history = h;
          there = refl;
          number = same;
          account = cond-true (h.number == k) (told content h.number h.marks) (account_among (gathered_in content hs) k) (eq-eqb h.number k same);
        })
        | inr other ↦ elim (find-among hs k) [
          | inl found ↦ inl (record {
            place = suc found.place;
            history = found.history;
            there = found.there;
            number = found.number;
            account = cond-false (h.number == k) (told content h.number h.marks) (account_among (gathered_in content hs) k) (ne_eqb h.number k other) ∙ found.account;
          })
          | inr none ↦ inr (other, none)
        ]
      ]

  -- No number is at two places, where places tell who is there.
  pub not-among : (sessions : List (History T)) (k : ℕ) → ((j : ℕ) (h : History T) → slice_get sessions j ≡ Some h → h.number ≢ k) → IsNone k (gathered_in content sessions)
  not-among [] k each = tt
  not-among (h ∷ hs) k each = (each 0 h refl, not-among hs k (λ j g get. each (suc j) g get))

  distinct-placed : (limit from : ℕ) (place_in : ℕ → ℕ) (sessions : List (History T))
      → ((j : ℕ) (h : History T) → slice_get sessions j ≡ Some h → (place_in h.number ≡ from + j) × (h.number < limit)) → AreDistinct limit (gathered_in content sessions)
  distinct-placed limit from place_in [] placed = tt
  distinct-placed limit from place_in (h ∷ hs) placed = (
    (placed 0 h refl).1,
    not-among hs h.number (λ j g get same.
        let first : place_in h.number ≡ from + 0 = (placed 0 h refl).0 in
        let other : place_in g.number ≡ from + suc j = (placed (suc j) g get).0 in
        let one : place_in g.number ≡ place_in h.number = ap place_in same in
        omega (arith, first, other, one)),
    distinct-placed limit (from + 1) place_in hs (λ j g get.
        let old = placed (suc j) g get in
        let place : place_in g.number ≡ from + suc j = old.0 in (omega (arith, place), old.1)),
  )

-- the test without those
without : (ℕ → Bool) → List Gathered → ℕ → Bool
without test [] = test
without test (one ∷ others) = set_at (without test others) one.number false

without-else : (test : ℕ → Bool) (gathered : List Gathered) (k : ℕ) → IsNone k gathered → without test gathered k ≡ test k
unfolding without
without-else test [] k none = refl
without-else test (one ∷ others) k none =
    set_at-else (without test others) one.number false k (λ e. none.0 (sym e)) ∙ without-else test others k none.1

-- All of them pass.
abbrev pub AllPass : (ℕ → Bool) → List Gathered → Type 0
AllPass test [] = Unit {0}
AllPass test (one ∷ others) = (test one.number ≡ true) × AllPass test others

without-fewer : (limit : ℕ) (test : ℕ → Bool) (gathered : List Gathered) → AreDistinct limit gathered → AllPass test gathered
    → how_many limit (without test gathered) + length gathered ≡ how_many limit test
unfolding without
without-fewer limit test [] distinct pass = omega arith
without-fewer limit test (one ∷ others) distinct pass =
    let rest = without-fewer limit test others distinct.2 pass.1 in
    let less = one_less limit (without test others) one.number distinct.0 (without-else test others one.number distinct.1 ∙ pass.0) in
    omega (arith, rest, less)

-- As many distinct ones as pass are all that do.
pub none-else : (limit : ℕ) (test : ℕ → Bool) (gathered : List Gathered) → AreDistinct limit gathered → AllPass test gathered → how_many limit test ≡ length gathered
    → (k : ℕ) → k < limit → test k ≡ true → IsNone k gathered → ⊥
none-else limit test gathered distinct pass all k below passes none =
    let fewer = without-fewer limit test gathered distinct pass in
    let some = some_pass limit (without test gathered) k below (without-else test gathered k none ∙ passes) in
    omega (arith, fewer, some, all)

-- ---- a seat at which all are

-- The hand as its session knows it is what is there now.
hand-now : (hand : Option Hand) (now : Content) (k : ℕ) (mine : InHand) → own_hand hand now k ≡ Some mine → mine.now ≡ now
hand-now None now k mine has = absurd (cc (has))
hand-now (Some h) now k mine has =
    elim (cases_Bool (h.holder == k)) [
      | inl own ↦
          let it : InHand = record { taken = h.taken; now = now; recorded = h.recorded; unmarked = h.unmarked } in
          let same : Some it ≡ Some mine = sym (cond-true (h.holder == k) (Some it) None own) ∙ has in
          let is : it ≡ mine = cc (same) in
          ap (λ (m : InHand). m.now) (sym is)
      | inr other ↦
          let it : InHand = record { taken = h.taken; now = now; recorded = h.recorded; unmarked = h.unmarked } in
          let never : None ≡ Some mine = sym (cond-false (h.holder == k) (Some it) None other) ∙ has in
          absurd (cc (never))
    ]

-- One with nothing in it, and contents that have nothing of it.
blank-stands : (groups k : ℕ) (contents : ℕ → Content) → ((t : Tag) (m : Mode) → (contents (partition_of t)).holds k t m ≡ false) → OwnStand groups k blank_account contents
blank-stands groups k contents none = record {
  one_each = (nothing-remembered groups).0;
  in_groups = (nothing-remembered groups).1;
  in_slots = λ t m is. absurd (cc (is));
  in_contents = λ t m has. absurd (both_ways ((contents (partition_of t)).holds k t m) (none t m) has);
}

-- What is said of contents is said of others that are the same.
stands-as : (groups k : ℕ) (a : Account) (contents others : ℕ → Content) → ((t : Tag) → contents (partition_of t) ≡ others (partition_of t)) → OwnStand groups k a contents → OwnStand groups k a others
stands-as groups k a contents others same stand = record {
  one_each = stand.one_each;
  in_groups = stand.in_groups;
  in_slots = λ t m is. stand.in_slots t m (ap (λ (c : Content). a.own t m && not (c.holds k t m)) (same t) ∙ is);
  in_contents = λ t m has. stand.in_contents t m (ap (λ (c : Content). c.holds k t m) (same t) ∙ has);
}

module _ {T : Type 0} (content : T → Content) (w : World) (sizes : TableSizes) (events : List Event) (few : sizes.sessions < 2 ^ 24) (run : Runs (opening sizes.sessions sizes.groups) events w) (safe : SafeWorld w) (views : List (View T)) (id issued : ℕ) (view : View T)
    (at : get_elem? views id ≡ some view) (seats : SeatsAreShown content views w) (closed : OpenerHasClosed views w.numbers) (are : AreAll issued view) where
  abbrev gathered : List Gathered
  gathered = gathered_in content view.sessions

  is_issued : issued ≡ w.numbers.issued
  is_issued = (seats.next id view issued at are.next).1

  shown : (j : ℕ) (h : History T) → slice_get view.sessions j ≡ Some h → HistoryIsShown content w seats.seat_of seats.place_in id j view.sessions h
  shown j h get = seats.history id j view h at get

  pub distinct : AreDistinct issued gathered
  distinct = distinct-placed content issued 0 seats.place_in view.sessions (λ j h get.
      let place : seats.place_in h.number ≡ j = (shown j h get).place in
      let young : h.number < w.numbers.issued = safe.but_slots.table.carriers.numbers.live_is_issued h.number (shown j h get).live in
      let same : issued ≡ w.numbers.issued = is_issued in
      (omega (arith, place), omega (arith, young, same)))

  all-live : (sessions : List (History T)) → ((j : ℕ) (h : History T) → slice_get sessions j ≡ Some h → w.numbers.live h.number ≡ true) → AllPass w.numbers.live (gathered_in content sessions)
  all-live [] each = tt
  all-live (h ∷ hs) each = (each 0 h refl, all-live hs (λ j g get. each (suc j) g get))

  as_many : (sessions : List (History T)) → length (gathered_in content sessions) ≡ length sessions
  as_many [] = refl
  as_many (h ∷ hs) = ap suc (as_many hs)

  -- Whoever is live is there, with its account,
  pub live-among : (k : ℕ) → w.numbers.live k ≡ true → account_among gathered k ≡ account w k
  live-among k alive =
      elim (find-among content view.sessions k) [
        | inl found ↦ found.account ∙ (shown found.place found.history found.there).account ∙ ap (account w) found.number
        | inr none ↦
            let counted = (closed id view issued at are.next).all in
            let all = are.all in
            let same : issued ≡ w.numbers.issued = is_issued in
            let here = as_many view.sessions in
            let young : k < w.numbers.issued = safe.but_slots.table.carriers.numbers.live_is_issued k alive in
            let as_live : how_many w.numbers.issued w.numbers.live ≡ length gathered = omega (arith, counted, all, same, here) in
            absurd (none-else w.numbers.issued w.numbers.live gathered (subst (λ n. AreDistinct n gathered) same distinct)
            (all-live view.sessions (λ j h get. (shown j h get).live)) as_live k young alive none)
      ]

  -- and whoever isn't is not.
  pub spent-among : (k : ℕ) → w.numbers.live k ≡ false → account_among gathered k ≡ blank_account
  spent-among k dead =
      elim (find-among content view.sessions k) [
        | inl found ↦ absurd (both_ways (w.numbers.live k) dead (ap w.numbers.live (sym found.number) ∙ (shown found.place found.history found.there).live))
        | inr none ↦ among-none gathered k none
      ]

  -- The first one's hands are the World's contents.
  contents-now : (first : History T) → slice_get view.sessions 0 ≡ Some first → (contents : ℕ → Content) → HasAllInHand (told content first.number first.marks) contents
      → (t : Tag) → w.contents.now (partition_of t) ≡ contents (partition_of t)
  contents-now first get contents has t =
      let mine = has (partition_of t) (omega arith) in
      let known : own_hand (w.contents.hand (partition_of t)) (w.contents.now (partition_of t)) first.number ≡ Some mine.0 =
      ap (λ (a : Account). a.hand (partition_of t)) (sym (shown 0 first get).account) ∙ mine.1 in
      sym (hand-now (w.contents.hand (partition_of t)) (w.contents.now (partition_of t)) first.number mine.0 known) ∙ mine.2

  no-wait : (sessions : List (History T)) → NoneWaits (gathered_in content sessions) → (j : ℕ) (h : History T) → slice_get sessions j ≡ Some h
      → (told content h.number h.marks).awaited ≡ None
  no-wait [] none j h get = absurd (cc (get))
  no-wait (g ∷ gs) none zero h get = let same : g ≡ h = cc (get) in ap (λ (x : History T). (told content x.number x.marks).awaited) (sym same) ∙ none.0
  no-wait (g ∷ gs) none (suc j) h get = no-wait gs none.1 j h get

  waits-for_nothing : NoneWaits gathered → (k : ℕ) → w.numbers.live k ≡ true → w.sessions.awaited k ≡ None
  waits-for_nothing none k alive =
      elim (find-among content view.sessions k) [
        | inl found ↦
            ap w.sessions.awaited (sym found.number) ∙ ap (λ (a : Account). a.awaited) (sym (shown found.place found.history found.there).account)
            ∙ no-wait view.sessions none found.place found.history found.there
        | inr not_there ↦
            ap (λ (a : Account). a.awaited) (sym (live-among k alive)) ∙ ap (λ (a : Account). a.awaited) (among-none gathered k not_there)
      ]

  -- Where each one's own holds stand,
  pub stands-among : (first : History T) → slice_get view.sessions 0 ≡ Some first → (contents : ℕ → Content) → NoneWaits gathered → HasAllInHand (told content first.number first.marks) contents
      → (k : ℕ) → OwnStand sizes.groups k (account_among gathered k) contents
  stands-among first get contents none has k =
      stands-as sizes.groups k (account_among gathered k) w.contents.now contents (contents-now first get contents has)
      (elim (cases_Bool (w.numbers.live k)) [
        | inl alive ↦
            let remembered = remembered-once sizes.sessions sizes.groups events w few run k in
            subst (λ a. OwnStand sizes.groups k a w.contents.now) (sym (live-among k alive))
            (subst (λ n. OwnStand n k (account w k) w.contents.now) (groups-of_run sizes.sessions sizes.groups events w run)
            (own-stand w safe k remembered.0 remembered.1 (waits-for_nothing none k alive)))
        | inr dead ↦ subst (λ a. OwnStand sizes.groups k a w.contents.now) (sym (spent-among k dead)) (blank-stands sizes.groups k w.contents.now (spent-in_no_content w safe k dead))
      ])

  -- and what the words of their slots show.
  pub slots-among : (first : History T) → slice_get view.sessions 0 ≡ Some first → (contents : ℕ → Content) → HasAllInHand (told content first.number first.marks) contents
      → (k slot : ℕ) → slot < slot_count → ShowsLeft k (account_among gathered k) contents slot (w.words.slot k slot)
  slots-among first get contents has k slot within relation mode =
      elim (cases_Bool (w.numbers.live k)) [
        | inl alive ↦
            subst (λ (a : Account). shows (w.words.slot k slot) relation mode ≡ (shows (a.fast.remembered slot) relation mode && left_in_slots a.own contents k (tag a) mode))
            (sym (live-among k alive))
            (shows-left w safe k (remembered-once sizes.sessions sizes.groups events w few run k).0 slot within relation mode
            ∙ ap (λ (c : Content). shows (w.sessions.remembered k slot) relation mode && (w.sessions.own k (tag (account w k)) mode && not (c.holds k (tag (account w k)) mode)))
            (contents-now first get contents has (tag (account w k))))
        | inr dead ↦
            spent-shows_nothing w safe k dead slot relation mode within
            ∙ sym (ap (λ (a : Account). shows (a.fast.remembered slot) relation mode && left_in_slots a.own contents k (tag a) mode) (spent-among k dead)
            ∙ and_right (shows 0 relation mode) false refl)
      ] where
        tag : Account → Tag
        tag a = Relation a.fast.database relation

  -- Each counter shows what they have counted.
  pub counters-among : (index : ℕ) → w.words.strong index ≡ counted_at index gathered
  counters-among index =
      let each : counter w.numbers.limit w.sessions.counted index ≡ total w.numbers.limit (λ k. count_at index (account_among gathered k).fast.counted) =
      total-same w.numbers.limit _ _ (λ k below. ap (count_at index)
      (elim (cases_Bool (w.numbers.live k)) [
        | inl alive ↦ ap (λ (a : Account). a.fast.counted) (sym (live-among k alive))
        | inr dead ↦ safe.order.no_count k dead ∙ ap (λ (a : Account). a.fast.counted) (sym (spent-among k dead))
      ])) in
      safe.counters.shown index ∙ each
      ∙ sum-among (λ (a : Account). count_at index a.fast.counted) refl w.numbers.limit gathered (more gathered distinct) where
        more : (some : List Gathered) → AreDistinct issued some → AreDistinct w.numbers.limit some
        more [] are_distinct = tt
        more (one ∷ others) are_distinct =
            let young : one.number < issued = are_distinct.0 in
            let same : issued ≡ w.numbers.issued = is_issued in
            let within : w.numbers.issued ≤ w.numbers.limit = safe.but_slots.table.carriers.numbers.within in
            (omega (arith, young, same, within), are_distinct.1, more others are_distinct.2)
