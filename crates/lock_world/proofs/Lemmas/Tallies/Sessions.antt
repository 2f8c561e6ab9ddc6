use Rattle.std.proofs.Common.{◌≡◌, ◌⊎◌, ℕ, ◌+◌, ◌*◌, ◌<◌, ◌≤◌, Bool, true, false, not, ◌&&◌, nat_eq, ◌==◌, List, [], ◌∷◌, ◌++◌, map, refl, sym, ap, ◌∙◌, inl, inr, subst, arith}
use Rattle.std.specs.Prelude.{filter, count_by, if◌then◌else◌}
use Rattle.std.proofs.lemmas.Bool.{cases_Bool, cases_lt, false≢true, both_ways, false_from_ne_true, and_parts, and_from, cond-true, cond-false, eqb-true, eq-eqb, ne_eqb, and_right}
use Rattle.std.proofs.lemmas.List.{length-append}
use Rattle.modes_core.specs.declared.modes.Mode.{Mode}
use Rattle.modes_core.specs.declared.tags.Tag.{Tag}
use Rattle.modes_core.specs.declared.tags.Tag.TheVariants.{Relation, Object, Advisory}
use Rattle.modes_core.specs.Mode.{mode_eq}
use Rattle.modes_core.specs.Tag.{tag_eq, partition_of}
use Rattle.modes_core.proofs.Lemmas.Conflicts.{mode_eq-refl, mode_eq-same, tag_eq-refl, tag_eq-same}
use Rattle.lw_word.specs.SlotWord.{in_use, shows}
use Rattle.lock_table.specs.declared.rows.TableRow.{TableRow}
use Rattle.lock_table.specs.Content.{Content}
use Rattle.lock_table.specs.Listing.{row_eq, has_row, HasEachRow}
use Rattle.lock_table.specs.WholeContent.{whole_of}
use Rattle.lock_table.proofs.Lemmas.HoldLists.{count_by-cons}
use Rattle.lock_table.specs.Total.{total}
use Rattle.lock_world.specs.SlotHolds.{group_size, most_groups, slot_count, relation_of}
use Rattle.lock_world.specs.Account.{Account}
use Rattle.lock_world.specs.Tallies.{Held, AreSoMany, left_in_slots, OwnStand, ShowsLeft, is_this, modes_shown, shown_in_slots}
use Rattle.lock_world.proofs.Lemmas.Slots.Eligible.{eligible-is, held-is_in, shown-in_use}
use Rattle.lock_world.proofs.Lemmas.Slots.Used.{shows-used, none_past-groups}
use Rattle.lock_table.proofs.Lemmas.Totals.{total-same, total-nothing}
use Rattle.lock_world.proofs.Lemmas.Tallies.Lists.{same_truth, same-length, count_by-append, count_by-same, count_by-map_filter, length-map_filter}
use Rattle.lock_world.proofs.Lemmas.Tallies.Sums.{total-one, total-add}
use Rattle.lock_world.proofs.Lemmas.Tallies.Bits.{held_in_all, held_in_all-long, shows_tag, counted-in_all}

-- What slots show and what contents have is as much as the sessions own.

held-itself : (h : Held) → is_this h.tag h.mode h ≡ true
held-itself h = and_from (tag_eq h.tag h.tag) (mode_eq h.mode h.mode) (tag_eq-refl h.tag) (mode_eq-refl h.mode)

held-same : (h g : Held) → is_this h.tag h.mode g ≡ true → h ≡ g
held-same h g is =
    let both = and_parts (tag_eq g.tag h.tag) (mode_eq g.mode h.mode) is in
    let tag = tag_eq-same g.tag h.tag both.0 in
    let mode = mode_eq-same g.mode h.mode both.1 in
    λ i. record { tag = sym tag i; mode = sym mode i }

-- One session.
module _ (groups k : ℕ) (some : 0 < groups) (few : groups ≤ most_groups) (a : Account) (contents : ℕ → Content) (stand : OwnStand groups k a contents) (slot : ℕ → ℕ)
    (left : (place : ℕ) → place < group_size * groups → ShowsLeft k a contents place (slot place)) where
  -- how many slots there are
  abbrev count : ℕ
  count = group_size * groups

  within-places : (place : ℕ) → place < count → place < slot_count
  within-places place within = omega (arith, within, few)

  -- A mode that it remembers is in one of them.
  remembered-within : (place relation : ℕ) (mode : Mode) → place < slot_count → shows (a.fast.remembered place) relation mode ≡ true → place < count
  remembered-within place relation mode within shown =
      elim (cases_lt place count) [
        | inl there ↦ there
        | inr past ↦ absurd (both_ways (in_use (a.fast.remembered place)) (none_past-groups groups a.fast.remembered stand.in_groups some place past within) (shows-used (a.fast.remembered place) relation mode shown))
      ]

  abbrev is_left : Tag → Mode → Bool
  is_left = left_in_slots a.own contents k

  -- A word shows a mode that is left, and that the session remembers there.
  shown-is_left : (place : ℕ) (tag : Tag) (mode : Mode) → place < count → shows_tag a.fast.database (slot place) tag mode ≡ true
      → (is_left tag mode ≡ true) × (shows (a.fast.remembered place) (relation_of tag) mode ≡ true)
  shown-is_left place (Relation d r) mode within shown =
      let both = and_parts (nat_eq a.fast.database d) (shows (slot place) r mode) shown in
      let same : a.fast.database ≡ d = eqb-true a.fast.database d both.0 in
      let is = and_parts (shows (a.fast.remembered place) r mode) (is_left (Relation a.fast.database r) mode) (sym (left place within r mode) ∙ both.1) in
      (ap (λ x. is_left (Relation x r) mode) (sym same) ∙ is.1, is.0)
  shown-is_left place (Object s d c o) mode within shown = absurd (false≢true shown)
  shown-is_left place (Advisory s d k l) mode within shown = absurd (false≢true shown)

  -- What is left is shown where the session remembers it.
  left-is_shown : (place : ℕ) (tag : Tag) (mode : Mode) → place < count → tag ≡ Relation a.fast.database (relation_of tag) → is_left tag mode ≡ true
      → shows (a.fast.remembered place) (relation_of tag) mode ≡ true → shows_tag a.fast.database (slot place) tag mode ≡ true
  left-is_shown place tag mode within its is remembered =
      subst (λ t. shows_tag a.fast.database (slot place) t mode ≡ true) (sym its)
      (and_from (nat_eq a.fast.database a.fast.database) (shows (slot place) (relation_of tag) mode) (eq-eqb a.fast.database a.fast.database refl)
      (left place within (relation_of tag) mode
      ∙ and_from (shows (a.fast.remembered place) (relation_of tag) mode) (is_left (Relation a.fast.database (relation_of tag)) mode) remembered (ap (λ t. is_left t mode) (sym its) ∙ is)))

  slots-counted : (tag : Tag) (mode : Mode) → count_by (is_this tag mode) (held_in_all count a.fast.database slot) ≡ (if is_left tag mode then 1 else 0)
  slots-counted tag mode =
      counted-in_all count a.fast.database slot tag mode ∙
      elim (cases_Bool (is_left tag mode)) [
        | inl is ↦
            let found = held-is_in a.fast.database a.fast.remembered tag mode (stand.in_slots tag mode is) in
            let its = (eligible-is a.fast.database tag mode found.1.eligible).0 in
            let there = remembered-within found.0 (relation_of tag) mode found.1.within found.1.shown in
            let here = left-is_shown found.0 tag mode there its is found.1.shown in
            total-one count (λ place. if shows_tag a.fast.database (slot place) tag mode then 1 else 0) found.0 there
            (λ place within other. cond-false (shows_tag a.fast.database (slot place) tag mode) 1 0
            (false_from_ne_true (shows_tag a.fast.database (slot place) tag mode) (λ shown.
            other (stand.one_each (relation_of tag) place found.0 (within-places place within) found.1.within
            (shown-in_use (a.fast.remembered place) (relation_of tag) mode (shown-is_left place tag mode within shown).1)
            (shown-in_use (a.fast.remembered found.0) (relation_of tag) mode found.1.shown)))))
            ∙ cond-true (shows_tag a.fast.database (slot found.0) tag mode) 1 0 here ∙ sym (cond-true (is_left tag mode) 1 0 is)
        | inr none ↦
            total-nothing count (λ place. if shows_tag a.fast.database (slot place) tag mode then 1 else 0)
            (λ place within. cond-false (shows_tag a.fast.database (slot place) tag mode) 1 0
            (false_from_ne_true (shows_tag a.fast.database (slot place) tag mode) (λ shown. both_ways (is_left tag mode) none (shown-is_left place tag mode within shown).0)))
            ∙ sym (cond-false (is_left tag mode) 1 0 none)
      ]

  -- The granted rows of the session.
  abbrev is_its : TableRow → Bool
  is_its row = row.granted && (row.session == k)

  abbrev held_by : TableRow → Held
  held_by row = record { tag = row.tag; mode = row.mode }

  same-row : (tag : Tag) (mode : Mode) (row : TableRow) →
      (is_its row && is_this tag mode (held_by row)) ≡ row_eq (record { session = k; tag = tag; mode = mode; granted = true }) row
  same-row tag mode row = same_truth _ _ there back where
    there : (is_its row && is_this tag mode (held_by row)) ≡ true → row_eq (record { session = k; tag = tag; mode = mode; granted = true }) row ≡ true
    there is =
        let both = and_parts (is_its row) (is_this tag mode (held_by row)) is in
        let its = and_parts row.granted (row.session == k) both.0 in
        let this = and_parts (tag_eq row.tag tag) (mode_eq row.mode mode) both.1 in
        and_from (k == row.session) _ (eq-eqb k row.session (sym (eqb-true row.session k its.1)))
        (and_from (tag_eq tag row.tag) _ (ap (λ t. tag_eq tag t) (tag_eq-same row.tag tag this.0) ∙ tag_eq-refl tag)
        (and_from (mode_eq mode row.mode) row.granted (ap (λ m. mode_eq mode m) (mode_eq-same row.mode mode this.1) ∙ mode_eq-refl mode) its.0))

    back : row_eq (record { session = k; tag = tag; mode = mode; granted = true }) row ≡ true → (is_its row && is_this tag mode (held_by row)) ≡ true
    back is =
        let one = and_parts (k == row.session) _ is in
        let two = and_parts (tag_eq tag row.tag) _ one.1 in
        let three = and_parts (mode_eq mode row.mode) row.granted two.1 in
        and_from (is_its row) (is_this tag mode (held_by row))
        (and_from row.granted (row.session == k) three.1 (eq-eqb row.session k (sym (eqb-true k row.session one.0))))
        (and_from (tag_eq row.tag tag) (mode_eq row.mode mode) (ap (λ t. tag_eq row.tag t) (tag_eq-same tag row.tag two.0) ∙ tag_eq-refl row.tag)
        (ap (λ m. mode_eq row.mode m) (mode_eq-same mode row.mode three.0) ∙ mode_eq-refl row.mode))

  one_of_both : (own there : Bool) → (there ≡ true → own ≡ true) → ◌≡◌ {A = ℕ} ((if own && not there then 1 else 0) + (if there then 1 else 0)) (if own then 1 else 0)
  one_of_both true true is = refl
  one_of_both true false is = refl
  one_of_both false true is = absurd (false≢true (is refl))
  one_of_both false false is = refl

  -- What its slots show and its rows are as much as it owns.
  pub session-sum : (rows : List TableRow) (many : ℕ) → HasEachRow (whole_of contents) rows → AreSoMany a.own many
      → total count (λ place. modes_shown (slot place)) + count_by is_its rows ≡ many
  session-sum rows many listing owned =
      let slots = held_in_all count a.fast.database slot in
      let table = map held_by (filter is_its rows) in
      let long = held_in_all-long count a.fast.database slot in
      let table_long = length-map_filter held_by is_its rows in
      let both = length-append slots table in
      let same = same-length (λ (h : Held). is_this h.tag h.mode) held-itself held-same (slots ++ table) owned.listed counts in
      let many_is = owned.as_many in
      omega (arith, long, table_long, both, same, many_is) where
        counts : (h : Held) → count_by (is_this h.tag h.mode) (held_in_all count a.fast.database slot ++ map held_by (filter is_its rows)) ≡ count_by (is_this h.tag h.mode) owned.listed
        counts h =
            let split = count_by-append (is_this h.tag h.mode) (held_in_all count a.fast.database slot) (map held_by (filter is_its rows)) in
            let first = slots-counted h.tag h.mode in
            let rest = count_by-map_filter held_by is_its (is_this h.tag h.mode) rows in
            let each = count_by-same (λ row. is_its row && is_this h.tag h.mode (held_by row)) (row_eq (record { session = k; tag = h.tag; mode = h.mode; granted = true })) rows (same-row h.tag h.mode) in
            let listed : count_by (row_eq (record { session = k; tag = h.tag; mode = h.mode; granted = true })) rows ≡ (if (contents (partition_of h.tag)).holds k h.tag h.mode then 1 else 0) =
            listing (record { session = k; tag = h.tag; mode = h.mode; granted = true }) in
            let one = one_of_both (a.own h.tag h.mode) ((contents (partition_of h.tag)).holds k h.tag h.mode) (stand.in_contents h.tag h.mode) in
            let own = owned.each_once h.tag h.mode in
            omega (arith, split, first, rest, each, listed, one, own)

-- All sessions.

-- The granted rows, session by session.
rows-by_session : (limit : ℕ) (rows : List TableRow) → ((row : TableRow) → 0 < count_by (row_eq row) rows → row.granted ≡ true → row.session < limit)
    → count_by (λ (row : TableRow). row.granted) rows ≡ total limit (λ k. count_by (λ (row : TableRow). row.granted && (row.session == k)) rows)
rows-by_session limit [] within = sym (total-nothing limit (λ k. 0) (λ k below. refl))
rows-by_session limit (row ∷ rows) within =
    let rest = rows-by_session limit rows (λ other there granted.
    let more = count_by-cons (row_eq other) row rows in within other (omega (arith, there, more)) granted) in
    let whole = count_by-cons (λ (r : TableRow). r.granted) row rows in
    let split : total limit (λ k. count_by (λ (r : TableRow). r.granted && (r.session == k)) (row ∷ rows))
    ≡ total limit (λ k. (if row.granted && (row.session == k) then 1 else 0) + count_by (λ (r : TableRow). r.granted && (r.session == k)) rows) =
    total-same limit _ _ (λ k below. count_by-cons (λ (r : TableRow). r.granted && (r.session == k)) row rows) in
    let both = total-add limit (λ k. if row.granted && (row.session == k) then 1 else 0) (λ k. count_by (λ (r : TableRow). r.granted && (r.session == k)) rows) in
    let here = at (cases_Bool row.granted) in
    omega (arith, rest, whole, split, both, here) where
      itself : row_eq row row ≡ true
      itself =
          and_from (row.session == row.session) _ (eq-eqb row.session row.session refl)
          (and_from (tag_eq row.tag row.tag) _ (tag_eq-refl row.tag)
          (and_from (mode_eq row.mode row.mode) _ (mode_eq-refl row.mode) (like row.granted))) where
            like : (b : Bool) → (if b then b else not b) ≡ true
            like true = refl
            like false = refl

      there : 0 < count_by (row_eq row) (row ∷ rows)
      there =
          let all = count_by-cons (row_eq row) row rows in
          let one : ◌≡◌ {A = ℕ} (if row_eq row row then 1 else 0) 1 = cond-true (row_eq row row) 1 0 itself in
          omega (arith, all, one)

      at : (row.granted ≡ true) ⊎ (row.granted ≡ false) → total limit (λ k. if row.granted && (row.session == k) then 1 else 0) ≡ (if row.granted then 1 else 0)
      at (inl granted) =
          total-one limit (λ k. if row.granted && (row.session == k) then 1 else 0) row.session (within row there granted)
          (λ k below other. cond-false (row.granted && (row.session == k)) 1 0 (and_right row.granted (row.session == k) (ne_eqb row.session k (λ e. other (sym e)))))
          ∙ cond-true (row.granted && (row.session == row.session)) 1 0 (and_from row.granted (row.session == row.session) granted (eq-eqb row.session row.session refl))
          ∙ sym (cond-true row.granted 1 0 granted)
      at (inr awaited) =
          total-nothing limit (λ k. if row.granted && (row.session == k) then 1 else 0) (λ k below. cond-false (row.granted && (row.session == k)) 1 0 (ap (λ b. b && (row.session == k)) awaited))
          ∙ sym (cond-false row.granted 1 0 awaited)

module _ (limit groups : ℕ) (some : 0 < groups) (few : groups ≤ most_groups) (accounts : ℕ → Account) (contents : ℕ → Content) (slot : ℕ → ℕ → ℕ) (many : ℕ → ℕ)
    (stand : (k : ℕ) → OwnStand groups k (accounts k) contents)
    (left : (k place : ℕ) → k < limit → place < group_size * groups → ShowsLeft k (accounts k) contents place (slot k place))
    (owned : (k : ℕ) → AreSoMany (accounts k).own (many k))
    (within : (k : ℕ) (tag : Tag) (mode : Mode) → (accounts k).own tag mode ≡ true → k < limit) where
  -- What all slots show and all granted rows are as much as all sessions own.
  pub all-sum : (rows : List TableRow) → HasEachRow (whole_of contents) rows → shown_in_slots limit groups slot + count_by (λ (row : TableRow). row.granted) rows ≡ total limit many
  all-sum rows listing =
      let by_session = rows-by_session limit rows row-within in
      let both = total-add limit (λ k. total (group_size * groups) (λ place. modes_shown (slot k place))) (λ k. count_by (λ (row : TableRow). row.granted && (row.session == k)) rows) in
      let each : total limit (λ k. total (group_size * groups) (λ place. modes_shown (slot k place)) + count_by (λ (row : TableRow). row.granted && (row.session == k)) rows) ≡ total limit many =
      total-same limit _ _ (λ k below. session-sum groups k some few (accounts k) contents (stand k) (slot k) (λ place there. left k place below there) rows (many k) listing (owned k)) in
      omega (arith, by_session, both, each) where
        row-within : (row : TableRow) → 0 < count_by (row_eq row) rows → row.granted ≡ true → row.session < limit
        row-within row there granted =
            elim (cases_Bool ((contents (partition_of row.tag)).holds row.session row.tag row.mode)) [
              | inl has ↦ within row.session row.tag row.mode ((stand row.session).in_contents row.tag row.mode has)
              | inr none ↦
                  let listed = listing row in
                  let not_there : has_row (whole_of contents) row ≡ false = rw granted none in
                  let zeroth : ◌≡◌ {A = ℕ} (if has_row (whole_of contents) row then 1 else 0) 0 = cond-false (has_row (whole_of contents) row) 1 0 not_there in
                  absurd (omega (arith, there, listed, zeroth))
            ]
