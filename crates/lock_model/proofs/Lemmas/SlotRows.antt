-- What sessions' fast-path slots show, in one list.
use Rattle.std.proofs.Common.{◌≡◌, ◌≢◌, ℕ, ◌+◌, ◌<◌, ◌≤◌, All, Bool, true, false, cond, ◌&&◌, List, [], ◌∷◌, ◌++◌, length, get_or, nat_eq, arith, zero, suc, refl, sym, ap, ◌∙◌, subst, inl, inr}
use Rattle.std.specs.Prelude.{count_by}
use Rattle.std.specs.Cmp as cmp
use Rattle.std.proofs.lemmas.Bool.{cases_Bool, cases_eq, cases_lt, false_from_ne_true, both_ways, and_parts, and_from, eqb-true, eq-eqb, cond-true, cond-false}
use Rattle.std.proofs.lemmas.List.{append-nil, append_assoc, get_or_past}
use Rattle.std.proofs.lemmas.List.Elements.{All-nil, All-append}
use Rattle.modes_core.specs.declared.modes.Mode.{Mode}
use Rattle.modes_core.specs.declared.modes.Mode.TheVariants.{AccessShare, RowShare, RowExclusive, ShareUpdateExclusive, Share, ShareRowExclusive, Exclusive, AccessExclusive}
use Rattle.modes_core.specs.declared.tags.Tag.{Tag}
use Rattle.modes_core.specs.declared.tags.Tag.TheVariants.{Relation}
use Rattle.modes_core.specs.Mode.{number_of, mode_eq}
use Rattle.modes_core.specs.Tag.{tag_eq, is_eligible_for}
use Rattle.modes_core.proofs.Lemmas.Conflicts.{mode_eq-refl, mode_eq-same, tag_eq-refl, tag_eq-same}
use Rattle.lw_word.specs.SlotWord.{relation_in, has_mode, shows}
use Rattle.lock_world.specs.SlotHolds.{relation_of, slot_holds, IsHeldIn, OneSlotEach}
use Rattle.lock_world.proofs.Lemmas.Slots.Eligible.{eligible-is, shown-in_use, held-is_in, is_in-held}
use Rattle.lock_table.proofs.Lemmas.HoldLists.{count_by-cons, count_by-append}
use Rattle.lock_model.specs.declared.machine.plain.Hold.{Hold}
use Rattle.lock_model.specs.declared.machine.plain.Spot.TheVariants.{Slot}
use Rattle.lock_model.specs.Shows.{is_hold}
use Rattle.lock_model.specs.SlotRows.{lists_below, shown_hold, slot_rows, session_rows, fast_path_rows}

-- Lists, one after another.

pub lists_below-start : {X : Type 0} (old : List X) (f : ℕ → List X) → old ≡ old ++ lists_below 0 f
unfolding lists_below
lists_below-start old f = sym (append-nil old)

pub lists_below-more :
    {X : Type 0} (limit : ℕ) (f : ℕ → List X) (old before after : List X) →
    before ≡ old ++ lists_below limit f → after ≡ before ++ f limit → after ≡ old ++ lists_below (limit + 1) f
unfolding lists_below
lists_below-more limit f old before after so_far more =
    let one : suc limit ≡ limit + 1 = omega arith in
    more ∙ ap (λ xs. xs ++ f limit) so_far ∙ append_assoc old (lists_below limit f) (f limit) ∙ ap (λ n. old ++ lists_below n f) one

-- What is in none of them is counted nowhere,
lists_below-none : {X : Type 0} (p : X → Bool) (limit : ℕ) (f : ℕ → List X) → ((k : ℕ) → k < limit → count_by p (f k) ≡ 0) → count_by p (lists_below limit f) ≡ 0
unfolding lists_below
lists_below-none p zero f none = refl
lists_below-none p (suc limit) f none =
    let before : count_by p (lists_below limit f) ≡ 0 = lists_below-none p limit f (λ k below. none k (omega (arith, below))) in
    let last : count_by p (f limit) ≡ 0 = none limit (omega arith) in
    count_by-append p (lists_below limit f) (f limit) ∙ omega (arith, before, last)

-- and what is in one of them alone is counted there.
lists_below-one :
    {X : Type 0} (p : X → Bool) (limit : ℕ) (f : ℕ → List X) (q : ℕ) → q < limit → ((k : ℕ) → k < limit → k ≢ q → count_by p (f k) ≡ 0)
    → count_by p (lists_below limit f) ≡ count_by p (f q)
unfolding lists_below
lists_below-one p zero f q below others = absurd (omega (arith, below))
lists_below-one p (suc limit) f q below others =
    elim (cases_eq q limit) [
      | inl last ↦
          let before : count_by p (lists_below limit f) ≡ 0 = lists_below-none p limit f (λ k earlier. others k (omega (arith, earlier)) (λ e. omega (arith, e, last, earlier))) in
          let same : count_by p (f q) ≡ count_by p (f limit) = ap (λ n. count_by p (f n)) last in
          count_by-append p (lists_below limit f) (f limit) ∙ omega (arith, before, same)
      | inr apart ↦
          let before : count_by p (lists_below limit f) ≡ count_by p (f q) = lists_below-one p limit f q (omega (arith, below, apart)) (λ k earlier. others k (omega (arith, earlier))) in
          let none : count_by p (f limit) ≡ 0 = others limit (omega arith) (λ e. apart (sym e)) in
          count_by-append p (lists_below limit f) (f limit) ∙ omega (arith, before, none)
    ]

lists_below-all : {X : Type 0} (P : X → Type 0) (limit : ℕ) (f : ℕ → List X) → ((k : ℕ) → k < limit → All P (f k)) → All P (lists_below limit f)
unfolding lists_below
lists_below-all P zero f all = All-nil P
lists_below-all P (suc limit) f all =
    All-append P (lists_below limit f) (f limit) (lists_below-all P limit f (λ k below. all k (omega (arith, below)))) (all limit (omega arith))

-- A list of one element, or of none.

one-count : {X : Type 0} (p : X → Bool) (c : Bool) (x : X) → count_by p (cond c (x ∷ []) []) ≡ cond (c && p x) 1 0
one-count p true x = let sum = count_by-cons p x [] in sum ∙ omega arith
one-count p false x = refl

one-all : {X : Type 0} (P : X → Type 0) (c : Bool) (x : X) → (c ≡ true → P x) → All P (cond c (x ∷ []) [])
one-all P true x holds = λ k d within. let first : 0 ≡ k = omega (arith, within) in subst (λ j. P (get_or (x ∷ []) j d)) first (holds refl)
one-all P false x holds = All-nil P

-- The hold of a session that a slot shows.

-- whether the slot with this word shows the hold of a session with this database
abbrev slot_shows : ℕ → ℕ → Tag → Mode → Bool
slot_shows database word tag mode = is_eligible_for database tag mode && shows word (relation_of tag) mode

module _ (s database word : ℕ) (n : Mode) where
  abbrev its : Tag
  its = Relation database (relation_in word)

  abbrev is_listed : Bool
  is_listed = has_mode word n && is_eligible_for database its n

  listed-shows : (o : Tag) (m : Mode) → (is_listed && (nat_eq s s && (tag_eq its o && mode_eq n m))) ≡ true → (mode_eq n m && slot_shows database word o m) ≡ true
  listed-shows o m e =
      let both = and_parts is_listed (nat_eq s s && (tag_eq its o && mode_eq n m)) e in
      let listed = and_parts (has_mode word n) (is_eligible_for database its n) both.0 in
      let same = and_parts (tag_eq its o) (mode_eq n m) (and_parts (nat_eq s s) (tag_eq its o && mode_eq n m) both.1).1 in
      let here_shown : (mode_eq n n && slot_shows database word its n) ≡ true =
      and_from (mode_eq n n) (slot_shows database word its n) (mode_eq-refl n)
      (and_from (is_eligible_for database its n) (shows word (relation_in word) n) listed.1
      (and_from (has_mode word n) (nat_eq (relation_in word) (relation_in word)) listed.0 (eq-eqb (relation_in word) (relation_in word) refl))) in
      subst (λ (t : Tag). (mode_eq n m && slot_shows database word t m) ≡ true) (tag_eq-same its o same.0)
      (subst (λ (x : Mode). (mode_eq n x && slot_shows database word its x) ≡ true) (mode_eq-same n m same.1) here_shown)

  shows-listed : (o : Tag) (m : Mode) → (mode_eq n m && slot_shows database word o m) ≡ true → (is_listed && (nat_eq s s && (tag_eq its o && mode_eq n m))) ≡ true
  shows-listed o m e =
      let both = and_parts (mode_eq n m) (slot_shows database word o m) e in
      let parts = and_parts (is_eligible_for database o m) (shows word (relation_of o) m) both.1 in
      let shown = and_parts (has_mode word m) (nat_eq (relation_in word) (relation_of o)) parts.1 in
      let mode : n ≡ m = mode_eq-same n m both.0 in
      let tag : its ≡ o = ap (Relation database) (eqb-true (relation_in word) (relation_of o) shown.1) ∙ sym (eligible-is database o m parts.0).0 in
      and_from is_listed (nat_eq s s && (tag_eq its o && mode_eq n m))
      (and_from (has_mode word n) (is_eligible_for database its n) (ap (has_mode word) mode ∙ shown.0) ((λ i. is_eligible_for database (tag i) (mode i)) ∙ parts.0))
      (and_from (nat_eq s s) (tag_eq its o && mode_eq n m) (eq-eqb s s refl)
      (and_from (tag_eq its o) (mode_eq n m) (ap (tag_eq its) (sym tag) ∙ tag_eq-refl its) both.0))

  shown-count : (place : ℕ) (o : Tag) (m : Mode) → count_by (is_hold s o m) (shown_hold s database place word n) ≡ cond (mode_eq n m && slot_shows database word o m) 1 0
  shown-count place o m =
      one-count (is_hold s o m) is_listed (record { session = s; tag = its; mode = n; spot = Slot place })
      ∙ ap (λ b. cond b 1 0) (cmp.both_ways _ _ (listed-shows o m) (shows-listed o m))

  -- The row is no hold of another session.
  other-count : (place k : ℕ) (o : Tag) (m : Mode) → s ≢ k → count_by (is_hold k o m) (shown_hold s database place word n) ≡ 0
  other-count place k o m apart =
      one-count (is_hold k o m) is_listed (record { session = s; tag = its; mode = n; spot = Slot place })
      ∙ cond-false _ 1 0 (false_from_ne_true (is_listed && (nat_eq s k && (tag_eq its o && mode_eq n m))) (λ e.
      apart (eqb-true s k (and_parts (nat_eq s k) (tag_eq its o && mode_eq n m) (and_parts is_listed (nat_eq s k && (tag_eq its o && mode_eq n m)) e).1).0)))

  -- The hold is in that slot.
  pub shown-there : (P : Hold → Type 0) (place : ℕ)
      → (is_eligible_for database its n ≡ true → shows word (relation_in word) n ≡ true → P (record { session = s; tag = its; mode = n; spot = Slot place }))
      → All P (shown_hold s database place word n)
  shown-there P place stands =
      one-all P is_listed (record { session = s; tag = its; mode = n; spot = Slot place }) (λ listed.
      let both = and_parts (has_mode word n) (is_eligible_for database its n) listed in
      stands both.1 (and_from (has_mode word n) (nat_eq (relation_in word) (relation_in word)) both.0 (eq-eqb (relation_in word) (relation_in word) refl)))

-- A mode is one of the three that slots have bits for, or in no slot.
three_modes : (m : Mode) (shown : Bool) → (shown ≡ true → number_of m ≤ 3)
    → cond (mode_eq AccessShare m && shown) 1 0 + (cond (mode_eq RowShare m && shown) 1 0 + cond (mode_eq RowExclusive m && shown) 1 0) ≡ cond shown 1 0
three_modes AccessShare true weak = refl
three_modes AccessShare false weak = refl
three_modes RowShare true weak = refl
three_modes RowShare false weak = refl
three_modes RowExclusive true weak = refl
three_modes RowExclusive false weak = refl
three_modes ShareUpdateExclusive true weak = let strong = weak refl in absurd (omega (arith, strong))
three_modes ShareUpdateExclusive false weak = refl
three_modes Share true weak = let strong = weak refl in absurd (omega (arith, strong))
three_modes Share false weak = refl
three_modes ShareRowExclusive true weak = let strong = weak refl in absurd (omega (arith, strong))
three_modes ShareRowExclusive false weak = refl
three_modes Exclusive true weak = let strong = weak refl in absurd (omega (arith, strong))
three_modes Exclusive false weak = refl
three_modes AccessExclusive true weak = let strong = weak refl in absurd (omega (arith, strong))
three_modes AccessExclusive false weak = refl

-- A slot's rows have the hold once where the slot shows it,
slot-count : (s database place word : ℕ) (o : Tag) (m : Mode) → count_by (is_hold s o m) (slot_rows s database place word) ≡ cond (slot_shows database word o m) 1 0
slot-count s database place word o m =
    let a = shown-count s database word AccessShare place o m in
    let b = shown-count s database word RowShare place o m in
    let c = shown-count s database word RowExclusive place o m in
    count_by-append (is_hold s o m) (shown_hold s database place word AccessShare) (shown_hold s database place word RowShare ++ shown_hold s database place word RowExclusive)
    ∙ ap (λ k. count_by (is_hold s o m) (shown_hold s database place word AccessShare) + k)
    (count_by-append (is_hold s o m) (shown_hold s database place word RowShare) (shown_hold s database place word RowExclusive))
    ∙ (λ i. a i + (b i + c i))
    ∙ three_modes m (slot_shows database word o m) (λ shown. (eligible-is database o m (and_parts (is_eligible_for database o m) (shows word (relation_of o) m) shown).0).2)

-- and none of another session.
slot-count_other : (s database place word k : ℕ) (o : Tag) (m : Mode) → s ≢ k → count_by (is_hold k o m) (slot_rows s database place word) ≡ 0
slot-count_other s database place word k o m apart =
    let a = other-count s database word AccessShare place k o m apart in
    let b = other-count s database word RowShare place k o m apart in
    let c = other-count s database word RowExclusive place k o m apart in
    count_by-append (is_hold k o m) (shown_hold s database place word AccessShare) (shown_hold s database place word RowShare ++ shown_hold s database place word RowExclusive)
    ∙ ap (λ j. count_by (is_hold k o m) (shown_hold s database place word AccessShare) + j)
    (count_by-append (is_hold k o m) (shown_hold s database place word RowShare) (shown_hold s database place word RowExclusive))
    ∙ (λ i. a i + (b i + c i))

-- Where no two slots of a session are in use for one relation, its rows have each hold that they show once.
session-count :
    (s database : ℕ) (slots : List ℕ) → OneSlotEach (λ place. get_or slots place 0) → (o : Tag) (m : Mode)
    → count_by (is_hold s o m) (session_rows s database slots) ≡ cond (slot_holds database (λ place. get_or slots place 0) o m) 1 0
session-count s database slots one_each o m =
    elim (cases_Bool (slot_holds database slot o m)) [
      | inl held ↦
          let found = held-is_in database slot o m held in
          lists_below-one (is_hold s o m) 128 rows found.0 found.1.within (λ k below apart. slot-count s database k (slot k) o m ∙ cond-false _ 1 0 (elsewhere found.0 found.1 k below apart))
          ∙ slot-count s database found.0 (slot found.0) o m
          ∙ cond-true (slot_shows database (slot found.0) o m) 1 0 (and_from (is_eligible_for database o m) (shows (slot found.0) (relation_of o) m) found.1.eligible found.1.shown)
          ∙ sym (cond-true (slot_holds database slot o m) 1 0 held)
      | inr not_held ↦
          lists_below-none (is_hold s o m) 128 rows (λ k below.
          slot-count s database k (slot k) o m ∙ cond-false _ 1 0 (false_from_ne_true (slot_shows database (slot k) o m) (λ shown.
          both_ways (slot_holds database slot o m) not_held (is_in-held database slot o m k (held_in k below shown)))))
          ∙ sym (cond-false (slot_holds database slot o m) 1 0 not_held)
    ] where
      slot : ℕ → ℕ
      slot place = get_or slots place 0

      rows : ℕ → List Hold
      rows place = slot_rows s database place (get_or slots place 0)

      held_in : (k : ℕ) → k < 128 → slot_shows database (slot k) o m ≡ true → IsHeldIn database slot o m k
      held_in k below shown =
          let both = and_parts (is_eligible_for database o m) (shows (slot k) (relation_of o) m) shown in
          record { eligible = both.0; within = below; shown = both.1 }

      elsewhere : (place : ℕ) → IsHeldIn database slot o m place → (k : ℕ) → k < 128 → k ≢ place → slot_shows database (slot k) o m ≡ false
      elsewhere place held k below apart =
          false_from_ne_true (slot_shows database (slot k) o m) (λ shown.
          apart (one_each (relation_of o) k place below held.within (shown-in_use (slot k) (relation_of o) m (held_in k below shown).shown)
          (shown-in_use (slot place) (relation_of o) m held.shown)))

session-count_other : (s database : ℕ) (slots : List ℕ) (k : ℕ) (o : Tag) (m : Mode) → s ≢ k → count_by (is_hold k o m) (session_rows s database slots) ≡ 0
session-count_other s database slots k o m apart =
    lists_below-none (is_hold k o m) 128 (λ place. slot_rows s database place (get_or slots place 0))
    (λ place below. slot-count_other s database place (get_or slots place 0) k o m apart)

-- All rows have each hold that the session's slots show once.
pub fast_path-count :
    (databases : List ℕ) (slots : List (List ℕ)) (s : ℕ) → length databases ≡ 64 → OneSlotEach (λ place. get_or (get_or slots s []) place 0) → (o : Tag) (m : Mode)
    → count_by (is_hold s o m) (fast_path_rows databases slots) ≡ cond (slot_holds (get_or databases s 0) (λ place. get_or (get_or slots s []) place 0) o m) 1 0
fast_path-count databases slots s sixty_four one_each o m =
    elim (cases_lt s 64) [
      | inl below ↦
          lists_below-one (is_hold s o m) 64 rows s below (λ k within apart. session-count_other k (get_or databases k 0) (get_or slots k []) s o m apart)
          ∙ session-count s (get_or databases s 0) (get_or slots s []) one_each o m
      | inr past ↦
          lists_below-none (is_hold s o m) 64 rows (λ k within. session-count_other k (get_or databases k 0) (get_or slots k []) s o m (λ e. omega (arith, e, within, past)))
          ∙ sym (cond-false (slot_holds (get_or databases s 0) slot o m) 1 0 (no_database past))
    ] where
      slot : ℕ → ℕ
      slot place = get_or (get_or slots s []) place 0

      rows : ℕ → List Hold
      rows k = session_rows k (get_or databases k 0) (get_or slots k [])

      no_database : 64 ≤ s → slot_holds (get_or databases s 0) slot o m ≡ false
      no_database past =
          false_from_ne_true (slot_holds (get_or databases s 0) slot o m) (λ held.
          (eligible-is (get_or databases s 0) o m (held-is_in (get_or databases s 0) slot o m held).1.eligible).1
          (get_or_past databases s 0 (omega (arith, past, sixty_four))))

-- What holds of each hold that a slot shows holds of all rows.
pub fast_path-all :
    (P : Hold → Type 0) (databases : List ℕ) (slots : List (List ℕ))
    → ((s place : ℕ) (n : Mode) → place < 128 → is_eligible_for (get_or databases s 0) (Relation (get_or databases s 0) (relation_in (get_or (get_or slots s []) place 0))) n ≡ true
    → shows (get_or (get_or slots s []) place 0) (relation_in (get_or (get_or slots s []) place 0)) n ≡ true
    → P (record { session = s; tag = Relation (get_or databases s 0) (relation_in (get_or (get_or slots s []) place 0)); mode = n; spot = Slot place }))
    → All P (fast_path_rows databases slots)
fast_path-all P databases slots each =
    lists_below-all P 64 (λ k. session_rows k (get_or databases k 0) (get_or slots k [])) (λ s below.
    lists_below-all P 128 (λ place. slot_rows s (get_or databases s 0) place (get_or (get_or slots s []) place 0)) (λ place within.
    All-append P (at s place AccessShare) (at s place RowShare ++ at s place RowExclusive) (there s place AccessShare within)
    (All-append P (at s place RowShare) (at s place RowExclusive) (there s place RowShare within) (there s place RowExclusive within)))) where
      at : ℕ → ℕ → Mode → List Hold
      at s place n = shown_hold s (get_or databases s 0) place (get_or (get_or slots s []) place 0) n

      there : (s place : ℕ) (n : Mode) → place < 128 → All P (at s place n)
      there s place n within = shown-there s (get_or databases s 0) (get_or (get_or slots s []) place 0) n P place (each s place n within)
