use Rattle.std.proofs.Common.{◌≡◌, ℕ, ◌-◌, ◌<◌, ◌≤◌, true, false, not, cond, List, [], ◌∷◌, ◌++◌, length, take, suc, zero, refl, sym, ap, ◌∙◌, inl, inr, arith}
use Rattle.std.specs.Prelude.{Option, Some, None, slice_index_or, ◌==◌}
use Rattle.std.specs.Option.{option_map_or}
use Rattle.std.proofs.lemmas.Bool.{false≢true, cases_Bool, cases_eq, cases_lt, eqb-true, eq-eqb}
use Rattle.std.proofs.lemmas.List.{get_or_past, get_or_push, get_or_append_left, length_push}
use Rattle.std.proofs.lemmas.List.Elements.{All-from_recursion}
use Rattle.modes_core.specs.declared.modes.Mode.{Mode}
use Rattle.modes_core.specs.declared.tags.Tag.{Tag}
use Rattle.modes_core.specs.declared.sessions.Owner.{Owner}
use Rattle.modes_core.specs.declared.sessions.Owner.TheVariants.{Session, Transaction}
use Rattle.place_index.specs.Notes.{Notes}
use Rattle.local_locks.specs.declared.records.Entry.{Entry}
use Rattle.local_locks.specs.declared.ends.Progress.{Progress}
use Rattle.local_locks.specs.Owned.{Owned, IsWellOwned, IsCounted, is_of, entry_for, owner_count_of, count_for, count_up_to, level_count_of, own_count_of, of_transaction}
use Rattle.local_locks.specs.Slots.{Slots, opened, slot_at, present, IsIndexed}
use Rattle.local_locks.specs.Levels.{Rows, row_at, had_in, own_count_in, level_count_in, told, had, outer_of, IsLeveled, IsLeveledTable}
use Rattle.local_locks.proofs.Lemmas.Slots.{if_some, NoneOf, NoneElse, rest_none, rest_else, none_of}
use Rattle.local_locks.proofs.Lemmas.Indexes.{none_else, found_entry}
use Rattle.local_locks.proofs.Lemmas.Kept.{all_present, distinct_of}

-- how often the transaction has an object and mode in these entries
abbrev pub times_had : List Entry → Tag → Mode → ℕ
times_had entries t m = owner_count_of entries t m Transaction

-- ---- what the slots tell of a level

-- where each slot tells the same it is the same
pub had-alike :
    (level : ℕ) (a b : Slots) (f g : ℕ → List ℕ) → ((k : ℕ) → told level (f k) (slot_at a k) ≡ told level (g k) (slot_at b k)) →
    had level a f ≡ had level b g
had-alike level [] [] f g alike = refl
had-alike level [] (y ∷ b) f g alike = λ i. alike zero i ++ had-alike level [] b (λ k. f (suc k)) (λ k. g (suc k)) (λ k. alike (suc k)) i
had-alike level (x ∷ a) [] f g alike = λ i. alike zero i ++ had-alike level a [] (λ k. f (suc k)) (λ k. g (suc k)) (λ k. alike (suc k)) i
had-alike level (x ∷ a) (y ∷ b) f g alike = λ i. alike zero i ++ had-alike level a b (λ k. f (suc k)) (λ k. g (suc k)) (λ k. alike (suc k)) i

-- an entry of which it had nothing tells nothing
pub told-nothing : (level : ℕ) (row : List ℕ) (e : Entry) → had_in row level e.transaction ≡ 0 → told level row (Some e) ≡ []
told-nothing level row e nothing =
    ap (λ b. cond b [] (record e { transaction = had_in row level e.transaction; session = 0 } ∷ [])) (eq-eqb (had_in row level e.transaction) 0 nothing)

-- and two of the same object and mode of which it had the same tell the same
pub told-same :
    (level : ℕ) (row row' : List ℕ) (e e' : Entry) → e.tag ≡ e'.tag → e.mode ≡ e'.mode → had_in row level e.transaction ≡ had_in row' level e'.transaction →
    told level row (Some e) ≡ told level row' (Some e')
told-same level row row' e e' tag mode same =
    λ i. cond (same i == 0) [] (told_of (tag i) (mode i) (same i) ∷ []) where
      told_of : Tag → Mode → ℕ → Entry
      told_of t m n = record { tag = t; mode = m; transaction = n; session = 0 }

-- ---- what one object and mode is told of

-- before other entries
first-told :
    (level : ℕ) (row : List ℕ) (e : Entry) (rest : List Entry) (t : Tag) (m : Mode) → (is_of t m e ≡ true → times_had rest t m ≡ 0) →
    times_had (told level row (Some e) ++ rest) t m ≡ cond (is_of t m e) (had_in row level e.transaction) (times_had rest t m)
first-told level row e rest t m none =
    elim (cases_Bool (had_in row level e.transaction == 0)) [
      | inl zero_ ↦
          ap (λ b. times_had (cond b [] (record e { transaction = had_in row level e.transaction; session = 0 } ∷ []) ++ rest) t m) zero_
          ∙ elim (cases_Bool (is_of t m e)) [
            | inl own ↦ none own ∙ sym (ap (λ b. cond b (had_in row level e.transaction) (times_had rest t m)) own ∙ eqb-true (had_in row level e.transaction) 0 zero_)
            | inr other ↦ sym (ap (λ b. cond b (had_in row level e.transaction) (times_had rest t m)) other)
          ]
      | inr some ↦
          ap (λ b. times_had (cond b [] (record e { transaction = had_in row level e.transaction; session = 0 } ∷ []) ++ rest) t m) some
          ∙ elim (cases_Bool (is_of t m e)) [
            | inl own ↦
                ap (λ b. option_map_or (count_for Transaction) (cond b (Some (record e { transaction = had_in row level e.transaction; session = 0 })) (entry_for rest t m)) 0) own
                ∙ sym (ap (λ b. cond b (had_in row level e.transaction) (times_had rest t m)) own)
            | inr other ↦
                ap (λ b. option_map_or (count_for Transaction) (cond b (Some (record e { transaction = had_in row level e.transaction; session = 0 })) (entry_for rest t m)) 0) other
                ∙ sym (ap (λ b. cond b (had_in row level e.transaction) (times_had rest t m)) other)
          ]
    ]

-- nothing, where no slot has it
pub had-none : (level : ℕ) (slots : Slots) (rows : ℕ → List ℕ) (t : Tag) (m : Mode) → NoneOf t m slots → times_had (had level slots rows) t m ≡ 0
had-none level [] rows t m none = refl
had-none level (None ∷ slots) rows t m none = had-none level slots (λ k. rows (suc k)) t m (λ k. none (suc k))
had-none level (Some e ∷ slots) rows t m none =
    let rest = had-none level slots (λ k. rows (suc k)) t m (λ k. none (suc k)) in
    first-told level (rows zero) e (had level slots (λ k. rows (suc k))) t m (λ own. rest)
    ∙ (ap (λ b. cond b (had_in (rows zero) level e.transaction) (times_had (had level slots (λ k. rows (suc k))) t m)) (none zero) ∙ rest)

-- and what stands beside its slot, where one has it
pub had-at :
    (level : ℕ) (slots : Slots) (rows : ℕ → List ℕ) (t : Tag) (m : Mode) (place : ℕ) (e : Entry) →
    slot_at slots place ≡ Some e → is_of t m e ≡ true → NoneElse t m slots place → times_had (had level slots rows) t m ≡ had_in (rows place) level e.transaction
had-at level [] rows t m place e at own none = absurd (let no : None ≡ Some e = at in cc)
had-at level (None ∷ slots) rows t m zero e at own none = absurd (let no : None ≡ Some e = at in cc)
had-at level (None ∷ slots) rows t m (suc place) e at own none = had-at level slots (λ k. rows (suc k)) t m place e at own (rest_else t m None slots place none)
had-at level (Some x ∷ slots) rows t m zero e at own none =
    let same : x ≡ e = cc in
    first-told level (rows zero) x (had level slots (λ k. rows (suc k))) t m (λ _. had-none level slots (λ k. rows (suc k)) t m (rest_none t m (Some x) slots none))
    ∙ (ap (λ b. cond b (had_in (rows zero) level x.transaction) (times_had (had level slots (λ k. rows (suc k))) t m)) (ap (is_of t m) same ∙ own)
    ∙ ap (λ (y : Entry). had_in (rows zero) level y.transaction) same)
had-at level (Some x ∷ slots) rows t m (suc place) e at own none =
    let other : is_of t m x ≡ false = none zero (λ q. omega arith) in
    first-told level (rows zero) x (had level slots (λ k. rows (suc k))) t m (λ its. absurd (false≢true (sym other ∙ its)))
    ∙ (ap (λ b. cond b (had_in (rows zero) level x.transaction) (times_had (had level slots (λ k. rows (suc k))) t m)) other
    ∙ had-at level slots (λ k. rows (suc k)) t m place e at own (rest_else t m (Some x) slots place none))

-- where an entry is found a slot has it
pub spot : (slots : Slots) (t : Tag) (m : Mode) (e : Entry) → entry_for (present slots) t m ≡ Some e → (k : ℕ) × (slot_at slots k ≡ Some e) × (is_of t m e ≡ true)
spot [] t m e found = absurd (let no : None ≡ Some e = found in cc)
spot (None ∷ slots) t m e found = let later = spot slots t m e found in (suc later.0, later.1, later.2)
spot (Some x ∷ slots) t m e found =
    elim (cases_Bool (is_of t m x)) [
      | inl own ↦
          let both : Some x ≡ Some e = sym (ap (λ b. cond b (Some x) (entry_for (present slots) t m)) own) ∙ found in
          let same : x ≡ e = cc in
          (zero, both, ap (is_of t m) (sym same) ∙ own)
      | inr other ↦
          let later = spot slots t m e (sym (ap (λ b. cond b (Some x) (entry_for (present slots) t m)) other) ∙ found) in
          (suc later.0, later.1, later.2)
    ]

-- where none is found none has it
pub none_found : (slots : Slots) (t : Tag) (m : Mode) → entry_for (present slots) t m ≡ None → NoneOf t m slots
none_found slots t m none = λ k. if_some (λ entry. is_of t m entry ≡ false) (slot_at slots k) (λ x at. none_of t m slots none k x at)

-- what the transaction has now, where each slot tells of it
pub had-now : (level : ℕ) (slots : Slots) (rows : ℕ → List ℕ) → ((k : ℕ) → length (rows k) ≤ level) → had level slots rows ≡ of_transaction (present slots)
had-now level [] rows short = refl
had-now level (None ∷ slots) rows short = had-now level slots (λ k. rows (suc k)) (λ k. short (suc k))
had-now level (Some e ∷ slots) rows short =
    let now : had_in (rows zero) level e.transaction ≡ e.transaction = get_or_past (rows zero) level e.transaction (short zero) in
    (λ i. cond (now i == 0) [] (record e { transaction = now i; session = 0 } ∷ []) ++ had-now level slots (λ k. rows (suc k)) (λ k. short (suc k)) i)
    ∙ elim (cases_Bool (e.transaction == 0)) [
      | inl none ↦
          ap (λ b. cond b [] (record e { session = 0 } ∷ []) ++ of_transaction (present slots)) none
          ∙ sym (ap (λ b. cond (not b) (record e { session = 0 } ∷ of_transaction (present slots)) (of_transaction (present slots))) none)
      | inr some ↦
          ap (λ b. cond b [] (record e { session = 0 } ∷ []) ++ of_transaction (present slots)) some
          ∙ sym (ap (λ b. cond (not b) (record e { session = 0 } ∷ of_transaction (present slots)) (of_transaction (present slots))) some)
    ]

-- ---- the list of levels

pub length-outer : (depth : ℕ) (slots : Slots) (rows : ℕ → List ℕ) → length (outer_of depth slots rows) ≡ depth
length-outer zero slots rows = refl
length-outer (suc level) slots rows = omega (arith, length_push (outer_of level slots rows) (had level slots rows), length-outer level slots rows)

-- what one of them had
pub outer-at :
    (depth : ℕ) (slots : Slots) (rows : ℕ → List ℕ) (level : ℕ) (now : List Entry) → level < depth → slice_index_or (outer_of depth slots rows) level now ≡ had level slots rows
outer-at zero slots rows level now within = absurd (omega arith)
outer-at (suc depth) slots rows level now within =
    elim (cases_eq level depth) [
      | inl same ↦
          get_or_push (outer_of depth slots rows) (had depth slots rows) now level (length-outer depth slots rows ∙ sym same)
          ∙ ap (λ n. had n slots rows) (sym same)
      | inr apart ↦
          get_or_append_left (outer_of depth slots rows) (had depth slots rows ∷ []) now level (omega (arith, length-outer depth slots rows))
          ∙ outer-at depth slots rows level now (omega arith)
    ]

pub outer-past : (depth : ℕ) (slots : Slots) (rows : ℕ → List ℕ) (level : ℕ) (now : List Entry) → depth ≤ level → slice_index_or (outer_of depth slots rows) level now ≡ now
outer-past depth slots rows level now past = get_or_past (outer_of depth slots rows) level now (omega (arith, length-outer depth slots rows))

-- it is the same where each of them had the same
pub outer-same :
    (depth : ℕ) (a b : Slots) (f g : ℕ → List ℕ) → ((level : ℕ) → level < depth → had level a f ≡ had level b g) → outer_of depth a f ≡ outer_of depth b g
outer-same zero a b f g same = refl
outer-same (suc level) a b f g same = λ i. outer-same level a b f g (λ k within. same k (omega arith)) i ++ same level (omega arith) i ∷ []

-- without the last of them
pub outer-taken : (level : ℕ) (slots : Slots) (rows : ℕ → List ℕ) → take (length (outer_of (suc level) slots rows) - 1) (outer_of (suc level) slots rows) ≡ outer_of level slots rows
outer-taken level slots rows =
    ap (λ n. take n (outer_of level slots rows ++ had level slots rows ∷ [])) number ∙ take_left (outer_of level slots rows) (had level slots rows ∷ []) where
      number : length (outer_of (suc level) slots rows) - 1 ≡ length (outer_of level slots rows)
      number = omega (arith, length-outer (suc level) slots rows, length-outer level slots rows)

      take_left : {A : Type 0} → (xs ys : List A) → take (length xs) (xs ++ ys) ≡ xs
      take_left [] [] = refl
      take_left [] (y ∷ ys) = refl
      take_left (x ∷ xs) ys = ap (λ l. x ∷ l) (take_left xs ys)

-- ---- what an object and mode is told of by the list

pub up_to-at :
    (slots : Slots) (index : Notes) (rows : Rows) (depth touched : ℕ) (level : ℕ) (t : Tag) (m : Mode) (place : ℕ) (e : Entry) → IsIndexed slots index →
    IsLeveled slots rows depth touched → slot_at slots place ≡ Some e → is_of t m e ≡ true →
    times_had (slice_index_or (outer_of depth slots (row_at rows)) level (present slots)) t m ≡ had_in (row_at rows place) level e.transaction
up_to-at slots index rows depth touched level t m place e indexed leveled at own =
    elim (cases_lt level depth) [
      | inl within ↦
          ap (λ (es : List Entry). times_had es t m) (outer-at depth slots (row_at rows) level (present slots) within)
          ∙ had-at level slots (row_at rows) t m place e at own (none_else slots index indexed t m place e at own)
      | inr past ↦
          ap (λ (es : List Entry). times_had es t m) (outer-past depth slots (row_at rows) level (present slots) past)
          ∙ (ap (λ o. option_map_or (count_for Transaction) o 0) (found_entry slots index indexed t m place e at own)
          ∙ sym (get_or_past (row_at rows place) level e.transaction (omega (arith, leveled.within place))))
    ]

pub up_to-none :
    (slots : Slots) (rows : ℕ → List ℕ) (depth : ℕ) (level : ℕ) (t : Tag) (m : Mode) → entry_for (present slots) t m ≡ None →
    times_had (slice_index_or (outer_of depth slots rows) level (present slots)) t m ≡ 0
up_to-none slots rows depth level t m none =
    elim (cases_lt level depth) [
      | inl within ↦
          ap (λ (es : List Entry). times_had es t m) (outer-at depth slots rows level (present slots) within)
          ∙ had-none level slots rows t m (none_found slots t m none)
      | inr past ↦
          ap (λ (es : List Entry). times_had es t m) (outer-past depth slots rows level (present slots) past)
          ∙ ap (λ o. option_map_or (count_for Transaction) o 0) none
    ]

-- what the slots and lists say that the session owns
abbrev pub owned_of : Slots → Rows → ℕ → ℕ → ℕ → ℕ → Owned
owned_of slots rows depth room places max_local =
    record { entries = present slots; outer = outer_of depth slots (row_at rows); room = room; slots = places; max_local = max_local }

module _ (slots : Slots) (index : Notes) (rows : Rows) (depth touched room places max_local : ℕ) (t : Tag) (m : Mode) (indexed : IsIndexed slots index) (leveled : IsLeveled slots rows depth touched) where
  -- how often one level has the entry in a slot
  pub level_count-at : (place : ℕ) (e : Entry) (level : ℕ) → slot_at slots place ≡ Some e → is_of t m e ≡ true → level_count_of (owned_of slots rows depth room places max_local) t m level ≡ level_count_in (row_at rows place) level e
  level_count-at place e zero at own = refl
  level_count-at place e (suc zero) at own = omega (arith, up_to-at slots index rows depth touched 0 t m place e indexed leveled at own)
  level_count-at place e (suc (suc level)) at own =
      λ i. up_to-at slots index rows depth touched (suc level) t m place e indexed leveled at own i - up_to-at slots index rows depth touched level t m place e indexed leveled at own i

  pub level_count-none : (level : ℕ) → entry_for (present slots) t m ≡ None → level_count_of (owned_of slots rows depth room places max_local) t m level ≡ 0
  level_count-none zero none = refl
  level_count-none (suc zero) none = omega (arith, up_to-none slots (row_at rows) depth 0 t m none)
  level_count-none (suc (suc level)) none =
      λ i. up_to-none slots (row_at rows) depth (suc level) t m none i - up_to-none slots (row_at rows) depth level t m none i

  -- how often an owner can give it back
  pub own_count-at : (owner : Owner) (place : ℕ) (e : Entry) → slot_at slots place ≡ Some e → is_of t m e ≡ true → own_count_of (owned_of slots rows depth room places max_local) t m owner ≡ own_count_in depth (row_at rows place) owner e
  own_count-at Session place e at own = ap (λ o. option_map_or (count_for Session) o 0) (found_entry slots index indexed t m place e at own)
  own_count-at Transaction place e at own =
      ap (λ n. level_count_of (owned_of slots rows depth room places max_local) t m (suc n)) (length-outer depth slots (row_at rows))
      ∙ (level_count-at place e (suc depth) at own ∙ go depth (leveled.within place)) where
        go : (n : ℕ) → length (row_at rows place) ≤ n → level_count_in (row_at rows place) (suc n) e ≡ own_count_in n (row_at rows place) Transaction e
        go zero short = get_or_past (row_at rows place) 0 e.transaction short
        go (suc n) short = ap (λ k. k - had_in (row_at rows place) n e.transaction) (get_or_past (row_at rows place) (suc n) e.transaction short)

  pub own_count-none : (owner : Owner) → entry_for (present slots) t m ≡ None → own_count_of (owned_of slots rows depth room places max_local) t m owner ≡ 0
  own_count-none Session none = ap (λ o. option_map_or (count_for Session) o 0) none
  own_count-none Transaction none =
      ap (λ n. level_count_of (owned_of slots rows depth room places max_local) t m (suc n)) (length-outer depth slots (row_at rows)) ∙ level_count-none (suc depth) none

-- ---- a table is well owned

pub well_owned :
    (es : List Entry) (capacity : ℕ) (index : Notes) (len max_local : ℕ) (progress : Progress) (rows : Rows) (depth touched room places : ℕ) →
    IsLeveledTable es capacity index len max_local progress rows depth touched →
    IsWellOwned (record { entries = present (opened es); outer = outer_of depth (opened es) (row_at rows); room = room; slots = places; max_local = max_local })
well_owned es capacity index len max_local progress rows depth touched room places kept =
    record {
      once = distinct_of (opened es) kept.table.kept.indexed.once;
      counted = All-from_recursion IsCounted (present (opened es)) (all_present IsCounted (opened es) kept.table.kept.counted);
      within = omega (arith, kept.table.kept.number, kept.table.kept.within);
      levels = omega (arith, length-outer depth (opened es) (row_at rows), kept.leveled.few);
      rising = rising;
    } where
      owned : Owned
      owned = record { entries = present (opened es); outer = outer_of depth (opened es) (row_at rows); room = room; slots = places; max_local = max_local }

      go : (t : Tag) (m : Mode) (level : ℕ) (found : Option Entry) → entry_for (present (opened es)) t m ≡ found → count_up_to owned (suc level) t m ≤ count_up_to owned (suc (suc level)) t m
      go t m level None none =
          omega (arith, up_to-none (opened es) (row_at rows) depth level t m none, up_to-none (opened es) (row_at rows) depth (suc level) t m none)
      go t m level (Some e) found =
          let at = spot (opened es) t m e found in
          omega (
            arith,
            up_to-at (opened es) index rows depth touched level t m at.0 e kept.table.kept.indexed kept.leveled at.1 at.2,
            up_to-at (opened es) index rows depth touched (suc level) t m at.0 e kept.table.kept.indexed kept.leveled at.1 at.2,
            kept.leveled.rising at.0 e at.1 level,
          )

      rising : (t : Tag) (m : Mode) (level : ℕ) → count_up_to owned level t m ≤ count_up_to owned (suc level) t m
      rising t m zero = omega arith
      rising t m (suc level) = go t m level (entry_for (present (opened es)) t m) refl
