use Rattle.std.proofs.Common.{◌≡◌, ◌≢◌, ℕ, ◌<◌, ◌≤◌, ◌⊎◌, false, List, [], ◌∷◌, length, set, take, suc, zero, refl, sym, ap, subst, ◌∙◌, inl, inr, arith}
use Rattle.std.specs.Prelude.{Option, Some, None, IfSome, is_some, find, map}
use Rattle.std.specs.Option.{option_map}
use Rattle.std.proofs.lemmas.Bool.{cases_eq, cases_lt, ne_eqb, eq-eqb}
use Rattle.std.proofs.lemmas.List.{length-set, length-take}
use Rattle.modes_core.specs.declared.modes.Mode.{Mode}
use Rattle.modes_core.specs.declared.tags.Tag.{Tag}
use Rattle.place_index.specs.Notes.{Notes}
use Rattle.local_locks.specs.declared.records.Entry.{Entry}
use Rattle.local_locks.specs.declared.ends.Progress.{Progress}
use Rattle.local_locks.specs.declared.ends.End.TheVariants.{Inner}
use Rattle.local_locks.specs.Owned.{Owned, left_by, IsCounted, count_in_all, count_up_to, without_innermost, is_ended, after_end, with_next_ended}
use Rattle.local_locks.specs.Slots.{Slots, slot_at, present, key_at, IsIndexed, IsKept, at_start}
use Rattle.local_locks.specs.Levels.{Rows, row_at, had_in, told, outer_of, without_level, IsLeveled, AreSettled}
use Rattle.local_locks.proofs.Lemmas.Slots.{at_some, is_of-own, slot_at-set, slot_at-set_other, slot_at-within, slot_at-past}
use Rattle.local_locks.proofs.Lemmas.Indexes.{indexed-alike}
use Rattle.local_locks.proofs.Lemmas.Ends.{with_next_ended-none, Stopped, Passed, present-same, present-stopped, find-stopped, present-passed, find-passed}
use Rattle.local_locks.proofs.Lemmas.EndSteps.{length-present_alike, past-start}
use Rattle.local_locks.proofs.Lemmas.Levels.{owned_of, had-alike, told-same, outer-same, length-outer, up_to-at}
use Rattle.local_locks.proofs.Lemmas.LevelRows.{Rises, rises-now, rises-to, had-cut, rises-cut}

-- The end of the innermost level, of which the slots and their lists are told here.

-- ---- the slots as that end finds them

abbrev pub without : ℕ → Slots → (ℕ → List ℕ) → Slots
without level [] rows = []
without level (slot ∷ slots) rows = option_map (without_level level (rows zero)) slot ∷ without level slots (λ k. rows (suc k))

pub length-without : (level : ℕ) (slots : Slots) (rows : ℕ → List ℕ) → length (without level slots rows) ≡ length slots
length-without level [] rows = refl
length-without level (slot ∷ slots) rows = ap (λ n. suc n) (length-without level slots (λ k. rows (suc k)))

pub without-at : (level : ℕ) (slots : Slots) (rows : ℕ → List ℕ) (k : ℕ) → slot_at (without level slots rows) k ≡ option_map (without_level level (rows k)) (slot_at slots k)
without-at level [] rows k = refl
without-at level (slot ∷ slots) rows zero = refl
without-at level (slot ∷ slots) rows (suc k) = without-at level slots (λ n. rows (suc n)) k

-- what is in them
present-without :
    (level : ℕ) (slots : Slots) (rows : ℕ → List ℕ) (count : Tag → Mode → ℕ) → ((k : ℕ) (e : Entry) → slot_at slots k ≡ Some e → count e.tag e.mode ≡ had_in (rows k) level e.transaction) →
    map {A = Entry} {B = Entry} (λ e. record e { transaction = count e.tag e.mode }) (present slots) ≡ present (without level slots rows)
present-without level [] rows count is = refl
present-without level (None ∷ slots) rows count is = present-without level slots (λ k. rows (suc k)) count (λ k. is (suc k))
present-without level (Some e ∷ slots) rows count is =
    λ i. with_count (is zero e refl i) ∷ present-without level slots (λ k. rows (suc k)) count (λ k. is (suc k)) i where
      with_count : ℕ → Entry
      with_count n = record e { transaction = n }

pub found-inner :
    (slots : Slots) (index : Notes) (rows : Rows) (depth touched room places max_local : ℕ) → IsIndexed slots index → IsLeveled slots rows (suc depth) touched →
    without_innermost (record { entries = present slots; outer = outer_of (suc depth) slots (row_at rows); room = room; slots = places; max_local = max_local })
    ≡ present (without depth slots (row_at rows))
found-inner slots index rows depth touched room places max_local indexed leveled =
    ap (λ n. map {A = Entry} {B = Entry} (λ e. record e { transaction = count_up_to owned n e.tag e.mode }) (present slots)) (length-outer (suc depth) slots (row_at rows))
    ∙ present-without depth slots (row_at rows) (count_up_to owned (suc depth)) (λ k e at. up_to-at slots index rows (suc depth) touched depth e.tag e.mode k e indexed leveled at (is_of-own e)) where
      owned : Owned
      owned = record { entries = present slots; outer = outer_of (suc depth) slots (row_at rows); room = room; slots = places; max_local = max_local }

-- the object and mode of an entry
abbrev key_of : Entry → Tag × Mode
key_of x = (x.tag, x.mode)

-- where this many levels have begun
pub found-depth :
    (slots : Slots) (index : Notes) (rows : Rows) (depth level touched room places max_local : ℕ) → depth ≡ suc level → IsIndexed slots index → IsLeveled slots rows depth touched →
    without_innermost (owned_of slots rows depth room places max_local) ≡ present (without level slots (row_at rows))
found-depth slots index rows depth level touched room places max_local is indexed leveled =
    (λ i. without_innermost (owned_of slots rows (is i) room places max_local))
    ∙ found-inner slots index rows level touched room places max_local indexed (subst (λ n. IsLeveled slots rows n touched) is leveled)

map_same : (o : Option Entry) → option_map (after_end Inner) o ≡ o
map_same None = refl
map_same (Some e) = refl

-- ---- the end has settled the slots before a place

module _ (slots slots' : Slots) (rows rows' : Rows) (depth place touched : ℕ) (leveled : IsLeveled slots rows (suc depth) touched)
    (settled : AreSettled depth slots rows slots' rows' place)
    (stay : (k : ℕ) → k < place → IfSome (slot_at slots k) (λ e. count_in_all (without_level depth (row_at rows k) e) ≢ 0)) where
  -- an entry that stands there now is one that stood there, with what is left of it
  from : (k : ℕ) (y : Entry) → slot_at slots' k ≡ Some y → (x : Entry) × (slot_at slots k ≡ Some x) × ((k < place × (without_level depth (row_at rows k) x ≡ y)) ⊎ (place ≤ k × (x ≡ y)))
  from k y at =
      elim (cases_lt k place) [
        | inl before ↦ go (slot_at slots k) refl (sym (settled.settled k before) ∙ at) before
        | inr beyond ↦ (y, sym (settled.others k beyond) ∙ at, inr (beyond, refl))
      ] where
        go : (o : Option Entry) → slot_at slots k ≡ o → option_map (without_level depth (row_at rows k)) (slot_at slots k) ≡ Some y → k < place →
            (x : Entry) × (slot_at slots k ≡ Some x) × ((k < place × (without_level depth (row_at rows k) x ≡ y)) ⊎ (place ≤ k × (x ≡ y)))
        go None was left before = absurd (let bad : None ≡ Some y = ap (option_map (without_level depth (row_at rows k))) (sym was) ∙ left in cc)
        go (Some x) was left before =
            let both : Some (without_level depth (row_at rows k) x) ≡ Some y = ap (option_map (without_level depth (row_at rows k))) (sym was) ∙ left in
            (x, was, inl (before, cc))

  -- what the end finds there it would find again
  pub without-settled : (k : ℕ) → option_map (without_level depth (row_at rows' k)) (slot_at slots' k) ≡ option_map (without_level depth (row_at rows k)) (slot_at slots k)
  without-settled k =
      elim (cases_lt k place) [
        | inl before ↦
            (λ i. option_map (without_level depth (settled.cut k before i)) (settled.settled k before i)) ∙ again (slot_at slots k)
        | inr beyond ↦ (λ i. option_map (without_level depth (settled.other_lists k beyond i)) (settled.others k beyond i))
      ] where
        again : (o : Option Entry) →
            option_map (without_level depth (take depth (row_at rows k))) (option_map (without_level depth (row_at rows k)) o) ≡ option_map (without_level depth (row_at rows k)) o
        again None = refl
        again (Some x) = λ i. Some (record x { transaction = had-cut (row_at rows k) depth x.transaction depth (omega arith) i })

  -- each level has what it had
  pub outer-settled : (number : ℕ) → number ≤ suc depth → outer_of number slots' (row_at rows') ≡ outer_of number slots (row_at rows)
  outer-settled number few =
      outer-same number slots' slots (row_at rows') (row_at rows) (λ level below. had-alike level slots' slots (row_at rows') (row_at rows) (λ k. elim (cases_lt k place) [
        | inl before ↦
            (λ i. told level (settled.cut k before i) (settled.settled k before i)) ∙ tells level (omega arith) k (slot_at slots k)
        | inr beyond ↦ (λ i. told level (settled.other_lists k beyond i) (settled.others k beyond i))
      ])) where
        tells : (level : ℕ) → level ≤ depth → (k : ℕ) (o : Option Entry) →
            told level (take depth (row_at rows k)) (option_map (without_level depth (row_at rows k)) o) ≡ told level (row_at rows k) o
        tells level below k None = refl
        tells level below k (Some x) =
            told-same level (take depth (row_at rows k)) (row_at rows k) (without_level depth (row_at rows k) x) x refl refl (had-cut (row_at rows k) depth x.transaction level below)

  -- the lists are as they ought to be, and the level has nothing before the place
  pub leveled-settled : (touched' : ℕ) → touched' ≤ place → IsLeveled slots' rows' (suc depth) touched'
  leveled-settled touched' before_place =
      record {
        few = leveled.few;
        within = λ k. elim (cases_lt k place) [
          | inl before ↦ omega (arith, ap (λ (row : List ℕ). length row) (settled.cut k before), short k)
          | inr beyond ↦ omega (arith, ap (λ (row : List ℕ). length row) (settled.other_lists k beyond), leveled.within k)
        ];
        untouched = λ k before. omega (arith, ap (λ (row : List ℕ). length row) (settled.cut k (omega arith)), short k);
        empty = λ k none. elim (cases_lt k place) [
          | inl before ↦ settled.cut k before ∙ (ap (take depth) (leveled.empty k (was_none k before none)) ∙ take_none depth)
          | inr beyond ↦ settled.other_lists k beyond ∙ leveled.empty k (sym (settled.others k beyond) ∙ none)
        ];
        rising = λ k y at.
            let f = from k y at in
            elim f.2 [
              | inl left ↦
                  subst (λ row. Rises row y.transaction) (sym (settled.cut k left.0))
                  (subst (λ (z : Entry). Rises (take depth (row_at rows k)) z.transaction) left.1 (rises-cut (row_at rows k) depth f.0.transaction (leveled.rising k f.0 f.1)))
              | inr same ↦
                  subst (λ row. Rises row y.transaction) (sym (settled.other_lists k same.0)) (subst (λ (z : Entry). Rises (row_at rows k) z.transaction) same.1 (leveled.rising k f.0 f.1))
            ];
      } where
        take_none : (n : ℕ) → take {A = ℕ} n [] ≡ []
        take_none zero = refl
        take_none (suc n) = refl

        short : (k : ℕ) → length (take depth (row_at rows k)) ≤ depth
        short k = omega (arith, length-take depth (row_at rows k))

        was_none : (k : ℕ) → k < place → slot_at slots' k ≡ None → slot_at slots k ≡ None
        was_none k before none = go (slot_at slots k) refl where
          go : (o : Option Entry) → slot_at slots k ≡ o → slot_at slots k ≡ None
          go None was = was
          go (Some x) was =
              absurd (let bad : Some (without_level depth (row_at rows k) x) ≡ None = ap (option_map (without_level depth (row_at rows k))) (sym was) ∙ (sym (settled.settled k before) ∙ none) in cc)

  -- the table with these slots
  pub kept-settled :
      (index : Notes) (len max_local : ℕ) (progress : Progress) → IsKept slots index len max_local progress → IsKept slots' index len max_local at_start
  kept-settled index len max_local progress kept =
      record {
        indexed = indexed-alike slots slots' index settled.number keys kept.indexed;
        counted = λ k y at.
            let f = from k y at in
            elim f.2 [
              | inl left ↦ subst IsCounted left.1 (counted k f.0 left.0 f.1 (kept.counted k f.0 f.1))
              | inr same ↦ subst IsCounted same.1 (kept.counted k f.0 f.1)
            ];
        number = kept.number ∙ sym (length-present_alike slots slots' settled.number alike);
        within = kept.within;
        past = past-start slots';
      } where
        mapped : (row : List ℕ) (o : Option Entry) → option_map key_of (option_map (without_level depth row) o) ≡ option_map key_of o
        mapped row None = refl
        mapped row (Some x) = refl

        keys : (k : ℕ) → key_at slots' k ≡ key_at slots k
        keys k =
            elim (cases_lt k place) [
              | inl before ↦ ap (option_map key_of) (settled.settled k before) ∙ mapped (row_at rows k) (slot_at slots k)
              | inr beyond ↦ ap (option_map key_of) (settled.others k beyond)
            ]

        there : (row : List ℕ) (o : Option Entry) → is_some (option_map (without_level depth row) o) ≡ is_some o
        there row None = refl
        there row (Some x) = refl

        alike : (k : ℕ) → is_some (slot_at slots' k) ≡ is_some (slot_at slots k)
        alike k =
            elim (cases_lt k place) [
              | inl before ↦ ap (λ o. is_some o) (settled.settled k before) ∙ there (row_at rows k) (slot_at slots k)
              | inr beyond ↦ ap (λ o. is_some o) (settled.others k beyond)
            ]

        counted : (k : ℕ) (x : Entry) → k < place → slot_at slots k ≡ Some x → IsCounted x → IsCounted (without_level depth (row_at rows k) x)
        counted k x before at is =
            let some = at_some (λ e. count_in_all (without_level depth (row_at rows k) e) ≢ 0) (slot_at slots k) x at (stay k before) in
            record {
              some = omega (arith, some);
              transaction = omega (arith, is.transaction, rises-now (row_at rows k) x.transaction depth (leveled.rising k x at));
              session = is.session;
            }

  -- ---- it came to the end of the slots

  passed : place ≡ length slots → Passed Inner (without depth slots (row_at rows)) (without depth slots (row_at rows))
  passed all =
      record {
        kept = λ k before. subst (λ o. IfSome o (λ x. is_ended Inner x ≡ false)) (sym (without-at depth slots (row_at rows) k))
            (stays (row_at rows k) (slot_at slots k) (stay k (omega (arith, length-without depth slots (row_at rows)))));
        settled = λ k before. sym (map_same (slot_at (without depth slots (row_at rows)) k));
        number = refl;
      } where
        stays : (row : List ℕ) (o : Option Entry) → IfSome o (λ e. count_in_all (without_level depth row e) ≢ 0) → IfSome (option_map (without_level depth row) o) (λ x. is_ended Inner x ≡ false)
        stays row None some = tt
        stays row (Some x) some = ne_eqb _ 0 some

  -- the entries are what it found
  pub present-all : place ≡ length slots → present slots' ≡ present (without depth slots (row_at rows))
  present-all all =
      present-same slots' (without depth slots (row_at rows)) (λ k. elim (cases_lt k place) [
        | inl before ↦ settled.settled k before ∙ sym (without-at depth slots (row_at rows) k)
        | inr beyond ↦
            settled.others k beyond ∙ (past k beyond ∙ sym (without-at depth slots (row_at rows) k ∙ ap (option_map (without_level depth (row_at rows k))) (past k beyond)))
      ]) where
        past : (k : ℕ) → place ≤ k → slot_at slots k ≡ None
        past k beyond = slot_at-past slots k (omega (arith, all))

  pub find-all : place ≡ length slots → find (is_ended Inner) (present (without depth slots (row_at rows))) ≡ None
  find-all all = find-passed Inner (without depth slots (row_at rows)) (without depth slots (row_at rows)) (passed all)

  -- and outlive it
  pub left-all : place ≡ length slots → present slots' ≡ left_by Inner (present (without depth slots (row_at rows)))
  left-all all =
      present-all all
      ∙ (present-passed Inner (without depth slots (row_at rows)) (without depth slots (row_at rows)) (passed all)
      ∙ with_next_ended-none Inner (present (without depth slots (row_at rows))) (find-all all))

  -- so that the level is over
  pub leveled-all : place ≡ length slots → IsLeveled slots' rows' depth 0
  leveled-all all =
      let left = leveled-settled place (omega arith) in
      record {
        few = omega (arith, leveled.few);
        within = λ k. elim (cases_lt k place) [
          | inl before ↦ omega (arith, left.untouched k before)
          | inr beyond ↦
              omega (arith, ap (λ (row : List ℕ). length row) (left.empty k (settled.others k beyond ∙ slot_at-past slots k (omega (arith, all)))))
        ];
        untouched = λ k before. absurd (omega arith);
        empty = left.empty;
        rising = left.rising;
      }

  -- ---- it found an entry that it takes away, which is then taken out

  module _ (new : Slots) (new_rows : Rows) (e : Entry) (at : slot_at slots place ≡ Some e)
      (ended : count_in_all (without_level depth (row_at rows place) e) ≡ 0)
      (gone : slot_at new place ≡ None) (others : (k : ℕ) → k ≢ place → slot_at new k ≡ slot_at slots' k)
      (other_lists : (k : ℕ) → k ≢ place → row_at new_rows k ≡ row_at rows' k) where
    abbrev middle : Slots
    middle = set (without depth slots (row_at rows)) place None

    here : place < length (without depth slots (row_at rows))
    here = omega (arith, length-without depth slots (row_at rows), slot_at-within slots place e at)

    stopped : Stopped Inner (without depth slots (row_at rows)) middle place (without_level depth (row_at rows place) e)
    stopped =
        record {
          kept = λ k before. subst (λ o. IfSome o (λ x. is_ended Inner x ≡ false)) (sym (without-at depth slots (row_at rows) k)) (stays (row_at rows k) (slot_at slots k) (stay k before));
          settled = λ k before. slot_at-set_other (without depth slots (row_at rows)) place k None (λ q. omega arith) ∙ sym (map_same (slot_at (without depth slots (row_at rows)) k));
          there = without-at depth slots (row_at rows) place ∙ ap (option_map (without_level depth (row_at rows place))) at;
          ended = eq-eqb _ 0 ended;
          gone = slot_at-set (without depth slots (row_at rows)) place None here;
          others = λ k behind. slot_at-set_other (without depth slots (row_at rows)) place k None (λ q. omega arith);
        } where
          stays : (row : List ℕ) (o : Option Entry) → IfSome o (λ x. count_in_all (without_level depth row x) ≢ 0) → IfSome (option_map (without_level depth row) o) (λ x. is_ended Inner x ≡ false)
          stays row None some = tt
          stays row (Some x) some = ne_eqb _ 0 some

    pub find-inner : find (is_ended Inner) (present (without depth slots (row_at rows))) ≡ Some (without_level depth (row_at rows place) e)
    find-inner =
        find-stopped Inner (without depth slots (row_at rows)) middle place (without_level depth (row_at rows place) e) stopped (length-set (without depth slots (row_at rows)) place None)

    pub present-inner : present (without depth new (row_at new_rows)) ≡ with_next_ended Inner (present (without depth slots (row_at rows)))
    present-inner =
        present-same (without depth new (row_at new_rows)) middle (λ k. elim (cases_eq k place) [
          | inl same ↦
              ap (slot_at (without depth new (row_at new_rows))) same
              ∙ (without-at depth new (row_at new_rows) place
              ∙ (ap (option_map (without_level depth (row_at new_rows place))) gone
              ∙ (sym (slot_at-set (without depth slots (row_at rows)) place None here) ∙ ap (slot_at middle) (sym same))))
          | inr apart ↦
              without-at depth new (row_at new_rows) k
              ∙ ((λ i. option_map (without_level depth (other_lists k apart i)) (others k apart i))
              ∙ (without-settled k ∙ (sym (without-at depth slots (row_at rows) k) ∙ sym (slot_at-set_other (without depth slots (row_at rows)) place k None apart))))
        ])
        ∙ present-stopped Inner (without depth slots (row_at rows)) middle place (without_level depth (row_at rows place) e) stopped (length-set (without depth slots (row_at rows)) place None)

    -- the levels had nothing of it
    pub nothing-inner : (level : ℕ) → level < suc depth → had_in (row_at rows place) level e.transaction ≡ 0
    nothing-inner level below = omega (arith, ended, rises-to (row_at rows place) e.transaction level depth (leveled.rising place e at) (omega arith))
