use Rattle.std.proofs.Common.{◌≡◌, ◌≢◌, ℕ, ◌+◌, ◌-◌, ◌<◌, ◌≤◌, false, List, [], ◌∷◌, length, take, suc, zero, refl, sym, ap, subst, ◌∙◌, ◌⊎◌, inl, inr, arith}
use Rattle.std.specs.Prelude.{Result, Ok, Err, OnOk, is_err}
use Rattle.std.proofs.lemmas.Bool.{false≢true, cases_eq, cases_lt}
use Rattle.std.proofs.lemmas.List.{get_or_past, get_or_default, get_or-take, length-take}
use Rattle.local_locks.specs.Owned.{max_count}
use Rattle.local_locks.specs.Slots.{Slots}
use Rattle.place_index.specs.Notes.{no_place}
use Rattle.local_locks.specs.Levels.{Rows, row_at, had_in, IsLeveled, IsPaced}

pub unless_err : {T E : Type 0} (result : Result T E) (P : Type 0) → is_err result ≡ false → OnOk result P → P
unless_err (Ok value) P fine holds = holds
unless_err (Err error) P fine holds = absurd (false≢true (sym fine))

-- ---- one list

-- Each level had no more than the next.
abbrev pub Rises : List ℕ → ℕ → Type 0
Rises row now = (level : ℕ) → had_in row level now ≤ had_in row (suc level) now

no_list : (row : List ℕ) → length row ≤ 0 → row ≡ []
no_list [] short = refl
no_list (x ∷ row) short = absurd (omega arith)

-- no level had more than there is now
pub rises-now : (row : List ℕ) (now level : ℕ) → Rises row now → had_in row level now ≤ now
rises-now row now level rises = go (length row) level (omega arith) where
  go : (n k : ℕ) → length row ≤ k + n → had_in row k now ≤ now
  go zero k past = omega (arith, get_or_past row k now (omega arith))
  go (suc n) k past = omega (arith, rises k, go n (suc k) (omega arith))

-- nor than a later one
pub rises-to : (row : List ℕ) (now level later : ℕ) → Rises row now → level ≤ later → had_in row level now ≤ had_in row later now
rises-to row now level later rises before = go later before where
  go : (k : ℕ) → level ≤ k → had_in row level now ≤ had_in row k now
  go zero within = omega (arith, ap (λ n. had_in row n now) (let none : level ≡ 0 = omega arith in none))
  go (suc k) within =
      elim (cases_eq level (suc k)) [
        | inl same ↦ omega (arith, ap (λ n. had_in row n now) same)
        | inr apart ↦ omega (arith, go k (omega (arith, apart)), rises k)
      ]

-- what is there now says nothing of the levels in the list
pub had-inside : (row : List ℕ) (level now other : ℕ) → level < length row → had_in row level now ≡ had_in row level other
had-inside row level now other within = get_or_default row level now other within

-- with more now
pub rises-more : (row : List ℕ) (now more : ℕ) → Rises row now → now ≤ more → Rises row more
rises-more row now more rises above = λ level.
    elim (cases_lt (suc level) (length row)) [
      | inl within ↦ omega (arith, had-inside row level now more (omega arith), had-inside row (suc level) now more within, rises level)
      | inr past ↦
          elim (cases_lt level (length row)) [
            | inl last ↦ omega (arith, had-inside row level now more last, get_or_past row (suc level) more past, rises-now row now level rises)
            | inr all ↦ omega (arith, get_or_past row level more all, get_or_past row (suc level) more past)
          ]
    ]

-- with less now, but no less than the last level in the list had
pub rises-less : (row : List ℕ) (now less last : ℕ) → Rises row now → length row ≡ suc last → had_in row last now ≤ less → Rises row less
rises-less row now less last rises full above = λ level.
    elim (cases_lt (suc level) (length row)) [
      | inl within ↦ omega (arith, had-inside row level now less (omega arith), had-inside row (suc level) now less within, rises level)
      | inr past ↦
          elim (cases_lt level (length row)) [
            | inl its ↦
                let same : level ≡ last = omega (arith, full) in
                omega (arith, had-inside row level now less its, get_or_past row (suc level) less past, ap (λ n. had_in row n now) same)
            | inr all ↦ omega (arith, get_or_past row level less all, get_or_past row (suc level) less past)
          ]
    ]

-- a list that says the same
pub rises-same : (row row' : List ℕ) (now : ℕ) → ((level : ℕ) → had_in row' level now ≡ had_in row level now) → Rises row now → Rises row' now
rises-same row row' now same rises = λ level. omega (arith, same level, same (suc level), rises level)

-- a list cut, where what is left is what the first level that was cut off had
pub had-cut : (row : List ℕ) (last now level : ℕ) → level ≤ last → had_in (take last row) level (had_in row last now) ≡ had_in row level now
had-cut row last now level before =
    elim (cases_lt level last) [
      | inr none ↦
          let same : level ≡ last = omega arith in
          get_or_past (take last row) level (had_in row last now) (omega (arith, length-take last row)) ∙ ap (λ n. had_in row n now) (sym same)
      | inl below ↦
          elim (cases_lt level (length row)) [
            | inl within ↦ get_or-take last row level (had_in row last now) below ∙ had-inside row level (had_in row last now) now within
            | inr past ↦
                get_or_past (take last row) level (had_in row last now) (omega (arith, length-take last row))
                ∙ (get_or_past row last now (omega arith) ∙ sym (get_or_past row level now past))
          ]
    ]

pub rises-cut : (row : List ℕ) (last now : ℕ) → Rises row now → Rises (take last row) (had_in row last now)
rises-cut row last now rises = λ level.
    elim (cases_lt level last) [
      | inl below ↦ omega (arith, had-cut row last now level (omega arith), had-cut row last now (suc level) (omega arith), rises level)
      | inr past ↦
          omega (
            arith,
            get_or_past (take last row) level (had_in row last now) (omega (arith, length-take last row)),
            get_or_past (take last row) (suc level) (had_in row last now) (omega (arith, length-take last row)),
          )
    ]

-- a list cut, where as much is left as there was
pub had-handed : (row : List ℕ) (last now level : ℕ) → level < last → had_in (take last row) level now ≡ had_in row level now
had-handed row last now level below = get_or-take last row level now below

pub rises-handed : (row : List ℕ) (last now : ℕ) → Rises row now → Rises (take last row) now
rises-handed row last now rises = λ level.
    elim (cases_lt (suc level) last) [
      | inl below ↦ omega (arith, had-handed row last now level (omega arith), had-handed row last now (suc level) below, rises level)
      | inr past ↦
          elim (cases_lt level last) [
            | inl its ↦
                omega (
                  arith,
                  had-handed row last now level its,
                  get_or_past (take last row) (suc level) now (omega (arith, length-take last row)),
                  rises-now row now level rises,
                )
            | inr all ↦
                omega (
                  arith,
                  get_or_past (take last row) level now (omega (arith, length-take last row)),
                  get_or_past (take last row) (suc level) now (omega (arith, length-take last row)),
                )
          ]
    ]

-- ---- in the first level

-- all lists are empty
pub first_lists : (slots : Slots) (rows : Rows) (depth touched : ℕ) → IsLeveled slots rows depth touched → depth ≡ 0 → (k : ℕ) → row_at rows k ≡ []
first_lists slots rows depth touched leveled first k = no_list (row_at rows k) (omega (arith, leveled.within k))

-- and so they are as they ought to be, whatever is in the slots
pub leveled-empty : (slots : Slots) (rows : Rows) (touched : ℕ) → ((k : ℕ) → row_at rows k ≡ []) → IsLeveled slots rows 0 touched
leveled-empty slots rows touched empty =
    record {
      few = omega arith;
      within = λ k. omega (arith, ap (λ (row : List ℕ). length row) (empty k));
      untouched = λ k before. omega (arith, ap (λ (row : List ℕ). length row) (empty k));
      empty = λ k none. empty k;
      rising = λ k e at level. omega (arith, ap (λ row. had_in row level e.transaction) (empty k), ap (λ row. had_in row (suc level) e.transaction) (empty k));
    }

pub leveled-first : (slots slots' : Slots) (rows : Rows) (depth touched touched' : ℕ) → IsLeveled slots rows depth touched → depth ≡ 0 → IsLeveled slots' rows depth touched'
leveled-first slots slots' rows depth touched touched' leveled first =
    subst (λ d. IsLeveled slots' rows d touched') (sym first) (leveled-empty slots' rows touched' (first_lists slots rows depth touched leveled first))

-- ---- what is usual in the first level

pub paced-first : (depth at_once hint : ℕ) → IsPaced depth at_once hint → 0 < at_once → (depth ≡ 0) × (at_once ≡ max_count)
paced-first depth at_once hint (inl first) some = first
paced-first depth at_once hint (inr inner) some = absurd (omega (arith, inner.1))

pub paced-hinted : (depth at_once hint : ℕ) → IsPaced depth at_once hint → hint < no_place → (depth ≡ 0) × (at_once ≡ max_count)
paced-hinted depth at_once hint (inl first) there = first
paced-hinted depth at_once hint (inr inner) there = absurd (omega (arith, inner.2))

-- another slot is looked at first
pub paced-looked : (depth at_once hint hint' : ℕ) → IsPaced depth at_once hint → (depth ≢ 0 → hint' ≡ hint) → IsPaced depth at_once hint'
paced-looked depth at_once hint hint' (inl first) same = inl first
paced-looked depth at_once hint hint' (inr inner) same = inr (inner.0, inner.1, omega (arith, same inner.0, inner.2))

-- the innermost level ends
pub paced-ended :
    (depth at_once hint after : ℕ) → IsPaced depth at_once hint → depth ≢ 0 → (((depth - 1 ≡ 0) × (after ≡ max_count)) ⊎ ((depth - 1 ≢ 0) × (after ≡ 0))) → IsPaced (depth - 1) after hint
paced-ended depth at_once hint after paced deep (inl first) = inl first
paced-ended depth at_once hint after (inl first) deep (inr none) = absurd (deep first.0)
paced-ended depth at_once hint after (inr inner) deep (inr none) = inr (none.0, none.1, inner.2)
