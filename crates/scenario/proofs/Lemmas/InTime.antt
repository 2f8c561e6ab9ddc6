-- The rows of a summary stay in time.
use Rattle.std.proofs.Common.{◌≡◌, ℕ, ◌≤◌, ◌<◌, ◌∙◌, List, [], ◌∷◌, ◌++◌, Bool, true, length, take, drop, length-set, refl, ap, subst, sym, arith, zero, suc, Some}
use Rattle.std.specs.Prelude.{nat_le, slice_index_or, slice_set}
use Rattle.std.specs.List.{HoldsAt, list_all}
use Rattle.std.proofs.lemmas.Bool.{and_from, and_parts}
use Rattle.std.proofs.lemmas.Bool.Decides.{nat_tests}
use Rattle.std.proofs.lemmas.Grind.{common_steps}
use Rattle.std.proofs.lemmas.List.Folds.{list_all-append}
use Rattle.scenario.specs.declared.summary.WaitRow.{WaitRow}
use Rattle.scenario.specs.Summaries.{ends_behind, is_in_time}

le-later : (from read later : ℕ) → read ≤ later → nat_le from read ≡ true → nat_le from later ≡ true
le-later from read later le h = grind (arith, nat_tests)

-- Rows that are in time are so when later lines were read.
pub in_time-later :
    (read later : ℕ) → read ≤ later → (rows : List WaitRow) → list_all (is_in_time read) rows ≡ true → list_all (is_in_time later) rows ≡ true
in_time-later read later le [] h = refl
in_time-later read later le (row ∷ rows) h =
    let parts = and_parts (is_in_time read row) (list_all (is_in_time read) rows) h in
    let one = and_parts (nat_le row.from read) (ends_behind row.from row.ended) parts.0 in
    and_from _ _ (and_from _ _ (le-later row.from read later le one.0) one.1) (in_time-later read later le rows parts.1)

-- A row that is in time comes behind others.
pub in_time-begun :
    (read : ℕ) (rows : List WaitRow) (row : WaitRow) → list_all (is_in_time read) rows ≡ true → is_in_time read row ≡ true →
    list_all (is_in_time read) (rows ++ row ∷ []) ≡ true
in_time-begun read rows row h is = list_all-append (is_in_time read) rows (row ∷ []) ∙ and_from _ _ h (and_from _ _ is refl)

-- Where each row passes a test, each does once one is put in another's place that passes it.
all-set :
    (test : WaitRow → Bool) (rows : List WaitRow) (place : ℕ) (row : WaitRow) → list_all test rows ≡ true → test row ≡ true →
    list_all test (slice_set rows place row) ≡ true
all-set test [] place row h is = refl
all-set test (x ∷ xs) zero row h is = and_from _ _ is (and_parts (test x) (list_all test xs) h).1
all-set test (x ∷ xs) (suc n) row h is =
    let parts = and_parts (test x) (list_all test xs) h in and_from _ _ parts.0 (all-set test xs n row parts.1 is)

-- Where each row passes a test, the one at a place does.
all-at :
    (test : WaitRow → Bool) (rows : List WaitRow) (place : ℕ) (d : WaitRow) → place < length rows → list_all test rows ≡ true →
    test (slice_index_or rows place d) ≡ true
all-at test [] place d within h = absurd (omega (arith, within))
all-at test (x ∷ xs) zero d within h = (and_parts (test x) (list_all test xs) h).0
all-at test (x ∷ xs) (suc n) d within h = all-at test xs n d (omega (arith, within)) (and_parts (test x) (list_all test xs) h).1

-- a row whose wait ends at this line
abbrev ended_at : ℕ → Bool → WaitRow → WaitRow
ended_at line granted row = record row { ended = Some (record { line = line; granted = granted }) }

-- A row that is in time is so with an end at the last line that was read.
ended-in_time : (read : ℕ) (granted : Bool) (row : WaitRow) → is_in_time read row ≡ true → is_in_time read (ended_at read granted row) ≡ true
ended-in_time read granted row h =
    let begun = (and_parts (nat_le row.from read) (ends_behind row.from row.ended) h).0 in and_from _ _ begun begun

-- What is written back in place of all of a list is all of it.
written-back : (n : ℕ) (rows new : List WaitRow) → length new ≡ length rows → length rows ≡ n → take n (new ++ drop (length new) rows) ≡ new
written-back n rows new same is = grind (arith, common_steps)

-- A wait that ends at the last line that was read is in time, as the others are.
pub in_time-ended :
    (read n : ℕ) (granted : Bool) (rows lent new : List WaitRow) (place : ℕ) → list_all (is_in_time read) rows ≡ true → lent ≡ rows →
    length lent ≡ n → place < length lent →
    HoldsAt (λ row. new ≡ slice_set lent place (record row { ended = Some (record { line = read; granted = granted }) })) lent place →
    list_all (is_in_time read) (take n (new ++ drop (length new) rows)) ≡ true
in_time-ended read n granted rows [] new place h is count within set = absurd (omega (arith, within))
in_time-ended read n granted rows (row ∷ others) new place h is count within set =
    let lent : List WaitRow = row ∷ others in
    let in_time : list_all (is_in_time read) lent ≡ true = subst (λ (all : List WaitRow). list_all (is_in_time read) all ≡ true) (sym is) h in
    let it : WaitRow = slice_index_or lent place row in
    let kept = all-set (is_in_time read) lent place (ended_at read granted it) in_time
    (ended-in_time read granted it (all-at (is_in_time read) lent place row within in_time)) in
    let whole : list_all (is_in_time read) new ≡ true = subst (λ (all : List WaitRow). list_all (is_in_time read) all ≡ true) (sym (set row)) kept in
    let same : length new ≡ length rows = ap length (set row) ∙ (length-set lent place (ended_at read granted it) ∙ ap length is) in
    subst (λ (all : List WaitRow). list_all (is_in_time read) all ≡ true)
    (sym (written-back n rows new same (sym (ap length is) ∙ count))) whole
