use Rattle.std.proofs.Common.{◌≡◌, ◌≢◌, ℕ, zero, suc, ◌+◌, ◌<◌, true, false, ◌&&◌, ◌==◌, List, [], ◌∷◌, length, arith, refl, sym, ap, ◌∙◌, inl, inr}
use Rattle.std.specs.Prelude.{count_by, if◌then◌else◌, IsSorted, IsPermutation, Result, Ok, Err, OnOk}
use Rattle.std.specs.List.{list_any}
use Rattle.std.specs.Result.{is_ok, is_err}
use Rattle.std.proofs.lemmas.Bool.{cases_Bool, false≢true}
use Rattle.std.proofs.lemmas.List.Sums.{sum_by-append}
use Rattle.std.proofs.lemmas.List.Sorted.{sum_by-IsPermutation}
use Rattle.modes_core.specs.declared.modes.Mode.{Mode}
use Rattle.modes_core.specs.Mode.{mode_eq}
use Rattle.modes_core.specs.Tag.{partition_of}
use Rattle.lock_table.specs.declared.no_memory.NoMemory.{NoMemory}
use Rattle.lock_table.specs.declared.rows.TableRow.{TableRow}
use Rattle.lock_table.specs.Content.{Content, Wait}
use Rattle.lock_table.specs.Listing.{row_eq, has_row, row_cmp, HasEachRow, IsListing, AppendsListing}
use Rattle.lock_table.specs.Queue.{waits_there}
use Rattle.lock_table.specs.WholeContent.{whole_of, content_at, times_had, IsOfPartition, AreOfPartitions}

-- The rows of the partitions from one on, partition by partition, to those of all.

pub waits-foreign :
    (waits : List Wait) (session : ℕ) (mode : Mode) → waits_there waits session ≡ false →
    list_any (λ w. (w.session == session) && mode_eq w.mode mode) waits ≡ false
waits-foreign [] session mode none = refl
waits-foreign (wait ∷ waits) session mode none =
    elim (cases_Bool (wait.session == session)) [
      | inl there ↦ absurd (false≢true (sym none ∙ rw there refl))
      | inr other ↦ rw other (waits-foreign waits session mode (rw other at none))
    ]

-- A content has no row of another partition's object.
no_foreign : (p : ℕ) (content : Content) (row : TableRow) → IsOfPartition p content → partition_of row.tag ≢ p → has_row content row ≡ false
no_foreign p content row own other =
    elim (cases_Bool row.granted) [
      | inl granted ↦
          elim (cases_Bool (content.holds row.session row.tag row.mode)) [
            | inl holds ↦ absurd (other (own.holds row.session row.tag row.mode holds))
            | inr free ↦ rw granted free
          ]
      | inr awaited ↦
          elim (cases_Bool (waits_there (content.waits row.tag) row.session)) [
            | inl waits ↦ absurd (other (own.waits row.session row.tag waits))
            | inr none ↦ rw awaited (waits-foreign (content.waits row.tag) row.session row.mode none)
          ]
    ]

times-below : (p : ℕ) (contents : List Content) (row : TableRow) → AreOfPartitions p contents → partition_of row.tag < p → times_had contents row ≡ 0
times-below p [] row own below = refl
times-below p (content ∷ contents) row own below =
    let other : partition_of row.tag ≢ p = omega (arith, below) in
    let later : times_had contents row ≡ 0 = times-below (p + 1) contents row own.1 (omega (arith, below)) in
    rw (no_foreign p content row own.0 other) (omega (arith, later))

-- The content of the row's partition alone can have it.
times-at :
    (p k : ℕ) (contents : List Content) (row : TableRow) → AreOfPartitions p contents → k < length contents → partition_of row.tag ≡ p + k →
    times_had contents row ≡ (if has_row (content_at contents k) row then 1 else 0)
times-at p k [] row own within at = absurd (omega (arith, within))
times-at p zero (content ∷ contents) row own within at =
    let later : times_had contents row ≡ 0 = times-below (p + 1) contents row own.1 (omega (arith, at)) in
    omega (arith, later)
times-at p (suc k) (content ∷ contents) row own within at =
    let other : partition_of row.tag ≢ p = omega (arith, at) in
    let later = times-at (p + 1) k contents row own.1 (omega (arith, within)) (omega (arith, at)) in
    rw (no_foreign p content row own.0 other) (omega (arith, later))

-- the rows with those of these contents behind what they were
abbrev pub RowsMore : List Content → List TableRow → List TableRow → Type 0
RowsMore contents old new = (row : TableRow) → count_by (row_eq row) new ≡ count_by (row_eq row) old + times_had contents row

rows-more :
    (content : Content) (contents : List Content) (old mid new : List TableRow) → RowsMore contents old mid → AppendsListing content mid new →
    RowsMore (content ∷ contents) old new
rows-more content contents old mid new so_far appends row =
    let split : count_by (row_eq row) new ≡ count_by (row_eq row) mid + count_by (row_eq row) appends.added =
    ap (count_by (row_eq row)) appends.behind ∙ sum_by-append (λ other. if row_eq row other then 1 else 0) mid appends.added in
    let added : count_by (row_eq row) appends.added ≡ (if has_row content row then 1 else 0) = appends.listed.each_once row in
    let before : count_by (row_eq row) mid ≡ count_by (row_eq row) old + times_had contents row = so_far row in
    omega (arith, split, added, before)

-- So is it after a first and a second call, of which the second is made where the first succeeded.
pub rows-then :
    (content : Content) (contents : List Content) (old mid new : List TableRow) (first second result : Result (Unit {0}) NoMemory) →
    is_ok first ≡ true → OnOk first (RowsMore contents old mid) → result ≡ second → OnOk second (AppendsListing content mid new) →
    OnOk result (RowsMore (content ∷ contents) old new)
rows-then content contents old mid new (Err refusal) second result was so_far is appends = absurd (false≢true was)
rows-then content contents old mid new (Ok u) second result was so_far is appends =
    rw is (by_second second appends) where
      by_second : (second : Result (Unit {0}) NoMemory) → OnOk second (AppendsListing content mid new) → OnOk second (RowsMore (content ∷ contents) old new)
      by_second (Ok u) appends = rows-more content contents old mid new so_far appends
      by_second (Err refusal) appends = tt

pub rows-refused : (first result : Result (Unit {0}) NoMemory) (P : Type 0) → is_ok first ≡ false → result ≡ first → OnOk result P
rows-refused first result P refused is = rw is (by_first first refused) where
  by_first : (first : Result (Unit {0}) NoMemory) → is_ok first ≡ false → OnOk first P
  by_first (Ok u) refused = absurd (false≢true (sym refused))
  by_first (Err refusal) refused = tt

pub rows-ok : (first : Result (Unit {0}) NoMemory) (P : Type 0) → is_err first ≡ false → OnOk first P → P
rows-ok (Ok u) P was p = p
rows-ok (Err refusal) P was p = absurd (false≢true (sym was))

-- All partitions listed, the rows are those of all,
pub each-all :
    (contents : List Content) (rows : List TableRow) → length contents ≡ 16 → AreOfPartitions 0 contents → RowsMore contents [] rows →
    HasEachRow (whole_of (content_at contents)) rows
each-all contents rows sixteen own all row =
    let e = all row in
    let counted : count_by (row_eq row) rows ≡ times_had contents row = omega (arith, e) in
    let below : partition_of row.tag < 16 = omega arith in
    counted ∙ times-at 0 (partition_of row.tag) contents row own (omega (arith, below, sixteen)) (omega arith)

-- and sorted they are the whole listing.
pub IsListing-all :
    (contents : List Content) (rows sorted : List TableRow) → length contents ≡ 16 → AreOfPartitions 0 contents → RowsMore contents [] rows →
    IsSorted row_cmp sorted → IsPermutation rows sorted → IsListing (whole_of (content_at contents)) sorted
IsListing-all contents rows sorted sixteen own all in_order moved =
    record {
      in_order = in_order;
      each_once = λ row.
          sum_by-IsPermutation (λ other. if row_eq row other then 1 else 0) rows sorted moved ∙ each-all contents rows sixteen own all row;
    }
