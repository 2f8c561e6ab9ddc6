use Rattle.std.proofs.Common.{◌≡◌, ℕ, ◌+◌, ◌<◌, ◌≤◌, true, false, List, length, Option, Some, None, arith, sym, ap, ◌∙◌, inl, inr}
use Rattle.std.proofs.Math.ListN.{set}
use Rattle.std.specs.Prelude.{count_by, is_some}
use Rattle.std.proofs.Common.{cond}
use Rattle.std.proofs.lemmas.List.Sums.{sum_by-set}
use Rattle.std.proofs.lemmas.Bool.{cases_lt, false_from_ne_true}
use Rattle.std.proofs.lemmas.List.{get_or-set_same, get_or-set_other, get_or_past}
use Rattle.modes_core.specs.declared.modes.Mode.{Mode}
use Rattle.modes_core.specs.declared.tags.Tag.{Tag}
use Rattle.modes_core.specs.Mode.{number_of}
use Rattle.modes_core.specs.ModeSet.{set_has}
use Rattle.modes_core.specs.Conflict.{conflict}
use Rattle.lock_table.specs.Content.{Holds, set_hold}
use Rattle.lock_table.specs.Clash.{IsConflictingHolder}
use Rattle.lock_records.specs.Tally.{counts_in, one_more, one_less}
use Rattle.lock_records.specs.Counting.{granted_of}
use Rattle.lock_records.specs.Lowest.{IsLowestHolder}
use Rattle.lock_records.specs.declared.holders.HolderRecord.{HolderRecord}
use Rattle.lock_records.specs.declared.locks.LockRecord.{LockRecord}
use Rattle.lock_records.specs.Holders.{holds_in, AreHolders}
use Rattle.lock_records.specs.Locks.{lock_at, IsRelocked}
use Rattle.lock_records.proofs.Lemmas.Indexes.{nothing-there}
use Rattle.lock_records.proofs.Lemmas.GrantedCounts.{granted-more, granted-less, granted-some}
use Rattle.lock_records.proofs.Lemmas.Held.{held-from}
use Rattle.modes_core.specs.Sessions.{most_sessions}

-- A place with a record is within the list.
pub place-within : (old : List (Option LockRecord)) (place : ℕ) (l : LockRecord) → lock_at old place ≡ Some l → place < length old
place-within old place l there =
    elim (cases_lt place (length old)) [
      | inl it ↦ it
      | inr past ↦ nothing-there old place (place < length old) l (get_or_past old place None past) there
    ]

-- A lock record written in place.
abbrev pub relocked-set : (old : List (Option LockRecord)) (tag : Tag) (place : ℕ) (l m : LockRecord) → lock_at old place ≡ Some l → l.tag ≡ tag → m.tag ≡ tag → IsRelocked old (set old place (Some m)) tag place
relocked-set old tag place l m there on still = record {
  was = record { lock = l; there = there; on = on };
  is = record { lock = m; there = get_or-set_same old place (Some m) None (place-within old place l there); on = still };
  others = λ k other. get_or-set_other old place k (Some m) None other;
}

-- A record that is written in place is one for one.
len-set : (old : List (Option LockRecord)) (place : ℕ) (l m : LockRecord) → lock_at old place ≡ Some l → count_by is_some (set old place (Some m)) ≡ count_by is_some old
len-set old place l m there =
    let sum = sum_by-set (λ o. cond (is_some o) 1 0) old place (Some m) None (place-within old place l there) in
    let was : ◌≡◌ {A = ℕ} (cond (is_some (lock_at old place)) 1 0) 1 = ap (λ o. cond (is_some o) 1 0) there in
    omega arith

pub room-set : (old : List (Option LockRecord)) (place : ℕ) (l m : LockRecord) (capacity : ℕ) → lock_at old place ≡ Some l → count_by is_some old + 1 ≤ capacity → count_by is_some (set old place (Some m)) + 1 ≤ capacity
room-set old place l m capacity there room = omega (arith, len-set old place l m there)

-- The counts of the holds, with one more and with one less.
pub counts-raised :
    (before after : Holds) (s : ℕ) (t : Tag) (m : Mode) (old new : List ℕ) → s < most_sessions → before s t m ≡ false → after ≡ set_hold before s t m true →
    ((n : Mode) → counts_in old n ≡ granted_of before t n) → counts_in new ≡ one_more (counts_in old) m → (n : Mode) → counts_in new n ≡ granted_of after t n
counts-raised before after s t m old new small was is counted raised n =
    ap (λ f. f n) raised ∙ ap (λ (counts : Mode → ℕ). one_more counts m n) (λ i k. counted k i)
    ∙ sym (granted-more before s t m small was n) ∙ ap (λ holds. granted_of holds t n) (sym is)

pub counts-lowered :
    (before after : Holds) (s : ℕ) (t : Tag) (m : Mode) (old new : List ℕ) → s < most_sessions → before s t m ≡ true → after ≡ set_hold before s t m false →
    ((n : Mode) → counts_in old n ≡ granted_of before t n) → counts_in new ≡ one_less (counts_in old) m → (n : Mode) → counts_in new n ≡ granted_of after t n
counts-lowered before after s t m old new small was is counted lowered n =
    ap (λ f. f n) lowered ∙ ap (λ (counts : Mode → ℕ). one_less counts m n) (λ i k. counted k i)
    ∙ sym (granted-less before s t m small was n) ∙ ap (λ holds. granted_of holds t n) (sym is)

-- Where no mode in conflict with a mode is counted, nobody holds one.
pub nobody-holds :
    (holders : List (Option HolderRecord)) (t : Tag) (counts : List ℕ) (mode : Mode) → AreHolders holders t → ((n : Mode) → counts_in counts n ≡ granted_of (holds_in holders) t n) →
    ((n : Mode) → conflict mode n ≡ true → counts_in counts n ≡ 0) → (other : ℕ) (n : Mode) → holds_in holders other t n ≡ true → conflict mode n ≡ false
nobody-holds holders t counts mode are counted none other n has =
    false_from_ne_true _ (λ hit.
    let shows = held-from holders other t n has in
    let some : 0 < granted_of (holds_in holders) t n = granted-some (holds_in holders) other t n (are.below other shows.place shows.at) has in
    let is = counted n in
    let zero_of : counts_in counts n ≡ 0 = none n hit in
    omega arith)

-- The lowest holder with its lowest mode is what a request conflicts with.
pub conflict-found :
    (holds : Holds) (s : ℕ) (t : Tag) (mode : Mode) (set : ℕ) (lowest : ℕ × ℕ) (its : Mode) → set_has set ≡ conflict mode → IsLowestHolder holds s t (set_has set) (Some lowest) →
    set_has lowest.1 its ≡ true → set_has set its ≡ true → ((n : Mode) → number_of n < number_of its → set_has lowest.1 n ≡ true → set_has set n ≡ false) →
    IsConflictingHolder holds s t mode lowest.0 its
conflict-found holds s t mode set lowest its is found held met low = record {
  another = found.0;
  holding = found.1 its ∙ held;
  conflicting = ap (λ f. f its) (sym is) ∙ met;
  lowest_session = λ k n below another has. ap (λ f. f n) (sym is) ∙ found.3 k n below another has;
  lowest_mode = λ n below has. ap (λ f. f n) (sym is) ∙ low n below (sym (found.1 n) ∙ has);
}
