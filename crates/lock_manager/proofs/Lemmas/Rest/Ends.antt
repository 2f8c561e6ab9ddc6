use Rattle.std.specs.Prelude.{map, length}
use Rattle.std.proofs.Common.{◌≡◌, ℕ, Bool, true, false, ◌&&◌, cond, List, [], ◌∷◌, refl, sym, ap, ◌∙◌, subst, inl, inr}
use Rattle.std.specs.Prelude.{if◌then◌else◌}
use Rattle.std.specs.List.{IsDistinct}
use Rattle.std.proofs.lemmas.Bool.{cases_Bool, false≢true, or_right}
use Rattle.modes_core.specs.declared.modes.Mode.{Mode}
use Rattle.modes_core.specs.declared.tags.Tag.{Tag}
use Rattle.modes_core.specs.Mode.{mode_eq}
use Rattle.modes_core.specs.Tag.{tag_eq, is_strong_on}
use Rattle.modes_core.proofs.Lemmas.Conflicts.{tag_eq-same}
use Rattle.local_locks.specs.declared.records.Entry.{Entry}
use Rattle.local_locks.specs.declared.ends.End.{End}
use Rattle.local_locks.specs.declared.ends.End.TheVariants.{Commit, Abort, Close, Inner}
use Rattle.local_locks.specs.Owned.{Owned, is_of, has_entry, are_of_same, is_ended, after_end, ended_by, left_by, found_by, count_up_to, with_next_ended}
use Rattle.local_locks.proofs.Lemmas.Entries.{same_key, same_key-from, same_key-refl, has_entry-ended, has_entry-next, has_entry-last, has_entry-found}
use Rattle.local_locks.proofs.Lemmas.Ends.{with_next_ended-left}
use Rattle.lock_table.proofs.Lemmas.Put.{put_here, put_else}
use Rattle.lock_table.specs.Put.{put}
use Rattle.lock_world.specs.Account.{Account}
use Rattle.lock_world.specs.AccountSteps.{own_with}
use Rattle.lock_world.specs.Counted.{Counted, is_counted, uncounting}
use Rattle.shared_rule.specs.Boards.{Seated, Stack}
use Rattle.fast_path.specs.declared.use_counts.UseCounts.{UseCounts}
use Rattle.lock_manager.specs.Rest.{counted_for, account_at_rest, IsUseCount, IsAtRest}
use Rattle.lock_manager.specs.Releases.{Releases, ReleasesAll, counted_released, account_released}

-- What a session at rest holds and has counted, as it goes on with the end of a transaction.

-- ---- own holds

-- Own holds with one set, object and mode taken together.
pub own_with-key :
    (own : Tag → Mode → Bool) (tag : Tag) (mode : Mode) (there : Bool) (t : Tag) (m : Mode)
    → own_with own tag mode there t m ≡ (if same_key t m tag mode then there else own t m)
own_with-key own tag mode there t m =
    elim (cases_Bool (tag_eq t tag)) [
      | inl on ↦
          ap (λ (row : Mode → Bool). row m) (put_here tag_eq own tag (put mode_eq (own tag) mode there) t on)
          ∙ ap (λ o. if mode_eq m mode then there else own o m) (sym (tag_eq-same t tag on))
          ∙ sym (ap (λ b. if b && mode_eq m mode then there else own t m) on)
      | inr off ↦
          ap (λ (row : Mode → Bool). row m) (put_else tag_eq own tag (put mode_eq (own tag) mode there) t off)
          ∙ sym (ap (λ b. if b && mode_eq m mode then there else own t m) off)
    ]

-- With the hold gone that the end takes away next, they are what the entries left say.
own-next :
    (end : End) (old : List Entry) (key : Tag × Mode) (rest : List (Tag × Mode)) → IsDistinct are_of_same old → ended_by end old ≡ key ∷ rest
    → own_with (has_entry old) key.0 key.1 false ≡ has_entry (with_next_ended end old)
own-next end old key rest once next = λ i t m. at t m i where
  at : (t : Tag) (m : Mode) → own_with (has_entry old) key.0 key.1 false t m ≡ has_entry (with_next_ended end old) t m
  at t m = own_with-key (has_entry old) key.0 key.1 false t m ∙ sym (has_entry-next end old key rest once next t m)

-- A step that takes nothing away leaves them.
own-last : (end : End) (entries : List Entry) → ended_by end entries ≡ [] → has_entry entries ≡ has_entry (with_next_ended end entries)
own-last end entries none = λ i t m. sym (has_entry-last end entries none t m) i

-- ---- what is counted

-- the list with an entry's strong lock before it, if it is one
abbrev pub with_strong : ℕ → Entry → List Counted → List Counted
with_strong limit entry list =
    if is_strong_on entry.tag entry.mode then record { tag = entry.tag; mode = entry.mode; position = limit } ∷ list else list

-- Counting goes entry by entry,
pub counted_for-cons :
    (limit : ℕ) (entry : Entry) (entries : List Entry)
    → counted_for limit (entry ∷ entries) ≡ with_strong limit entry (counted_for limit entries)
counted_for-cons limit entry entries =
    elim (cases_Bool (is_strong_on entry.tag entry.mode)) [
      | inl strong ↦ rw strong refl
      | inr weak ↦ rw weak refl
    ]

-- and taking a count back goes past what is of another object or mode, and leaves out what is of that.
pub uncounting-here :
    (limit : ℕ) (entry : Entry) (list : List Counted) (tag : Tag) (mode : Mode) → is_of tag mode entry ≡ true
    → uncounting (with_strong limit entry list) tag mode ≡ uncounting list tag mode
uncounting-here limit entry list tag mode it =
    elim (cases_Bool (is_strong_on entry.tag entry.mode)) [
      | inl strong ↦ rw (strong, it) refl
      | inr weak ↦ rw weak refl
    ]

uncounting-else :
    (limit : ℕ) (entry : Entry) (list : List Counted) (tag : Tag) (mode : Mode) → is_of tag mode entry ≡ false
    → uncounting (with_strong limit entry list) tag mode ≡ with_strong limit entry (uncounting list tag mode)
uncounting-else limit entry list tag mode other =
    elim (cases_Bool (is_strong_on entry.tag entry.mode)) [
      | inl strong ↦ rw (strong, other) refl
      | inr weak ↦ rw weak refl
    ]

-- What is counted for one more entry of another object or mode.
pub uncounting-past :
    (limit : ℕ) (entry : Entry) (entries left : List Entry) (tag : Tag) (mode : Mode) → is_of tag mode entry ≡ false
    → uncounting (counted_for limit entries) tag mode ≡ counted_for limit left
    → uncounting (counted_for limit (entry ∷ entries)) tag mode ≡ counted_for limit (entry ∷ left)
uncounting-past limit entry entries left tag mode other same =
    ap (λ list. uncounting list tag mode) (counted_for-cons limit entry entries)
    ∙ uncounting-else limit entry (counted_for limit entries) tag mode other
    ∙ ap (with_strong limit entry) same
    ∙ sym (counted_for-cons limit entry left)

-- Where there is no entry of the object and mode nothing is counted for it,
pub uncounting-none :
    (limit : ℕ) (entries : List Entry) (tag : Tag) (mode : Mode) → has_entry entries tag mode ≡ false
    → uncounting (counted_for limit entries) tag mode ≡ counted_for limit entries
uncounting-none limit [] tag mode none = refl
uncounting-none limit (entry ∷ entries) tag mode none =
    elim (cases_Bool (is_of tag mode entry)) [
      | inl it ↦ absurd (false≢true (sym none ∙ rw it refl))
      | inr other ↦ uncounting-past limit entry entries entries tag mode other (uncounting-none limit entries tag mode (rw other at none))
    ]

-- nor where the mode isn't strong.
pub uncounting-weak :
    (limit : ℕ) (entries : List Entry) (tag : Tag) (mode : Mode) → is_strong_on tag mode ≡ false
    → uncounting (counted_for limit entries) tag mode ≡ counted_for limit entries
uncounting-weak limit [] tag mode weak = refl
uncounting-weak limit (entry ∷ entries) tag mode weak =
    elim (cases_Bool (is_of tag mode entry)) [
      | inl it ↦
          let same = same_key-from entry.tag entry.mode tag mode it in
          let also : is_strong_on entry.tag entry.mode ≡ false = (λ i. is_strong_on (same.0 i) (same.1 i)) ∙ weak in
          let counted : counted_for limit (entry ∷ entries) ≡ counted_for limit entries = counted_for-cons limit entry entries ∙ rw also refl in
          ap (λ list. uncounting list tag mode) counted ∙ uncounting-weak limit entries tag mode weak ∙ sym counted
      | inr other ↦ uncounting-past limit entry entries entries tag mode other (uncounting-weak limit entries tag mode weak)
    ]

-- An end changes no entry's object and mode, nor what goes by these.
as_before :
    {A : Type 0} (of : Tag → Mode → A) (end : End) (entry : Entry) → of (after_end end entry).tag (after_end end entry).mode ≡ of entry.tag entry.mode
as_before of Commit entry = refl
as_before of Abort entry = refl
as_before of Close entry = refl
as_before of Inner entry = refl

counted_for-after_end :
    (limit : ℕ) (end : End) (entry : Entry) (entries : List Entry)
    → counted_for limit (after_end end entry ∷ entries) ≡ counted_for limit (entry ∷ entries)
counted_for-after_end limit end entry entries =
    let list = counted_for limit entries in
    counted_for-cons limit (after_end end entry) entries
    ∙ as_before (λ tag mode. if is_strong_on tag mode then record { tag = tag; mode = mode; position = limit } ∷ list else list) end entry
    ∙ sym (counted_for-cons limit entry entries)

is_of-after_end : (end : End) (entry : Entry) (tag : Tag) (mode : Mode) → is_of tag mode (after_end end entry) ≡ is_of tag mode entry
is_of-after_end end entry tag mode = as_before (λ t m. tag_eq t tag && mode_eq m mode) end entry

-- With the count taken back of what the end takes away next, it is what is counted for the entries left.
uncounting-next :
    (limit : ℕ) (end : End) (old : List Entry) (key : Tag × Mode) (rest : List (Tag × Mode))
    → IsDistinct are_of_same old → ended_by end old ≡ key ∷ rest
    → uncounting (counted_for limit old) key.0 key.1 ≡ counted_for limit (with_next_ended end old)
unfolding IsDistinct
uncounting-next limit end [] key rest once next = absurd (let bad : [] ≡ key ∷ rest = next in cc)
uncounting-next limit end (entry ∷ entries) key rest once next =
    let gone : has_entry (with_next_ended end (entry ∷ entries)) key.0 key.1 ≡ false =
    has_entry-next end (entry ∷ entries) key rest once next key.0 key.1
    ∙ ap (λ b. if b then false else has_entry (entry ∷ entries) key.0 key.1) (same_key-refl key.0 key.1) in
    elim (cases_Bool (is_ended end entry)) [
      | inl ends ↦
          let both : (entry.tag, entry.mode) ∷ ended_by end entries ≡ key ∷ rest = rw ends at next in
          let same : (entry.tag, entry.mode) ≡ key = cc in
          let it : is_of key.0 key.1 entry ≡ true =
          (λ i. same_key entry.tag entry.mode (sym same i).0 (sym same i).1) ∙ same_key-refl entry.tag entry.mode in
          ap (λ list. uncounting list key.0 key.1) (counted_for-cons limit entry entries)
          ∙ uncounting-here limit entry (counted_for limit entries) key.0 key.1 it
          ∙ uncounting-none limit entries key.0 key.1 (rw ends at gone)
          ∙ sym (ap (λ b. counted_for limit (cond b entries (after_end end entry ∷ with_next_ended end entries))) ends)
      | inr stays ↦
          let later : ended_by end entries ≡ key ∷ rest = rw stays at next in
          let apart : is_of key.0 key.1 entry ≡ false =
          elim (cases_Bool (is_of key.0 key.1 entry)) [
            | inl it ↦ absurd (false≢true (sym (rw stays at gone) ∙ rw (is_of-after_end end entry key.0 key.1, it) refl))
            | inr other ↦ other
          ] in
          uncounting-past limit entry entries (with_next_ended end entries) key.0 key.1 apart
          (uncounting-next limit end entries key rest once.1 later)
          ∙ sym (counted_for-after_end limit end entry (with_next_ended end entries))
          ∙ sym (ap (λ b. counted_for limit (cond b entries (after_end end entry ∷ with_next_ended end entries))) stays)
    ]

counted-next :
    (limit : ℕ) (end : End) (old : List Entry) (key : Tag × Mode) (rest : List (Tag × Mode))
    → IsDistinct are_of_same old → ended_by end old ≡ key ∷ rest
    → counted_released (counted_for limit old) key.0 key.1 ≡ counted_for limit (with_next_ended end old)
counted-next limit end old key rest once next =
    elim (cases_Bool (is_strong_on key.0 key.1)) [
      | inl strong ↦
          ap (λ b. if b then uncounting (counted_for limit old) key.0 key.1 else counted_for limit old) strong
          ∙ uncounting-next limit end old key rest once next
      | inr weak ↦
          ap (λ b. if b then uncounting (counted_for limit old) key.0 key.1 else counted_for limit old) weak
          ∙ sym (uncounting-weak limit old key.0 key.1 weak)
          ∙ uncounting-next limit end old key rest once next
    ]

-- A step that takes nothing away leaves it.
counted-last :
    (limit : ℕ) (end : End) (entries : List Entry)
    → ended_by end entries ≡ [] → counted_for limit entries ≡ counted_for limit (with_next_ended end entries)
counted-last limit end [] none = refl
counted-last limit end (entry ∷ entries) none =
    elim (cases_Bool (is_ended end entry)) [
      | inl ends ↦ absurd (let bad : (entry.tag, entry.mode) ∷ ended_by end entries ≡ [] = rw ends at none in cc)
      | inr stays ↦
          counted_for-cons limit entry entries
          ∙ ap (with_strong limit entry) (counted-last limit end entries (rw stays at none))
          ∙ sym (counted_for-cons limit entry (with_next_ended end entries))
          ∙ sym (counted_for-after_end limit end entry (with_next_ended end entries))
          ∙ sym (ap (λ b. counted_for limit (cond b entries (after_end end entry ∷ with_next_ended end entries))) stays)
    ]

-- A strong lock that there is an entry of is counted.
pub entry-counted :
    (limit : ℕ) (entries : List Entry) (tag : Tag) (mode : Mode) → has_entry entries tag mode ≡ true → is_strong_on tag mode ≡ true
    → is_counted (counted_for limit entries) tag mode ≡ true
entry-counted limit [] tag mode has strong = has
entry-counted limit (entry ∷ entries) tag mode has strong =
    ap (λ list. is_counted list tag mode) (counted_for-cons limit entry entries)
    ∙ elim (cases_Bool (is_of tag mode entry)) [
      | inl it ↦
          let same = same_key-from entry.tag entry.mode tag mode it in
          let also : is_strong_on entry.tag entry.mode ≡ true = (λ i. is_strong_on (same.0 i) (same.1 i)) ∙ strong in
          rw (also, it) refl
      | inr other ↦
          let later : is_counted (counted_for limit entries) tag mode ≡ true = entry-counted limit entries tag mode (rw other at has) strong in
          elim (cases_Bool (is_strong_on entry.tag entry.mode)) [
            | inl its ↦ rw its (or_right (is_of tag mode entry) (is_counted (counted_for limit entries) tag mode) later)
            | inr weak ↦ rw weak later
          ]
    ]

-- ---- the account

-- With the hold released that the end takes away next it is at rest with the entries left,
pub rest-next :
    (groups limit database : ℕ) (uses left : UseCounts) (end : End) (a b : Account) (stack its : Stack) (old new : List Entry) (key : Tag × Mode)
    → IsDistinct are_of_same old → ended_by end old ≡ key ∷ ended_by end new → new ≡ with_next_ended end old
    → b ≡ account_released a key.0 key.1 b.fast.remembered b.trace → IsUseCount groups b left → its ≡ stack
    → IsAtRest groups limit database uses a stack old → IsAtRest groups limit database left b its new
rest-next groups limit database uses left end a b stack its old new key once next gone released use_count same at = record {
  account =
      released
      ∙ ap (λ (v : Account). account_released v key.0 key.1 b.fast.remembered b.trace) at.account
      ∙ (λ i. record (account_at_rest limit database b.fast.remembered old b.trace) {
        own = own-next end old key (ended_by end new) once next i;
        fast = record ((account_at_rest limit database b.fast.remembered old b.trace).fast) {
          counted = counted-next limit end old key (ended_by end new) once next i;
        };
      })
      ∙ ap (λ entries. account_at_rest limit database b.fast.remembered entries b.trace) (sym gone);
  use_count = use_count;
  nothing_left = same ∙ at.nothing_left;
}

-- and so after a step that takes nothing away.
pub rest-last :
    (groups limit database : ℕ) (uses : UseCounts) (end : End) (a : Account) (stack : Stack) (old new : List Entry) → ended_by end old ≡ [] → new ≡ with_next_ended end old
    → IsAtRest groups limit database uses a stack old → IsAtRest groups limit database uses a stack new
rest-last groups limit database uses end a stack old new none gone at = record {
  account =
      at.account
      ∙ (λ i. record (account_at_rest limit database a.fast.remembered old a.trace) {
        own = own-last end old none i;
        fast = record ((account_at_rest limit database a.fast.remembered old a.trace).fast) { counted = counted-last limit end old none i };
      })
      ∙ ap (λ entries. account_at_rest limit database a.fast.remembered entries a.trace) (sym gone);
  use_count = at.use_count;
  nothing_left = at.nothing_left;
}

-- A session at rest with entries that hold and count the same is at rest with them.
pub rest-same :
    (groups limit database : ℕ) (uses : UseCounts) (a : Account) (stack : Stack) (old new : List Entry) → has_entry old ≡ has_entry new → counted_for limit old ≡ counted_for limit new
    → IsAtRest groups limit database uses a stack old → IsAtRest groups limit database uses a stack new
rest-same groups limit database uses a stack old new own counted at = record {
  account =
      at.account
      ∙ (λ i. record (account_at_rest limit database a.fast.remembered old a.trace) {
        own = own i;
        fast = record ((account_at_rest limit database a.fast.remembered old a.trace).fast) { counted = counted i };
      });
  use_count = at.use_count;
  nothing_left = at.nothing_left;
}

-- So it is with the entries as an end finds them, which has other counts of them alone,
counted-recounted :
    (limit : ℕ) (count : Tag → Mode → ℕ) (entries : List Entry)
    → counted_for limit entries ≡ counted_for limit (map {A = Entry} {B = Entry} (λ entry. record entry { transaction = count entry.tag entry.mode }) entries)
counted-recounted limit count [] = refl
counted-recounted limit count (entry ∷ entries) =
    counted_for-cons limit entry entries
    ∙ ap (with_strong limit entry) (counted-recounted limit count entries)
    ∙ sym (counted_for-cons limit (record entry { transaction = count entry.tag entry.mode })
    (map {A = Entry} {B = Entry} (λ e. record e { transaction = count e.tag e.mode }) entries))

counted-found : (limit : ℕ) (end : End) (owned : Owned) → counted_for limit owned.entries ≡ counted_for limit (found_by end owned)
counted-found limit Commit owned = refl
counted-found limit Abort owned = refl
counted-found limit Close owned = refl
counted-found limit Inner owned = counted-recounted limit (count_up_to owned (length owned.outer)) owned.entries

pub rest-found :
    (groups limit database : ℕ) (uses : UseCounts) (end : End) (a : Account) (stack : Stack) (owned : Owned)
    → IsAtRest groups limit database uses a stack owned.entries → IsAtRest groups limit database uses a stack (found_by end owned)
rest-found groups limit database uses end a stack owned at =
    rest-same groups limit database uses a stack owned.entries (found_by end owned) (λ i t m. sym (has_entry-found end owned t m) i) (counted-found limit end owned) at

-- and once an end has nothing more to take away.
pub rest-left :
    (groups limit database : ℕ) (uses : UseCounts) (end : End) (a : Account) (stack : Stack) (old new : List Entry) → ended_by end old ≡ [] → new ≡ left_by end old
    → IsAtRest groups limit database uses a stack old → IsAtRest groups limit database uses a stack new
rest-left groups limit database uses end a stack old new none left at =
    rest-last groups limit database uses end a stack old new none (left ∙ sym (with_next_ended-left end old none)) at

-- A session at rest holds what the end takes away next, and has counted it where it is a strong lock.
pub rest-held :
    (groups limit database : ℕ) (uses : UseCounts) (end : End) (a : Account) (stack : Stack) (entries : List Entry) (key : Tag × Mode) (rest : List (Tag × Mode))
    → ended_by end entries ≡ key ∷ rest → IsAtRest groups limit database uses a stack entries → a.own key.0 key.1 ≡ true
rest-held groups limit database uses end a stack entries key rest next at =
    ap (λ (v : Account). v.own key.0 key.1) at.account ∙ has_entry-ended end entries key rest next

pub rest-counted :
    (groups limit database : ℕ) (uses : UseCounts) (end : End) (a : Account) (stack : Stack) (entries : List Entry) (key : Tag × Mode) (rest : List (Tag × Mode))
    → ended_by end entries ≡ key ∷ rest → IsAtRest groups limit database uses a stack entries
    → is_strong_on key.0 key.1 ≡ true → is_counted a.fast.counted key.0 key.1 ≡ true
rest-counted groups limit database uses end a stack entries key rest next at strong =
    ap (λ (v : Account). is_counted v.fast.counted key.0 key.1) at.account
    ∙ entry-counted limit entries key.0 key.1 (has_entry-ended end entries key rest next) strong

-- The release of the next hold leads on to the releases of those left.
pub releases-next :
    (seat its : Seated) (end : End) (a b c : Account) (uses between left : UseCounts) (old new : List Entry) (key : Tag × Mode) → its ≡ seat
    → ended_by end old ≡ key ∷ ended_by end new → Releases its.groups its.number a uses key.0 key.1 b between
    → ReleasesAll seat.groups seat.number b between (ended_by end new) c left → ReleasesAll seat.groups seat.number a uses (ended_by end old) c left
releases-next seat its end a b c uses between left old new key same next first others =
    subst (λ keys. ReleasesAll seat.groups seat.number a uses keys c left) {x = key ∷ ended_by end new} {y = ended_by end old} (sym next)
    (b, between, subst (λ (v : Seated). Releases v.groups v.number a uses key.0 key.1 b between) same first, others)
