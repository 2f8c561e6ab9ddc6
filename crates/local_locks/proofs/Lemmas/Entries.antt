-- What the session has an entry for after each change: for callers that keep a shared hold for each entry.
use Rattle.std.proofs.Common.{ℕ, ◌≡◌, ◌≢◌, ◌<◌, Bool, true, false, not, ◌&&◌, ◌||◌, ◌==◌, List, [], ◌∷◌, arith, refl, sym, ap, ◌∙◌, inl, inr}
use Rattle.std.specs.Prelude.{All, ◌↔◌, if◌then◌else◌, Option, Some, None, is_some, map, length}
use Rattle.std.specs.Option.{option_map_or}
use Rattle.std.specs.List.{AllByRecursion, IsDistinct}
use Rattle.std.proofs.lemmas.Bool.{cases_Bool, cases_lt, false≢true}
use Rattle.std.proofs.lemmas.List.{get_or_past}
use Rattle.std.proofs.lemmas.List.Elements.{All-tail}
use Rattle.modes_core.specs.declared.modes.Mode.{Mode}
use Rattle.modes_core.specs.declared.tags.Tag.{Tag}
use Rattle.modes_core.specs.declared.sessions.Owner.{Owner}
use Rattle.modes_core.specs.declared.sessions.Owner.TheVariants.{Session, Transaction}
use Rattle.modes_core.specs.Mode.{mode_eq}
use Rattle.modes_core.specs.Tag.{tag_eq}
use Rattle.modes_core.proofs.Lemmas.Conflicts.{both_true, tag_eq-same, tag_eq-refl, mode_eq-same, mode_eq-refl}
use Rattle.local_locks.specs.declared.records.Entry.{Entry}
use Rattle.local_locks.specs.declared.answers.Unlocked.{Unlocked}
use Rattle.local_locks.specs.declared.answers.Unlocked.TheVariants.{Released, StillHeld}
use Rattle.local_locks.specs.declared.ends.End.{End}
use Rattle.local_locks.specs.declared.ends.End.TheVariants.{Commit, Abort, Close, Inner}
use Rattle.local_locks.specs.Owned.{Owned, is_of, count_for, count_in_all, entry_for, total_of, owner_count_of, has_entry, are_of_same, is_ended, after_end, ended_by, found_by, count_up_to, own_count_of, with_next_ended, with_one_more, with_one_less, IsCounted}
use Rattle.local_locks.proofs.Lemmas.Owned.{has_entry-with_one_more as one_more, has_entry-with_one_less as one_less}

-- An object and mode with no count has no entry.
pub has_entry-none :
    (entries : List Entry) (tag : Tag) (mode : Mode) → All IsCounted entries → total_of entries tag mode ≡ 0 → has_entry entries tag mode ≡ false
has_entry-none [] tag mode counted none = refl
has_entry-none (entry ∷ entries) tag mode counted none =
    elim (cases_Bool (is_of tag mode entry)) [
      | inl it ↦
          let some : 0 < count_in_all entry = (counted 0 entry (omega arith)).some in
          let no_count : count_in_all entry ≡ 0 = rw it at none in
          absurd (omega (arith, some, no_count))
      | inr other ↦ rw other (has_entry-none entries tag mode (All-tail IsCounted entry entries counted) (rw other at none))
    ]

-- An object and mode with a count has an entry.
pub has_entry-some : (entries : List Entry) (tag : Tag) (mode : Mode) → 0 < total_of entries tag mode → has_entry entries tag mode ≡ true
has_entry-some [] tag mode some = absurd (omega arith)
has_entry-some (entry ∷ entries) tag mode some =
    elim (cases_Bool (is_of tag mode entry)) [
      | inl it ↦ rw it refl
      | inr other ↦ rw other (has_entry-some entries tag mode (rw other at some))
    ]

-- whether two pairs of an object and a mode are the same
abbrev pub same_key : Tag → Mode → Tag → Mode → Bool
same_key t m tag mode = tag_eq t tag && mode_eq m mode

pub same_key-from : (t : Tag) (m : Mode) (tag : Tag) (mode : Mode) → same_key t m tag mode ≡ true → (t ≡ tag) × (m ≡ mode)
same_key-from t m tag mode e = let both = both_true _ _ e in (tag_eq-same t tag both.0, mode_eq-same m mode both.1)

pub same_key-refl : (t : Tag) (m : Mode) → same_key t m t m ≡ true
same_key-refl t m = rw (tag_eq-refl t, mode_eq-refl m) refl

pub same_key-comm : (t : Tag) (m : Mode) (tag : Tag) (mode : Mode) → same_key t m tag mode ≡ same_key tag mode t m
same_key-comm t m tag mode =
    elim (cases_Bool (same_key t m tag mode)) [
      | inl alike ↦ let same = same_key-from t m tag mode alike in alike ∙ sym (rw (same.0, same.1) (same_key-refl tag mode))
      | inr apart ↦
          elim (cases_Bool (same_key tag mode t m)) [
            | inl alike ↦ let same = same_key-from tag mode t m alike in absurd (false≢true (sym apart ∙ rw (same.0, same.1) (same_key-refl t m)))
            | inr apart_too ↦ apart ∙ sym apart_too
          ]
    ]

-- After one acquire the object and mode have an entry, and the others have one as before.
pub has_entry-with_one_more :
    (entries : List Entry) (tag : Tag) (mode : Mode) (owner : Owner) (t : Tag) (m : Mode) →
    has_entry (with_one_more entries tag mode owner) t m ≡ (if same_key t m tag mode then true else has_entry entries t m)
has_entry-with_one_more entries tag mode owner t m =
    one_more entries tag mode owner t m ∙
    (there (same_key tag mode t m) (has_entry entries t m) ∙ ap (λ same. if same then true else has_entry entries t m) (same_key-comm tag mode t m)) where
      there : (key b : Bool) → (key || b) ≡ (if key then true else b)
      there true b = refl
      there false b = refl

-- After one release the object and mode have an entry only where their total was not 1, and the others have
-- one as before.
pub has_entry-with_one_less :
    (entries : List Entry) (tag : Tag) (mode : Mode) (owner : Owner) (t : Tag) (m : Mode) →
    has_entry (with_one_less entries tag mode owner) t m ≡
    (if same_key t m tag mode then (if total_of entries tag mode == 1 then false else has_entry entries tag mode) else has_entry entries t m)
has_entry-with_one_less entries tag mode owner t m =
    one_less entries tag mode owner t m ∙
    (gone (total_of entries tag mode == 1) (same_key tag mode t m) (has_entry entries t m) (has_entry entries tag mode) own ∙
    ap (λ same. if same then (if total_of entries tag mode == 1 then false else has_entry entries tag mode) else has_entry entries t m) (same_key-comm tag mode t m)) where
      own : same_key tag mode t m ≡ true → has_entry entries t m ≡ has_entry entries tag mode
      own alike = let same = same_key-from tag mode t m alike in rw (same.0, same.1) refl

      gone : (last key b its : Bool) → (key ≡ true → b ≡ its) → (not (last && key) && b) ≡ (if key then (if last then false else its) else b)
      gone true true b its own = refl
      gone true false b its own = refl
      gone false true b its own = own refl
      gone false false b its own = refl

-- After a release the entries of other objects and modes are as they were,
pub others-give_up :
    (old new : List Entry) (tag : Tag) (mode : Mode) (owner : Owner) → new ≡ with_one_less old tag mode owner →
    (t : Tag) (m : Mode) → same_key t m tag mode ≡ false → has_entry new t m ≡ has_entry old t m
others-give_up old new tag mode owner less t m apart =
    ap (λ (entries : List Entry). has_entry entries t m) less ∙ has_entry-with_one_less old tag mode owner t m ∙ rw apart refl

-- and that of the very one too where counts are left.
pub keys-still_held :
    (old new : List Entry) (tag : Tag) (mode : Mode) (owner : Owner) → new ≡ with_one_less old tag mode owner → 0 < total_of new tag mode →
    (t : Tag) (m : Mode) → has_entry new t m ≡ has_entry old t m
keys-still_held old new tag mode owner less some t m =
    elim (cases_Bool (same_key t m tag mode)) [
      | inl alike ↦
          let same = same_key-from t m tag mode alike in
          ap (λ (o : Tag). has_entry new o m) same.0 ∙ ap (has_entry new tag) same.1 ∙ very ∙ sym (ap (λ (o : Tag). has_entry old o m) same.0 ∙ ap (has_entry old tag) same.1)
      | inr apart ↦ others-give_up old new tag mode owner less t m apart
    ] where
      after_it : has_entry new tag mode ≡ (if total_of old tag mode == 1 then false else has_entry old tag mode)
      after_it = ap (λ (entries : List Entry). has_entry entries tag mode) less ∙ has_entry-with_one_less old tag mode owner tag mode ∙ rw (same_key-refl tag mode) refl

      very : has_entry new tag mode ≡ has_entry old tag mode
      very =
          elim (cases_Bool (total_of old tag mode == 1)) [
            | inl last ↦ absurd (false≢true (sym (after_it ∙ ap (λ (b : Bool). if b then false else has_entry old tag mode) last) ∙ has_entry-some new tag mode some))
            | inr more ↦ after_it ∙ ap (λ (b : Bool). if b then false else has_entry old tag mode) more
          ]

-- What has a count has an entry.
pub owned-entry : (entries : List Entry) (tag : Tag) (mode : Mode) (owner : Owner) → owner_count_of entries tag mode owner ≢ 0 → has_entry entries tag mode ≡ true
owned-entry entries tag mode owner some = at (entry_for entries tag mode) some where
  at : (found : Option Entry) → option_map_or (count_for owner) found 0 ≢ 0 → is_some found ≡ true
  at None none = absurd (none refl)
  at (Some entry) some = refl

-- So has what an owner can give back.
pub own-entry : (owned : Owned) (tag : Tag) (mode : Mode) (owner : Owner) → own_count_of owned tag mode owner ≢ 0 → has_entry owned.entries tag mode ≡ true
own-entry owned tag mode Session some = owned-entry owned.entries tag mode Session some
own-entry owned tag mode Transaction some =
    owned-entry owned.entries tag mode Transaction (λ none. some (omega (
      arith,
      none,
      ap (λ (entries : List Entry). owner_count_of entries tag mode Transaction) (get_or_past owned.outer (length owned.outer) owned.entries (omega arith)),
    )))

-- A release that was not the last left no count of it; which it was, its answer says.
pub gone-released : (entries : List Entry) (tag : Tag) (mode : Mode) (result : Unlocked) → ((result ≡ StillHeld) ↔ (0 < total_of entries tag mode)) → All IsCounted entries →
    result ≡ Released → has_entry entries tag mode ≡ false
gone-released entries tag mode result answer counted released =
    elim (cases_lt 0 (total_of entries tag mode)) [
      | inl some ↦ absurd (other (sym released ∙ answer.1 some))
      | inr none ↦ has_entry-none entries tag mode counted (omega arith)
    ] where
      other : (let it : Unlocked = Released in it) ≢ StillHeld
      other e = cc

-- ---- which objects and modes have an entry, after a step of an end

is_of-after_end : (end : End) (entry : Entry) (t : Tag) (m : Mode) → is_of t m (after_end end entry) ≡ is_of t m entry
is_of-after_end Commit entry t m = refl
is_of-after_end Abort entry t m = refl
is_of-after_end Close entry t m = refl
is_of-after_end Inner entry t m = refl

-- What an end takes away next has an entry.
pub has_entry-ended :
    (end : End) (entries : List Entry) (key : Tag × Mode) (rest : List (Tag × Mode)) → ended_by end entries ≡ key ∷ rest → has_entry entries key.0 key.1 ≡ true
has_entry-ended end [] key rest is = absurd (let bad : [] ≡ key ∷ rest = is in cc)
has_entry-ended end (entry ∷ entries) key rest is =
    elim (cases_Bool (is_ended end entry)) [
      | inl ends ↦
          let both : (entry.tag, entry.mode) ∷ ended_by end entries ≡ key ∷ rest = rw ends at is in
          let same : (entry.tag, entry.mode) ≡ key = cc in
          rw (← same) (rw (same_key-refl entry.tag entry.mode) refl)
      | inr stays ↦
          let later : has_entry entries key.0 key.1 ≡ true = has_entry-ended end entries key rest (rw stays at is) in
          elim (cases_Bool (is_of key.0 key.1 entry)) [
            | inl it ↦ rw it refl
            | inr other ↦ rw other later
          ]
    ]

-- Where an entry is of no other's object and mode, these have no further entry.
has_entry-apart :
    (entry : Entry) (entries : List Entry) → AllByRecursion (λ y. are_of_same entry y ≡ false) entries → has_entry entries entry.tag entry.mode ≡ false
has_entry-apart entry [] apart = refl
has_entry-apart entry (y ∷ entries) apart =
    let other : is_of entry.tag entry.mode y ≡ false = same_key-comm y.tag y.mode entry.tag entry.mode ∙ apart.0 in
    rw other (has_entry-apart entry entries apart.1)

-- After a step that took something away this has no entry, and the others have one as before.
pub has_entry-next :
    (end : End) (entries : List Entry) (key : Tag × Mode) (rest : List (Tag × Mode)) → IsDistinct are_of_same entries → ended_by end entries ≡ key ∷ rest →
    (t : Tag) (m : Mode) → has_entry (with_next_ended end entries) t m ≡ (if same_key t m key.0 key.1 then false else has_entry entries t m)
unfolding IsDistinct
has_entry-next end [] key rest once is t m = absurd (let bad : [] ≡ key ∷ rest = is in cc)
has_entry-next end (entry ∷ entries) key rest once is t m =
    elim (cases_Bool (is_ended end entry)) [
      | inl ends ↦
          let both : (entry.tag, entry.mode) ∷ ended_by end entries ≡ key ∷ rest = rw ends at is in
          let same : (entry.tag, entry.mode) ≡ key = cc in
          rw ends (rw (← same) (elim (cases_Bool (same_key t m entry.tag entry.mode)) [
            | inl alike ↦ let at = same_key-from t m entry.tag entry.mode alike in rw alike (rw (at.0, at.1) (has_entry-apart entry entries once.0))
            | inr apart ↦ let other : is_of t m entry ≡ false = same_key-comm entry.tag entry.mode t m ∙ apart in rw apart (rw other refl)
          ]))
      | inr stays ↦
          let later : ended_by end entries ≡ key ∷ rest = rw stays at is in
          rw stays (elim (cases_Bool (is_of t m entry)) [
            | inl it ↦ rw (is_of-after_end end entry t m, it) (sym (ap (λ b. if b then false else true) (not_key later it)))
            | inr other ↦ rw (is_of-after_end end entry t m, other) (has_entry-next end entries key rest once.1 later t m)
          ])
    ] where
      not_key : ended_by end entries ≡ key ∷ rest → is_of t m entry ≡ true → same_key t m key.0 key.1 ≡ false
      not_key later it =
          elim (cases_Bool (same_key t m key.0 key.1)) [
            | inl alike ↦
                let here = same_key-from entry.tag entry.mode t m it in
                let there = same_key-from t m key.0 key.1 alike in
                let present : has_entry entries entry.tag entry.mode ≡ true = rw (here.0, here.1, there.0, there.1) (has_entry-ended end entries key rest later) in
                absurd (false≢true (sym (has_entry-apart entry entries once.0) ∙ present))
            | inr apart ↦ apart
          ]

-- A step that took nothing away leaves the same objects and modes.
pub has_entry-last :
    (end : End) (entries : List Entry) → ended_by end entries ≡ [] → (t : Tag) (m : Mode) → has_entry (with_next_ended end entries) t m ≡ has_entry entries t m
has_entry-last end [] none t m = refl
has_entry-last end (entry ∷ entries) none t m =
    elim (cases_Bool (is_ended end entry)) [
      | inl ends ↦ absurd (let bad : (entry.tag, entry.mode) ∷ ended_by end entries ≡ [] = rw ends at none in cc)
      | inr stays ↦
          rw stays (elim (cases_Bool (is_of t m entry)) [
            | inl it ↦ rw (is_of-after_end end entry t m, it) refl
            | inr other ↦ rw (is_of-after_end end entry t m, other) (has_entry-last end entries (rw stays at none) t m)
          ])
    ]

-- ---- the entries as an end finds them

has_entry-recounted :
    (count : Tag → Mode → ℕ) (entries : List Entry) (t : Tag) (m : Mode)
    → has_entry (map {A = Entry} {B = Entry} (λ entry. record entry { transaction = count entry.tag entry.mode }) entries) t m ≡ has_entry entries t m
has_entry-recounted count [] t m = refl
has_entry-recounted count (entry ∷ entries) t m =
    elim (cases_Bool (is_of t m entry)) [
      | inl it ↦ rw it refl
      | inr other ↦ rw other (has_entry-recounted count entries t m)
    ]

-- They are of the same objects and modes,
pub has_entry-found : (end : End) (owned : Owned) (t : Tag) (m : Mode) → has_entry (found_by end owned) t m ≡ has_entry owned.entries t m
has_entry-found Commit owned t m = refl
has_entry-found Abort owned t m = refl
has_entry-found Close owned t m = refl
has_entry-found Inner owned t m = has_entry-recounted (count_up_to owned (length owned.outer)) owned.entries t m

apart-recounted :
    (count : Tag → Mode → ℕ) (entry : Entry) (entries : List Entry) → AllByRecursion (λ y. are_of_same entry y ≡ false) entries
    → AllByRecursion (λ y. are_of_same (record entry { transaction = count entry.tag entry.mode }) y ≡ false)
    (map {A = Entry} {B = Entry} (λ e. record e { transaction = count e.tag e.mode }) entries)
apart-recounted count entry [] apart = tt
apart-recounted count entry (y ∷ entries) apart = (apart.0, apart-recounted count entry entries apart.1)

distinct-recounted :
    (count : Tag → Mode → ℕ) (entries : List Entry) → IsDistinct are_of_same entries
    → IsDistinct are_of_same (map {A = Entry} {B = Entry} (λ entry. record entry { transaction = count entry.tag entry.mode }) entries)
unfolding IsDistinct
distinct-recounted count [] once = tt
distinct-recounted count (entry ∷ entries) once = (apart-recounted count entry entries once.0, distinct-recounted count entries once.1)

-- each once.
pub distinct-found : (end : End) (owned : Owned) → IsDistinct are_of_same owned.entries → IsDistinct are_of_same (found_by end owned)
distinct-found Commit owned once = once
distinct-found Abort owned once = once
distinct-found Close owned once = once
distinct-found Inner owned once = distinct-recounted (count_up_to owned (length owned.outer)) owned.entries once
