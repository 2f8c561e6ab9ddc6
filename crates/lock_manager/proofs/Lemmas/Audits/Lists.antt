use Rattle.std.proofs.Common.{◌≡◌, ℕ, zero, suc, true, false, List, [], ◌∷◌, ◌++◌, map, reverse, length, None, refl, sym, ap, ◌∙◌, subst, inl, inr, arith}
use Rattle.std.specs.Prelude.{filter, count_by, if◌then◌else◌, All}
use Rattle.std.specs.List.{AllZip, AllByRecursion, IsDistinct}
use Rattle.std.proofs.lemmas.Bool.{cases_Bool, both_ways, and_parts, and_from, cond-true, cond-false, false_from_ne_true}
use Rattle.std.proofs.lemmas.List.{reverse-append}
use Rattle.std.proofs.lemmas.List.Elements.{AllZip-push}
use Rattle.modes_core.specs.declared.modes.Mode.{Mode}
use Rattle.modes_core.specs.declared.tags.Tag.{Tag}
use Rattle.modes_core.specs.Mode.{mode_eq}
use Rattle.modes_core.specs.Tag.{tag_eq, is_strong_on}
use Rattle.modes_core.proofs.Lemmas.Conflicts.{mode_eq-refl, mode_eq-same, tag_eq-refl, tag_eq-same}
use Rattle.local_locks.specs.declared.records.Entry.{Entry}
use Rattle.local_locks.specs.Owned.{is_of, has_entry, are_of_same}
use Rattle.fast_path.specs.declared.use_counts.UseCounts.{UseCounts}
use Rattle.lock_table.proofs.Lemmas.HoldLists.{count_by-cons}
use Rattle.lock_world.specs.Account.{Account}
use Rattle.lock_world.specs.Tallies.{Held, AreSoMany, is_this}
use Rattle.shared_rule.specs.Boards.{Seated, Stack}
use Rattle.shared_rule.specs.Seats.{MayBeKeptApartBy}
use Rattle.lock_manager.specs.Rest.{IsAtRest, counted_for}
use Rattle.lock_manager.proofs.Lemmas.Rest.Reads.{rest-read}

-- An audit of all open sessions.

-- ---- entries

abbrev pub held_as : Entry → Held
held_as entry = record { tag = entry.tag; mode = entry.mode }

none-later : (entry : Entry) (entries : List Entry) (tag : Tag) (mode : Mode) → AllByRecursion (λ later. are_of_same entry later ≡ false) entries → is_of tag mode entry ≡ true
    → count_by (is_this tag mode) (map held_as entries) ≡ 0
none-later entry [] tag mode others its = refl
none-later entry (later ∷ entries) tag mode others its =
    let whole = count_by-cons (is_this tag mode) (held_as later) (map held_as entries) in
    let rest = none-later entry entries tag mode others.1 its in
    let here : ◌≡◌ {A = ℕ} (if is_of tag mode later then 1 else 0) 0 = cond-false (is_of tag mode later) 1 0 (false_from_ne_true (is_of tag mode later) (λ also.
    let one = and_parts (tag_eq entry.tag tag) (mode_eq entry.mode mode) its in
    let two = and_parts (tag_eq later.tag tag) (mode_eq later.mode mode) also in
    let same_tag : entry.tag ≡ later.tag = tag_eq-same entry.tag tag one.0 ∙ sym (tag_eq-same later.tag tag two.0) in
    let same_mode : entry.mode ≡ later.mode = mode_eq-same entry.mode mode one.1 ∙ sym (mode_eq-same later.mode mode two.1) in
    both_ways (are_of_same entry later) others.0
    (and_from (tag_eq entry.tag later.tag) (mode_eq entry.mode later.mode)
    (ap (λ t. tag_eq entry.tag t) (sym same_tag) ∙ tag_eq-refl entry.tag) (ap (λ m. mode_eq entry.mode m) (sym same_mode) ∙ mode_eq-refl entry.mode)))) in
    omega (arith, whole, rest, here)

entries-once : (entries : List Entry) → IsDistinct are_of_same entries → (tag : Tag) (mode : Mode)
    → count_by (is_this tag mode) (map held_as entries) ≡ (if has_entry entries tag mode then 1 else 0)
unfolding IsDistinct
entries-once [] once tag mode = refl
entries-once (entry ∷ entries) once tag mode =
    let whole = count_by-cons (is_this tag mode) (held_as entry) (map held_as entries) in
    let rest = entries-once entries once.1 tag mode in
    elim (cases_Bool (is_of tag mode entry)) [
      | inl its ↦
          let none = none-later entry entries tag mode once.0 its in
          let one : ◌≡◌ {A = ℕ} (if is_of tag mode entry then 1 else 0) 1 = cond-true (is_of tag mode entry) 1 0 its in
          let has : has_entry (entry ∷ entries) tag mode ≡ true = rw its refl in
          let is : ◌≡◌ {A = ℕ} (if has_entry (entry ∷ entries) tag mode then 1 else 0) 1 = cond-true (has_entry (entry ∷ entries) tag mode) 1 0 has in
          omega (arith, whole, none, one, is)
      | inr other ↦
          let zeroth : ◌≡◌ {A = ℕ} (if is_of tag mode entry then 1 else 0) 0 = cond-false (is_of tag mode entry) 1 0 other in
          let same : has_entry (entry ∷ entries) tag mode ≡ has_entry entries tag mode = rw other refl in
          let is : ◌≡◌ {A = ℕ} (if has_entry (entry ∷ entries) tag mode then 1 else 0) (if has_entry entries tag mode then 1 else 0) = ap (λ b. if b then 1 else 0) same in
          omega (arith, whole, rest, zeroth, is)
    ]

length-held : (entries : List Entry) → length (map held_as entries) ≡ length entries
length-held [] = refl
length-held (entry ∷ entries) = ap suc (length-held entries)

pub entries-so_many : (entries : List Entry) → IsDistinct are_of_same entries → AreSoMany (has_entry entries) (length entries)
entries-so_many entries once = record { listed = map held_as entries; each_once = entries-once entries once; as_many = length-held entries }

pub length-counted : (limit : ℕ) (entries : List Entry) → length (counted_for limit entries) ≡ length (filter (λ entry. is_strong_on entry.tag entry.mode) entries)
length-counted limit [] = refl
length-counted limit (entry ∷ entries) =
    elim (cases_Bool (is_strong_on entry.tag entry.mode)) [
      | inl strong ↦ rw strong (ap suc (length-counted limit entries))
      | inr weak ↦ rw weak (length-counted limit entries)
    ]

-- ---- lists

module _ {X : Type 0} where
  reverse-cons : (x : X) (xs : List X) → reverse (x ∷ xs) ≡ reverse xs ++ x ∷ []
  reverse-cons x xs = reverse-append (x ∷ []) xs

  pub reverse-last : (xs : List X) (x : X) → reverse (xs ++ x ∷ []) ≡ x ∷ reverse xs
  reverse-last xs x = reverse-append xs (x ∷ [])

  pub all-push : (P : X → Type 0) (xs : List X) (x : X) → AllByRecursion P xs → P x → AllByRecursion P (xs ++ x ∷ [])
  all-push P [] x all p = (p, all)
  all-push P (y ∷ xs) x all p = (all.0, all-push P xs x all.1 p)

  pub all-reverse : (P : X → Type 0) (xs : List X) → AllByRecursion P xs → AllByRecursion P (reverse xs)
  all-reverse P [] all = all
  all-reverse P (x ∷ xs) all = subst (AllByRecursion P) (sym (reverse-cons x xs)) (all-push P (reverse xs) x (all-reverse P xs all.1) all.0)

  pub all-before : (P : X → Type 0) (xs : List X) (x : X) → AllByRecursion P (xs ++ x ∷ []) → AllByRecursion P xs × P x
  all-before P [] x all = (tt, all.0)
  all-before P (y ∷ xs) x all = let rest = all-before P xs x all.1 in ((all.0, rest.0), rest.1)

  pub zip-reverse : (R : X → X → Type 0) (xs ys : List X) → AllZip R xs ys → AllZip R (reverse xs) (reverse ys)
  zip-reverse R [] [] all = all
  zip-reverse R [] (y ∷ ys) all = absurd all
  zip-reverse R (x ∷ xs) [] all = absurd all
  zip-reverse R (x ∷ xs) (y ∷ ys) all =
      subst (λ zs. AllZip R zs (reverse (y ∷ ys))) (sym (reverse-cons x xs))
      (subst (AllZip R (reverse xs ++ x ∷ [])) (sym (reverse-cons y ys)) (AllZip-push R (reverse xs) (reverse ys) x y (zip-reverse R xs ys all.1) all.0))

-- Of each by its place, and one after another.
pub all-from : {X : Type 0} (P : X → Type 0) (xs : List X) → All P xs → AllByRecursion P xs
all-from P [] all = tt
all-from P (x ∷ xs) all = (all 0 x (omega arith), all-from P xs (λ k d below. all (suc k) d (omega (arith, below))))

pub all-to : {X : Type 0} (P : X → Type 0) (xs : List X) → AllByRecursion P xs → All P xs
all-to P [] all k d below = absurd (omega (arith, below))
all-to P (x ∷ xs) all zero d below = all.0
all-to P (x ∷ xs) all (suc k) d below = all-to P xs all.1 k d (omega (arith, below))

-- Who rests may be kept apart, and rests after steps that only joined the trace.
pub kept_apart-rest : (groups limit database : ℕ) (uses : UseCounts) (a : Account) (stack : Stack) (entries : List Entry) → IsAtRest groups limit database uses a stack entries → MayBeKeptApartBy a
kept_apart-rest groups limit database uses a stack entries rest =
    subst MayBeKeptApartBy (sym rest.account) (record {
      no_partition = λ partition. refl;
      no_fast_word = λ owner. refl;
      no_shared_partition = λ partition. refl;
      no_shared_fast_word = λ owner. refl;
    })

pub no_wait-rest : (groups limit database : ℕ) (uses : UseCounts) (a : Account) (stack : Stack) (entries : List Entry) → IsAtRest groups limit database uses a stack entries → a.awaited ≡ None
no_wait-rest groups limit database uses a stack entries rest = ap (λ (x : Account). x.awaited) rest.account

pub rest-traced : (database : ℕ) (uses : UseCounts) (s t : Seated) (a b : Account) (x y : Stack) (entries : List Entry) → t ≡ s → b ≡ record a { trace = b.trace } → y ≡ x
    → IsAtRest s.groups s.limit database uses a x entries → IsAtRest t.groups t.limit database uses b y entries
rest-traced database uses s t a b x y entries same is stack rest =
    subst (λ (z : Seated). IsAtRest z.groups z.limit database uses b y entries) (sym same) (rest-read s.groups s.limit database uses a b x y entries stack rest is)

pub rest-unchanged : (database : ℕ) (uses : UseCounts) (s t : Seated) (a b : Account) (x y : Stack) (entries : List Entry) → t ≡ s → b ≡ a → y ≡ x → IsAtRest s.groups s.limit database uses a x entries
    → IsAtRest t.groups t.limit database uses b y entries
rest-unchanged database uses s t a b x y entries same is stack rest =
    rest-traced database uses s t a b x y entries same (is ∙ (λ i. record a { trace = sym (ap (λ (z : Account). z.trace) is) i })) stack rest
