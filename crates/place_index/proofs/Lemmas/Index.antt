-- What an index knows, and what its links say.
use Rattle.std.proofs.Common.{◌≡◌, ◌≢◌, ℕ, ◌+◌, ◌<◌, Bool, true, false, ◌&&◌, eqb, List, length, refl, sym, ap, ◌∙◌, inl, inr, arith}
use Rattle.std.specs.Prelude.{Option, Some, None, IfNone}
use Rattle.std.proofs.lemmas.Bool.{cases_eq, and_right, eq-eqb, ne_eqb, cond-true, cond-false}
use Rattle.place_index.specs.declared.links.Link.{Link}
use Rattle.place_index.specs.Notes.{Notes, times, once_at}
use Rattle.place_index.specs.Chains.{link_at, note_at, notes_in, is_under, NotesMore, NotesLess}
use Rattle.place_index.proofs.Lemmas.Notes.{one_if, under_of, noted_of, noted_within, times-view}

-- what follows from nothing being there
pub if_none : {A : Type 0} (P Q : Type 0) (o : Option A) → IfNone o P → (P → Q) → IfNone o Q
if_none P Q None holds then = then holds
if_none P Q (Some x) holds then = tt

-- a number that is 1 or 0 by a test
pub yes_of : (b : Bool) → 0 < one_if b → b ≡ true
yes_of true some = refl
yes_of false some = absurd (omega arith)

pub some_of : (b : Bool) → b ≡ true → 0 < one_if b
some_of b is = omega (arith, ap one_if is)

pub none_of : (b : Bool) → b ≡ false → one_if b ≡ 0
none_of b is = ap one_if is

once_here : (hash place h p : ℕ) → p ≡ place → once_at hash place h p ≡ one_if (eqb h hash)
once_here hash place h p same = ap (λ b. one_if (eqb h hash && b)) (eq-eqb p place same) ∙ and_true (eqb h hash) where
  and_true : (b : Bool) → one_if (b && true) ≡ one_if b
  and_true true = refl
  and_true false = refl

once_else : (hash place h p : ℕ) → p ≢ place → once_at hash place h p ≡ 0
once_else hash place h p apart = ap one_if (and_right (eqb h hash) (eqb p place) (ne_eqb p place apart))

-- links that note one place more do so once more
pub times-more : (old new : List Link) (hash place : ℕ) → NotesMore old new hash place → note_at old place ≡ None → (h p : ℕ) → one_if (is_under h (note_at new p)) ≡ one_if (is_under h (note_at old p)) + once_at hash place h p
times-more old new hash place more free h p =
    elim (cases_eq p place) [
      | inl same ↦
          let is : note_at new p ≡ Some hash = more p ∙ cond-true (eqb p place) (Some hash) (note_at old p) (eq-eqb p place same) in
          let now : one_if (is_under h (note_at new p)) ≡ one_if (eqb h hash) = ap (λ n. one_if (is_under h n)) is in
          let was : one_if (is_under h (note_at old p)) ≡ 0 = ap (λ n. one_if (is_under h n)) (ap (note_at old) same ∙ free) in
          omega (arith, now, was, once_here hash place h p same)
      | inr apart ↦
          let is : note_at new p ≡ note_at old p = more p ∙ cond-false (eqb p place) (Some hash) (note_at old p) (ne_eqb p place apart) in
          omega (arith, ap (λ n. one_if (is_under h n)) is, once_else hash place h p apart)
    ]

-- links that note one place less do so once less
pub times-less : (old new : List Link) (hash place : ℕ) → NotesLess old new place → note_at old place ≡ Some hash → (h p : ℕ) → one_if (is_under h (note_at old p)) ≡ one_if (is_under h (note_at new p)) + once_at hash place h p
times-less old new hash place less noted h p =
    elim (cases_eq p place) [
      | inl same ↦
          let is : note_at new p ≡ None = less p ∙ cond-true (eqb p place) None (note_at old p) (eq-eqb p place same) in
          let now : one_if (is_under h (note_at new p)) ≡ 0 = ap (λ n. one_if (is_under h n)) is in
          let was : one_if (is_under h (note_at old p)) ≡ one_if (eqb h hash) = ap (λ n. one_if (is_under h n)) (ap (note_at old) same ∙ noted) in
          omega (arith, now, was, once_here hash place h p same)
      | inr apart ↦
          let is : note_at new p ≡ note_at old p = less p ∙ cond-false (eqb p place) None (note_at old p) (ne_eqb p place apart) in
          omega (arith, ap (λ n. one_if (is_under h n)) is, once_else hash place h p apart)
    ]

-- a place that is noted under no hash has no note
pub free_note : (links : List Link) (place : ℕ) → ((h : ℕ) → one_if (is_under h (note_at links place)) ≡ 0) → note_at links place ≡ None
free_note links place none = go (note_at links place) none where
  go : (o : Option ℕ) → ((h : ℕ) → one_if (is_under h o) ≡ 0) → o ≡ None
  go None none = refl
  go (Some hash) none =
      let one : one_if (eqb hash hash) ≡ 1 = ap one_if (eq-eqb hash hash refl) in
      absurd (omega (arith, one, none hash))

-- what the view says of a place that is noted, its link says, too
pub noted_link :
    (links : List Link) (places : ℕ) (index : Notes) → record { notes = notes_in links; places = places } ≡ index → (hash place : ℕ) → 0 < times index hash place →
    (note_at links place ≡ Some hash) × ((link_at links place).hash ≡ hash) × (place < length links)
noted_link links places index view hash place some =
    let noted = under_of hash (note_at links place) (yes_of _ (omega (arith, some, times-view links places index (sym view) hash place))) in
    (noted, (noted_of (link_at links place) hash noted).1, noted_within links place hash noted)
