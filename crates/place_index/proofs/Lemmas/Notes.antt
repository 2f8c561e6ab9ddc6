-- What links note, and how often, as links change.
use Rattle.std.proofs.Common.{◌≡◌, ◌≢◌, ℕ, ◌+◌, ◌<◌, ◌≤◌, Bool, true, false, ◌&&◌, cond, eqb, List, [], ◌∷◌, length, get_or, set, replicate, count_by, suc, zero, refl, sym, ap, subst, ◌∙◌, inl, inr, arith}
use Rattle.std.specs.Prelude.{Option, Some, None}
use Rattle.std.proofs.lemmas.Bool.{false≢true, cases_Bool, cases_lt, eqb-true, eq-eqb, ne_eqb, and_right}
use Rattle.std.proofs.lemmas.List.{get_or-set_same, get_or-set_other, get_or-replicate, get_or_past, get_or_default, length-replicate}
use Rattle.std.proofs.lemmas.List.Sums.{sum_by-cons, sum_by-set}
use Rattle.place_index.specs.declared.links.Link.{Link}
use Rattle.place_index.specs.Notes.{Notes, is_at, times}
use Rattle.place_index.specs.Chains.{free_link, link_at, is_noted, note_of, note_at, notes_from, notes_in, is_under, next_at}

-- a test as a number
abbrev pub one_if : Bool → ℕ
one_if b = cond b 1 0

-- ---- one link

pub note_of-noted : (link : Link) → is_noted link ≡ true → note_of link ≡ Some link.hash
note_of-noted link noted = ap (λ b. cond b (Some link.hash) None) noted

pub note_of-free : (link : Link) → is_noted link ≡ false → note_of link ≡ None
note_of-free link free = ap (λ b. cond b (Some link.hash) None) free

-- the link of a place that is noted says so, and has its hash
pub noted_of : (link : Link) (hash : ℕ) → note_of link ≡ Some hash → (is_noted link ≡ true) × (link.hash ≡ hash)
noted_of link hash some =
    elim (cases_Bool (is_noted link)) [
      | inl noted ↦ (noted, (let both : Some link.hash ≡ Some hash = sym (note_of-noted link noted) ∙ some in cc))
      | inr free ↦ absurd (let bad : None ≡ Some hash = sym (note_of-free link free) ∙ some in cc)
    ]

-- a place that is noted under a hash has that hash
pub under_of : (hash : ℕ) (o : Option ℕ) → is_under hash o ≡ true → o ≡ Some hash
under_of hash None under = absurd (false≢true under)
under_of hash (Some own) under = ap (λ n. Some n) (sym (eqb-true hash own under))

pub is_under-some : (hash : ℕ) (o : Option ℕ) → o ≡ Some hash → is_under hash o ≡ true
is_under-some hash o is = ap (is_under hash) is ∙ eq-eqb hash hash refl

-- ---- links that change

pub link_read : (links : List Link) (k : ℕ) (d : Link) → k < length links → get_or links k d ≡ link_at links k
link_read links k d within = get_or_default links k d free_link within

pub note_at-set : (links : List Link) (k : ℕ) (link : Link) → k < length links → note_at (set links k link) k ≡ note_of link
note_at-set links k link within = ap note_of (get_or-set_same links k link free_link within)

pub note_at-set_other : (links : List Link) (k j : ℕ) (link : Link) → j ≢ k → note_at (set links k link) j ≡ note_at links j
note_at-set_other links k j link apart = ap note_of (get_or-set_other links k j link free_link apart)

pub next_at-set : (links : List Link) (k : ℕ) (link : Link) → k < length links → next_at (set links k link) k ≡ link.next
next_at-set links k link within = ap (λ (l : Link). l.next) (get_or-set_same links k link free_link within)

pub next_at-set_other : (links : List Link) (k j : ℕ) (link : Link) → j ≢ k → next_at (set links k link) j ≡ next_at links j
next_at-set_other links k j link apart = ap (λ (l : Link). l.next) (get_or-set_other links k j link free_link apart)

pub note_past : (links : List Link) (k : ℕ) → length links ≤ k → note_at links k ≡ None
note_past links k past = ap note_of (get_or_past links k free_link past)

-- links that are free note nothing
pub note-replicate : (n k : ℕ) → note_at (replicate n free_link) k ≡ None
note-replicate n k =
    elim (cases_lt k n) [
      | inl within ↦ ap note_of (get_or-replicate n k free_link free_link within)
      | inr past ↦ note_past (replicate n free_link) k (omega (arith, length-replicate n free_link))
    ]

-- more links, of places that aren't noted, note the same
pub note-more :
    (old new : List Link) (places : ℕ) (value : Link) → value ≡ free_link → length old ≤ places → length new ≡ places →
    ((k : ℕ) (d : Link) → k < places → k < length old → get_or new k d ≡ get_or old k d) → ((k : ℕ) (d : Link) → length old ≤ k → k < places → get_or new k d ≡ value) →
    (k : ℕ) → note_at new k ≡ note_at old k
note-more old new places value free more number same rest k =
    elim (cases_lt k (length old)) [
      | inl within ↦ ap note_of (same k free_link (omega arith) within)
      | inr past ↦ elim (cases_lt k places) [
        | inl below ↦ ap note_of (rest k free_link past below ∙ free) ∙ sym (note_past old k past)
        | inr beyond ↦ note_past new k (omega arith) ∙ sym (note_past old k past)
      ]
    ]

-- a place that is noted has a link
pub noted_within : (links : List Link) (k hash : ℕ) → note_at links k ≡ Some hash → k < length links
noted_within links k hash some =
    elim (cases_lt k (length links)) [
      | inl within ↦ within
      | inr past ↦ absurd (let bad : None ≡ Some hash = sym (note_past links k past) ∙ some in cc)
    ]

-- ---- counts

pub count-set : (links : List Link) (k : ℕ) (link : Link) → k < length links → count_by is_noted (set links k link) + one_if (is_noted (link_at links k)) ≡ count_by is_noted links + one_if (is_noted link)
count-set links k link within = sum_by-set (λ x. cond (is_noted x) 1 0) links k link free_link within

-- a link that is noted before and after leaves the count
pub count-alike : (links : List Link) (k : ℕ) (link : Link) → k < length links → is_noted (link_at links k) ≡ is_noted link → count_by is_noted (set links k link) ≡ count_by is_noted links
count-alike links k link within same = omega (arith, count-set links k link within, ap one_if same)

-- ---- how often a place is noted

-- one note more, of this place, or none more
count-more : (hash place : ℕ) (b : Bool) (note : ℕ × ℕ) (notes : List (ℕ × ℕ)) → count_by (is_at hash place) (cond b (note ∷ notes) notes) ≡ one_if (b && is_at hash place note) + count_by (is_at hash place) notes
count-more hash place true note notes = sum_by-cons (λ x. cond (is_at hash place x) 1 0) note notes
count-more hash place false note notes = omega arith

is_at-other : (hash place h k : ℕ) (b : Bool) → place ≢ k → one_if (b && is_at hash place (h, k)) ≡ 0
is_at-other hash place h k b apart = ap one_if (and_right b (is_at hash place (h, k)) (and_right (eqb hash h) (eqb place k) (ne_eqb place k apart)))

times-before : (hash place k : ℕ) (links : List Link) → place < k → count_by (is_at hash place) (notes_from k links) ≡ 0
times-before hash place k [] before = refl
times-before hash place k (l ∷ links) before =
    omega (
      arith,
      count-more hash place (is_noted l) (l.hash, k) (notes_from (k + 1) links),
      is_at-other hash place l.hash k (is_noted l) (λ same. omega arith),
      times-before hash place (k + 1) links (omega arith),
    )

under_here : (hash h place k : ℕ) (b : Bool) → eqb place k ≡ true → one_if (b && is_at hash place (h, k)) ≡ one_if (is_under hash (cond b (Some h) None))
under_here hash h place k true same = ap (λ c. one_if (eqb hash h && c)) same ∙ and_true (eqb hash h) where
  and_true : (b : Bool) → one_if (b && true) ≡ one_if b
  and_true true = refl
  and_true false = refl
under_here hash h place k false same = refl

times-from : (hash k i : ℕ) (links : List Link) → count_by (is_at hash (k + i)) (notes_from k links) ≡ one_if (is_under hash (note_at links i))
times-from hash k i [] = refl
times-from hash k zero (l ∷ links) =
    omega (
      arith,
      count-more hash (k + 0) (is_noted l) (l.hash, k) (notes_from (k + 1) links),
      under_here hash l.hash (k + 0) k (is_noted l) (eq-eqb (k + 0) k (omega arith)),
      times-before hash (k + 0) (k + 1) links (omega arith),
    )
times-from hash k (suc i) (l ∷ links) =
    let further : k + 1 + i ≡ k + suc i = omega arith in
    omega (
      arith,
      count-more hash (k + suc i) (is_noted l) (l.hash, k) (notes_from (k + 1) links),
      is_at-other hash (k + suc i) l.hash k (is_noted l) (λ same. omega arith),
      subst (λ (n : ℕ). count_by (is_at hash n) (notes_from (k + 1) links) ≡ one_if (is_under hash (note_at links i))) further (times-from hash (k + 1) i links),
    )

-- the view and the links count alike
pub times-notes_in : (hash place : ℕ) (links : List Link) → count_by (is_at hash place) (notes_in links) ≡ one_if (is_under hash (note_at links place))
times-notes_in hash place links =
    let all : 0 + place ≡ place = omega arith in
    subst (λ (n : ℕ). count_by (is_at hash n) (notes_in links) ≡ one_if (is_under hash (note_at links place))) all (times-from hash 0 place links)

-- an index with these links has each place noted so often
pub times-view : (links : List Link) (places : ℕ) (index : Notes) → index ≡ record { notes = notes_in links; places = places } → (hash place : ℕ) → times index hash place ≡ one_if (is_under hash (note_at links place))
times-view links places index view hash place = ap (λ (v : Notes). times v hash place) view ∙ times-notes_in hash place links

length-more : (b : Bool) (note : ℕ × ℕ) (notes : List (ℕ × ℕ)) → length (cond b (note ∷ notes) notes) ≡ one_if b + length notes
length-more true note notes = omega arith
length-more false note notes = omega arith

length-notes_from : (k : ℕ) (links : List Link) → length (notes_from k links) ≡ count_by is_noted links
length-notes_from k [] = refl
length-notes_from k (l ∷ links) =
    omega (
      arith,
      length-more (is_noted l) (l.hash, k) (notes_from (k + 1) links),
      length-notes_from (k + 1) links,
      sum_by-cons (λ x. cond (is_noted x) 1 0) l links,
    )

-- there are as many notes as links that note a place
pub length-notes_in : (links : List Link) → length (notes_in links) ≡ count_by is_noted links
length-notes_in links = length-notes_from 0 links
