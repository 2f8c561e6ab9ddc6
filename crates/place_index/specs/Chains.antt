use Rattle.std.specs.Prelude.{◌≡◌, ◌≢◌, ℕ, ◌+◌, ◌*◌, ◌/◌, ◌^◌, ◌<◌, ◌≤◌, Bool, true, false, not, ◌==◌, List, [], ◌∷◌, length, count_by, slice_index, slice_index_or, Option, Some, None, if◌then◌else◌}
use Rattle.place_index.specs.declared.links.Link.{Link}
use Rattle.place_index.specs.Notes.{no_place}

-- How the notes are kept: each place has a link, with the hash that it is noted under, and the noted places
-- are in chains. A chain has the places whose hashes have one start, the highest place first: a list of heads
-- has its first place, and the link of each place the next one. So a chain can be walked along without a list
-- of what is in it.

-- what stands for a place where a chain ends
abbrev pub end_of_chain : ℕ
end_of_chain = 4294967295

-- the link of a place that isn't noted
abbrev pub free_link : Link
free_link = record { hash = 0; next = no_place }

-- the link of a place; past the last one all are free
abbrev pub link_at : List Link → ℕ → Link
link_at links place = slice_index_or links place free_link

-- whether the link is of a place that is noted
abbrev pub is_noted : Link → Bool
is_noted link = not (link.next == no_place)

-- the hash that the place of a link is noted under, if it is
abbrev pub note_of : Link → Option ℕ
note_of link = if is_noted link then Some link.hash else None

-- the hash that a place is noted under, if it is
abbrev pub note_at : List Link → ℕ → Option ℕ
note_at links place = note_of (link_at links place)

-- the notes of links, the first of which is that of this place
abbrev pub notes_from : ℕ → List Link → List (ℕ × ℕ)
notes_from place [] = []
notes_from place (link ∷ links) = if is_noted link then (link.hash, place) ∷ notes_from (place + 1) links else notes_from (place + 1) links

-- the notes, in the order of the places
abbrev pub notes_in : List Link → List (ℕ × ℕ)
notes_in links = notes_from 0 links

-- whether a note is under this hash
abbrev pub is_under : ℕ → Option ℕ → Bool
is_under hash None = false
is_under hash (Some own) = hash == own

-- where the chain of a hash begins, of this many starts: the hashes are spread over them in their order
unfoldable pub start_of : ℕ → ℕ → ℕ
start_of starts hash = hash * starts / 2 ^ 32

-- whether a place with this note is in the chain of this start
abbrev pub is_in : ℕ → ℕ → Option ℕ → Bool
is_in starts start None = false
is_in starts start (Some hash) = start_of starts hash == start

-- the places of a chain
abbrev pub chain : ℕ → (ℕ → Option ℕ) → ℕ → ℕ → Bool
chain starts note start place = is_in starts start (note place)

-- The place is the last one below a number that a chain has, or stands for the end where it has none below.
pub record IsLast (has : ℕ → Bool) (n place : ℕ) : Type 0 where
  pub within : place ≢ end_of_chain → place < n
  pub there : place ≢ end_of_chain → has place ≡ true
  pub behind : (k : ℕ) → k < n → has k ≡ true → (place ≢ end_of_chain) × (k ≤ place)

-- each chain has its last place below a number for its head
abbrev pub HasHeads : ℕ → (ℕ → Option ℕ) → (ℕ → ℕ) → ℕ → Type 0
HasHeads starts note head n = (start : ℕ) → start < starts → IsLast (chain starts note start) n (head start)

-- each place below a number that is noted has next the last one below it in its chain
abbrev pub HasNexts : ℕ → (ℕ → Option ℕ) → (ℕ → ℕ) → ℕ → Type 0
HasNexts starts note next n =
    (place hash : ℕ) → place < n → note place ≡ Some hash
    → IsLast (chain starts note (start_of starts hash)) place (next place)

-- the head of the chain of a start
abbrev pub head_at : List ℕ → ℕ → ℕ
head_at heads start = slice_index heads start

-- the place after another in its chain
abbrev pub next_at : List Link → ℕ → ℕ
next_at links place = (link_at links place).next

-- the links of the places below a number are in chains
pub record IsLinkedTo (heads : List ℕ) (links : List Link) (n : ℕ) : Type 0 where
  pub firsts : HasHeads (length heads) (note_at links) (head_at heads) n
  pub nexts : HasNexts (length heads) (note_at links) (next_at links) n

-- the links of all places are in chains
abbrev pub IsLinked : List ℕ → List Link → Type 0
IsLinked heads links = IsLinkedTo heads links (length links)

-- a list of heads has one head at least, and no more heads than there are hashes
pub record HasStarts (heads : List ℕ) : Type 0 where
  pub some : 0 < length heads
  pub few : length heads ≤ 2 ^ 32

-- the links note one place more, under this hash
abbrev pub NotesMore : List Link → List Link → ℕ → ℕ → Type 0
NotesMore old new hash place = (k : ℕ) → note_at new k ≡ (if k == place then Some hash else note_at old k)

-- the links note one place less
abbrev pub NotesLess : List Link → List Link → ℕ → Type 0
NotesLess old new place = (k : ℕ) → note_at new k ≡ (if k == place then None else note_at old k)

-- What an index keeps: its links are in chains, the notes are counted, and a link can name each place.
pub record IsSound (heads : List ℕ) (links : List Link) (len : ℕ) : Type 0 where
  pub linked : IsLinked heads links
  pub starts : HasStarts heads
  pub counted : len ≡ count_by is_noted links
  pub few : length links ≤ no_place
