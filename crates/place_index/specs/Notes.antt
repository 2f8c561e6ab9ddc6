use Rattle.std.specs.Prelude.{◌≡◌, ℕ, ◌+◌, ◌<◌, ◌&&◌, ◌==◌, if◌then◌else◌, Bool, List, count_by, Option, Some, None}

-- What an index knows: the notes, each a hash with a place, in the order of the places, and how many places
-- it has room for: each place below that can be noted.
pub record Notes : Type 0 where
  pub notes : List (ℕ × ℕ)
  pub places : ℕ

-- the first place that can't be noted
abbrev pub no_place : ℕ
no_place = 4294967294

-- whether a note is of this place under this hash
abbrev pub is_at : ℕ → ℕ → ℕ × ℕ → Bool
is_at hash place note = (hash == note.0) && (place == note.1)

-- how often the place is noted under the hash: once or not at all
abbrev pub times : Notes → ℕ → ℕ → ℕ
times index hash place = count_by (is_at hash place) index.notes

-- 1 at this hash and place, and 0 at any other
abbrev pub once_at : ℕ → ℕ → ℕ → ℕ → ℕ
once_at hash place h p = if is_at h p (hash, place) then 1 else 0

-- the new index has one note more, of this place under this hash
abbrev pub IsOneMore : Notes → Notes → ℕ → ℕ → Type 0
IsOneMore old new hash place = (h p : ℕ) → times new h p ≡ times old h p + once_at hash place h p

-- the new index has the same notes
abbrev pub HasSameNotes : Notes → Notes → Type 0
HasSameNotes old new = (h p : ℕ) → times new h p ≡ times old h p

-- the place is noted under some hash
abbrev pub IsNoted : Notes → ℕ → Type 0
IsNoted index place = (h : ℕ) × (0 < times index h place)

-- the place is noted under no hash
abbrev pub IsFree : Notes → ℕ → Type 0
IsFree index place = (h : ℕ) → times index h place ≡ 0

-- What a first look for a hash shows: where it finds no place, that no place is noted under the hash, and
-- else a place that is noted.
abbrev pub IsFirst : Notes → ℕ → Option ℕ → Type 0
IsFirst index hash None = (p : ℕ) → times index hash p ≡ 0
IsFirst index hash (Some p) = IsNoted index p
