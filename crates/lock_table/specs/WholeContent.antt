use Rattle.std.specs.Prelude.{◌≡◌, ℕ, ◌+◌, true, List, [], ◌∷◌, slice_index_or, if◌then◌else◌}
use Rattle.modes_core.specs.declared.modes.Mode.{Mode}
use Rattle.modes_core.specs.declared.tags.Tag.{Tag}
use Rattle.modes_core.specs.Tag.{partition_of}
use Rattle.lock_table.specs.declared.rows.TableRow.{TableRow}
use Rattle.lock_table.specs.Content.{Content, empty_content}
use Rattle.lock_table.specs.Listing.{has_row}
use Rattle.lock_table.specs.Queue.{waits_there}

-- all partitions as one content: what each object's partition has on it
abbrev pub whole_of : (ℕ → Content) → Content
whole_of contents = record {
  holds = λ session tag mode. (contents (partition_of tag)).holds session tag mode;
  waits = λ tag. (contents (partition_of tag)).waits tag;
}

-- the content of a partition, by the contents of all
abbrev pub content_at : List Content → ℕ → Content
content_at contents partition = slice_index_or contents partition empty_content

-- how many of these contents have what the row says
abbrev pub times_had : List Content → TableRow → ℕ
times_had [] row = 0
times_had (content ∷ contents) row = times_had contents row + (if has_row content row then 1 else 0)

-- The content has holds and waits on objects of the partition alone.
pub record IsOfPartition (partition : ℕ) (content : Content) : Type 0 where
  pub holds : (session : ℕ) (tag : Tag) (mode : Mode) → content.holds session tag mode ≡ true → partition_of tag ≡ partition
  pub waits : (session : ℕ) (tag : Tag) → waits_there (content.waits tag) session ≡ true → partition_of tag ≡ partition

-- Each content has holds and waits on objects of its partition alone, from this partition on.
abbrev pub AreOfPartitions : ℕ → List Content → Type 0
AreOfPartitions partition [] = Unit {0}
AreOfPartitions partition (content ∷ contents) = IsOfPartition partition content × AreOfPartitions (partition + 1) contents
