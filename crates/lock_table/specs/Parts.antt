use Rattle.std.specs.Prelude.{◌≡◌, ◌≢◌, ℕ, true, List, [], Option, Some, None, slice_get, slice_index_or}
use Rattle.modes_core.specs.declared.modes.Mode.{Mode}
use Rattle.modes_core.specs.declared.tags.Tag.{Tag}
use Rattle.modes_core.specs.Tag.{partition_of}
use Rattle.lock_table.specs.Content.{Content, empty_content}
use Rattle.lock_table.specs.declared.request.Request.{Request}
use Rattle.lock_table.specs.PartView.{PartView, content_of, capacity_of_lists}

-- The partitions of a lock table, as a list of parts, the partition with number 0 first.

-- a partition with nothing in it
abbrev pub no_part : PartView
no_part = record { holds = []; waits = []; woken = []; begun = None; prepared = None; capacity = capacity_of_lists 0 0 0 }

-- the part with this number
abbrev pub part_at : List PartView → ℕ → PartView
part_at parts p = slice_index_or parts p no_part

-- the content of the partition with this number
abbrev pub contents_in : List PartView → ℕ → Content
contents_in parts p = content_of (part_at parts p)

-- Each hold and each wait is in the partition of its object.
pub record AreAtHome (parts : List PartView) : Type 0 where
  pub holds : (p session : ℕ) (tag : Tag) (mode : Mode) → (contents_in parts p).holds session tag mode ≡ true → partition_of tag ≡ p
  pub waits : (p : ℕ) (tag : Tag) → partition_of tag ≢ p → (contents_in parts p).waits tag ≡ []

module _ {T : Type 0} (content : T → Content) (begun : T → Option Request) where
  -- The part has nothing in it, and no request is begun.
  pub record IsBlank (part : T) : Type 0 where
    pub is_empty : content part ≡ empty_content
    pub none_begun : begun part ≡ None

  -- These parts have nothing in them.
  abbrev pub AreEmptyParts : List T → Type 0
  AreEmptyParts parts = (i : ℕ) (part : T) → slice_get parts i ≡ Some part → IsBlank part
