use Rattle.lock_table.specs.Content.{Content}
use Rattle.lock_records.specs.declared.part.RecordPart as part
use Rattle.lock_records.specs.View as records

-- the keeper of a partition's content, as a manager has it

abbrev pub KeptPart : Type 0
KeptPart = part.RecordPart

-- what contracts see of the keeper of a partition's content
abbrev pub PartView : Type 0
PartView = records.RecordView

-- the content of a partition, by what contracts see of its keeper
abbrev pub content_of : PartView → Content
content_of = records.content_of
