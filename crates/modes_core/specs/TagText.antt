use Rattle.std.specs.Prelude.{ℕ, List, ◌++◌, codes}
use Rattle.std.specs.Fmt.{decimal}
use Rattle.modes_core.specs.declared.tags.Tag.{Tag}
use Rattle.modes_core.specs.declared.tags.Tag.TheVariants.{Relation, Object, Advisory}

-- a tag as scripts write it: its numbers with slashes between them, and `adv` before those of an advisory
-- lock
abbrev pub tag_text : Tag → List ℕ
tag_text (Relation database relation) = decimal database ++ codes "/" ++ decimal relation
tag_text (Object sub_object database class object) =
    decimal database ++ codes "/" ++ decimal class ++ codes "/" ++ decimal object ++ codes "/" ++ decimal sub_object
tag_text (Advisory sub database key1 key2) =
    codes "adv/" ++ decimal database ++ codes "/" ++ decimal key1 ++ codes "/" ++ decimal key2 ++ codes "/" ++ decimal sub
