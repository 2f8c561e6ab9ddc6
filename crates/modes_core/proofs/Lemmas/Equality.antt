use Rattle.std.proofs.Common.{◌≡◌, refl}
use Rattle.modes_core.specs.declared.modes.Mode.{Mode}
use Rattle.modes_core.specs.declared.tags.Tag.{Tag}
use Rattle.modes_core.specs.declared.tags.Tag.TheVariants.{Relation, Object, Advisory}
use Rattle.modes_core.specs.Mode.{mode_eq}
use Rattle.modes_core.specs.Tag.{tag_eq}
use Rattle.modes_core.proofs.Lemmas.Conflicts.{agree}
use Rattle.modes_core.specs.contracts.tags.TagPartialEq.TheImpl as tags
use Rattle.modes_core.specs.contracts.modes.ModePartialEq.TheImpl as modes

-- The code's `==` on tags and on modes is the test that contracts name.
pub tag_equals : (x y : Tag) → (tags.ghosts).eq x y ≡ tag_eq x y
tag_equals (Relation d r) (Relation d' r') = refl
tag_equals (Object s d c o) (Object s' d' c' o') = refl
tag_equals (Advisory s d k l) (Advisory s' d' k' l') = refl
tag_equals (Relation d r) (Object s' d' c' o') = refl
tag_equals (Object s d c o) (Relation d' r') = refl
tag_equals (Relation d r) (Advisory s' d' k' l') = refl
tag_equals (Advisory s d k l) (Relation d' r') = refl
tag_equals (Object s d c o) (Advisory s' d' k' l') = refl
tag_equals (Advisory s d k l) (Object s' d' c' o') = refl

pub mode_equals : (m n : Mode) → (modes.ghosts).eq m n ≡ mode_eq m n
mode_equals = agree (modes.ghosts).eq mode_eq refl
