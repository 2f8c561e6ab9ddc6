use Rattle.std.specs.Prelude.{◌==◌, Bool, true, false, ◌&&◌}
use Rattle.modes_core.specs.Mode.{mode_eq}
use Rattle.modes_core.specs.Tag.{tag_eq}
use Rattle.lock_table.specs.declared.moves.Move.{Move}
use Rattle.lock_table.specs.declared.moves.Move.TheVariants.{Keep, Grant, Join, Release, Leave, Adopt}

-- whether both are the same move
abbrev pub move_eq : Move → Move → Bool
move_eq Keep Keep = true
move_eq (Grant tag mode) (Grant its_tag its_mode) = tag_eq tag its_tag && mode_eq mode its_mode
move_eq (Join tag mode) (Join its_tag its_mode) = tag_eq tag its_tag && mode_eq mode its_mode
move_eq (Release tag mode) (Release its_tag its_mode) = tag_eq tag its_tag && mode_eq mode its_mode
move_eq (Leave tag) (Leave its_tag) = tag_eq tag its_tag
move_eq (Adopt owner slot) (Adopt its_owner its_slot) = (owner == its_owner) && (slot == its_slot)
move_eq _ _ = false

-- whether the move is a leave
abbrev pub is_leave : Move → Bool
is_leave Keep = false
is_leave (Grant tag mode) = false
is_leave (Join tag mode) = false
is_leave (Release tag mode) = false
is_leave (Leave tag) = true
is_leave (Adopt owner slot) = false
