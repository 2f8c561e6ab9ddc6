use Rattle.std.specs.Prelude.{ℕ, Bool, not, ◌&&◌, ◌==◌, is_some}
use Rattle.modes_core.specs.declared.modes.Mode.{Mode}
use Rattle.modes_core.specs.declared.tags.Tag.{Tag}
use Rattle.modes_core.specs.Conflict.{conflict}
use Rattle.modes_core.specs.Tag.{tag_eq}
use Rattle.lock_timeline.specs.declared.bars.Bar.{Bar}

-- the bar's session got the lock, and has not given it back
abbrev pub is_held : Bar → Bool
is_held bar = is_some bar.got && not (is_some bar.ended)

-- the bar's session asked for the lock, and neither got it nor gave up
abbrev pub is_awaited : Bar → Bool
is_awaited bar = not (is_some bar.got) && not (is_some bar.ended)

-- the bar is of another session than this lane's, on the same object, in a mode that conflicts with this one
abbrev pub bars_the_way : Bar → ℕ → Tag → Mode → Bool
bars_the_way bar lane tag mode = not (bar.lane == lane) && (tag_eq bar.tag tag && conflict mode bar.mode)
