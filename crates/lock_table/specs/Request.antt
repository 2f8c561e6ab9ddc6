use Rattle.std.specs.Prelude.{ℕ, Bool, not, ◌==◌, ◌&&◌}
use Rattle.modes_core.specs.declared.modes.Mode.{Mode}
use Rattle.modes_core.specs.declared.tags.Tag.{Tag}
use Rattle.modes_core.specs.Mode.{mode_eq}
use Rattle.modes_core.specs.Tag.{tag_eq}
use Rattle.lock_table.specs.declared.request.Request.{Request}

-- whether the request is this session's, for this object and this mode
abbrev pub is_request_of : Request → ℕ → Tag → Mode → Bool
is_request_of request session tag mode = (session == request.session) && (tag_eq tag request.tag && mode_eq mode request.mode)

-- whether the request is this session's, for this object
abbrev pub is_request_on : Request → ℕ → Tag → Bool
is_request_on request session tag = (session == request.session) && tag_eq tag request.tag

-- whether the request is another session's, for this object and one of the modes
abbrev pub is_in_the_way_of : Request → ℕ → Tag → (Mode → Bool) → Bool
is_in_the_way_of request session tag modes = not (session == request.session) && (tag_eq tag request.tag && modes request.mode)
