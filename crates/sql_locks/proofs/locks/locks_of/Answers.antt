use Rattle.std.proofs.Common.{rules, ◌≡◌, ◌+◌, ◌<◌, [], ◌∷◌, ◌++◌, length, take, get_or}
use Rattle.std.proofs.lemmas.List.{take_more}
use Rattle.modes_core.specs.declared.modes.Mode.TheVariants.{AccessShare}
use Rattle.sql_locks.specs.declared.forms.Part.{Part}
use Rattle.sql_locks.specs.declared.forms.Start.TheVariants.{Target}
use Rattle.sql_locks.specs.declared.forms.Along.TheVariants.{Nothing}
use Rattle.sql_locks.specs.declared.forms.Hop.TheVariants.{Stay}
use Rattle.sql_locks.proofs.Lemmas.Locks.{locks_more}
use Rattle.sql_locks.proofs.locks.locks_of.Goals as goal

pub loop-part-preserved : goal.loop-part-preserved
loop-part-preserved c =
    let none : Part = record { path = record { start = Target; along = Nothing; hop = Stay }; mode = AccessShare } in
    let lt : c.loop-part.part-index < length c.args.parts.now = search rules in
    let part : Part = get_or c.args.parts.now c.loop-part.part-index none in
    let next : take (c.loop-part.part-index + 1) c.args.parts.now ≡ take c.loop-part.part-index c.args.parts.now ++ part ∷ [] =
    take_more c.args.parts.now c.loop-part.part-index none lt in
    let more = locks_more c.args.links.now c.args.act.now (take c.loop-part.part-index c.args.parts.now) c.loop-part.locks.items
    part c.in_ok-more.more.items c.loop-part.invariant c.in_ok-more.ensures in
    let appended : c.extend_from_slice.new.self.items ≡ c.loop-part.locks.items ++ c.in_ok-more.more.items = search rules in
    rw (next, appended) more
