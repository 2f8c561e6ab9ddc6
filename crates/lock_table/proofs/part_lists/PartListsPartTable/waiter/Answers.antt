use Rattle.std.proofs.Common.{◌≡◌, ◌≤◌, List, length, sym, ap, arith}
use Rattle.std.proofs.lemmas.List.{length-map}
use Rattle.std.proofs.lemmas.List.Sums.{length-filter, count_by-le-length}
use Rattle.modes_core.specs.declared.tags.Tag.{Tag}
use Rattle.modes_core.specs.Tag.{tag_eq}
use Rattle.lock_table.specs.declared.part_waits.PartWait.{PartWait}
use Rattle.lock_table.specs.PartView.{PartView}
use Rattle.lock_table.specs.PartWaits.{queues_in}
use Rattle.lock_table.proofs.part_lists.PartListsPartTable.waiter.Goals as goal

no_longer : (ws : List PartWait) (t : Tag) → length (queues_in ws t) ≤ length ws
no_longer ws t = simp (length-map, length-filter) (count_by-le-length (λ (w : PartWait). tag_eq t w.tag) ws)

pub returns-clause-countable : goal.returns-clause-countable
returns-clause-countable c =
    let e : c.args.self.now.waits ≡ c.self.inside.waits.items = sym (ap (λ (v : PartView). v.waits) c.self.view_is) in
    rw e (omega (arith, no_longer c.self.inside.waits.items c.args.tag.now))
