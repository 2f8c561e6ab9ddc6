use Rattle.std.proofs.Common.{◌≡◌, get_or, rules}
use Rattle.lock_script.proofs.Lemmas.Kept.{empty-if, fewer-if, first-if, taken-if}
use Rattle.lock_script.proofs.Lemmas.Ready.{none-of-free}
use Rattle.lock_script.proofs.kept.KeptLines.pop.Goals as goal

pub returns-in-Some : goal.returns-in-Some
returns-in-Some c =
    let list : c.as_slice.result.now ≡ c.self.inside.queues.items = search rules in
    let view : c.args.self.now ≡ c.self.inside.queues.items = search rules in
    let at : c.index_mut.result.now ≡ get_or c.self.inside.queues.items c.in-Some.place c.index_mut.result.now = search rules in
    record {
      order = rw view (taken-if c.self.inside.queues.items c.in-Some.place c.pop.new.self c.index_mut.result.now c.args.session.now.bytes (rw list at c.in-Some.ensures.within)
          (rw list at c.in-Some.ensures.called) (rw list at c.in-Some.ensures.first) at c.pop.ensures.session c.pop.result c.pop.ensures.first);
      first = rw view (first-if c.self.inside.queues.items c.in-Some.place c.pop.new.self c.index_mut.result.now c.args.session.now.bytes (rw list at c.in-Some.ensures.within)
          (rw list at c.in-Some.ensures.called) (rw list at c.in-Some.ensures.first) at c.pop.ensures.session c.pop.result c.pop.ensures.first);
      fewer = rw view (fewer-if c.self.inside.queues.items c.in-Some.place c.pop.new.self c.index_mut.result.now c.args.session.now.bytes (rw list at c.in-Some.ensures.within)
          (rw list at c.in-Some.ensures.called) (rw list at c.in-Some.ensures.first) at c.pop.ensures.session c.pop.result c.pop.ensures.fewer);
      none = rw view (empty-if c.self.inside.queues.items c.in-Some.place c.pop.new.self c.index_mut.result.now c.args.session.now.bytes (rw list at c.in-Some.ensures.within)
          (rw list at c.in-Some.ensures.called) (rw list at c.in-Some.ensures.first) at c.pop.ensures.session c.pop.result c.pop.ensures.none);
    }

pub returns-in-None-clause-none : goal.returns-in-None-clause-none
returns-in-None-clause-none c =
    let list : c.as_slice.result.now ≡ c.self.inside.queues.items = search rules in
    let view : c.args.self.now ≡ c.self.inside.queues.items = search rules in
    rw view (none-of-free c.self.inside.queues.items c.args.session.now.bytes (rw list at c.in-None.ensures.none))
