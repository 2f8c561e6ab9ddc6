use Rattle.std.proofs.Common.{◌≡◌, get_or, rules}
use Rattle.lock_script.proofs.Lemmas.Kept.{kept-if, refused-if}
use Rattle.lock_script.proofs.kept.KeptLines.keep.Goals as goal

pub returns-in-Some : goal.returns-in-Some
returns-in-Some c =
    let list : c.as_slice.result.now ≡ c.self.inside.queues.items = search rules in
    let view : c.args.self.now ≡ c.self.inside.queues.items = search rules in
    let at : c.index_mut.result.now ≡ get_or c.self.inside.queues.items c.in-Some.place c.index_mut.result.now = search rules in
    record {
      kept = rw view (kept-if c.self.inside.queues.items c.in-Some.place c.push.new.self c.index_mut.result.now c.args.session.bytes (rw list at c.in-Some.ensures.within)
          (rw list at c.in-Some.ensures.called) (rw list at c.in-Some.ensures.first) at c.push.ensures.session c.args.line c.push.result c.push.ensures.kept);
      refused = rw view (refused-if c.self.inside.queues.items c.in-Some.place c.push.new.self c.index_mut.result.now c.args.session.bytes (rw list at c.in-Some.ensures.within)
          (rw list at c.in-Some.ensures.called) (rw list at c.in-Some.ensures.first) at c.push.ensures.session c.push.result c.push.ensures.refused);
    }
