use Rattle.std.proofs.Common.{◌≡◌, rules}
use Rattle.lock_script.proofs.Lemmas.Kept.{lines-there, none-of-empty, some-of-full}
use Rattle.lock_script.proofs.Lemmas.Ready.{none-of-free}
use Rattle.lock_script.proofs.kept.KeptLines.has_lines_of.Goals as goal

pub returns-in-Some-clause-some : goal.returns-in-Some-clause-some
returns-in-Some-clause-some c =
    let list : c.as_slice.result.now ≡ c.self.inside.queues.items = search rules in
    let view : c.args.self.now ≡ c.self.inside.queues.items = search rules in
    rw view (some-of-full c.index.result.now c.is_empty.result c.is_empty.ensures
    (lines-there c.self.inside.queues.items c.in-Some.place c.index.result.now c.args.session.now.bytes (rw list at c.in-Some.ensures.within)
    (rw list at c.in-Some.ensures.called) (rw list at c.in-Some.ensures.first) c.index.ensures))

pub returns-in-Some-clause-none : goal.returns-in-Some-clause-none
returns-in-Some-clause-none c =
    let list : c.as_slice.result.now ≡ c.self.inside.queues.items = search rules in
    let view : c.args.self.now ≡ c.self.inside.queues.items = search rules in
    rw view (none-of-empty c.index.result.now c.is_empty.result c.is_empty.ensures
    (lines-there c.self.inside.queues.items c.in-Some.place c.index.result.now c.args.session.now.bytes (rw list at c.in-Some.ensures.within)
    (rw list at c.in-Some.ensures.called) (rw list at c.in-Some.ensures.first) c.index.ensures))

pub returns-in-None-clause-none : goal.returns-in-None-clause-none
returns-in-None-clause-none c =
    let list : c.as_slice.result.now ≡ c.self.inside.queues.items = search rules in
    let view : c.args.self.now ≡ c.self.inside.queues.items = search rules in
    λ never. rw view (none-of-free c.self.inside.queues.items c.args.session.now.bytes (rw list at c.in-None.ensures.none))
