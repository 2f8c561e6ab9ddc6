use Rattle.std.proofs.Common.{◌≡◌, ◌++◌, ◌∷◌, [], rules}
use Rattle.lock_script.proofs.Lemmas.Kept.{first-order}
use Rattle.lock_script.proofs.kept.KeptLines.keep_first.Goals as goal

pub returns-clause-kept : goal.returns-clause-kept
returns-clause-kept c =
    let view : c.args.self.now ≡ c.self.inside.queues.items = search rules in
    let after : c.push-2.new.self.items ≡ c.self.inside.queues.items ++ c.push.new.self ∷ [] = search rules in
    rw view (rw after (first-order c.self.inside.queues.items c.push.new.self c.args.session.bytes c.args.line (rw view at c.requires) (search rules) (search rules)))
