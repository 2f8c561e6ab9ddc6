use Rattle.std.proofs.Common.{◌≡◌, rules}
use Rattle.std.proofs.lemmas.List.Sorted.{answers_always}
use Rattle.lock_model.specs.declared.machine.plain.QueuedWait.{QueuedWait}
use Rattle.lock_model.proofs.Lemmas.PlainLists.{queued_waits_of, gathered-all, waits-sorted}
use Rattle.lock_model.proofs.machine.plain_lists.gather_waits.Goals as goal

pub returns-clause-all : goal.returns-clause-all
returns-clause-all c = λ home o.
    waits-sorted c.args.parts.now c.loop-part.waits.items c.sort_by_key.new.self.items
    (gathered-all queued_waits_of c.args.parts.now c.loop-part.part-index c.loop-part.waits.items c.loop-part-test.false c.loop-part.invariant)
    (c.sort_by_key.ensures.stable (λ (queued : QueuedWait). queued.tag) (answers_always _ (λ a r. r ≡ a.0.now.tag) _ (λ f a r g called. search rules))) home o

pub returns-clause-by_tag : goal.returns-clause-by_tag
returns-clause-by_tag c =
    c.in_ok-sort_by_key.ensures.sorted (λ (queued : QueuedWait). queued.tag) (answers_always _ (λ a r. r ≡ a.0.now.tag) _ (λ f a r g called. search rules))
