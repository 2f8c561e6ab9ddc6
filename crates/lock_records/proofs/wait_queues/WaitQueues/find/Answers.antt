use Rattle.std.proofs.Common.{◌≡◌, ℕ, ◌≤◌, false, None, length, inl, inr, ap, sym, ◌∙◌, arith}
use Rattle.std.proofs.lemmas.Bool.{cases_lt}
use Rattle.std.proofs.lemmas.List.{get_or_past}
use Rattle.lock_records.specs.Queues.{QueuesView, queue_at, is_queue_of}
use Rattle.lock_records.proofs.Lemmas.QueueWrites.{queue-absent, is_queue-at}
use Rattle.lock_records.proofs.wait_queues.WaitQueues.find.Goals as goal

pub returns-clause-absent : goal.returns-clause-absent
returns-clause-absent c = queue-absent c.args.self.now.slots c.args.tag.now at where
  within : length c.args.self.now.slots ≤ c.loop-place.place
  within =
      let all = ap (λ (view : QueuesView). length view.slots) c.self.view_is in
      omega (arith, c.capacity-place-end.ensures.slots)

  at : (j : ℕ) → is_queue_of c.args.tag.now (queue_at c.args.self.now.slots j) ≡ false
  at j =
      elim (cases_lt j c.loop-place.place) [
        | inl below ↦ c.loop-place.invariant j below
        | inr past ↦ ap (is_queue_of c.args.tag.now) (get_or_past c.args.self.now.slots j None (omega (arith, within)))
      ]

pub returns-then-is_at-clause-found : goal.returns-then-is_at-clause-found
returns-then-is_at-clause-found c = is_queue-at c.args.self.now.slots c.args.tag.now c.args.noted (sym c.is_at.ensures ∙ c.if-is_at.true)

pub returns-then-is_at-2-clause-found : goal.returns-then-is_at-2-clause-found
returns-then-is_at-2-clause-found c = is_queue-at c.args.self.now.slots c.args.tag.now c.loop-place.place (sym c.is_at-in-loop-place.ensures ∙ c.if-is_at-2.true)
