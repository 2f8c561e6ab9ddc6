use Rattle.std.proofs.Common.{◌≡◌, true, false, not, ap, ◌∙◌, subst, arith}
use Rattle.modes_core.specs.Tag.{partition_of}
use Rattle.lock_table.specs.Content.{Content}
use Rattle.lock_table.specs.PartView.{PartView, content_of}
use Rattle.lock_table.specs.Queue.{waits_there, Wakes, remove_wait}
use Rattle.lock_model.specs.Shows.{names_in}
use Rattle.lock_model.proofs.Lemmas.Shows.Hands.{names_in-granted}
use Rattle.lock_model.proofs.Lemmas.Shows.Places.{partition_read}
use Rattle.lock_model.proofs.Lemmas.Follows.Waits.Clears.{left}
use Rattle.lock_model.proofs.machine.state.Machine.leave_now.Goals as goal

pub returns : goal.returns
returns c = λ w safe shows.
    let now = c.args.self.now in
    let place : c.from.result ≡ partition_of c.args.tag = c.from.ensures ∙ c.partition-partition.ensures.value in
    let part = partition_read now.contents.parts.items c.from.result _ (partition_of c.args.tag) c.index_mut-part.result.now shows.contents.sixteen c.from.ensures c.partition-partition.ensures.value c.partition-partition.ensures.within c.index_mut-part.ensures.value in
    let stands : waits_there ((content_of c.index_mut-part.result.now).waits c.args.tag) c.args.session ≡ true =
    ap (λ (x : PartView). waits_there ((content_of x).waits c.args.tag) c.args.session) part ∙ c.requires.in_queue in
    let was_there : c.remove_waiter.result ≡ false = c.remove_waiter.ensures.found ∙ ap not stands in
    let woken = rw was_there at c.remove_waiter.ensures.removed in
    rw (c.end_wait.ensures, c.record.ensures, place, c.partition-partition.ensures.value)
    (left now w safe shows c.args.session c.requires.awaited.0 c.args.tag c.args.hand c.remove_waiter.new.part woken.0 _ c.requires.awaited.1 c.requires.awaited.2 c.requires.in_hand c.requires.unmoved c.requires.in_queue
    (subst (λ (x : Content). Wakes x c.args.tag woken.0 (content_of c.remove_waiter.new.part))
    (ap (λ (x : PartView). remove_wait (content_of x) c.args.session c.args.tag) part) woken.1)
    (c.remove_waiter.ensures.begun ∙ ap (λ (x : PartView). x.begun) part ∙ shows.contents.none_begun (partition_of c.args.tag))
    (λ k. c.unmarked_of-unmarked.ensures k ∙ ap (λ xs. names_in xs k) (c.woken.ensures ∙ woken.2) ∙ names_in-granted woken.0 k)
    (omega arith))
