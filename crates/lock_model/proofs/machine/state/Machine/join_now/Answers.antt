use Rattle.std.proofs.Common.{◌≡◌, ◌≤◌, false, length, sym, ap, ◌∙◌, subst, arith}
use Rattle.modes_core.specs.Tag.{partition_of}
use Rattle.lock_table.specs.Content.{Content}
use Rattle.lock_table.specs.PartView.{content_of}
use Rattle.lock_table.specs.Queue.{add_wait, awaits_mode, waits_there}
use Rattle.lock_table.proofs.Lemmas.Queues.{queued-within}
use Rattle.lock_model.proofs.Lemmas.Shows.Places.{partition_read, get_or-one_value}
use Rattle.lock_model.proofs.Lemmas.Shows.Looks.{stands_not_here, awaits_not_here}
use Rattle.lock_model.proofs.Lemmas.Follows.Waits.Joins.{was_set_waiting}
use Rattle.lock_model.proofs.machine.state.Machine.join_now.Goals as goal

pub begin-requires-clause-not_awaited : goal.begin-requires-clause-not_awaited
begin-requires-clause-not_awaited c =
    let now = c.args.self.now in
    let part = partition_read now.contents.parts.items c.from.result _ (partition_of c.args.tag) c.index_mut-part.result.now c.requires.shown.2.contents.sixteen c.from.ensures c.partition-partition.ensures.value c.partition-partition.ensures.within c.index_mut-part.ensures.value in
    ap (λ x. awaits_mode ((content_of x).waits c.args.tag) c.args.session c.args.mode) part
    ∙ awaits_not_here now c.requires.shown.0 c.requires.shown.1 c.requires.shown.2 c.args.session c.args.tag c.args.mode c.requires.no_wait

pub join-requires-clause-no_wait : goal.join-requires-clause-no_wait
join-requires-clause-no_wait c =
    let now = c.args.self.now in
    let part = partition_read now.contents.parts.items c.from.result _ (partition_of c.args.tag) c.index_mut-part.result.now c.requires.shown.2.contents.sixteen c.from.ensures c.partition-partition.ensures.value c.partition-partition.ensures.within c.index_mut-part.ensures.value in
    ap (λ (x : Content). waits_there (x.waits c.args.tag) c.args.session) (c.begin.ensures.content ∙ ap content_of part)
    ∙ stands_not_here now c.requires.shown.0 c.requires.shown.1 c.requires.shown.2 c.args.session c.args.tag c.requires.no_wait

pub join-requires-clause-place : goal.join-requires-clause-place
join-requires-clause-place c =
    let now = c.args.self.now in
    let part = partition_read now.contents.parts.items c.from.result _ (partition_of c.args.tag) c.index_mut-part.result.now c.requires.shown.2.contents.sixteen c.from.ensures c.partition-partition.ensures.value c.partition-partition.ensures.within c.index_mut-part.ensures.value in
    subst (λ (x : Content). c.args.place ≤ length (x.waits c.args.tag)) (sym (c.begin.ensures.content ∙ ap content_of part))
    (queued-within _ c.args.session c.args.tag c.args.mode c.args.place c.requires.answer)

pub returns : goal.returns
returns c = λ w safe shows.
    let now = c.args.self.now in
    let place : c.from.result ≡ partition_of c.args.tag = c.from.ensures ∙ c.partition-partition.ensures.value in
    let part = partition_read now.contents.parts.items c.from.result _ (partition_of c.args.tag) c.index_mut-part.result.now shows.contents.sixteen c.from.ensures c.partition-partition.ensures.value c.partition-partition.ensures.within c.index_mut-part.ensures.value in
    rw (c.begin_wait.ensures, c.record.ensures, place, c.partition-partition.ensures.value)
    (was_set_waiting now w safe shows c.args.session c.args.tag c.args.mode c.args.hand c.args.place c.join.new.self _ c.requires.in_hand c.requires.unmoved c.requires.no_wait c.requires.not_held c.requires.in_no_slot c.requires.counted c.requires.answer
    (c.join.ensures.content ∙ ap (λ (x : Content). add_wait x c.args.session c.args.tag c.args.mode c.args.place) (c.begin.ensures.content ∙ ap content_of part))
    c.join.ensures.ended (λ k. get_or-one_value 1024 false k) (omega arith))
