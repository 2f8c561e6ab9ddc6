use Rattle.std.proofs.Common.{◌≡◌, ◌<◌, length, sym, ap, ◌∙◌, subst, arith}
use Rattle.std.specs.Vec.{with_item}
use Rattle.std.proofs.lemmas.Bool.{both_ways}
use Rattle.modes_core.specs.Tag.{partition_of}
use Rattle.lock_model.specs.declared.machine.state.Machine.{Machine}
use Rattle.lock_model.specs.declared.machine.state.Contents.{Contents}
use Rattle.lock_table.specs.declared.moves.Move.TheVariants.{Grant}
use Rattle.lock_world.specs.declared.events.Step.TheVariants.{PutExclusive}
use Rattle.lock_world.specs.declared.events.Word.TheVariants.{Partition}
use Rattle.lock_table.specs.Content.{add_hold}
use Rattle.lock_table.specs.PartView.{content_of}
use Rattle.lock_table.specs.Parts.{contents_in}
use Rattle.lock_table.specs.declared.answering.Answer.TheVariants.{Granted}
use Rattle.lock_table.specs.Queue.{awaits_mode, WaitingAnswer}
use Rattle.lock_table.proofs.Lemmas.OneAnswer.{waiting_answer-one}
use Rattle.lock_world.specs.World.{World}
use Rattle.lock_world.specs.Happens.{Next}
use Rattle.lock_model.specs.Shows.{Shows}
use Rattle.lock_model.proofs.Lemmas.Follows.Skipped.{skipped}
use Rattle.lock_model.proofs.Lemmas.Follows.Partitions.{granted, granting, exists_from}
use Rattle.lock_model.proofs.Lemmas.Shows.Looks.{asks_new, awaits_not_here}
use Rattle.lock_model.proofs.Lemmas.Shows.Places.{part_read}
use Rattle.lock_model.proofs.Lemmas.Shows.Changes.{changed_there}
use Rattle.lock_model.proofs.machine.state.Machine.put_granting.Goals as goal
use Rattle.lock_model.proofs.machine.state.Machine.put_granting.Goals.{then-partition-via-then-partition, then-partition-via-else-partition+then-not-may_ask}

pub returns-then-partition : goal.returns-then-partition
returns-then-partition c = λ w safe shows.
    let now = c.args.self.now in
    skipped now w safe shows c.args.session (PutExclusive (Partition c.args.partition) (Grant c.args.tag c.args.mode))
    (λ lawful. let needs = granting now w safe shows c.args.session c.args.partition c.args.tag c.args.mode c.requires.in_hand lawful in
    elim c.then-partition.branch [
      | then-partition-via-then-partition b ↦ b.if-partition.true (c.partition.ensures.value ∙ needs.0)
      | then-partition-via-else-partition+then-not-may_ask b ↦ both_ways _ (sym b.may_ask.ensures ∙ b.if-not-may_ask.true) needs.1
    ])

pub returns-then-not-is_counted_for : goal.returns-then-not-is_counted_for
returns-then-not-is_counted_for c = λ w safe shows.
    let now = c.args.self.now in
    skipped now w safe shows c.args.session (PutExclusive (Partition c.args.partition) (Grant c.args.tag c.args.mode))
    (λ lawful. let needs = granting now w safe shows c.args.session c.args.partition c.args.tag c.args.mode c.requires.in_hand lawful in
    both_ways _ (sym c.if-not-is_counted_for.ensures) needs.2)

pub returns-in_default : goal.returns-in_default
returns-in_default c = λ w safe shows.
    let now = c.args.self.now in
    let below = exists_from now w safe shows c.args.session c.args.partition c.requires.in_hand in
    let in_parts : c.args.partition < length now.contents.parts.items = subst (λ n. c.args.partition < n) (sym shows.contents.sixteen) below in
    let read = part_read now.contents.parts.items c.from-index.result c.args.partition c.index.result.now c.from-index.ensures (subst (λ n. n < length now.contents.parts.items) (sym c.from-index.ensures) in_parts) c.index.ensures in
    skipped now w safe shows c.args.session (PutExclusive (Partition c.args.partition) (Grant c.args.tag c.args.mode))
    (λ lawful. let needs = granting now w safe shows c.args.session c.args.partition c.args.tag c.args.mode c.requires.in_hand lawful in
    c.in_default.not-Granted (waiting_answer-one (contents_in now.contents.parts.items c.args.partition) c.args.session c.args.tag c.args.mode c.waiting_answer.result Granted
    (subst (λ part. WaitingAnswer (content_of part) c.args.session c.args.tag c.args.mode c.waiting_answer.result) read c.waiting_answer.ensures) needs.3))

pub begin-requires-clause-not_awaited : goal.begin-requires-clause-not_awaited
begin-requires-clause-not_awaited c =
    let now = c.args.self.now in
    let shown = c.requires.shown in
    let below = exists_from now shown.0 shown.1 shown.2 c.args.session c.args.partition c.requires.in_hand in
    let in_parts : c.args.partition < length now.contents.parts.items = subst (λ n. c.args.partition < n) (sym shown.2.contents.sixteen) below in
    let read = part_read now.contents.parts.items c.from-index.result c.args.partition c.index_mut-part.result.now c.from-index.ensures (subst (λ n. n < length now.contents.parts.items) (sym c.from-index.ensures) in_parts) c.index_mut-part.ensures.value in
    let object : partition_of c.args.tag ≡ c.args.partition = sym c.partition.ensures.value ∙ c.if-partition.false in
    ap (λ part. awaits_mode ((content_of part).waits c.args.tag) c.args.session c.args.mode) read
    ∙ sym (ap (λ p. awaits_mode ((contents_in now.contents.parts.items p).waits c.args.tag) c.args.session c.args.mode) object)
    ∙ awaits_not_here now shown.0 shown.1 shown.2 c.args.session c.args.tag c.args.mode (asks_new now shown.0 shown.1 shown.2 c.args.session c.args.tag c.args.mode (sym c.may_ask.ensures ∙ c.if-not-may_ask.false)).0

pub returns : goal.returns
returns c = λ w safe shows.
    let now = c.args.self.now in
    let in_hand = c.requires.in_hand in
    let below = exists_from now w safe shows c.args.session c.args.partition in_hand in
    let in_words : c.args.partition < length now.words.partitions = omega (arith, below) in
    let in_parts : c.args.partition < length now.contents.parts.items = subst (λ n. c.args.partition < n) (sym shows.contents.sixteen) below in
    let object : partition_of c.args.tag ≡ c.args.partition = sym c.partition.ensures.value ∙ c.if-partition.false in
    let looked = part_read now.contents.parts.items c.from-index.result c.args.partition c.index.result.now c.from-index.ensures (subst (λ n. n < length now.contents.parts.items) (sym c.from-index.ensures) in_parts) c.index.ensures in
    let read = part_read now.contents.parts.items c.from-index.result c.args.partition c.index_mut-part.result.now c.from-index.ensures (subst (λ n. n < length now.contents.parts.items) (sym c.from-index.ensures) in_parts) c.index_mut-part.ensures.value in
    let content = c.grant.ensures.content ∙ ap (λ x. add_hold x c.args.session c.args.tag c.args.mode) (c.begin.ensures.content ∙ ap content_of read) in
    let changed : Contents = record (now.contents) { parts = with_item now.contents.parts c.from-index.result c.grant.new.self } in
    let P : Machine → Type 0 = λ m. (v : World) × Next w (record { session = c.args.session; step = PutExclusive (Partition c.args.partition) (Grant c.args.tag c.args.mode) }) v × Shows m v in
    subst P (sym c.set_free.ensures)
    (granted now w safe shows c.args.session c.args.partition c.args.tag c.args.mode changed in_hand object (sym c.may_ask.ensures ∙ c.if-not-may_ask.false) (sym c.is_counted_for.ensures ∙ c.if-not-is_counted_for.false)
    (subst (λ part. WaitingAnswer (content_of part) c.args.session c.args.tag c.args.mode Granted) looked c.in-Granted.ensures) in_words
    (changed_there now.contents.parts.items c.from-index.result c.args.partition c.grant.new.self (add_hold (contents_in now.contents.parts.items c.args.partition) c.args.session c.args.tag c.args.mode)
    c.from-index.ensures in_parts content c.grant.ensures.ended))
