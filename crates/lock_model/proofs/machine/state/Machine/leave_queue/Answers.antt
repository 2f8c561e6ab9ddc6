use Rattle.std.proofs.Common.{Some, refl, sym, ap, ◌∙◌, arith}
use Rattle.std.proofs.lemmas.Bool.{both_ways}
use Rattle.modes_core.specs.Tag.{partition_of}
use Rattle.lock_table.specs.declared.moves.Move.TheVariants.{Leave}
use Rattle.lock_table.specs.PartView.{PartView, content_of}
use Rattle.lock_table.specs.Queue.{waits_there}
use Rattle.lock_model.specs.Shows.{hand_of}
use Rattle.lock_model.proofs.Lemmas.Shows.Places.{partition_read}
use Rattle.lock_model.proofs.Lemmas.Shows.Hands.{made_is, is_made, some_made, none_made}
use Rattle.lock_model.proofs.Lemmas.Follows.Waits.Clears.{left_before, leave_without_hand, leave_after_move, leave_of_nothing}
use Rattle.lock_model.proofs.machine.state.Machine.leave_queue.Goals as goal
use Rattle.lock_model.proofs.machine.state.Machine.leave_queue.Goals.{else-has_made-via-then-has_made+else-not-waits, else-has_made-via-else-has_made}

pub returns-in_default : goal.returns-in_default
returns-in_default c = λ w safe shows.
    let now = c.args.self.now in
    leave_without_hand now w safe shows c.args.session c.requires.awaited.0 c.args.tag c.requires.awaited.1 c.requires.awaited.2
    (ap (hand_of now c.args.session) (sym c.partition-partition.ensures.value) ∙ sym c.in_default.ensures)

pub returns-then-not-waits : goal.returns-then-not-waits
returns-then-not-waits c = λ w safe shows.
    let now = c.args.self.now in
    let part = partition_read now.contents.parts.items c.from.result _ (partition_of c.args.tag) c.index.result.now shows.contents.sixteen c.from.ensures c.partition-partition.ensures.value c.partition-partition.ensures.within c.index.ensures in
    rw c.end_wait.ensures
    (left_before now w safe shows c.args.session c.requires.awaited.0 c.args.tag c.in-Some.hand (Leave c.args.tag) c.requires.awaited.1 c.requires.awaited.2
    (ap (hand_of now c.args.session) (sym c.partition-partition.ensures.value) ∙ sym c.in-Some.ensures) (made_is c.in-Some.hand.recorded (Leave c.args.tag) (sym c.if-has_made.ensures)) refl
    (ap (λ (x : PartView). waits_there ((content_of x).waits c.args.tag) c.args.session) (sym part) ∙ sym c.if-not-waits.ensures)
    (omega arith))

pub returns-else-has_made : goal.returns-else-has_made
returns-else-has_made c = λ w safe shows.
    let now = c.args.self.now in
    let part = partition_read now.contents.parts.items c.from.result _ (partition_of c.args.tag) c.index.result.now shows.contents.sixteen c.from.ensures c.partition-partition.ensures.value c.partition-partition.ensures.within c.index.ensures in
    let its = some_made c.in-Some.hand.recorded c.if-is_none.ensures in
    leave_after_move now w safe shows c.args.session c.requires.awaited.0 c.args.tag c.in-Some.hand its.0 c.requires.awaited.1 c.requires.awaited.2
    (ap (hand_of now c.args.session) (sym c.partition-partition.ensures.value) ∙ sym c.in-Some.ensures) its.1
    (λ same. elim c.else-has_made.branch [
      | else-has_made-via-then-has_made+else-not-waits b ↦ ap (λ (x : PartView). waits_there ((content_of x).waits c.args.tag) c.args.session) (sym part) ∙ sym b.if-not-waits.ensures
      | else-has_made-via-else-has_made b ↦ absurd (both_ways _ (sym b.if-has_made.ensures) (is_made c.in-Some.hand.recorded (Leave c.args.tag) (its.1 ∙ ap Some same)))
    ])

pub returns-else-waits : goal.returns-else-waits
returns-else-waits c = λ w safe shows.
    let now = c.args.self.now in
    let part = partition_read now.contents.parts.items c.from.result _ (partition_of c.args.tag) c.index.result.now shows.contents.sixteen c.from.ensures c.partition-partition.ensures.value c.partition-partition.ensures.within c.index.ensures in
    leave_of_nothing now w safe shows c.args.session c.requires.awaited.0 c.args.tag c.in-Some.hand c.requires.awaited.1 c.requires.awaited.2
    (ap (hand_of now c.args.session) (sym c.partition-partition.ensures.value) ∙ sym c.in-Some.ensures) (none_made c.in-Some.hand.recorded c.if-is_none.ensures)
    (ap (λ (x : PartView). waits_there ((content_of x).waits c.args.tag) c.args.session) (sym part) ∙ sym c.if-waits.ensures)
