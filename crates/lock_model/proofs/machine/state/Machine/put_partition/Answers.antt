use Rattle.std.proofs.Common.{◌<◌, Some, length, sym, ap, ◌∙◌, subst, arith}
use Rattle.std.proofs.lemmas.Bool.{both_ways}
use Rattle.lock_model.specs.declared.machine.state.Machine.{Machine}
use Rattle.lock_world.specs.declared.events.Step.TheVariants.{PutExclusive}
use Rattle.lock_world.specs.declared.events.Word.TheVariants.{Partition}
use Rattle.lock_world.specs.World.{World}
use Rattle.lock_world.specs.Happens.{Next}
use Rattle.lock_model.specs.Shows.{Shows}
use Rattle.lock_model.proofs.Lemmas.Follows.Skipped.{skipped}
use Rattle.lock_model.proofs.Lemmas.Follows.Partitions.{recorded_put, not_in_hand, only_recorded}
use Rattle.lock_model.proofs.Lemmas.Shows.Hands.{made_is, is_made, some_made}
use Rattle.lock_model.proofs.Lemmas.Shows.Looks.{hand_from}
use Rattle.lock_model.proofs.machine.state.Machine.put_partition.Goals as goal
use Rattle.lock_model.proofs.machine.state.Machine.put_partition.Goals.{else-has_made-via-then-has_made+then-none_unmarked+else-is_over, else-has_made-via-then-has_made+else-none_unmarked, else-has_made-via-else-has_made}

pub set_free-requires : goal.set_free-requires
set_free-requires c =
    let shown = c.requires.shown in
    (hand_from c.args.self.now shown.0 shown.1 shown.2 c.args.session c.args.partition c.in-Some.hand (sym c.hand_of.ensures ∙ c.in-Some.is)).exists

pub returns-in_default : goal.returns-in_default
returns-in_default c = λ w safe shows.
    let now = c.args.self.now in
    skipped now w safe shows c.args.session (PutExclusive (Partition c.args.partition) c.args.done)
    (λ lawful. not_in_hand now w safe shows c.args.session c.args.partition c.args.done (sym c.hand_of.ensures ∙ c.in_default.is) lawful)

pub returns-then-is_over : goal.returns-then-is_over
returns-then-is_over c = λ w safe shows.
    let now = c.args.self.now in
    let in_hand = sym c.hand_of.ensures ∙ c.in-Some.is in
    let below = (hand_from now w safe shows c.args.session c.args.partition c.in-Some.hand in_hand).exists in
    let in_words : c.args.partition < length now.words.partitions = omega (arith, below) in
    let P : Machine → Type 0 = λ m. (v : World) × Next w (record { session = c.args.session; step = PutExclusive (Partition c.args.partition) c.args.done }) v × Shows m v in
    subst P (sym c.set_free.ensures)
    (recorded_put now w safe shows c.args.session c.args.partition c.args.done c.in-Some.hand in_hand (made_is c.in-Some.hand.recorded c.args.done (sym c.if-has_made.ensures)) (sym c.if-none_unmarked.ensures) (sym c.if-is_over.ensures) in_words)

pub returns-else-has_made : goal.returns-else-has_made
returns-else-has_made c = λ w safe shows.
    let now = c.args.self.now in
    let in_hand = sym c.hand_of.ensures ∙ c.in-Some.is in
    let its = some_made c.in-Some.hand.recorded c.if-is_none.ensures in
    skipped now w safe shows c.args.session (PutExclusive (Partition c.args.partition) c.args.done)
    (λ lawful. let only = only_recorded now w safe shows c.args.session c.args.partition c.args.done its.0 c.in-Some.hand in_hand its.1 lawful in
    elim c.else-has_made.branch [
      | else-has_made-via-then-has_made+then-none_unmarked+else-is_over b ↦ both_ways _ (sym b.if-is_over.ensures) only.2
      | else-has_made-via-then-has_made+else-none_unmarked b ↦ both_ways _ (sym b.if-none_unmarked.ensures) only.1
      | else-has_made-via-else-has_made b ↦ both_ways _ (sym b.if-has_made.ensures) (is_made c.in-Some.hand.recorded c.args.done (its.1 ∙ ap Some only.0))
    ])
