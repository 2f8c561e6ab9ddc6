use Rattle.std.proofs.Common.{◌≡◌, ◌<◌, length, sym, ap, ◌∙◌, subst, arith}
use Rattle.modes_core.specs.Tag.{partition_of}
use Rattle.lock_table.specs.PartView.{content_of}
use Rattle.lock_table.specs.Queue.{WaitingAnswer}
use Rattle.lock_model.specs.Shows.{hand_of}
use Rattle.lock_model.proofs.Lemmas.Shows.Places.{part_read}
use Rattle.lock_model.proofs.Lemmas.Shows.Looks.{asks_new}
use Rattle.lock_model.proofs.Lemmas.Follows.Waits.Joins.{join_without_hand, join_after_move, join_may_not, join_not_counted, join_not_answered}
use Rattle.lock_model.proofs.machine.state.Machine.set_waiting.Goals as goal
use Rattle.lock_model.proofs.machine.state.Machine.set_waiting.Goals.{then-is_some-via-then-is_some, then-is_some-via-else-is_some+then-not-may_ask, then-is_some-via-else-is_some+else-not-may_ask+then-not-is_counted_for}

pub returns-in_default : goal.returns-in_default
returns-in_default c = λ w safe shows.
    let now = c.args.self.now in
    join_without_hand now w safe shows c.args.session c.args.tag c.args.mode
    (ap (hand_of now c.args.session) (sym c.partition-partition.ensures.value) ∙ sym c.in_default.ensures)

pub returns-then-is_some : goal.returns-then-is_some
returns-then-is_some c = λ w safe shows.
    let now = c.args.self.now in
    let hand = ap (hand_of now c.args.session) (sym c.partition-partition.ensures.value) ∙ sym c.in-Some.ensures in
    elim c.then-is_some.branch [
      | then-is_some-via-then-is_some b ↦ join_after_move now w safe shows c.args.session c.args.tag c.args.mode c.in-Some.hand hand (sym b.if-is_some.ensures)
      | then-is_some-via-else-is_some+then-not-may_ask b ↦ join_may_not now w safe shows c.args.session c.args.tag c.args.mode c.in-Some.hand hand (sym b.if-not-may_ask.ensures)
      | then-is_some-via-else-is_some+else-not-may_ask+then-not-is_counted_for b ↦ join_not_counted now w safe shows c.args.session c.args.tag c.args.mode (sym b.if-not-is_counted_for.ensures)
    ]

pub returns-in_default-waiting_answer : goal.returns-in_default-waiting_answer
returns-in_default-waiting_answer c = λ w safe shows.
    let now = c.args.self.now in
    let place : c.from.result ≡ partition_of c.args.tag = c.from.ensures ∙ c.partition-partition.ensures.value in
    let sixteen : length now.contents.parts.items ≡ 16 = shows.contents.sixteen in
    let below = c.partition-partition.ensures.within in
    let within : c.from.result < length now.contents.parts.items = omega arith in
    let part = part_read now.contents.parts.items c.from.result (partition_of c.args.tag) c.index-part.result.now place within c.index-part.ensures in
    join_not_answered now w safe shows c.args.session c.args.tag c.args.mode c.waiting_answer.result
    (subst (λ x. WaitingAnswer (content_of x) c.args.session c.args.tag c.args.mode c.waiting_answer.result) part c.waiting_answer.ensures) (λ k is. c.in_default-waiting_answer.not-Queued k is)

pub join_now-requires-clause-not_held : goal.join_now-requires-clause-not_held
join_now-requires-clause-not_held c =
    (asks_new c.args.self.now c.requires.shown.0 c.requires.shown.1 c.requires.shown.2 c.args.session c.args.tag c.args.mode (sym c.if-not-may_ask.ensures)).1

pub join_now-requires-clause-in_no_slot : goal.join_now-requires-clause-in_no_slot
join_now-requires-clause-in_no_slot c =
    (asks_new c.args.self.now c.requires.shown.0 c.requires.shown.1 c.requires.shown.2 c.args.session c.args.tag c.args.mode (sym c.if-not-may_ask.ensures)).2
