use Rattle.std.proofs.Common.{◌≡◌, ◌≤◌, length, sym, ap, arith}
use Rattle.lock_model.proofs.Lemmas.Shows.Looks.{hand_of-past, hand_of-idle}
use Rattle.lock_model.proofs.machine.state.Machine.hand_of.Goals as goal
use Rattle.lock_model.proofs.machine.state.Machine.hand_of.Goals.{then-index-hands-via-then-index-hands, then-index-hands-via-else-index-hands+then-not-makes_steps}

pub returns-then-index-hands : goal.returns-then-index-hands
returns-then-index-hands c =
    let now = c.args.self.now in
    elim c.then-index-hands.branch [
      | then-index-hands-via-then-index-hands b ↦
          let same : length c.as_slice-hands.result.now ≡ length now.contents.hands = ap length c.as_slice-hands.ensures in
          let past : length now.contents.hands ≤ c.args.partition = omega (arith, same) in
          sym (hand_of-past now c.args.session c.args.partition past)
      | then-index-hands-via-else-index-hands+then-not-makes_steps b ↦ sym (hand_of-idle now c.args.session c.args.partition (sym b.if-not-makes_steps.ensures))
    ]
