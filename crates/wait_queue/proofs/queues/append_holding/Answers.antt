use Rattle.std.proofs.Common.{◌≡◌, ℕ, ◌++◌, ap, ◌∙◌, inl, inr, arith, subst}
use Rattle.std.proofs.Math.Nat.{eq-or-lt_of_le}
use Rattle.std.specs.Prelude.{IfSome}
use Rattle.wait_queue.specs.Queues.{holding_of, lists_below}
use Rattle.wait_queue.proofs.Lemmas.Blockers.{lists_below-start, lists_below-more, lists_below-rest_empty, holding-nothing}
use Rattle.wait_queue.proofs.queues.append_holding.Goals as goal
use Rattle.modes_core.specs.Sessions.{most_sessions}

pub loop-number-init : goal.loop-number-init
loop-number-init g c = lists_below-start c.args.found.now.items (holding_of (g.P.PartTable.content c.args.part.now) c.args.tag.now c.args.session c.args.mode)

pub loop-number-preserved : goal.loop-number-preserved
loop-number-preserved g c =
    let lists = holding_of (g.P.PartTable.content c.args.part.now) c.args.tag.now c.args.session c.args.mode in
    let other : c.unwrap-other.result ≡ c.loop-number.number = subst (λ found. IfSome found (λ id. id ≡ c.loop-number.number)) c.unwrap-other.ensures c.new.ensures.value in
    lists_below-more c.loop-number.number lists c.args.found.now.items c.loop-number.found.items c.append_holding_of.new.found.items c.loop-number.invariant
    (c.in_ok-append_holding_of.ensures ∙ ap (λ (k : ℕ). c.loop-number.found.items ++ lists k) other)

pub returns : goal.returns
returns g c =
    let lists = holding_of (g.P.PartTable.content c.args.part.now) c.args.tag.now c.args.session c.args.mode in
    let above = c.above_holders-above.result in
    let ended : c.loop-number.number ≡ above = omega (arith, c.loop-number-test.false, c.loop-number.auto.number-end) in
    let rest : lists_below above lists ≡ lists_below most_sessions lists =
    elim (eq-or-lt_of_le c.above_holders-above.ensures.within) [
      | inl same ↦ ap (λ (k : ℕ). lists_below k lists) same
      | inr below ↦
          lists_below-rest_empty most_sessions above lists c.above_holders-above.ensures.within (λ k from.
          holding-nothing (g.P.PartTable.content c.args.part.now) c.args.tag.now c.args.session c.args.mode k
          (λ its. c.above_holders-above.ensures.above below k its from))
    ] in
    c.loop-number.invariant ∙ ap (λ (k : ℕ). c.args.found.now.items ++ lists_below k lists) ended
    ∙ ap (λ rows. c.args.found.now.items ++ rows) rest
