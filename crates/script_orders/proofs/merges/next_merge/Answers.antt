use Rattle.std.proofs.Common.{◌+◌}
use Rattle.std.proofs.lemmas.List.Sorted.{IsPermutation-trans, length_permutation}
use Rattle.script_orders.proofs.Lemmas.Merges.{comes_later, same_at}
use Rattle.script_orders.proofs.Lemmas.Next.{is_step, none_between}
use Rattle.script_orders.proofs.merges.next_merge.Goals as goal

pub returns-clause-same : goal.returns-clause-same
returns-clause-same c = IsPermutation-trans _ _ _ c.swap.ensures.permutation c.turn_round.ensures.same

pub returns-clause-later : goal.returns-clause-later
returns-clause-later c = λ _. comes_later c.args.merge.now c.swap.new.self c.turn_round.new.merge
    c.in-Some.place c.last_above-other.result
    c.last_above-other.ensures.behind.0 c.last_above-other.ensures.behind.1 c.last_above-other.ensures.above
    c.swap.ensures.by_index c.turn_round.ensures.front

pub returns-clause-none_between : goal.returns-clause-none_between
returns-clause-none_between c = λ _ other between.
    none_between c.args.merge.now c.turn_round.new.merge other c.in-Some.place c.last_above-other.result
    (is_step c.args.merge.now c.swap.new.self c.turn_round.new.merge c.in-Some.place c.last_above-other.result
    c.last_above-other.ensures.behind.0 c.last_above-other.ensures.behind.1 c.last_above-other.ensures.above
    c.in-Some.ensures.descending c.last_above-other.ensures.last c.swap.ensures.by_index c.swap.ensures.len
    (length_permutation _ _ c.turn_round.ensures.same)
    (λ k h. same_at (c.in-Some.place + 1) k c.turn_round.new.merge c.swap.new.self h c.turn_round.ensures.front)
    c.turn_round.ensures.turned)
    (IsPermutation-trans _ _ _ c.swap.ensures.permutation c.turn_round.ensures.same) between
