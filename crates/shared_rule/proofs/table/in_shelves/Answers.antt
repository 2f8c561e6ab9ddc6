use Rattle.std.proofs.Common.{◌≡◌, ℕ, ◌+◌, length, ap, ◌∙◌, arith}
use Rattle.shared_rule.specs.Layout.{content_shelf_of, list_shelf_of}
use Rattle.shared_rule.proofs.Lemmas.Opening.{new-longer, lists-longer}
use Rattle.shared_rule.proofs.table.in_shelves.Goals as goal

pub loop-index-2-preserved : goal.loop-index-2-preserved
loop-index-2-preserved g c =
    let old = c.loop-index-2.shelves in
    let new = c.push_reserved-in-loop-index-2.new.self in
    let kept = c.in_ok-next_list.field-0 in
    let pushed = c.push_reserved-in-loop-index-2.ensures in
    let index : ℕ = c.loop-index-2.index in
    let many : length old.items ≡ index = let ok = old.ok.0 in let number = c.loop-index-2.invariant.number in omega (arith, ok, number) in
    record {
      number = pushed.len ∙ ap (λ n. n + 1) c.loop-index-2.invariant.number;
      room = pushed.capacity ∙ c.loop-index-2.invariant.room;
      past = let past = c.loop-index-2.invariant.past in omega (arith, past);
      there = λ p exists. new-longer g.T.PartTable.content g.T.PartTable.begun old.items new.items kept (content_shelf_of p) pushed.items
          (c.loop-index-2.invariant.there p exists);
      empty = λ lock exists below.
          lists-longer c.args.sessions old.items new.items kept (list_shelf_of lock) index pushed.items many below
          (c.loop-index-2.invariant.empty lock exists) (λ at. c.in_ok-next_list.ensures {u = tt} (omega (arith, at)));
    }
