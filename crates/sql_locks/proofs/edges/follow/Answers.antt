use Rattle.std.proofs.Common.{rules, ◌≡◌, ◌<◌, [], ◌∷◌, ◌++◌, length, get_or, Contains, inl}
use Rattle.std.proofs.lemmas.List.{take_more}
use Rattle.std.proofs.lemmas.List.Elements.{Contains-append_left, Contains-push, Contains-push_cases}
use Rattle.sql_locks.specs.declared.edges.Edge.{Edge}
use Rattle.sql_locks.proofs.Lemmas.Follow.{follow_rest, follow_taken}
use Rattle.sql_locks.proofs.edges.follow.Goals as goal
use Rattle.sql_locks.proofs.edges.follow.Goals.{then-not-is_among+in_ok-push, else-not-is_among+then-not-is_among-2+in_ok-push-2, else-not-is_among+else-not-is_among-2}

pub loop-edge-preserved : goal.loop-edge-preserved
loop-edge-preserved c =
    let none : Edge = record { from = 0; to = 0 } in
    let lt : c.loop-edge.edge-index < length c.args.edges.now.items = search rules in
    let edge : Edge = get_or c.args.edges.now.items c.loop-edge.edge-index none in
    let next = take_more c.args.edges.now.items c.loop-edge.edge-index none lt in
    elim c.if-not-is_among.branch [
      | then-not-is_among+in_ok-push w ↦
          let pushed : w.push.new.self.items ≡ c.loop-edge.rest.items ++ edge ∷ [] = search rules in
          let apart : Contains c.loop-edge.found.items edge.from → ⊥ = search rules in
          rw (w.found-is, w.rest-is, next, pushed) (follow_rest _ _ _ _ edge c.loop-edge.invariant apart)
      | else-not-is_among+then-not-is_among-2+in_ok-push-2 w ↦
          let pushed : w.push-then-not-is_among-2.new.self.items ≡ c.loop-edge.found.items ++ edge.to ∷ [] = search rules in
          let begins : Contains c.loop-edge.found.items edge.from = search rules in
          rw (w.found-is, w.rest-is, next, pushed)
          (follow_taken _ _ c.loop-edge.found.items _ edge (c.loop-edge.found.items ++ edge.to ∷ []) c.loop-edge.invariant begins
          (λ x h. Contains-append_left c.loop-edge.found.items (edge.to ∷ []) x h)
          (Contains-push c.loop-edge.found.items edge.to)
          (λ x h. Contains-push_cases c.loop-edge.found.items edge.to x h))
      | else-not-is_among+else-not-is_among-2 w ↦
          let begins : Contains c.loop-edge.found.items edge.from = search rules in
          let ends : Contains c.loop-edge.found.items edge.to = search rules in
          rw (w.found-is, w.rest-is, next)
          (follow_taken _ _ c.loop-edge.found.items _ edge c.loop-edge.found.items c.loop-edge.invariant begins
          (λ x h. h) ends (λ x h. inl h))
    ]
