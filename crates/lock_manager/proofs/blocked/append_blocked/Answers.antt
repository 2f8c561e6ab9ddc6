use Rattle.std.proofs.Common.{◌≡◌, ◌+◌, ◌<◌, ◌++◌, [], ◌∷◌, length, sym, ap, ◌∙◌, subst, take, arith}
use Rattle.std.specs.Global.{Vec}
use Rattle.lock_manager.specs.declared.blocked.Blocked.{Blocked}
use Rattle.lock_table.proofs.Lemmas.HoldLists.{take_one_more}
use Rattle.lock_manager.proofs.Lemmas.Blocked.{BlockedSoFar, so_far-granted, so_far-awaited}
use Rattle.lock_manager.proofs.blocked.append_blocked.Goals as goal
use Rattle.lock_manager.proofs.blocked.append_blocked.Goals.{then-not-row+in_ok-blockers+in_ok-push, else-not-row}

pub loop-row-preserved : goal.loop-row-preserved
loop-row-preserved g c =
    let content = g.T.PartTable.content c.args.content.now in
    let rows = c.deref-row-items.result.now in
    let i = c.loop-row.row-index in
    let below : i < length rows = omega (arith, c.loop-row-test.true) in
    let one_more : take (i + 1) rows ≡ take i rows ++ c.row-item.result ∷ [] = take_one_more rows i c.row-item.result below c.row-item.is in
    elim c.if-not-row.branch [
      | then-not-row+in_ok-blockers+in_ok-push w ↦
          subst (λ those. BlockedSoFar content those c.args.found.now.items c.if-not-row.found.items) (sym one_more)
          (so_far-awaited content (take i rows) c.args.found.now.items c.loop-row.found.items c.loop-row.invariant c.row-item.result
          _ c.if-not-row.found.items w.if-not-row.true
          (ap (λ b. record c.row-item.result { granted = b }) (sym w.if-not-row.true))
          (w.in_ok-blockers.ensures {u = tt}).exactly
          (ap (λ (v : Vec Blocked). v.items) w.found-is ∙ (w.in_ok-push.ensures {u = tt}).items))
      | else-not-row w ↦
          subst (λ those. BlockedSoFar content those c.args.found.now.items c.if-not-row.found.items) (sym one_more)
          (subst (λ (v : Vec Blocked). BlockedSoFar content (take i rows ++ c.row-item.result ∷ []) c.args.found.now.items v.items) (sym w.found-is)
          (so_far-granted content (take i rows) c.args.found.now.items c.loop-row.found.items c.loop-row.invariant c.row-item.result w.if-not-row.false))
    ]
